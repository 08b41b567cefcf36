-- Arrays within arrays that the pass goes through in one loop.
use Rattle.std.proofs.Common.{◌≡◌, ◌++◌, ◌∙◌, ◌<◌, ◌+◌, ◌-◌, ℕ, zero, suc, List, [], ◌∷◌, refl, ap, sym, subst, inl, inr, arith}
use Rattle.city_json.specs.Bytes.{comma, open_bracket, close_bracket}
use Rattle.city_json.specs.Compacting.{Taken, TakenItems, ItemsFrom}
use Rattle.city_json.specs.Flat.{AreItems, ItemWasTaken, ItemIsNext}
use Rattle.city_json.specs.Reading.{after_white}
use Rattle.city_json.proofs.PassItems.{array_taken, items_begin, items_close, items_more, white_once}

-- an item, and what comes after it
item_and_more : (others total : ℕ) (b beyond rest before mid after : List ℕ)
    → Taken (total - suc others) b beyond before mid → ItemWasTaken (suc others) total beyond rest mid after
    → AreItems (total - suc others) b before (λ left shown. ItemWasTaken others total left rest shown after)
item_and_more others total b beyond rest before mid after taken (next, inl (closes, outside)) = record {
  left = next;
  mid = mid ++ close_bracket ∷ [];
  items = items_close (total - suc others) b beyond next before mid (mid ++ close_bracket ∷ []) taken closes refl;
  outside = outside;
}
item_and_more others total b beyond rest before mid after taken (next, inr (goes, inside)) = record {
  left = inside.left;
  mid = inside.mid;
  items = items_more (total - suc others) b beyond next inside.left before mid inside.mid taken goes inside.items;
  outside = inside.outside;
}

-- a value was taken
pub next_value : (depth total : ℕ) (b at_item beyond rest before before' mid after : List ℕ) → 0 < depth
    → at_item ≡ after_white b → before' ≡ before → Taken (total - depth) at_item beyond before' mid
    → ItemWasTaken depth total beyond rest mid after
    → ItemIsNext depth total b rest before after
next_value zero total b at_item beyond rest before before' mid after some skipped is taken further =
    absurd (omega (arith, some))
next_value (suc others) total b at_item beyond rest before before' mid after some skipped is taken further =
    let moved : Taken (total - suc others) (after_white b) beyond before mid =
    subst (λ l. Taken (total - suc others) l beyond before mid) skipped
    (subst (λ l. Taken (total - suc others) at_item beyond l mid) is taken) in
    item_and_more others total (after_white b) beyond rest before mid after moved further

-- one more array is open
pub next_array : (depth total : ℕ) (b at_item inner rest before before' after : List ℕ) → 0 < depth → depth < total
    → at_item ≡ after_white b → at_item ≡ open_bracket ∷ inner → before' ≡ before ++ open_bracket ∷ []
    → ItemIsNext (depth + 1) total inner rest before' after → ItemIsNext depth total b rest before after
next_array zero total b at_item inner rest before before' after some room skipped opens is further =
    absurd (omega (arith, some))
next_array (suc others) total b at_item inner rest before before' after some room skipped opens is further =
    let deeper : suc others + 1 ≡ suc (suc others) = omega arith in
    let inside : ItemIsNext (suc (suc others)) total inner rest before' after =
    subst (λ n. ItemIsNext n total inner rest before' after) deeper further in
    let less : total - suc (suc others) ≡ (total - suc others) - 1 = omega (arith, room) in
    let begun : TakenItems (total - suc (suc others)) inner inside.left before' inside.mid =
    items_begin (total - suc (suc others)) inner inside.left before' inside.mid inside.items in
    let taken : Taken (total - suc others) at_item inside.left before inside.mid =
    array_taken (total - suc others) at_item inner inside.left before before' inside.mid
    (λ nothing. omega (arith, nothing, room)) opens is
    (subst (λ n. TakenItems n inner inside.left before' inside.mid) less begun) in
    next_value (suc others) total b at_item inside.left rest before before inside.mid after some skipped refl taken
    inside.outside

-- items of which others are next
pub next_run : (depth total : ℕ) (b b' rest before before' after : List ℕ) → 0 < depth
    → ((levels : ℕ) (left shown : List ℕ) → ItemsFrom levels (after_white b') left before' shown
    → ItemsFrom levels (after_white b) left before shown)
    → ItemIsNext depth total b' rest before' after → ItemIsNext depth total b rest before after
next_run zero total b b' rest before before' after some more further = absurd (omega (arith, some))
next_run (suc others) total b b' rest before before' after some more further = record {
  left = further.left;
  mid = further.mid;
  items = more (total - suc others) further.left further.mid further.items;
  outside = further.outside;
}

-- items that close their array
pub next_closed : (depth total : ℕ) (b left rest before shown after : List ℕ) → 0 < depth
    → ((levels : ℕ) → ItemsFrom levels (after_white b) left before shown)
    → ItemWasTaken (depth - 1) total left rest shown after
    → ItemIsNext depth total b rest before after
next_closed zero total b left rest before shown after some whole further = absurd (omega (arith, some))
next_closed (suc others) total b left rest before shown after some whole further =
    let fewer : suc others - 1 ≡ others = omega arith in
    record {
      left = left;
      mid = shown;
      items = whole (total - suc others);
      outside = subst (λ n. ItemWasTaken n total left rest shown after) fewer further;
    }

-- white space before an item
pub next_skip : (depth total : ℕ) (b b' rest before before' after : List ℕ) → 0 < depth → b' ≡ after_white b
    → before' ≡ before → ItemIsNext depth total b' rest before' after → ItemIsNext depth total b rest before after
next_skip depth total b b' rest before before' after some skipped is further =
    next_run depth total b b' rest before before' after some
    (λ levels left shown from. subst (λ l. ItemsFrom levels (after_white b) left l shown) is
    (subst (λ l. ItemsFrom levels l left before' shown) (ap after_white skipped ∙ white_once b) from)) further

-- a closing bracket after an item
pub one_closes : (depth total : ℕ) (b next rest before before' after : List ℕ) → 0 < depth
    → after_white b ≡ close_bracket ∷ next → before' ≡ before ++ close_bracket ∷ []
    → ItemWasTaken (depth - 1) total next rest before' after
    → ItemWasTaken depth total b rest before after
one_closes zero total b next rest before before' after some closes is further = absurd (omega (arith, some))
one_closes (suc others) total b next rest before before' after some closes is further =
    let fewer : suc others - 1 ≡ others = omega arith in (
      next,
      inl (
        closes,
        subst (λ l. ItemWasTaken others total next rest l after) is
            (subst (λ n. ItemWasTaken n total next rest before' after) fewer further),
      ),
    )

-- a comma after an item
pub one_more : (depth total : ℕ) (b next rest before before' after : List ℕ) → 0 < depth → after_white b ≡ comma ∷ next
    → before' ≡ before ++ comma ∷ [] → ItemIsNext depth total next rest before' after
    → ItemWasTaken depth total b rest before after
one_more zero total b next rest before before' after some goes is further = absurd (omega (arith, some))
one_more (suc others) total b next rest before before' after some goes is further =
    (next, inr (goes, subst (λ l. ItemIsNext (suc others) total next rest l after) is further))

pub none_open : (depth total : ℕ) (b rest before after : List ℕ) → depth ≡ 0 → ItemIsNext 0 total b rest before after
    → ItemWasTaken depth total b rest before after
none_open depth total b rest before after none further =
    subst (λ n. ItemWasTaken n total b rest before after) (sym none) further

pub all_taken : (depth total : ℕ) (b before : List ℕ) → depth ≡ 0 → ItemIsNext depth total b b before before
all_taken depth total b before none = subst (λ n. ItemIsNext n total b b before before) (sym none) (refl, refl)

-- the outermost array
pub one_open : (levels : ℕ) (b rest before after : List ℕ) → ItemIsNext 1 (levels + 1) b rest before after
    → ItemsFrom levels (after_white b) rest before after
one_open levels b rest before after all =
    let room : (levels + 1) - 1 ≡ levels = omega arith in
    subst (λ n. ItemsFrom n (after_white b) rest before after) room
    (subst (λ l. ItemsFrom ((levels + 1) - 1) (after_white b) rest before l) all.outside.1
    (subst (λ l. ItemsFrom ((levels + 1) - 1) (after_white b) l before all.mid) all.outside.0 all.items))
