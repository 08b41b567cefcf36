-- Items that are kept in place, those at whose places it is true.
use Rattle.std.proofs.Common.{◌≡◌, ◌∙◌, ◌++◌, ◌<◌, ◌≤◌, ◌+◌, ℕ, zero, suc, Bool, true, false, List, [], ◌∷◌, cond, get_or, length, map, min, take, drop, refl, sym, ap, arith}
use Rattle.std.proofs.lemmas.List.{append-nil, drop-drop, drop-set-lt, get_or-drop, get_or_default, length-set, length-take-le, take_more, take_more_set}
use Rattle.std.proofs.lemmas.List.Elements.{All-from_recursion, recursion_from_All}
use Rattle.std.specs.List.{All, AllByRecursion}
use Rattle.std.specs.Prelude.{set}
use Rattle.cut_on_text.specs.Moved.{chosen_of}

-- of the first `at` items those that are chosen stand first, and the others are as they were
pub record IsKept (chosen : List Bool) (at : ℕ) (items now : List ℕ) (count : ℕ) : Type 0 where
  pub long : length now ≡ length items
  pub ordered : count ≤ at
  pub kept : take count now ≡ chosen_of (take at chosen) (take at items)
  pub others : drop at now ≡ drop at items

pub kept_none : (chosen : List Bool) (items : List ℕ) → IsKept chosen 0 items items 0
kept_none chosen items = record { long = refl; ordered = omega arith; kept = refl; others = refl }

-- ---- one more
chosen_push : {X : Type 0} (bs : List Bool) (xs : List X) (b : Bool) (x : X) → length bs ≡ length xs
    → chosen_of (bs ++ b ∷ []) (xs ++ x ∷ []) ≡ chosen_of bs xs ++ cond b (x ∷ []) []
chosen_push [] [] true x long = refl
chosen_push [] [] false x long = refl
chosen_push [] (y ∷ ys) b x long = absurd (omega (arith, long))
chosen_push (c ∷ cs) [] b x long = absurd (omega (arith, long))
chosen_push (true ∷ cs) (y ∷ ys) b x long = ap (λ l. y ∷ l) (chosen_push cs ys b x (omega (arith, long)))
chosen_push (false ∷ cs) (y ∷ ys) b x long = chosen_push cs ys b x (omega (arith, long))

module _ (chosen : List Bool) (at : ℕ) (items now : List ℕ) (count : ℕ) (is : IsKept chosen at items now count)
    (given : at < length chosen) (there : at < length items) where
  grown : (b : Bool) → get_or chosen at false ≡ b
      → chosen_of (take (at + 1) chosen) (take (at + 1) items)
      ≡ take count now ++ cond b (get_or items at 0 ∷ []) []
  grown b e =
      let long : length (take at chosen) ≡ length (take at items) =
      length-take-le at chosen (omega (arith, given)) ∙ sym (length-take-le at items (omega (arith, there))) in
      ap (λ l. chosen_of l (take (at + 1) items)) (take_more chosen at false given)
      ∙ (ap (λ l. chosen_of (take at chosen ++ get_or chosen at false ∷ []) l) (take_more items at 0 there)
      ∙ (chosen_push (take at chosen) (take at items) (get_or chosen at false) (get_or items at 0) long
      ∙ (ap (λ l. l ++ cond (get_or chosen at false) (get_or items at 0 ∷ []) []) (sym is.kept)
      ∙ ap (λ c. take count now ++ cond c (get_or items at 0 ∷ []) []) e)))

  next_others : drop (at + 1) now ≡ drop (at + 1) items
  next_others = sym (drop-drop 1 at now) ∙ (ap (drop 1) is.others ∙ drop-drop 1 at items)

  pub kept_past : get_or chosen at false ≡ false → IsKept chosen (at + 1) items now count
  kept_past e = record {
    long = is.long;
    ordered = omega (arith, is.ordered);
    kept = sym (grown false e ∙ append-nil (take count now));
    others = next_others;
  }

  same_item : (x : ℕ) → x ≡ get_or now at x → x ≡ get_or items at 0
  same_item x is_x =
      let zero_more : at + 0 ≡ at = omega arith in
      is_x ∙ (get_or_default now at x 0 (omega (arith, is.long, there))
      ∙ (sym (get_or-drop at now 0 0 ∙ ap (λ n. get_or now n 0) zero_more)
      ∙ (ap (λ l. get_or l 0 0) is.others ∙ (get_or-drop at items 0 0 ∙ ap (λ n. get_or items n 0) zero_more))))

  pub kept_one : get_or chosen at false ≡ true → (x : ℕ) → x ≡ get_or now at x
      → IsKept chosen (at + 1) items (set now count x) (count + 1)
  kept_one e x is_x = record {
    long = length-set now count x ∙ is.long;
    ordered = omega (arith, is.ordered);
    kept = take_more_set now count x (omega (arith, is.ordered, is.long, there))
        ∙ (ap (λ y. take count now ++ y ∷ []) (same_item x is_x) ∙ sym (grown true e));
    others = drop-set-lt (at + 1) now count x (omega (arith, is.ordered)) ∙ next_others;
  }

-- ---- all of them
chosen_front : {X : Type 0} (bs : List Bool) (xs : List X) (n : ℕ) → min (length xs) (length bs) ≤ n
    → chosen_of (take n bs) (take n xs) ≡ chosen_of bs xs
chosen_front [] xs zero past = refl
chosen_front (b ∷ bs) [] zero past = refl
chosen_front (b ∷ bs) (x ∷ xs) zero past = absurd (omega (arith, past))
chosen_front [] xs (suc n) past = refl
chosen_front (b ∷ bs) [] (suc n) past = refl
chosen_front (true ∷ bs) (x ∷ xs) (suc n) past = ap (λ l. x ∷ l) (chosen_front bs xs n (omega (arith, past)))
chosen_front (false ∷ bs) (x ∷ xs) (suc n) past = chosen_front bs xs n (omega (arith, past))

pub kept_all : (chosen : List Bool) (at : ℕ) (items now : List ℕ) (count : ℕ) → IsKept chosen at items now count
    → min (length items) (length chosen) ≤ at → take count now ≡ chosen_of chosen items
kept_all chosen at items now count is past = is.kept ∙ chosen_front chosen items at past

-- ---- of what is made of them
pub chosen_map : {X Y : Type 0} (f : X → Y) (bs : List Bool) (xs : List X)
    → chosen_of bs (map f xs) ≡ map f (chosen_of bs xs)
chosen_map f [] xs = refl
chosen_map f (b ∷ bs) [] = refl
chosen_map f (true ∷ bs) (x ∷ xs) = ap (λ l. f x ∷ l) (chosen_map f bs xs)
chosen_map f (false ∷ bs) (x ∷ xs) = chosen_map f bs xs

all_by_recursion : {X : Type 0} (P : X → Type 0) (bs : List Bool) (xs : List X) → AllByRecursion P xs
    → AllByRecursion P (chosen_of bs xs)
all_by_recursion P [] xs all = tt
all_by_recursion P (b ∷ bs) [] all = tt
all_by_recursion P (true ∷ bs) (x ∷ xs) all = (all.0, all_by_recursion P bs xs all.1)
all_by_recursion P (false ∷ bs) (x ∷ xs) all = all_by_recursion P bs xs all.1

pub all_chosen : (P : ℕ → Type 0) (bs : List Bool) (xs : List ℕ) → All P xs → All P (chosen_of bs xs)
all_chosen P bs xs all = All-from_recursion P (chosen_of bs xs) (all_by_recursion P bs xs (recursion_from_All P xs all))
