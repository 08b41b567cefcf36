-- Nested arrays that are copied with numbers of their own.
use Rattle.std.proofs.Common.{◌≡◌, ◌++◌, ◌∙◌, ◌<◌, ◌+◌, ℕ, List, [], ◌∷◌, length, drop, get_or, inl, inr, refl, ap, sym, subst, arith, append_assoc, append-nil, length-drop}
use Rattle.city_json.specs.Bytes.{comma, close_bracket, open_bracket}
use Rattle.city_json.specs.Compact.{compact, compact_items, compact_more_items}
use Rattle.city_json.specs.CompactEnds.{IsStopped}
use Rattle.city_json.proofs.CompactEnds.{array_front, items_none, items_some, other_head}
use Rattle.city_json.specs.Tree.{Tree, ItemTrees, no_items, item}
use Rattle.city_json.specs.Writable.{AreWritableItems, IsWritable}
use Rattle.city_json.proofs.Places.{drop_one}
use Rattle.city_json.proofs.StringEnds.{first_same, others_same}
use Rattle.city_families.specs.Copied.{CopiesItems, CopiesPart}
use Rattle.city_families.specs.Leaves.{IsNested, AreNested, leaves, item_leaves, relabelled, relabelled_items}
use Rattle.cut_on_text.specs.Walks.{Labelling, Walks, walks_both, walks_so, walks_text}

pub part_array : {S : Type 0} {L : Labelling S} (count : ℕ) (s : S) (line line₁ : List ℕ) (s' : S)
    (line' b tail after : List ℕ) → b ≡ open_bracket ∷ tail
    → line₁ ≡ line ++ open_bracket ∷ []
    → CopiesItems count tail after (Walks L s line₁ s' line')
    → CopiesPart count b after (Walks L s line s' line')
part_array {L = L} count s line line₁ s' line' b tail after begins opened made value rest w stopped is =
    let (items, same) = array_front value rest tail w (sym is ∙ begins) in
    let inner = made items rest (subst IsWritable same w) (others_same _ _ _ _
    (sym begins ∙ (is ∙ ap (λ v. compact v ++ rest) same)) ∙ append_assoc (compact_items items) (close_bracket ∷ []) rest)
    in subst (λ v. (after ≡ rest) × IsNested count v
    × Walks L s line s' line' (leaves v) (λ change. compact (relabelled change v))) (sym same) (
      inner.0,
      inner.1,
      walks_both s line s line₁ s' line' [] (item_leaves items) (λ change. open_bracket ∷ [])
          (λ change. compact_items (relabelled_items change items) ++ close_bracket ∷ [])
          (walks_text s line line₁ (open_bracket ∷ []) opened) inner.2,
    )

-- where the parts of an array are gone through: what is left of them, and what was copied
pub record ItemsCopied {S : Type 0} (L : Labelling S) (count : ℕ) (items : ItemTrees) (b rest : List ℕ) (s : S) (line : List ℕ) (s' : S) (line' : List ℕ) : Type 0 where
  pub first : Tree
  pub others : ItemTrees
  pub writable : AreWritableItems (item first others)
  pub is : b ≡ compact_items (item first others) ++ close_bracket ∷ rest
  pub uses : List ℕ
  pub own : (List ℕ → List ℕ) → List ℕ
  pub copies : Walks L s line s' line' uses own
  pub leaves_are : item_leaves items ≡ uses ++ item_leaves (item first others)
  pub own_is : (change : List ℕ → List ℕ) → compact_items (relabelled_items change items) ≡ own change
      ++ compact_items (relabelled_items change (item first others))
  pub parts : AreNested count (item first others) → AreNested count items

pub copied_none : {S : Type 0} {L : Labelling S} (count : ℕ) (text rest : List ℕ) (s : S) (line line' : List ℕ)
    (at : ℕ) (items : ItemTrees) → at < length text
    → get_or text at 0 ≡ close_bracket → AreWritableItems items
    → drop at text ≡ compact_items items ++ close_bracket ∷ rest
    → line' ≡ line ++ close_bracket ∷ [] → (drop (at + 1) text ≡ rest) × AreNested count items
    × Walks L s line s line' (item_leaves items)
    (λ change. compact_items (relabelled_items change items) ++ close_bracket ∷ [])
copied_none count text rest s line line' at no_items inside here w is closed =
    (items_none text rest at no_items inside here w is, tt, walks_text s line line' (close_bracket ∷ []) closed)
copied_none count text rest s line line' at (item first others) inside here w is closed =
    absurd (items_some text rest at first others inside here w is)

pub copied_begin : {S : Type 0} {L : Labelling S} (count : ℕ) (text rest : List ℕ) (s : S) (line : List ℕ) (at : ℕ)
    (items : ItemTrees)
    → (at < length text → get_or text at 0 ≡ close_bracket → ⊥) → AreWritableItems items
    → drop at text ≡ compact_items items ++ close_bracket ∷ rest
    → ItemsCopied L count items (drop at text) rest s line s line
copied_begin count text rest s line at no_items other w is = let inside : at < length text =
    omega (arith, ap length is, length-drop at text) in
    absurd (other inside (first_same _ _ _ _ (sym (drop_one text at (get_or text at 0) inside refl) ∙ is)))
copied_begin count text rest s line at (item first others) other w is = record {
  first = first;
  others = others;
  writable = w;
  is = is;
  uses = [];
  own = λ change. [];
  copies = walks_text s line line [] (sym (append-nil line));
  leaves_are = refl;
  own_is = λ change. refl;
  parts = λ p. p;
}

more_ends : (others : ItemTrees) (rest : List ℕ) → IsStopped (compact_more_items others ++ close_bracket ∷ rest)
more_ends no_items rest = inr (inl refl)
more_ends (item first others) rest = inl refl

-- one part more
pub part_copied : {S : Type 0} {L : Labelling S} (count : ℕ) (items : ItemTrees) (b after rest : List ℕ) (s : S)
    (line : List ℕ) (s₁ : S) (line₁ : List ℕ) (s₂ : S) (line₂ : List ℕ)
    (so_far : ItemsCopied L count items b rest s line s₁ line₁)
    → CopiesPart count b after (Walks L s₁ line₁ s₂ line₂)
    → (after ≡ compact_more_items so_far.others ++ close_bracket ∷ rest) × IsNested count so_far.first
    × Walks L s₁ line₁ s₂ line₂ (leaves so_far.first) (λ change. compact (relabelled change so_far.first))
part_copied count items b after rest s line s₁ line₁ s₂ line₂ so_far made =
    made so_far.first (compact_more_items so_far.others ++ close_bracket ∷ rest) so_far.writable.0
    (more_ends so_far.others rest)
    (so_far.is ∙ append_assoc (compact so_far.first) (compact_more_items so_far.others) (close_bracket ∷ rest))

split_three : (a b c : List ℕ) → a ++ (b ++ c) ≡ (a ++ b) ++ c
split_three a b c = sym (append_assoc a b c)

-- and the closing bracket
pub copied_stop : {S : Type 0} {L : Labelling S} (count : ℕ) (items : ItemTrees) (text rest : List ℕ) (s : S)
    (line : List ℕ) (s₁ : S) (line₁ : List ℕ) (s₂ : S) (line₂ line₃ : List ℕ)
    (i end : ℕ) (so_far : ItemsCopied L count items (drop i text) rest s line s₁ line₁)
    → CopiesPart count (drop i text) (drop end text) (Walks L s₁ line₁ s₂ line₂)
    → end < length text → get_or text end 0 ≡ close_bracket → line₃ ≡ line₂ ++ close_bracket ∷ []
    → (drop (end + 1) text ≡ rest) × AreNested count items
    × Walks L s line s₂ line₃ (item_leaves items)
    (λ change. compact_items (relabelled_items change items) ++ close_bracket ∷ [])
copied_stop {S} {L} count items text rest s line s₁ line₁ s₂ line₂ line₃ i end so_far made inside here closed =
    let part = part_copied count items (drop i text) (drop end text) rest s line s₁ line₁ s₂ line₂ so_far
    made in
    by_others so_far.others refl part
  where
    by_others : (others : ItemTrees) → others ≡ so_far.others
        → (drop end text ≡ compact_more_items so_far.others ++ close_bracket ∷ rest) × IsNested count so_far.first
        × Walks L s₁ line₁ s₂ line₂ (leaves so_far.first) (λ change. compact (relabelled change so_far.first))
        → (drop (end + 1) text ≡ rest) × AreNested count items
        × Walks L s line s₂ line₃ (item_leaves items)
        (λ change. compact_items (relabelled_items change items) ++ close_bracket ∷ [])
    by_others (item next others) same part = absurd
        (other_head comma close_bracket _ (drop (end + 1) text) (omega arith)
        (ap (λ l. compact_more_items l ++ close_bracket ∷ rest) same
        ∙ (sym part.0 ∙ drop_one text end close_bracket inside here)))
    by_others no_items same part =
        let both = walks_both s line s₁ line₁ s₂ line₂ so_far.uses (leaves so_far.first) so_far.own
        (λ change. compact (relabelled change so_far.first)) so_far.copies part.2 in
        let closing = walks_both s line s₂ line₂ s₂ line₃ (so_far.uses ++ leaves so_far.first) []
        (λ change. so_far.own change ++ compact (relabelled change so_far.first)) (λ change. close_bracket ∷ [])
        both (walks_text s₂ line₂ line₃ (close_bracket ∷ []) closed) in
        let uses : (so_far.uses ++ leaves so_far.first) ++ [] ≡ item_leaves items =
        append-nil (so_far.uses ++ leaves so_far.first)
        ∙ (ap (λ l. so_far.uses ++ l) (sym (append-nil (leaves so_far.first))
        ∙ ap (λ l. leaves so_far.first ++ item_leaves l) same) ∙ sym so_far.leaves_are) in (
          others_same _ _ _ _ (sym (drop_one text end close_bracket inside here)
              ∙ (part.0 ∙ ap (λ l. compact_more_items l ++ close_bracket ∷ rest) (sym same))),
          so_far.parts (part.1, subst (AreNested count) same tt),
          walks_so s line s₂ line₃ ((so_far.uses ++ leaves so_far.first) ++ []) (item_leaves items)
              (λ change. (so_far.own change ++ compact (relabelled change so_far.first)) ++ close_bracket ∷ [])
              (λ change. compact_items (relabelled_items change items) ++ close_bracket ∷ []) closing uses
              (λ change. ap (λ l. l ++ close_bracket ∷ [])
              (ap (λ l. so_far.own change ++ l) (sym (append-nil (compact (relabelled change so_far.first)))
              ∙ ap (λ l. compact (relabelled change so_far.first) ++ compact_more_items (relabelled_items change l))
              same) ∙ sym (so_far.own_is change))),
        )

-- or a comma, after which further parts stand
pub copied_more : {S : Type 0} {L : Labelling S} (count : ℕ) (items : ItemTrees) (text rest : List ℕ) (s : S)
    (line : List ℕ) (s₁ : S) (line₁ : List ℕ) (s₂ : S) (line₂ line₃ : List ℕ)
    (i end : ℕ) (so_far : ItemsCopied L count items (drop i text) rest s line s₁ line₁)
    → CopiesPart count (drop i text) (drop end text) (Walks L s₁ line₁ s₂ line₂)
    → end < length text → get_or text end 0 ≡ comma → line₃ ≡ line₂ ++ comma ∷ []
    → ItemsCopied L count items (drop (end + 1) text) rest s line s₂ line₃
copied_more {S} {L} count items text rest s line s₁ line₁ s₂ line₂ line₃ i end so_far made inside here more =
    let part = part_copied count items (drop i text) (drop end text) rest s line s₁ line₁ s₂ line₂ so_far
    made in
    by_others so_far.others refl part
  where
    by_others : (others : ItemTrees) → others ≡ so_far.others
        → (drop end text ≡ compact_more_items so_far.others ++ close_bracket ∷ rest) × IsNested count so_far.first
        × Walks L s₁ line₁ s₂ line₂ (leaves so_far.first) (λ change. compact (relabelled change so_far.first))
        → ItemsCopied L count items (drop (end + 1) text) rest s line s₂ line₃
    by_others no_items same part = absurd (other_head close_bracket comma rest (drop (end + 1) text) (omega arith)
        (ap (λ l. compact_more_items l ++ close_bracket ∷ rest) same
        ∙ (sym part.0 ∙ drop_one text end comma inside here)))
    by_others (item next others) same part =
        let both = walks_both s line s₁ line₁ s₂ line₂ so_far.uses (leaves so_far.first) so_far.own
        (λ change. compact (relabelled change so_far.first)) so_far.copies part.2 in
        let on = walks_both s line s₂ line₂ s₂ line₃ (so_far.uses ++ leaves so_far.first) []
        (λ change. so_far.own change ++ compact (relabelled change so_far.first)) (λ change. comma ∷ []) both
        (walks_text s₂ line₂ line₃ (comma ∷ []) more) in
        let w : AreWritableItems (item next others) = subst AreWritableItems (sym same) so_far.writable.1 in
        record {
          first = next;
          others = others;
          writable = w;
          is = others_same _ _ _ _ (sym (drop_one text end comma inside here)
              ∙ (part.0 ∙ ap (λ l. compact_more_items l ++ close_bracket ∷ rest) (sym same)));
          uses = (so_far.uses ++ leaves so_far.first) ++ [];
          own = λ change. (so_far.own change ++ compact (relabelled change so_far.first)) ++ comma ∷ [];
          copies = on;
          leaves_are = so_far.leaves_are ∙ (ap (λ l. so_far.uses ++ (leaves so_far.first ++ item_leaves l)) (sym same)
              ∙ (split_three so_far.uses (leaves so_far.first) (item_leaves (item next others))
              ∙ ap (λ l. l ++ item_leaves (item next others)) (sym (append-nil (so_far.uses ++ leaves so_far.first)))));
          own_is = λ change. so_far.own_is change
              ∙ (ap (λ l. so_far.own change ++ (compact (relabelled change so_far.first)
              ++ compact_more_items (relabelled_items change l))) (sym same)
              ∙ regroup (so_far.own change) (compact (relabelled change so_far.first))
              (compact_items (relabelled_items change (item next others))));
          parts = λ p. so_far.parts (part.1, subst (AreNested count) same p);
        }
      where
        regroup : (a b c : List ℕ) → a ++ (b ++ comma ∷ c) ≡ ((a ++ b) ++ comma ∷ []) ++ c
        regroup a b c = simp append_assoc
