-- Arrays of geometries and of addresses that are copied from their compact texts.
use Rattle.std.proofs.Common.{◌≡◌, ◌≢◌, ◌∙◌, ◌++◌, ℕ, List, [], ◌∷◌, refl, sym, ap, subst, append_assoc, append-nil}
use Rattle.std.proofs.lemmas.Grind.{flat_map-append}
use Rattle.std.specs.List.{flat_map, AllByRecursion}
use Rattle.city_json.proofs.PassedItems.{GoesOnWith, none_left}
use Rattle.city_json.specs.NextItems.{HasNoItem}
use Rattle.city_json.specs.Bytes.{comma, open_bracket, close_bracket}
use Rattle.city_json.specs.Compact.{compact, compact_items, compact_more_items}
use Rattle.city_json.specs.Tree.{Tree, null, boolean, number, string, array, object, ItemTrees, no_items, item}
use Rattle.city_families.specs.Boundaries.{IsBounded, boundaries, changed_items, relabelled_object}
use Rattle.city_families.specs.Copied.{Copies}
use Rattle.cut_on_text.specs.Holders.{AreHeld, IsHeld, IsShaped, boundary_in, held_uses, relabelled_held, relabelled_in}
use Rattle.cut_on_text.specs.declared.on_text.holders.Holder.{Holder}
use Rattle.cut_on_text.specs.declared.on_text.holders.Holder.TheVariants.{Geometry, Address}
use Rattle.city_families.specs.Items.{item_list}
use Rattle.city_families.specs.Leaves.{leaves}
use Rattle.cut_on_text.specs.Walks.{Labelling, Walks, walks_both, walks_so, walks_text}
use Rattle.city_json.specs.CompactTexts.{IsCompactOf}

-- ---- what is made of values
abbrev pub ItemMade : {S : Type 0} → Labelling S → Holder → ℕ → S → List ℕ → S → List ℕ → Tree → Type 0
ItemMade L holder count s line s' line' value = IsHeld holder count value
    × Walks L s line s' line' (flat_map leaves (boundary_in holder value))
    (λ change. compact (relabelled_in holder change value))

abbrev pub HeldMade : {S : Type 0} → Labelling S → Holder → ℕ → S → List ℕ → S → List ℕ → Tree → Type 0
HeldMade L holder count s line s' line' value = AreHeld holder count value
    × Walks L s line s' line' (held_uses holder value) (λ change. compact (relabelled_held holder change value))

-- and of an object by numbers
abbrev pub ObjectMade : ℕ → List ℕ → List ℕ → List ℕ → List ℕ → List ℕ → List ℕ → Tree → Type 0
ObjectMade count t o line t' o' line' value = IsBounded count value
    × Copies t o line t' o' line' (flat_map leaves (boundaries value))
    (λ change. compact (relabelled_object change value))

shaped : (holder : Holder) (items : ItemTrees) → IsShaped holder (array items)
shaped Geometry items = tt
shaped Address items = tt

-- ---- geometries or addresses, one after another
-- those before the ones that are left were copied; what stands between is the bracket or the comma that comes before
-- these, or nothing yet
pub record ItemsMade {S : Type 0} (L : Labelling S) (Left : ItemTrees → List ℕ) (holder : Holder) (count : ℕ) (s : S) (line : List ℕ) (s' : S) (line' : List ℕ) (items left : ItemTrees) : Type 0 where
  pub uses : List ℕ
  pub own : (List ℕ → List ℕ) → List ℕ
  pub copies : Walks L s line s' line' uses own
  pub leaves_are : held_uses holder (array items) ≡ uses ++ held_uses holder (array left)
  pub own_is : (change : List ℕ → List ℕ) → open_bracket ∷ compact_items
      (changed_items (relabelled_in holder change) items)
      ≡ own change ++ Left (changed_items (relabelled_in holder change) left)
  pub parts : AllByRecursion (IsHeld holder count) (item_list left) → AllByRecursion (IsHeld holder count) (item_list items)

pub items_begin : {S : Type 0} {L : Labelling S} (holder : Holder) (count : ℕ) (s : S) (line line' : List ℕ)
    → line' ≡ line ++ open_bracket ∷ [] → (items : ItemTrees)
    → ItemsMade L compact_items holder count s line s line' items items
items_begin holder count s line line' opened items = record {
  uses = [];
  own = λ change. open_bracket ∷ [];
  copies = walks_text s line line' (open_bracket ∷ []) opened;
  leaves_are = refl;
  own_is = λ change. refl;
  parts = λ p. p;
}

module _ {S : Type 0} {L : Labelling S} (holder : Holder) (count : ℕ) (s : S) (line : List ℕ) (s₁ : S)
    (line₁ : List ℕ) (items : ItemTrees) where
  -- one more
  pub item_made : (s₂ : S) (line₂ : List ℕ) (first : Tree) (others : ItemTrees)
      → ItemsMade L compact_items holder count s line s₁ line₁ items (item first others)
      → ItemMade L holder count s₁ line₁ s₂ line₂ first
      → ItemsMade L compact_more_items holder count s line s₂ line₂ items others
  item_made s₂ line₂ first others so_far one =
      let here : List ℕ = flat_map leaves (boundary_in holder first) in
      record {
        uses = so_far.uses ++ here;
        own = λ change. so_far.own change ++ compact (relabelled_in holder change first);
        copies = walks_both s line s₁ line₁ s₂ line₂ so_far.uses here so_far.own
            (λ change. compact (relabelled_in holder change first)) so_far.copies one.1;
        leaves_are = so_far.leaves_are
            ∙ (ap (λ l. so_far.uses ++ l)
            (flat_map-append leaves (boundary_in holder first) (flat_map (boundary_in holder) (item_list others)))
            ∙ sym (append_assoc so_far.uses here (held_uses holder (array others))));
        own_is = λ change. so_far.own_is change
            ∙ sym (append_assoc (so_far.own change) (compact (relabelled_in holder change first))
            (compact_more_items (changed_items (relabelled_in holder change) others)));
        parts = λ p. so_far.parts (one.0, p);
      }

  -- a comma, and one is left
  pub comma_made : (line₂ : List ℕ) (left : ItemTrees)
      → ItemsMade L compact_more_items holder count s line s₁ line₁ items left → left ≢ no_items
      → line₂ ≡ line₁ ++ comma ∷ [] → ItemsMade L compact_items holder count s line s₁ line₂ items left
  comma_made line₂ no_items so_far some more = absurd (some refl)
  comma_made line₂ (item next others) so_far some more = record {
    uses = so_far.uses;
    own = λ change. so_far.own change ++ comma ∷ [];
    copies = walks_on so_far.uses so_far.own so_far.copies;
    leaves_are = so_far.leaves_are;
    own_is = λ change. so_far.own_is change
        ∙ sym (append_assoc (so_far.own change) (comma ∷ [])
        (compact_items (changed_items (relabelled_in holder change) (item next others))));
    parts = so_far.parts;
  }
    where
      walks_on : (uses : List ℕ) (own : (List ℕ → List ℕ) → List ℕ) → Walks L s line s₁ line₁ uses own
          → Walks L s line s₁ line₂ uses (λ change. own change ++ comma ∷ [])
      walks_on uses own copies = walks_so s line s₁ line₂ (uses ++ []) uses (λ change. own change ++ comma ∷ [])
          (λ change. own change ++ comma ∷ []) (walks_both s line s₁ line₁ s₁ line₂ uses [] own (λ change. comma ∷ [])
          copies (walks_text s₁ line₁ line₂ (comma ∷ []) more)) (append-nil uses) (λ change. refl)

  -- the bracket, and none is left
  pub items_end : (Left : ItemTrees → List ℕ) → Left no_items ≡ [] → (line₂ : List ℕ)
      → ItemsMade L Left holder count s line s₁ line₁ items no_items → line₂ ≡ line₁ ++ close_bracket ∷ []
      → HeldMade L holder count s line s₁ line₂ (array items)
  items_end Left none line₂ so_far closed =
      let closing = walks_both s line s₁ line₁ s₁ line₂ so_far.uses [] so_far.own (λ change. close_bracket ∷ [])
      so_far.copies (walks_text s₁ line₁ line₂ (close_bracket ∷ []) closed) in (
        (shaped holder items, so_far.parts tt),
        walks_so s line s₁ line₂ (so_far.uses ++ []) (held_uses holder (array items))
            (λ change. so_far.own change ++ close_bracket ∷ [])
            (λ change. compact (relabelled_held holder change (array items))) closing (sym so_far.leaves_are)
            (λ change. ap (λ l. l ++ close_bracket ∷ []) (sym (so_far.own_is change
            ∙ (ap (λ l. so_far.own change ++ l) none ∙ append-nil (so_far.own change))))),
      )

-- ---- whatever array has this text
abbrev pub GoesOnMade : {S : Type 0} → Labelling S → (ItemTrees → List ℕ) → Holder → ℕ → S → List ℕ → S → List ℕ → List ℕ → List ℕ → Type 0
GoesOnMade L Left holder count s line s' line' text left =
    GoesOnWith (ItemsMade L Left holder count s line s' line') text left

-- of the array that has the text before, the first item was copied, and the text after is that of the others
abbrev pub NextMade : {S : Type 0} → Labelling S → Holder → ℕ → S → List ℕ → S → List ℕ → List ℕ → List ℕ → Type 0
NextMade L holder count s line s' line' before after = (all : ItemTrees) → IsCompactOf before (array all)
    → (first : Tree) × (others : ItemTrees) × (all ≡ item first others) × IsCompactOf after (array others)
    × ItemMade L holder count s line s' line' first

module _ {S : Type 0} {L : Labelling S} (holder : Holder) (count : ℕ) (s : S) (line : List ℕ) (s₁ : S)
    (line₁ : List ℕ) (text left : List ℕ) where
  pub item_on : (s₂ : S) (line₂ after : List ℕ) → GoesOnMade L compact_items holder count s line s₁ line₁ text left
      → NextMade L holder count s₁ line₁ s₂ line₂ left after
      → GoesOnMade L compact_more_items holder count s line s₂ line₂ text after
  item_on s₂ line₂ after on next all of =
      let (there, there_of, so_far) = on all of in
      let (first, others, is, others_of, one) = next there there_of in (
        others,
        others_of,
        item_made holder count s line s₁ line₁ all s₂ line₂ first others
            (subst (ItemsMade L compact_items holder count s line s₁ line₁ all) is so_far) one,
      )

  pub comma_on : (line₂ : List ℕ) → GoesOnMade L compact_more_items holder count s line s₁ line₁ text left
      → (¬ IsCompactOf left (array no_items)) → line₂ ≡ line₁ ++ comma ∷ []
      → GoesOnMade L compact_items holder count s line s₁ line₂ text left
  comma_on line₂ on some more all of =
      let (there, there_of, so_far) = on all of in (
        there,
        there_of,
        comma_made holder count s line s₁ line₁ all line₂ there so_far
            (λ none. some (subst (λ l. IsCompactOf left (array l)) none there_of)) more,
      )

  pub end_on : (Left : ItemTrees → List ℕ) → Left no_items ≡ [] → (line₂ : List ℕ)
      → GoesOnMade L Left holder count s line s₁ line₁ text left → HasNoItem left → line₂ ≡ line₁ ++ close_bracket ∷ []
      → (all : ItemTrees) → IsCompactOf text (array all) → HeldMade L holder count s line s₁ line₂ (array all)
  end_on Left empty line₂ on none closed all of = items_end holder count s line s₁ line₁ all Left empty line₂
      (none_left (ItemsMade L Left holder count s line s₁ line₁) text left on none all of) closed

-- what is no array has no items, and stays
pub not_array_made : {S : Type 0} {L : Labelling S} (count : ℕ) (text : List ℕ) (s : S) (line line' : List ℕ)
    → ((items : ItemTrees) → ¬ IsCompactOf text (array items)) → line' ≡ line ++ text → (value : Tree)
    → IsCompactOf text value → HeldMade L Address count s line s line' value
not_array_made {S} {L} count text s line line' none appended value of = by value of
  where
    stays : (value : Tree) → IsCompactOf text value → Walks L s line s line' [] (λ change. compact value)
    stays value of = walks_so s line s line' [] [] (λ change. text) (λ change. compact value)
        (walks_text s line line' text appended) refl (λ change. of.is)

    by : (value : Tree) → IsCompactOf text value → HeldMade L Address count s line s line' value
    by (array items) of = absurd (none items of)
    by null of = ((tt, tt), stays null of)
    by (boolean b) of = ((tt, tt), stays (boolean b) of)
    by (number n) of = ((tt, tt), stays (number n) of)
    by (string t) of = ((tt, tt), stays (string t) of)
    by (object members) of = ((tt, tt), stays (object members) of)

pub array_made : {S : Type 0} {L : Labelling S} (holder : Holder) (count : ℕ) (text : List ℕ) (s : S) (line : List ℕ)
    (s' : S) (line' : List ℕ)
    → ((value : Tree) → IsCompactOf text value → (items : ItemTrees) × (value ≡ array items))
    → ((items : ItemTrees) → IsCompactOf text (array items) → HeldMade L holder count s line s' line' (array items))
    → (value : Tree) → IsCompactOf text value → HeldMade L holder count s line s' line' value
array_made {S} {L} holder count text s line s' line' there made value of =
    let (items, is) = there value of in
    subst (HeldMade L holder count s line s' line') (sym is) (made items (subst (IsCompactOf text) is of))

-- ---- of the member that is meant
pub item_as : {S : Type 0} {L : Labelling S} (holder known : Holder) (count : ℕ) (s : S) (line : List ℕ) (s' : S)
    (line' : List ℕ) (value : Tree) → holder ≡ known
    → ItemMade L known count s line s' line' value → ItemMade L holder count s line s' line' value
item_as {S} {L} holder known count s line s' line' value is made =
    subst (λ h. ItemMade L h count s line s' line' value) (sym is) made

pub held_as : {S : Type 0} {L : Labelling S} (holder known : Holder) (count : ℕ) (s : S) (line : List ℕ) (s' : S)
    (line' : List ℕ) (value : Tree) → holder ≡ known
    → HeldMade L known count s line s' line' value → HeldMade L holder count s line s' line' value
held_as {S} {L} holder known count s line s' line' value is made =
    subst (λ h. HeldMade L h count s line s' line' value) (sym is) made
