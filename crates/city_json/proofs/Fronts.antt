-- What was read so far, put in front of what reading the rest gives.
use Rattle.std.proofs.Common.{◌≡◌, ◌++◌, ◌∙◌, sym, option_and_then, ℕ, zero, suc, List, [], ◌∷◌, Option, Some, None, option_map, map, refl, ap}
use Rattle.std.proofs.lemmas.List.{map-append}
use Rattle.byte_streams.specs.declared.fault.Fault.{Fault}
use Rattle.byte_streams.specs.declared.fault.Fault.TheVariants.{Syntax, Memory}
use Rattle.city_json.specs.Bytes.{close_bracket, close_brace}
use Rattle.city_json.specs.Gives.{Refuses}
use Rattle.city_json.specs.Makes.{onto_items, onto_members}
use Rattle.city_json.specs.Reading.{items_at, items_after, member_at, members_at, members_after, mark_at, after_white}
use Rattle.city_json.specs.Tree.{Tree, ItemTrees, no_items, item, item_trees, MemberTrees, no_members, member, member_trees, tree, named_tree, items_tree, members_tree}
use Rattle.city_json.specs.declared.json.Json.{Json}
use Rattle.city_json.specs.declared.json.Member.{Member}
use Rattle.city_json.specs.declared.reading.AfterItem.{AfterItem}
use Rattle.city_json.specs.declared.reading.AfterItem.TheVariants as mark

-- ---- items
abbrev pub with_items : ItemTrees → Option (ItemTrees × List ℕ) → Option (ItemTrees × List ℕ)
with_items front found = option_map (λ p. (onto_items front p.0, p.1)) found

onto_items-one : (front : ItemTrees) (value : Tree) (others : ItemTrees)
    → onto_items (onto_items front (item value no_items)) others ≡ onto_items front (item value others)
onto_items-one no_items value others = refl
onto_items-one (item first front) value others = ap (item first) (onto_items-one front value others)

with_items-item : (front : ItemTrees) (first : Tree) (found : Option (ItemTrees × List ℕ)) →
    with_items front (option_and_then (λ others. Some (item first others.0, others.1)) found)
    ≡ with_items (onto_items front (item first no_items)) found
with_items-item front first None = refl
with_items-item front first (Some p) = ap (λ all. Some (all, p.1)) (sym (onto_items-one front first p.0))

-- One step of the loop over items, by what stands after the item: `whole` is what reading all of them gives.
module _ (value : List ℕ → Option (Tree × List ℕ)) (front : ItemTrees) (count : ℕ) {one : Tree} {n : ℕ}
    {bytes beyond blank after : List ℕ} {found : AfterItem} {whole : Option (ItemTrees × List ℕ)}
    (read : value bytes ≡ Some (one, beyond)) (skipped : blank ≡ after_white beyond)
    (marked : (found, after) ≡ mark_at close_bracket blank)
    (before : with_items front (items_at value n bytes) ≡ whole) (more : n ≡ suc count) where
  after_item : items_at value n bytes ≡ items_after (items_at value count) one (found, after)
  unfolding items_at
  after_item = rw (more, read, ← skipped, ← marked) refl

  pub items-close : found ≡ mark.Close → whole ≡ Some (onto_items front (item one no_items), after)
  items-close is = sym before ∙ rw (after_item, is) refl

  pub items-neither : found ≡ mark.Neither → whole ≡ None
  items-neither is = sym before ∙ rw (after_item, is) refl

  pub items-comma : found ≡ mark.Comma → (rest : List ℕ) → rest ≡ after_white after
      → with_items (onto_items front (item one no_items)) (items_at value count rest) ≡ whole
  items-comma is rest begins = rw begins (sym (with_items-item front one (items_at value count (after_white after)))
      ∙ (sym (rw (after_item, is) refl) ∙ before))

-- ---- members
abbrev pub with_members : MemberTrees → Option (MemberTrees × List ℕ) → Option (MemberTrees × List ℕ)
with_members front found = option_map (λ p. (onto_members front p.0, p.1)) found

onto_members-one : (front : MemberTrees) (named : List ℕ × Tree) (others : MemberTrees)
    → onto_members (onto_members front (member named.0 named.1 no_members)) others
    ≡ onto_members front (member named.0 named.1 others)
onto_members-one no_members named others = refl
onto_members-one (member name value front) named others = ap (member name value) (onto_members-one front named others)

with_members-member : (front : MemberTrees) (first : List ℕ × Tree) (found : Option (MemberTrees × List ℕ)) →
    with_members front (option_and_then (λ others. Some (member first.0 first.1 others.0, others.1)) found)
    ≡ with_members (onto_members front (member first.0 first.1 no_members)) found
with_members-member front first None = refl
with_members-member front first (Some p) = ap (λ all. Some (all, p.1)) (sym (onto_members-one front first p.0))

-- One step of the loop over members, by what stands after the member: `whole` is what reading all of them gives.
module _ (value : List ℕ → Option (Tree × List ℕ)) (front : MemberTrees) (count : ℕ) (bytes : List ℕ)
    {one : List ℕ × Tree} {n : ℕ} {beyond blank after : List ℕ} {found : AfterItem} {whole : Option (MemberTrees × List ℕ)}
    (read : member_at value bytes ≡ Some (one, beyond)) (skipped : blank ≡ after_white beyond)
    (marked : (found, after) ≡ mark_at close_brace blank)
    (before : with_members front (members_at value n bytes) ≡ whole) (more : n ≡ suc count) where
  after_member : members_at value n bytes ≡ members_after (members_at value count) one (found, after)
  unfolding members_at
  after_member = rw (more, read, ← skipped, ← marked) refl

  pub members-close : found ≡ mark.Close
      → whole ≡ Some (onto_members front (member one.0 one.1 no_members), after)
  members-close is = sym before ∙ rw (after_member, is) refl

  pub members-neither : found ≡ mark.Neither → whole ≡ None
  members-neither is = sym before ∙ rw (after_member, is) refl

  pub members-comma : found ≡ mark.Comma → (rest : List ℕ) → rest ≡ after_white after
      → with_members (onto_members front (member one.0 one.1 no_members)) (members_at value count rest) ≡ whole
  members-comma is rest begins =
      rw begins (sym (with_members-member front one (members_at value count (after_white after)))
      ∙ (sym (rw (after_member, is) refl) ∙ before))

-- nothing is read where the first is not
pub items-failed : (value : List ℕ → Option (Tree × List ℕ)) (front : ItemTrees) (count : ℕ) (bytes : List ℕ)
    → value bytes ≡ None → with_items front (items_at value count bytes) ≡ None
unfolding items_at
items-failed value front zero bytes failed = refl
items-failed value front (suc count) bytes failed = rw failed refl

pub members-failed : (value : List ℕ → Option (Tree × List ℕ)) (front : MemberTrees) (count : ℕ)
    (bytes : List ℕ) → member_at value bytes ≡ None → with_members front (members_at value count bytes) ≡ None
unfolding members_at
members-failed value front zero bytes failed = refl
members-failed value front (suc count) bytes failed = rw failed refl

-- no item is left to be read
pub items-none : (value : List ℕ → Option (Tree × List ℕ)) (front : ItemTrees) (n : ℕ) (bytes : List ℕ) → n ≡ 0
    → with_items front (items_at value n bytes) ≡ None
unfolding items_at
items-none value front n bytes none = rw none refl

pub members-none : (value : List ℕ → Option (Tree × List ℕ)) (front : MemberTrees) (n : ℕ) (bytes : List ℕ)
    → n ≡ 0 → with_members front (members_at value n bytes) ≡ None
unfolding members_at
members-none value front n bytes none = rw none refl

-- ---- what is pushed is put after
items_pushed : (trees : List Tree) (one : Tree)
    → item_trees (trees ++ one ∷ []) ≡ onto_items (item_trees trees) (item one no_items)
items_pushed [] one = refl
items_pushed (first ∷ trees) one = ap (item first) (items_pushed trees one)

pub item_pushed : (items pushed : List Json) (value : Json) (before : ItemTrees) (one : Tree)
    → pushed ≡ items ++ value ∷ [] → items_tree items ≡ before → tree value ≡ one
    → items_tree pushed ≡ onto_items before (item one no_items)
item_pushed items pushed value before one put are is =
    ap items_tree put ∙ ap item_trees (map-append tree items (value ∷ [])) ∙ items_pushed (map tree items) (tree value)
    ∙ ap (λ l. onto_items l (item (tree value) no_items)) are ∙ ap (λ v. onto_items before (item v no_items)) is

members_pushed : (pairs : List (List ℕ × Tree)) (one : List ℕ × Tree)
    → member_trees (pairs ++ one ∷ []) ≡ onto_members (member_trees pairs) (member one.0 one.1 no_members)
members_pushed [] one = refl
members_pushed (first ∷ pairs) one = ap (member first.0 first.1) (members_pushed pairs one)

pub member_pushed : (members pushed : List Member) (value : Member) (before : MemberTrees) (one : List ℕ × Tree)
    (name : List ℕ) (found : Tree) → pushed ≡ members ++ value ∷ []
    → ◌≡◌ {A = List ℕ × Tree} (named_tree value) (name, found) → members_tree members ≡ before → name ≡ one.0
    → found ≡ one.1 → members_tree pushed ≡ onto_members before (member one.0 one.1 no_members)
member_pushed members pushed value before one name found put value_is are named is =
    ap members_tree put ∙ ap member_trees (map-append named_tree members (value ∷ []))
    ∙ members_pushed (map named_tree members) (named_tree value)
    ∙ ap (λ n. onto_members (members_tree members) (member n.0 n.1 no_members)) value_is
    ∙ ap (λ l. onto_members l (member name found no_members)) are
    ∙ ap (λ n. onto_members before (member n found no_members)) named
    ∙ ap (λ v. onto_members before (member one.0 v no_members)) is

-- out of memory, or nothing, is what it was of a part
pub refused : {Y Z : Type 0} (fault : Fault) (part : Option Y) (whole : Option Z) → (part ≡ None → whole ≡ None)
    → Refuses fault part → Refuses fault whole
refused Memory part whole none fact = tt
refused Syntax part whole none fact = none fact
refused other part whole none fact = absurd fact
