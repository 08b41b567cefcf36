-- Objects whose leaves are noted.
use Rattle.std.proofs.Common.{◌≡◌, ◌∙◌, ◌++◌, ◌+◌, ℕ, List, Option, length, sym, ap, subst, length-append}
use Rattle.std.proofs.lemmas.List.{length-map}
use Rattle.std.specs.List.{flat_map}
use Rattle.city_json.specs.Compact.{compact}
use Rattle.city_json.specs.CompactTexts.{IsCompactOf}
use Rattle.city_json.specs.Tree.{Tree, object}
use Rattle.city_json.specs.declared.compacting.places.MemberPlace.{MemberPlace}
use Rattle.city_families.specs.Boundaries.{IsBounded, boundaries, relabelled_object}
use Rattle.cut_on_text.specs.Holders.{copied_to, part_in, split_by, uses_in}
use Rattle.city_families.specs.Leaves.{leaves}
use Rattle.cut_on_text.specs.Overviews.{HasHolders, IsHolderPart}
use Rattle.cut_on_text.specs.Skeletons.{LeafPlace}
use Rattle.cut_on_text.specs.Sketches.{IsNoted, LeafNoted}
use Rattle.cut_on_text.specs.Walks.{Labelling, Walks}
use Rattle.cut_on_text.specs.declared.on_text.holders.HeldParts.{HeldParts}
use Rattle.cut_on_text.specs.declared.on_text.holders.Holder.{Holder}
use Rattle.cut_on_text.specs.declared.on_text.holders.Holder.TheVariants.{Geometry, Address}
use Rattle.cut_on_text.specs.declared.on_text.notes.NotedLeaves.{NotedLeaves}
use Rattle.cut_on_text.proofs.NoteWalks.{Notes, noted_apart, noted_in_order, walk_notes}
use Rattle.cut_on_text.proofs.TextObjects.{MemberMade, WalkedFrom, both_uses, holder_part, of_object}

abbrev pub NoteLabelled : Labelling NotedLeaves
NoteLabelled notes line notes' line' vertex = LeafNoted notes.leaves.items line notes'.leaves.items line' vertex

abbrev noted_in : NotedLeaves → List LeafPlace
noted_in notes = notes.leaves.items

abbrev pub ObjectNoted : ℕ → List LeafPlace → List ℕ → ℕ → List LeafPlace → List ℕ → Tree → Type 0
ObjectNoted count noted line split noted' line' value = IsBounded count value
    × IsNoted noted line split noted' line' (flat_map leaves (boundaries value))
    (λ change. compact (relabelled_object change value))

notes_of : (n : NotedLeaves) (line : List ℕ) (n' : NotedLeaves) (line' uses : List ℕ) (own : (List ℕ → List ℕ) → List ℕ)
    → Walks NoteLabelled n line n' line' uses own → Notes n.leaves.items line n'.leaves.items line' uses own
notes_of n line n' line' uses own walk = walk_notes noted_in (λ s a s' b vertex noted. noted) n line n' line' uses own walk

-- so many leaves are noted as vertices are named
noted_more : (n : NotedLeaves) (line : List ℕ) (n' : NotedLeaves) (line' uses : List ℕ) (own : (List ℕ → List ℕ) → List ℕ)
    → Walks NoteLabelled n line n' line' uses own → length n'.leaves.items ≡ length n.leaves.items + length uses
noted_more n line n' line' uses own walk =
    let notes = notes_of n line n' line' uses own walk in
    ap length notes.more ∙ (length-append n.leaves.items notes.new ∙ ap (λ k. length n.leaves.items + k)
    (sym (ap length notes.named ∙ length-map notes.new (λ (leaf : LeafPlace). leaf.vertex))))

noted_value : (first : Holder) (count : ℕ) (n : NotedLeaves) (line : List ℕ) (n₁ : NotedLeaves) (line₁ : List ℕ)
    (n' : NotedLeaves) (line' : List ℕ) (split : ℕ) (value : Tree) (own₁ : (List ℕ → List ℕ) → List ℕ)
    → Walks NoteLabelled n line n₁ line₁ (uses_in first value) own₁
    → split ≡ split_by first (length n.leaves.items) (length n₁.leaves.items)
    → WalkedFrom NoteLabelled first count n line n' line' value
    → ObjectNoted count n.leaves.items line split n'.leaves.items line' value
noted_value Geometry count n line n₁ line₁ n' line' split value own₁ walk is made =
    let own : (List ℕ → List ℕ) → List ℕ = λ change. compact (relabelled_object change value) in (
      made.0,
      subst (λ uses. IsNoted n.leaves.items line split n'.leaves.items line' uses own) (both_uses value)
          (noted_in_order n.leaves.items line split n'.leaves.items line' (uses_in Geometry value ++ uses_in Address value)
          own (notes_of n line n' line' (uses_in Geometry value ++ uses_in Address value) own made.1) is),
    )
noted_value Address count n line n₁ line₁ n' line' split value own₁ walk is made =
    let own : (List ℕ → List ℕ) → List ℕ = λ change. compact (relabelled_object change value) in (
      made.0,
      subst (λ uses. IsNoted n.leaves.items line split n'.leaves.items line' uses own) (both_uses value)
          (noted_apart n.leaves.items line split n'.leaves.items line' (uses_in Address value) (uses_in Geometry value) own
          (notes_of n line n' line' (uses_in Address value ++ uses_in Geometry value) own made.1)
          (is ∙ noted_more n line n₁ line₁ (uses_in Address value) own₁ walk)),
    )

pub object_noted : (first : Holder) (count : ℕ) (text : List ℕ) (held : HeldParts) (part : Option MemberPlace) (n : NotedLeaves)
    (line : List ℕ) (n₁ : NotedLeaves) (line₁ : List ℕ) (n' : NotedLeaves) (line' : List ℕ) (split : ℕ)
    → HasHolders text held → part ≡ part_in first held → MemberMade NoteLabelled text first count 0 part n line n₁ line₁
    → split ≡ split_by first (length n.leaves.items) (length n₁.leaves.items)
    → ((value : Tree) → IsCompactOf text value → WalkedFrom NoteLabelled first count n line n' line' value)
    → (value : Tree) → IsCompactOf text value → ObjectNoted count n.leaves.items line split n'.leaves.items line' value
object_noted first count text held part n line n₁ line₁ n' line' split has is made split_is walked =
    of_object (ObjectNoted count n.leaves.items line split n'.leaves.items line') text has.parts has.listed
    (λ members of are. noted_value first count n line n₁ line₁ n' line' split (object members)
    (λ change. copied_to text 0 part first change (object members)) (made has.parts members of are
    (subst (IsHolderPart first text has.parts) (sym is) (holder_part first text held has))).1 split_is
    (walked (object members) of))
