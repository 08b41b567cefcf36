-- The joined header member by member.
use Rattle.std.proofs.Common.{◌≡◌, ◌++◌, ◌∙◌, ◌<◌, ◌+◌, ℕ, Bool, true, false, List, ◌∷◌, length, drop, get_or, refl, ap, sym, codes, bytes_eq, if◌then◌else◌}
use Rattle.std.proofs.lemmas.List.{at_drop_more}
use Rattle.std.proofs.lemmas.Slice.Eq.{bytes_eq-Decides}
use Rattle.city_json.specs.Compact.{compact, compact_more_members}
use Rattle.city_json.specs.Tree.{Tree, object, MemberTrees, member, members_tree, named_tree}
use Rattle.city_json.specs.declared.json.Member.{Member}
use Rattle.city_grid.specs.Axes.{Texts, three}
use Rattle.city_feature.specs.Changes.{changed_named, with_member, with_named, without_member}
use Rattle.city_feature.specs.JoinedMembers.{changed_if, changes_after, is_later, is_next, joined_member, joined_members, set_if}
use Rattle.city_feature.specs.Pieces.{members_text, start_text}
use Rattle.city_feature.specs.declared.joining.line.Changes.{Changes}
use Rattle.city_feature.proofs.MemberPieces.{next_member}

-- ---- one change at one member
module _ (n : List ℕ) (v w : Tree) (o c : MemberTrees) where
  here_or_later : (to_come is_this : Bool)
      → (if to_come then (if is_this then member n w o else member n v c) else member n v o)
      ≡ member n (if (if to_come then is_this else false) then w else v)
      (if (if is_this then false else to_come) then c else o)
  here_or_later true true = refl
  here_or_later true false = refl
  here_or_later false true = refl
  here_or_later false false = refl

changed_here : (to_come : Bool) (wanted : List ℕ) (f : Tree → Tree) (n : List ℕ) (v : Tree) (o : MemberTrees)
    → changed_if to_come wanted f (member n v o)
    ≡ member n (if is_next to_come wanted n then f v else v) (changed_if (is_later to_come wanted n) wanted f o)
changed_here to_come wanted f n v o =
    here_or_later n v (f v) o (changed_named wanted f o) to_come (bytes_eq n wanted)

set_here : (to_come : Bool) (wanted : List ℕ) (new : Tree) (n : List ℕ) (v : Tree) (o : MemberTrees)
    → set_if to_come wanted new (member n v o)
    ≡ member n (if is_next to_come wanted n then new else v) (set_if (is_later to_come wanted n) wanted new o)
set_here to_come wanted new n v o =
    here_or_later n v new o (with_named wanted new o) to_come (bytes_eq n wanted)

-- ---- at most one of them is made at one member
apart : (b c : Bool) (m k n : List ℕ) → bytes_eq m k ≡ false → is_next b m n ≡ true → is_next c k n ≡ false
apart false c m k n differ here = absurd (false_is_not_true here)
  where
    false_is_not_true : false ≡ true → ⊥
    false_is_not_true e = cc
apart true false m k n differ here = refl
apart true true m k n differ here = ap (λ l. bytes_eq l k) ((bytes_eq-Decides n m).0 here) ∙ differ

one_change : (m e t : Bool) (v new set : Tree) (f : Tree → Tree) → (m ≡ true → e ≡ false) → (m ≡ true → t ≡ false)
    → (e ≡ true → t ≡ false)
    → (if t then f (if e then set else (if m then new else v)) else (if e then set else (if m then new else v)))
    ≡ (if m then new else (if e then set else (if t then f v else v)))
one_change true e t v new set f no_e no_t not_both = by e t (no_e refl) (no_t refl)
  where
    by : (e t : Bool) → e ≡ false → t ≡ false
        → (if t then f (if e then set else new) else (if e then set else new)) ≡ new
    by true t e_is t_is = absurd (true_is_not_false e_is)
      where
        true_is_not_false : true ≡ false → ⊥
        true_is_not_false e = cc
    by false true e_is t_is = absurd (true_is_not_false t_is)
      where
        true_is_not_false : true ≡ false → ⊥
        true_is_not_false e = cc
    by false false e_is t_is = refl
one_change false true true v new set f no_e no_t not_both = absurd (true_is_not_false (not_both refl))
  where
    true_is_not_false : true ≡ false → ⊥
    true_is_not_false e = cc
one_change false true false v new set f no_e no_t not_both = refl
one_change false false true v new set f no_e no_t not_both = refl
one_change false false false v new set f no_e no_t not_both = refl

module _ (changes : Changes) (extensions : MemberTrees) (texts : Texts) where
  abbrev drop_extent : Tree → Tree
  drop_extent = without_member (codes "geographicalExtent")

  abbrev set_translation : Tree → Tree
  set_translation = with_member (codes "translate") (three texts)

  pub joined_step : (n : List ℕ) (v : Tree) (o : MemberTrees) → joined_members changes extensions texts (member n v o)
      ≡ member n (joined_member changes extensions texts n v)
      (joined_members (changes_after changes n) extensions texts o)
  joined_step n v o =
      let m = is_next changes.metadata (codes "metadata") n in
      let e = is_next changes.extensions (codes "extensions") n in
      let t = is_next changes.transform (codes "transform") n in
      let v₁ : Tree = if m then drop_extent v else v in
      let v₂ : Tree = if e then object extensions else v₁ in
      let o₁ : MemberTrees = changed_if (is_later changes.metadata (codes "metadata") n) (codes "metadata")
      drop_extent o in
      let o₂ : MemberTrees = set_if (is_later changes.extensions (codes "extensions") n) (codes "extensions")
      (object extensions) o₁ in
      let o₃ : MemberTrees = changed_if (is_later changes.transform (codes "transform") n) (codes "transform")
      set_translation o₂ in
      ap (λ ms. changed_if changes.transform (codes "transform") set_translation
      (set_if changes.extensions (codes "extensions") (object extensions) ms))
      (changed_here changes.metadata (codes "metadata") drop_extent n v o)
      ∙ (ap (changed_if changes.transform (codes "transform") set_translation)
      (set_here changes.extensions (codes "extensions") (object extensions) n v₁ o₁)
      ∙ (changed_here changes.transform (codes "transform") set_translation n v₂ o₂
      ∙ ap (λ w. member n w o₃) (one_change m e t v (drop_extent v) (object extensions) set_translation
      (apart changes.metadata changes.extensions (codes "metadata") (codes "extensions") n refl)
      (apart changes.metadata changes.transform (codes "metadata") (codes "transform") n refl)
      (apart changes.extensions changes.transform (codes "extensions") (codes "transform") n refl))))

  -- what is written of one member, and the members after it
  pub header_step : (first : Bool) (line begun after n : List ℕ) (v : Tree) (o : MemberTrees)
      → begun ≡ line ++ start_text first n → after ≡ begun ++ compact (joined_member changes extensions texts n v)
      → after ++ compact_more_members (joined_members (changes_after changes n) extensions texts o)
      ≡ line ++ members_text first (joined_members changes extensions texts (member n v o))
  header_step first line begun after n v o begins ends =
      let value : Tree = joined_member changes extensions texts n v in
      next_member first line after n value (joined_members (changes_after changes n) extensions texts o)
      (ends ∙ ap (λ l. l ++ compact value) begins)
      ∙ ap (λ ms. line ++ members_text first ms) (sym (joined_step n v o))

-- ---- the loop over the first header's members
module _ (extensions : MemberTrees) (texts : Texts) (ms : List Member) (i : ℕ) (line whole : List ℕ) where
  pub next_in_header : (first : Bool) (changes : Changes) (begun after : List ℕ) (m : Member) → i < length ms
      → m ≡ get_or ms i m → begun ≡ line ++ start_text first (named_tree m).0
      → after ≡ begun ++ compact (joined_member changes extensions texts (named_tree m).0 (named_tree m).1)
      → line ++ members_text first (joined_members changes extensions texts (members_tree (drop i ms))) ≡ whole
      → after ++ members_text false
      (joined_members (changes_after changes (named_tree m).0) extensions texts (members_tree (drop (i + 1) ms)))
      ≡ whole
  next_in_header first changes begun after m within is begins ends so_far =
      header_step changes extensions texts first line begun after (named_tree m).0 (named_tree m).1
      (members_tree (drop (i + 1) ms)) begins ends
      ∙ (ap (λ x. line
      ++ members_text first (joined_members changes extensions texts (members_tree (x ∷ drop (i + 1) ms)))) is
      ∙ (sym (at_drop_more (λ l. line
      ++ members_text first (joined_members changes extensions texts (members_tree l))) ms i m within) ∙ so_far))
