-- Members of which the first of a name is dropped or changed, or one is added.
use Rattle.std.proofs.Common.{◌≡◌, ◌++◌, ◌∙◌, ◌<◌, ◌+◌, ℕ, zero, suc, List, [], ◌∷◌, Some, None, Result, Ok, Err, OnOk, Bool, true, false, length, take, drop, get_or, set, map, refl, ap, sym, arith, add-one, bytes_eq, if◌then◌else◌}
use Rattle.std.specs.List.{position, position_from, remove}
use Rattle.std.proofs.lemmas.Iterator.Adapters.{position_from-zero}
use Rattle.std.proofs.lemmas.List.Quantifiers.{position-Some}
use Rattle.std.proofs.lemmas.List.{map-append}
use Rattle.std.proofs.lemmas.Slice.Eq.{bytes_eq-Decides}
use Rattle.city_json.specs.Tree.{Tree, member, named_tree, members_tree, member_trees}
use Rattle.city_json.specs.declared.json.Member.{Member}
use Rattle.city_feature.specs.Changes.{with_named, without_named, changed_named}

abbrev pub has_name : List ℕ → Member → Bool
has_name name m = bytes_eq (named_tree m).0 name

module _ (name : List ℕ) (d : Member) where
  without_first : (ms : List Member) (k : ℕ) → k < length ms → has_name name (get_or ms k d) ≡ true
      → ((j : ℕ) → j < k → has_name name (get_or ms j d) ≡ false)
      → members_tree (take k ms ++ drop (suc k) ms) ≡ without_named name (members_tree ms)
  without_first [] k within here before = absurd (omega arith)
  without_first (m ∷ ms) zero within here before =
      ap (λ t. if t then members_tree ms else member (named_tree m).0 (named_tree m).1
      (without_named name (members_tree ms))) (sym here)
  without_first (m ∷ ms) (suc k) within here before =
      ap (member (named_tree m).0 (named_tree m).1)
      (without_first ms k (omega arith) here (λ j lt. before (suc j) (omega arith)))
      ∙ ap (λ t. if t then members_tree ms else member (named_tree m).0 (named_tree m).1
      (without_named name (members_tree ms))) (sym (before 0 (omega arith)))

  changed_first : (change : Tree → Tree) (new : Member) (ms : List Member) (k : ℕ) → k < length ms
      → has_name name (get_or ms k d) ≡ true → ((j : ℕ) → j < k → has_name name (get_or ms j d) ≡ false)
      → named_tree new ≡ ((named_tree (get_or ms k d)).0, change (named_tree (get_or ms k d)).1)
      → members_tree (set ms k new) ≡ changed_named name change (members_tree ms)
  changed_first change new [] k within here before new_is = absurd (omega arith)
  changed_first change new (m ∷ ms) zero within here before new_is =
      ap (λ pair. member pair.0 pair.1 (members_tree ms)) new_is
      ∙ ap (λ t. if t then member (named_tree m).0 (change (named_tree m).1) (members_tree ms) else member
      (named_tree m).0 (named_tree m).1 (changed_named name change (members_tree ms))) (sym here)
  changed_first change new (m ∷ ms) (suc k) within here before new_is =
      ap (member (named_tree m).0 (named_tree m).1)
      (changed_first change new ms k (omega arith) here (λ j lt. before (suc j) (omega arith)) new_is)
      ∙ ap (λ t. if t then member (named_tree m).0 (change (named_tree m).1) (members_tree ms) else member
      (named_tree m).0 (named_tree m).1 (changed_named name change (members_tree ms)))
      (sym (before 0 (omega arith)))

  with_first : (value : Tree) (ms : List Member) (k : ℕ) → k < length ms → has_name name (get_or ms k d) ≡ true
      → ((j : ℕ) → j < k → has_name name (get_or ms j d) ≡ false)
      → with_named name value (members_tree ms) ≡ changed_named name (λ old. value) (members_tree ms)
  with_first value [] k within here before = absurd (omega arith)
  with_first value (m ∷ ms) zero within here before =
      ap (λ t. if t then member (named_tree m).0 value (members_tree ms) else member (named_tree m).0 (named_tree m).1
      (with_named name value (members_tree ms))) here
      ∙ ap (λ t. if t then member (named_tree m).0 value (members_tree ms) else member (named_tree m).0 (named_tree m).1
      (changed_named name (λ old. value) (members_tree ms))) (sym here)
  with_first value (m ∷ ms) (suc k) within here before =
      ap (λ others. if has_name name m then member (named_tree m).0 value (members_tree ms) else member (named_tree m).0
      (named_tree m).1 others) (with_first value ms k (omega arith) here (λ j lt. before (suc j) (omega arith)))

pub on_ok : {T E : Type 0} (result : Result T E) {P Q : Type 0} → (P → Q) → OnOk result P → OnOk result Q
on_ok (Ok value) use_of given = use_of given
on_ok (Err fault) use_of given = tt

-- a member that was pushed is the last
pub pushed_member : (ms new : List Member) (m : Member) (pair : List ℕ × Tree) → new ≡ ms ++ m ∷ []
    → named_tree m ≡ pair → map named_tree new ≡ map named_tree ms ++ pair ∷ []
pushed_member ms new m pair new_is m_is = ap (map named_tree) new_is
    ∙ (map-append named_tree ms (m ∷ []) ∙ ap (λ p. map named_tree ms ++ p ∷ []) m_is)

some_is_something : (n : ℕ) → Some n ≡ None → ⊥
some_is_something n equal = cc

-- where no item passes
module _ {X : Type 0} (p : X → Bool) where
  nowhere_from : (xs : List X) → position p xs ≡ None → position_from p 0 xs ≡ None
  nowhere_from xs none = sym (position_from-zero p xs) ∙ none

  module _ (i : ℕ) (x : X) (xs : List X) where
    found_here : p x ≡ true → position_from p i (x ∷ xs) ≡ Some i
    found_here here = rw here refl

    found_later : p x ≡ false → position_from p i (x ∷ xs) ≡ position_from p (i + 1) xs
    found_later here = rw here refl

    not_here : position_from p i (x ∷ xs) ≡ None → p x ≡ false
    not_here none = by_test (p x) refl
      where
        by_test : (test : Bool) → p x ≡ test → p x ≡ false
        by_test true here = absurd (some_is_something i (sym (found_here here) ∙ none))
        by_test false here = here

    not_later : position_from p i (x ∷ xs) ≡ None → position_from p (i + 1) xs ≡ None
    not_later none = sym (found_later (not_here none)) ∙ none

module _ (name : List ℕ) where
  without_nowhere : (i : ℕ) (ms : List Member) → position_from (has_name name) i ms ≡ None
      → members_tree ms ≡ without_named name (members_tree ms)
  without_nowhere i [] none = refl
  without_nowhere i (m ∷ ms) none =
      ap (member (named_tree m).0 (named_tree m).1) (without_nowhere (i + 1) ms (not_later (has_name name) i m ms none))
      ∙ ap (λ t. if t then members_tree ms else member (named_tree m).0 (named_tree m).1
      (without_named name (members_tree ms))) (sym (not_here (has_name name) i m ms none))

  with_nowhere : (value : Tree) (i : ℕ) (ms : List Member) → position_from (has_name name) i ms ≡ None
      → member_trees (map named_tree ms ++ (name, value) ∷ []) ≡ with_named name value (members_tree ms)
  with_nowhere value i [] none = refl
  with_nowhere value i (m ∷ ms) none =
      ap (member (named_tree m).0 (named_tree m).1)
      (with_nowhere value (i + 1) ms (not_later (has_name name) i m ms none))
      ∙ ap (λ t. if t then member (named_tree m).0 value (members_tree ms) else member (named_tree m).0 (named_tree m).1
      (with_named name value (members_tree ms))) (sym (not_here (has_name name) i m ms none))

  pub without_absent : (ms : List Member) → position (has_name name) ms ≡ None
      → members_tree ms ≡ without_named name (members_tree ms)
  without_absent ms none = without_nowhere 0 ms (nowhere_from (has_name name) ms none)

  pub with_absent : (value : Tree) (ms : List Member) → position (has_name name) ms ≡ None
      → member_trees (map named_tree ms ++ (name, value) ∷ []) ≡ with_named name value (members_tree ms)
  with_absent value ms none = with_nowhere value 0 ms (nowhere_from (has_name name) ms none)

-- at the place of the first of the name
module _ (name : List ℕ) where
  first : (ms : List Member) (d : Member) (k : ℕ) → position (has_name name) ms ≡ Some k → (k < length ms)
      × (has_name name (get_or ms k d) ≡ true) × ((j : ℕ) → j < k → has_name name (get_or ms j d) ≡ false)
  first ms d k found = position-Some (has_name name) ms k d found

  pub without_found : (ms : List Member) (k : ℕ) → position (has_name name) ms ≡ Some k
      → members_tree (remove ms k) ≡ without_named name (members_tree ms)
  without_found [] k found = absurd (some_is_something k (sym found))
  without_found (d ∷ ms) k found = let at = first (d ∷ ms) d k found in without_first name d (d ∷ ms) k at.0 at.1 at.2

  pub changed_found : (change : Tree → Tree) (d new : Member) (ms : List Member) (k : ℕ)
      → position (has_name name) ms ≡ Some k
      → named_tree new ≡ ((named_tree (get_or ms k d)).0, change (named_tree (get_or ms k d)).1)
      → members_tree (set ms k new) ≡ changed_named name change (members_tree ms)
  changed_found change d new ms k found new_is = let at = first ms d k found in
      changed_first name d change new ms k at.0 at.1 at.2 new_is

  pub with_found : (value : Tree) (d new : Member) (ms : List Member) (k : ℕ) → position (has_name name) ms ≡ Some k
      → named_tree new ≡ ((named_tree (get_or ms k d)).0, value)
      → members_tree (set ms k new) ≡ with_named name value (members_tree ms)
  with_found value d new ms k found new_is = let at = first ms d k found in
      changed_found (λ old. value) d new ms k found new_is ∙ sym (with_first name d value ms k at.0 at.1 at.2)

-- before and after the first of the name
module _ (name : List ℕ) (d : Member) where
  set_between : (value : Tree) (ms : List Member) (k : ℕ) → k < length ms → has_name name (get_or ms k d) ≡ true
      → ((j : ℕ) → j < k → has_name name (get_or ms j d) ≡ false)
      → with_named name value (members_tree ms)
      ≡ member_trees (map named_tree (take k ms) ++ (name, value) ∷ map named_tree (drop (suc k) ms))
  set_between value [] k within here before = absurd (omega arith)
  set_between value (m ∷ ms) zero within here before =
      ap (λ t. if t then member (named_tree m).0 value (members_tree ms) else member (named_tree m).0 (named_tree m).1
      (with_named name value (members_tree ms))) here
      ∙ ap (λ l. member l value (members_tree ms)) ((bytes_eq-Decides (named_tree m).0 name).0 here)
  set_between value (m ∷ ms) (suc k) within here before =
      ap (λ t. if t then member (named_tree m).0 value (members_tree ms) else member (named_tree m).0 (named_tree m).1
      (with_named name value (members_tree ms))) (before 0 (omega arith))
      ∙ ap (member (named_tree m).0 (named_tree m).1)
      (set_between value ms k (omega arith) here (λ j lt. before (suc j) (omega arith)))

module _ (name : List ℕ) (ms : List Member) where
  pub dropped_around : (k : ℕ) → position (has_name name) ms ≡ Some k → without_named name (members_tree ms)
      ≡ member_trees (map named_tree (take k ms) ++ map named_tree (drop (k + 1) ms))
  dropped_around k found =
      sym (without_found name ms k found) ∙ (ap member_trees (map-append named_tree (take k ms) (drop (suc k) ms))
      ∙ ap (λ n. member_trees (map named_tree (take k ms) ++ map named_tree (drop n ms))) (sym (add-one k)))

  pub set_around : (value : Tree) (k : ℕ) → position (has_name name) ms ≡ Some k
      → with_named name value (members_tree ms)
      ≡ member_trees (map named_tree (take k ms) ++ (name, value) ∷ map named_tree (drop (k + 1) ms))
  set_around value k found = by ms found
      ∙ ap (λ n. member_trees (map named_tree (take k ms) ++ (name, value) ∷ map named_tree (drop n ms))) (sym (add-one k))
    where
      by : (all : List Member) → position (has_name name) all ≡ Some k → with_named name value (members_tree all)
          ≡ member_trees (map named_tree (take k all) ++ (name, value) ∷ map named_tree (drop (suc k) all))
      by [] found = absurd (some_is_something k (sym found))
      by (d ∷ all) found = let at = first name (d ∷ all) d k found in
          set_between name d value (d ∷ all) k at.0 at.1 at.2
