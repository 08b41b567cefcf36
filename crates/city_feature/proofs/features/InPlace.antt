-- Vertices moved and written in place, and the members beside them.
use Rattle.std.proofs.Common.{◌≡◌, ◌≢◌, ◌∙◌, ◌++◌, ◌+◌, ◌<◌, ℕ, zero, suc, sym, ap, refl, subst, Bool, true, false, if◌then◌else◌, List, [], ◌∷◌, append_assoc, length, take, drop, get_or, set, map, All, Option, Some, None, OnOk, Result, Ok, Err, bytes_eq, arith, drop-set-lt}
use Rattle.std.proofs.lemmas.List.{drop_more, take_more, take_more_set, map-append}
use Rattle.std.proofs.lemmas.List.Elements.{All-push}
use Rattle.std.proofs.lemmas.Slice.Eq.{bytes_eq-Decides}
use Rattle.city_json.specs.Members.{first_named}
use Rattle.city_json.specs.Tree.{Tree, tree, array, items_tree, named_tree, members_tree, member}
use Rattle.city_json.specs.declared.json.Json.{Json}
use Rattle.city_json.specs.declared.json.Member.{Member}
use Rattle.city_grid.specs.Axes.{Triple, IsInRange, sum}
use Rattle.city_grid.specs.Vertex.{IsVertex, vertex_tree}
use Rattle.city_feature.specs.Changes.{with_named}
use Rattle.city_feature.specs.Feature.{AreReadAgain, HasItems, item_count, moved_vertices}

all_at : {X : Type 0} (P : X → Type 0) (xs : List X) (y : X) (ys : List X) → All P (xs ++ y ∷ ys) → P y
all_at P [] y ys all = all 0 y (omega arith)
all_at P (x ∷ xs) y ys all = all_at P xs y ys (λ k d within. all (suc k) d (omega arith))

-- the vertices before place i are moved, and here is vertex p
module _ (old now : List Triple) (k : Triple) (i : ℕ) (p : Triple) (within : i < length now) (is : p ≡ get_or now i p)
    (so_far : moved_vertices old k ≡ take i now ++ moved_vertices (drop i now) k) where
  here : moved_vertices old k ≡ take i now ++ sum p k ∷ moved_vertices (drop (i + 1) now) k
  here =
      so_far ∙ ap (λ rest. take i now ++ moved_vertices rest k) (drop_more now i p within)
      ∙ ap (λ x. take i now ++ sum x k ∷ moved_vertices (drop (i + 1) now) k) (sym is)

  pub moved_on : (q : Triple) → q ≡ sum p k
      → moved_vertices old k ≡ take (i + 1) (set now i q) ++ moved_vertices (drop (i + 1) (set now i q)) k
  moved_on q moved =
      here ∙ ap (λ x. take i now ++ x ∷ moved_vertices (drop (i + 1) now) k) (sym moved)
      ∙ sym (append_assoc (take i now) (q ∷ []) (moved_vertices (drop (i + 1) now) k))
      ∙ ap (λ front. front ++ moved_vertices (drop (i + 1) now) k) (sym (take_more_set now i q within))
      ∙ ap (λ rest. take (i + 1) (set now i q) ++ moved_vertices rest k)
      (sym (drop-set-lt (i + 1) now i q (omega arith)))

  pub leaves_range : ¬ IsInRange (sum p k) → ¬ All IsInRange (moved_vertices old k)
  leaves_range out = λ all. out (all_at IsInRange (take i now) (sum p k) (moved_vertices (drop (i + 1) now) k)
      (subst (All IsInRange) here all))

pub range_on : (now : List Triple) (i : ℕ) (q : Triple) → i < length now → All IsInRange (take i now) → IsInRange q
    → All IsInRange (take (i + 1) (set now i q))
range_on now i q within all range =
    subst (All IsInRange) (sym (take_more_set now i q within)) (All-push IsInRange (take i now) q all range)

-- items written so far
pub written_on : (items : List Json) (ps : List Triple) (i : ℕ) (x : Json) (p : Triple) → i < length items
    → i < length ps → p ≡ get_or ps i p → tree x ≡ vertex_tree p → map tree (take i items) ≡ map vertex_tree (take i ps)
    → map tree (take (i + 1) (set items i x)) ≡ map vertex_tree (take (i + 1) ps)
written_on items ps i x p within among is same so_far =
    ap (map tree) (take_more_set items i x within) ∙ map-append tree (take i items) (x ∷ [])
    ∙ ap (λ front. front ++ tree x ∷ []) so_far ∙ ap (λ t. map vertex_tree (take i ps) ++ t ∷ []) same
    ∙ sym (map-append vertex_tree (take i ps) (p ∷ []))
    ∙ ap (map vertex_tree) (sym (take_more ps i p among ∙ ap (λ y. take i ps ++ y ∷ []) (sym is)))

again_push : (ps : List Triple) (p : Triple) → AreReadAgain ps → IsVertex (vertex_tree p) p × IsInRange p
    → AreReadAgain (ps ++ p ∷ [])
again_push [] p again last = (last.0, last.1, tt)
again_push (q ∷ qs) p again last = (again.0, again.1, again_push qs p again.2 last)

pub again_on : (ps : List Triple) (i : ℕ) (p : Triple) → i < length ps → p ≡ get_or ps i p → AreReadAgain (take i ps)
    → IsVertex (vertex_tree p) p × IsInRange p → AreReadAgain (take (i + 1) ps)
again_on ps i p among is again last =
    subst AreReadAgain (sym (take_more ps i p among ∙ ap (λ y. take i ps ++ y ∷ []) (sym is)))
    (again_push (take i ps) p again last)

-- members, of which the first i have other names
has_name : (other name : List ℕ) → other ≡ name → bytes_eq other name ≡ true
has_name other name same = (bytes_eq-Decides other name).1 same

no_name : (other name : List ℕ) → other ≢ name → bytes_eq other name ≡ false
no_name other name apart = told (bytes_eq other name) (bytes_eq-Decides other name).0
  where
    told : (b : Bool) → (b ≡ true → other ≡ name) → b ≡ false
    told true is = absurd (apart (is refl))
    told false is = refl

passed : (b : Bool) (value : Tree) (rest : Option Tree) → (if b then Some value else rest) ≡ None → (b ≡ false)
    × (rest ≡ None)
passed true value rest none = absurd (some_is_none none)
  where
    some_is_none : ¬ (Some value ≡ None)
    some_is_none = λ equal. cc
passed false value rest none = (refl, none)

suc_out : (i : ℕ) → suc i + 1 ≡ suc (i + 1)
suc_out i = omega arith

module _ (name : List ℕ) where
  pub named_here : (ms : List Member) (i : ℕ) (m : Member) → i < length ms
      → first_named name (members_tree (take i ms)) ≡ None → m ≡ get_or ms i m → (named_tree m).0 ≡ name
      → first_named name (members_tree ms) ≡ Some (named_tree m).1
  named_here [] i m within none is named = absurd (omega arith)
  named_here (x ∷ xs) zero m within none is named =
      ap (λ b. if b then Some (named_tree x).1 else first_named name (members_tree xs))
      (has_name (named_tree x).0 name (ap (λ y. (named_tree y).0) (sym is) ∙ named))
      ∙ ap (λ y. Some (named_tree y).1) (sym is)
  named_here (x ∷ xs) (suc i) m within none is named =
      let others = passed (bytes_eq (named_tree x).0 name) (named_tree x).1
      (first_named name (members_tree (take i xs))) none in
      ap (λ b. if b then Some (named_tree x).1 else first_named name (members_tree xs)) others.0
      ∙ named_here xs i m (omega arith) others.1 is named

  pub overwritten : (ms : List Member) (i : ℕ) (m n : Member) (value : Tree) → i < length ms
      → first_named name (members_tree (take i ms)) ≡ None → m ≡ get_or ms i m → (named_tree m).0 ≡ name
      → named_tree n ≡ ((named_tree m).0, value) → members_tree (set ms i n) ≡ with_named name value (members_tree ms)
  overwritten [] i m n value within none is named same = absurd (omega arith)
  overwritten (x ∷ xs) zero m n value within none is named same =
      ap (λ pair. member pair.0 pair.1 (members_tree xs)) same
      ∙ ap (λ y. member (named_tree y).0 value (members_tree xs)) is
      ∙ sym (ap (λ b. if b then member (named_tree x).0 value (members_tree xs) else member (named_tree x).0
      (named_tree x).1 (with_named name value (members_tree xs)))
      (has_name (named_tree x).0 name (ap (λ y. (named_tree y).0) (sym is) ∙ named)))
  overwritten (x ∷ xs) (suc i) m n value within none is named same =
      let others = passed (bytes_eq (named_tree x).0 name) (named_tree x).1
      (first_named name (members_tree (take i xs))) none in
      ap (λ rest. member (named_tree x).0 (named_tree x).1 rest)
      (overwritten xs i m n value (omega arith) others.1 is named same)
      ∙ sym (ap (λ b. if b then member (named_tree x).0 value (members_tree xs) else member (named_tree x).0
      (named_tree x).1 (with_named name value (members_tree xs))) others.0)

  pub passed_on : (ms : List Member) (i : ℕ) (m : Member) → i < length ms
      → first_named name (members_tree (take i ms)) ≡ None → m ≡ get_or ms i m → (named_tree m).0 ≢ name
      → first_named name (members_tree (take (i + 1) ms)) ≡ None
  passed_on [] i m within none is apart = absurd (omega arith)
  passed_on (x ∷ xs) zero m within none is apart =
      ap (λ b. if b then Some (named_tree x).1 else None)
      (no_name (named_tree x).0 name (λ same. apart (ap (λ y. (named_tree y).0) is ∙ same)))
  passed_on (x ∷ xs) (suc i) m within none is apart =
      let others = passed (bytes_eq (named_tree x).0 name) (named_tree x).1
      (first_named name (members_tree (take i xs))) none in
      ap (λ n. first_named name (members_tree (take n (x ∷ xs)))) (suc_out i)
      ∙ ap (λ b. if b then Some (named_tree x).1 else first_named name (members_tree (take (i + 1) xs))) others.0
      ∙ passed_on xs i m (omega arith) others.1 is apart

pub on_ok : {A B P Q : Type 0} (answer : Result A B) → (P → Q) → OnOk answer P → OnOk answer Q
on_ok (Ok value) onward holds = onward holds
on_ok (Err fault) onward holds = tt

pub count_is_length : (items : List Json) → item_count (items_tree items) ≡ length items
count_is_length [] = refl
count_is_length (x ∷ xs) = ap suc (count_is_length xs)

pub has_length : (items : List Json) (value : Tree) (count : ℕ) → value ≡ array (items_tree items)
    → HasItems count value → length items ≡ count
has_length items value count is has =
    let counted : HasItems count (array (items_tree items)) = subst (HasItems count) is has in
    sym (count_is_length items) ∙ counted
