-- Members that are printed one after another, and their places.
use Rattle.std.proofs.Common.{◌≡◌, ◌≤◌, ◌++◌, ◌∙◌, ◌+◌, ◌-◌, ℕ, List, [], ◌∷◌, length, get_or, take, drop, take_all, sym, ap, subst, arith, append_assoc, append-nil}
use Rattle.city_json.specs.Bytes.{colon, comma}
use Rattle.city_json.specs.Compact.{compact, compact_members, compact_more_members, quoted}
use Rattle.city_json.specs.Parts.{AreParts}
use Rattle.city_json.specs.PrintedParts.{AddsPart}
use Rattle.city_json.specs.Tree.{Tree, member_trees}
use Rattle.city_json.specs.declared.compacting.places.MemberPlace.{MemberPlace}

-- a list, by its first item and what a pattern has of the others
pub first_and_others : {A : Type 0} (xs : List A) (x : A) → 1 ≤ length xs → x ≡ get_or xs 0 x
    → xs ≡ x ∷ take (length xs - 1) (drop 1 xs)
first_and_others [] x some is = absurd (omega (arith, some))
first_and_others (y ∷ ys) x some is =
    let all : take (length (y ∷ ys) - 1) ys ≡ ys = take_all (length (y ∷ ys) - 1) ys (omega arith) in
    ap (λ z. z ∷ ys) (sym is) ∙ ap (λ zs. x ∷ zs) (sym all)

-- So far the first of all members were printed after this line, and what is left comes to stand after a comma each.
abbrev pub PrintsOn : List ℕ → List (List ℕ × Tree) → List ℕ → List (List ℕ × Tree) → Type 0
PrintsOn line all shown left =
    shown ++ compact_more_members (member_trees left) ≡ line ++ compact_members (member_trees all)

-- Whatever parts the members have that are left, the first of which begins at `start`: after those that are there they
-- are the parts of all.
abbrev pub GoesOn : ℕ → List (List ℕ × Tree) → ℕ → List (List ℕ × Tree) → List MemberPlace → Type 0
GoesOn front all start left done = (more : List MemberPlace) → AreParts start more (member_trees left)
    → AreParts front (done ++ more) (member_trees all)

module _ (line shown : List ℕ) (pair : List ℕ × Tree) (others : List (List ℕ × Tree)) where
  pub prints_first : shown ≡ line ++ (quoted pair.0 ++ colon ∷ compact pair.1) → PrintsOn line (pair ∷ others) shown others
  prints_first is = ap (λ l. l ++ compact_more_members (member_trees others)) is
      ∙ append_assoc line (quoted pair.0 ++ colon ∷ compact pair.1) (compact_more_members (member_trees others))

module _ (line now new : List ℕ) (all : List (List ℕ × Tree)) (pair : List ℕ × Tree) (left : List (List ℕ × Tree)) where
  pub prints_next : PrintsOn line all now (pair ∷ left)
      → new ≡ now ++ comma ∷ (quoted pair.0 ++ colon ∷ compact pair.1) → PrintsOn line all new left
  prints_next so_far is = ap (λ l. l ++ compact_more_members (member_trees left)) is
      ∙ (append_assoc now (comma ∷ (quoted pair.0 ++ colon ∷ compact pair.1)) (compact_more_members (member_trees left))
      ∙ so_far)

module _ (front : ℕ) (pair : List ℕ × Tree) (others : List (List ℕ × Tree)) (before after : List MemberPlace) where
  pub goes_first : (end : ℕ) → before ≡ [] → AddsPart front end pair.0 pair.1 before after
      → GoesOn front (pair ∷ others) (end + 1) others after
  goes_first end none adds = λ more are.
      let is : after ++ more ≡ adds.part ∷ more =
      ap (λ parts. parts ++ more) (adds.added ∙ ap (λ parts. parts ++ adds.part ∷ []) none) in
      subst (λ parts. AreParts front parts (member_trees (pair ∷ others))) (sym is)
      (adds.is, subst (λ n. AreParts (n + 1) more (member_trees others)) (sym adds.ends) are)

module _ (front start : ℕ) (all : List (List ℕ × Tree)) (pair : List ℕ × Tree) (left : List (List ℕ × Tree))
    (before after : List MemberPlace) (so_far : GoesOn front all start (pair ∷ left) before) where
  pub goes_next : (end : ℕ) → AddsPart start end pair.0 pair.1 before after → GoesOn front all (end + 1) left after
  goes_next end adds = λ more are.
      let is : after ++ more ≡ before ++ (adds.part ∷ more) =
      ap (λ parts. parts ++ more) adds.added ∙ append_assoc before (adds.part ∷ []) more in
      subst (λ parts. AreParts front parts (member_trees all)) (sym is)
      (so_far (adds.part ∷ more) (adds.is, subst (λ n. AreParts (n + 1) more (member_trees left)) (sym adds.ends) are))

pub goes_end : (front start : ℕ) (all : List (List ℕ × Tree)) (done : List MemberPlace) → GoesOn front all start [] done
    → AreParts front done (member_trees all)
goes_end front start all done so_far =
    subst (λ parts. AreParts front parts (member_trees all)) (append-nil done) (so_far [] tt)
