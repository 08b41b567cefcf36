-- Borrowed names and values as the members of an object: how a name is found among them, and what one more of them
-- adds.
use Rattle.std.proofs.Common.{◌≡◌, ◌↔◌, ◌++◌, ◌∙◌, ℕ, IsTrue, length, not, if◌then◌else◌, arith, Bool, true, false, cond, List, [], ◌∷◌, Option, Some, None, Bor, option_map, option_copied, bytes_eq, refl, ap, sym, subst, append_assoc, append-nil}
use Rattle.std.proofs.lemmas.Cmp.{nat_list_eq_equiv}
use Rattle.std.proofs.lemmas.Slice.Eq.{bytes_eq-Decides}
use Rattle.std.specs.Map.{lookup}
use Rattle.std.specs.Option.{option_or}
use Rattle.city_json.specs.Members.{first_named}
use Rattle.city_json.specs.Tree.{Tree, tree, member}
use Rattle.city_json.specs.declared.json.Json.{Json}
use Rattle.city_feature.specs.Joined.{with_last}
use Rattle.city_feature.specs.JoinedMembers.{has_members}
use Rattle.city_feature.specs.Values.{lent_members}
use Rattle.city_feature.proofs.MemberPieces.{is_nil}

abbrev Pairs : Type 0
Pairs = List (Bor (List ℕ) × Bor Json)

abbrev value_of : List ℕ → Pairs → Option (Bor Json)
value_of name pairs = lookup (λ key. bytes_eq name key.now) pairs

abbrev shown : Option (Bor Json) → Option Tree
shown found = option_map tree (option_copied found)

first_or : (b : Bool) (value : Bor Json) (other : Option (Bor Json))
    → shown (cond b (Some value) other) ≡ cond b (Some (tree value.now)) (shown other)
first_or true value other = refl
first_or false value other = refl

pub found_in_lent : (name : List ℕ) (pairs : Pairs)
    → shown (value_of name pairs) ≡ first_named name (lent_members pairs)
found_in_lent name [] = refl
found_in_lent name (pair ∷ pairs) =
    first_or (bytes_eq name pair.0.now) pair.1 (value_of name pairs)
    ∙ (ap (λ b. cond b (Some (tree pair.1.now)) (shown (value_of name pairs))) (nat_list_eq_equiv.symm name pair.0.now)
    ∙ ap (cond (bytes_eq pair.0.now name) (Some (tree pair.1.now))) (found_in_lent name pairs))

pub lent_push : (pairs : Pairs) (name : Bor (List ℕ)) (value : Bor Json)
    → lent_members (pairs ++ (name, value) ∷ []) ≡ with_last (lent_members pairs) name.now (tree value.now)
lent_push [] name value = refl
lent_push (pair ∷ pairs) name value = ap (member pair.0.now (tree pair.1.now)) (lent_push pairs name value)

-- ---- one list after another ----

or_first : (b : Bool) (value : Bor Json) (found other : Option (Bor Json))
    → cond b (Some value) (option_or found other) ≡ option_or (cond b (Some value) found) other
or_first true value found other = refl
or_first false value found other = refl

value_of_both : (name : List ℕ) (first later : Pairs)
    → value_of name (first ++ later) ≡ option_or (value_of name first) (value_of name later)
value_of_both name [] later = refl
value_of_both name (pair ∷ first) later =
    ap (cond (bytes_eq name pair.0.now) (Some pair.1)) (value_of_both name first later)
    ∙ or_first (bytes_eq name pair.0.now) pair.1 (value_of name first) (value_of name later)

module _ (name : List ℕ) (first later : Pairs) where
  pub found_in_both : (found : Option (Bor Json)) → found ≡ option_or (value_of name first) (value_of name later)
      → shown found ≡ first_named name (lent_members (first ++ later))
  found_in_both found is = ap shown (is ∙ sym (value_of_both name first later)) ∙ found_in_lent name (first ++ later)

-- ---- a name that is new ----

none_shown : (found : Option (Bor Json)) → shown found ≡ None → found ≡ None
none_shown None e = refl
none_shown (Some value) e = absurd (cc)

none_first : (found other : Option (Bor Json)) → option_or found other ≡ None → found ≡ None
none_first None other none = refl
none_first (Some value) other none = none

none_later : (found other : Option (Bor Json)) → option_or found other ≡ None → other ≡ None
none_later None other none = none
none_later (Some value) other none = absurd (cc)

module _ (name : List ℕ) (first later : Pairs) (new : first_named name (lent_members (first ++ later)) ≡ None) where
  in_neither : option_or (value_of name first) (value_of name later) ≡ None
  in_neither = sym (value_of_both name first later)
      ∙ none_shown (value_of name (first ++ later)) (found_in_lent name (first ++ later) ∙ new)

  pub new_in_first : value_of name first ≡ None
  new_in_first = none_first (value_of name first) (value_of name later) in_neither

  pub new_in_later : value_of name later ≡ None
  new_in_later = none_later (value_of name first) (value_of name later) in_neither

module _ (first later : Pairs) (name : Bor (List ℕ)) (value : Bor Json) where
  -- put after the first ones, where none comes after these
  pub put_first : (put : Pairs) → later ≡ [] → put ≡ first ++ (name, value) ∷ []
      → lent_members (put ++ later) ≡ with_last (lent_members (first ++ later)) name.now (tree value.now)
  put_first put none put_is =
      ap (λ others. lent_members (put ++ others)) none
      ∙ (ap lent_members (append-nil put ∙ put_is)
      ∙ (lent_push first name value
      ∙ ap (λ pairs. with_last (lent_members pairs) name.now (tree value.now)) (sym (append-nil first)
      ∙ ap (λ others. first ++ others) (sym none))))

  -- put after the later ones
  pub put_later : (put : Pairs) → put ≡ later ++ (name, value) ∷ []
      → lent_members (first ++ put) ≡ with_last (lent_members (first ++ later)) name.now (tree value.now)
  put_later put put_is =
      ap (λ others. lent_members (first ++ others)) put_is
      ∙ (ap lent_members (sym (append_assoc first later ((name, value) ∷ []))) ∙ lent_push (first ++ later) name value)

or_none : (found : Option (Bor Json)) → option_or found None ≡ found
or_none None = refl
or_none (Some value) = refl

-- it is found from then on, and the others as before
module _ (pairs : Pairs) (name : Bor (List ℕ)) (value : Bor Json) (other : List ℕ) where
  by_test : (same : Bool) → (same ≡ true → value_of other pairs ≡ None)
      → cond same (Some value) (value_of other pairs) ≡ option_or (value_of other pairs) (cond same (Some value) None)
  by_test true none = ap (λ found. option_or found (Some value)) (sym (none refl))
  by_test false none = sym (or_none (value_of other pairs))

  pub value_of_push : value_of name.now pairs ≡ None
      → cond (bytes_eq name.now other) (Some value) (value_of other pairs)
      ≡ value_of other (pairs ++ (name, value) ∷ [])
  value_of_push new =
      by_test (bytes_eq name.now other)
      (λ same. subst (λ text. value_of text pairs ≡ None) ((bytes_eq-Decides name.now other).0 same) new)
      ∙ (ap (λ same. option_or (value_of other pairs) (cond same (Some value) None))
      (nat_list_eq_equiv.symm name.now other)
      ∙ sym (value_of_both other pairs ((name, value) ∷ [])))

-- ---- whether there are any ----

pub nil_by_length : {X : Type 0} (b : Bool) (xs : List X) → IsTrue b ↔ (length xs ≡ 0) → b ≡ is_nil xs
nil_by_length true [] same = refl
nil_by_length false [] same = same.1 refl
nil_by_length true (x ∷ xs) same = let none = same.0 refl in absurd (omega arith)
nil_by_length false (x ∷ xs) same = refl

pub nil_by_equation : {X : Type 0} (b : Bool) (xs : List X) → IsTrue b ↔ (xs ≡ []) → b ≡ is_nil xs
nil_by_equation true xs same = sym (ap is_nil (same.0 refl))
nil_by_equation false [] same = same.1 refl
nil_by_equation false (x ∷ xs) same = refl

pub some_of_both : (first later : Pairs)
    → has_members (lent_members (first ++ later)) ≡ (if is_nil first then not (is_nil later) else true)
some_of_both [] [] = refl
some_of_both [] (pair ∷ later) = refl
some_of_both (pair ∷ first) later = refl
