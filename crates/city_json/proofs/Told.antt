-- Whether names differ, as it is told, and whether they do.
use Rattle.std.proofs.Common.{◌≡◌, ◌↔◌, ◌&&◌, ◌++◌, ◌<◌, ◌∙◌, ℕ, Bool, true, false, List, [], ◌∷◌, Option, Some, None, Result, Ok, Err, Bor, codes, option_and_then, length, drop, if◌then◌else◌, refl, sym, ap, arith, not}
use Rattle.std.proofs.lemmas.Bool.{false≢true}
use Rattle.std.proofs.lemmas.List.{append_assoc}
use Rattle.std.proofs.lemmas.Slice.Eq.{bytes_eq-Decides}
use Rattle.std.specs.List.{starts_with}
use Rattle.std.specs.Prelude.{bytes_eq, nat_eq}
use Rattle.byte_streams.specs.declared.fault.Fault.{Fault}
use Rattle.city_json.specs.Distinct.{is_new_name, are_apart, is_distinct, are_distinct_items, are_distinct_members}
use Rattle.city_json.specs.Fits.{IsNewName, HasDistinctNames, IsDistinct, AreDistinctItems, AreDistinctMembers}
use Rattle.city_json.specs.Makes.{Makes, IsToldOf, onto_items, onto_members}
use Rattle.city_json.specs.Members.{names}
use Rattle.city_json.specs.NumberAt.{number_at}
use Rattle.city_json.specs.ReadString.{string_at}
use Rattle.city_json.specs.Reading.{word_at, scalar_at}
use Rattle.city_json.specs.Tree.{Tree, null, boolean, number, string, array, object, ItemTrees, no_items, item, MemberTrees, no_members, member}
use Rattle.city_json.specs.declared.reading.Start.{Start}
use Rattle.city_json.specs.declared.reading.Start.TheVariants as start

-- ---- both tests
both : (a b : Bool) (A B : Type 0) → (a ≡ true) ↔ A → (b ≡ true) ↔ B → ((a && b) ≡ true) ↔ (A × B)
both true true A B one other = (λ _. (one.0 refl, other.0 refl), λ _. refl)
both true false A B one other = (λ not. absurd (false≢true not), λ all. absurd (false≢true (other.1 all.1)))
both false b A B one other = (λ not. absurd (false≢true not), λ all. absurd (false≢true (one.1 all.0)))

-- ---- whether names differ
differs : (other name : List ℕ) → (not (bytes_eq other name) ≡ true) ↔ (name ≡ other → ⊥)
differs other name = by (bytes_eq other name) refl
  where
    by : (b : Bool) → bytes_eq other name ≡ b → (not b ≡ true) ↔ (name ≡ other → ⊥)
    by true e = (
      λ is. absurd (false≢true is),
      λ apart. absurd (apart (sym ((bytes_eq-Decides other name).0 e))),
    )
    by false e = (λ _ same. false≢true (sym e ∙ (bytes_eq-Decides other name).1 (sym same)), λ _. refl)

tells_new : (name : List ℕ) (members : MemberTrees)
    → (is_new_name name (names members) ≡ true) ↔ IsNewName name members
tells_new name no_members = (λ _. tt, λ _. refl)
tells_new name (member other value others) = both _ _ _ _ (differs other name) (tells_new name others)

pub tells_apart : (members : MemberTrees) → (are_apart (names members) ≡ true) ↔ HasDistinctNames members
tells_apart no_members = (λ _. tt, λ _. refl)
tells_apart (member name value others) = both _ _ _ _ (tells_new name others) (tells_apart others)

mutual
  pub tells_distinct : (value : Tree) → (is_distinct value ≡ true) ↔ IsDistinct value
  tells_distinct null = (λ _. tt, λ _. refl)
  tells_distinct (boolean b) = (λ _. tt, λ _. refl)
  tells_distinct (number text) = (λ _. tt, λ _. refl)
  tells_distinct (string text) = (λ _. tt, λ _. refl)
  tells_distinct (array items) = tells_distinct_items items
  tells_distinct (object members) = both _ _ _ _ (tells_apart members) (tells_distinct_members members)

  tells_distinct_items : (items : ItemTrees) → (are_distinct_items items ≡ true) ↔ AreDistinctItems items
  tells_distinct_items no_items = (λ _. tt, λ _. refl)
  tells_distinct_items (item value others) = both _ _ _ _ (tells_distinct value) (tells_distinct_items others)

  tells_distinct_members : (members : MemberTrees)
      → (are_distinct_members members ≡ true) ↔ AreDistinctMembers members
  tells_distinct_members no_members = (λ _. tt, λ _. refl)
  tells_distinct_members (member name value others) =
      both _ _ _ _ (tells_distinct value) (tells_distinct_members others)

-- members of these names
abbrev members_of : List (List ℕ) → MemberTrees
members_of [] = no_members
members_of (name ∷ others) = member name null (members_of others)

names-members_of : (listed : List (List ℕ)) → names (members_of listed) ≡ listed
names-members_of [] = refl
names-members_of (name ∷ others) = ap (λ l. name ∷ l) (names-members_of others)

-- a single name differs from all others
pub one_apart : (listed : List (List ℕ)) → length listed < 2 → are_apart listed ≡ true
one_apart [] few = refl
one_apart (name ∷ []) few = refl
one_apart (name ∷ (other ∷ others)) few = absurd (omega (arith, few))

-- whoever tells whether the names of members differ tells whether the names do
pub apart_as_members : (listed : List (List ℕ)) (answer : Bool)
    → ((members : MemberTrees) → names members ≡ listed → (answer ≡ true) ↔ HasDistinctNames members)
    → answer ≡ are_apart listed
apart_as_members listed answer tells = by answer (are_apart listed) refl refl
  where
    members : MemberTrees
    members = members_of listed

    is : names members ≡ listed
    is = names-members_of listed

    by : (a b : Bool) → answer ≡ a → are_apart listed ≡ b → a ≡ b
    by true true e f = refl
    by false false e f = refl
    by true false e f = absurd (false≢true (sym f ∙ ap are_apart (sym is)
        ∙ (tells_apart members).1 ((tells members is).0 e)))
    by false true e f = absurd (false≢true (sym e ∙ (tells members is).1 ((tells_apart members).0 (ap are_apart is
        ∙ f))))

-- ---- whether names differ so far
and_true : (a : Bool) → (a && true) ≡ a
and_true true = refl
and_true false = refl

and_and : (a b c : Bool) → (a && (b && c)) ≡ ((a && b) && c)
and_and true b c = refl
and_and false b c = refl

items_more : (before : Bool) (front : ItemTrees) (one : Tree)
    → ((before && are_distinct_items front) && is_distinct one)
    ≡ (before && are_distinct_items (onto_items front (item one no_items)))
items_more true no_items one = sym (and_true (is_distinct one))
items_more false no_items one = refl
items_more before (item value front) one =
    ap (λ b. b && is_distinct one) (and_and before (is_distinct value) (are_distinct_items front))
    ∙ items_more (before && is_distinct value) front one
    ∙ sym (and_and before (is_distinct value) (are_distinct_items (onto_items front (item one no_items))))

pub items-told : (before so_far next : Bool) (front : ItemTrees) (one : Tree)
    → so_far ≡ (before && are_distinct_items front) → next ≡ (so_far && is_distinct one)
    → next ≡ (before && are_distinct_items (onto_items front (item one no_items)))
items-told before so_far next front one told more =
    more ∙ ap (λ b. b && is_distinct one) told ∙ items_more before front one

members_more : (before : Bool) (front : MemberTrees) (one : List ℕ × Tree)
    → ((before && are_distinct_members front) && is_distinct one.1)
    ≡ (before && are_distinct_members (onto_members front (member one.0 one.1 no_members)))
members_more true no_members one = sym (and_true (is_distinct one.1))
members_more false no_members one = refl
members_more before (member name value front) one =
    ap (λ b. b && is_distinct one.1) (and_and before (is_distinct value) (are_distinct_members front))
    ∙ members_more (before && is_distinct value) front one
    ∙ sym (and_and before (is_distinct value)
    (are_distinct_members (onto_members front (member one.0 one.1 no_members))))

pub members-told : (before so_far next : Bool) (front : MemberTrees) (one : List ℕ × Tree)
    → so_far ≡ (before && are_distinct_members front) → next ≡ (so_far && is_distinct one.1)
    → next ≡ (before && are_distinct_members (onto_members front (member one.0 one.1 no_members)))
members-told before so_far next front one told more =
    more ∙ ap (λ b. b && is_distinct one.1) told ∙ members_more before front one

names_more : (front : MemberTrees) (one : List ℕ × Tree)
    → names (onto_members front (member one.0 one.1 no_members)) ≡ names front ++ one.0 ∷ []
names_more no_members one = refl
names_more (member name value front) one = ap (λ l. name ∷ l) (names_more front one)

pub members-named : (before so_far next : List (List ℕ)) (front : MemberTrees) (one : List ℕ × Tree)
    → so_far ≡ before ++ names front → next ≡ so_far ++ one.0 ∷ []
    → next ≡ before ++ names (onto_members front (member one.0 one.1 no_members))
members-named before so_far next front one named more =
    more ∙ ap (λ l. l ++ one.0 ∷ []) named ∙ append_assoc before (names front) (one.0 ∷ [])
    ∙ ap (λ l. before ++ l) (sym (names_more front one))

-- ---- a scalar has no names
some_same : {A : Type 0} (x y : A) → Some x ≡ Some y → x ≡ y
some_same x y is = cc

word_distinct : (word : List ℕ) (value is : Tree) (bytes rest : List ℕ) → is_distinct value ≡ true
    → word_at word value bytes ≡ Some (is, rest) → is_distinct is ≡ true
word_distinct word value is bytes rest told = by (starts_with nat_eq bytes word)
  where
    by : (b : Bool) → ◌≡◌ {A = Option (Tree × List ℕ)} (if b then Some (value, drop (length word) bytes) else None)
        (Some (is, rest)) → is_distinct is ≡ true
    by true read =
        ap (λ p. is_distinct p.0) (sym (some_same {A = Tree × List ℕ} (value, drop (length word) bytes) (is, rest) read))
        ∙ told
    by false read = cc

text_distinct : (kind : List ℕ → Tree) → ((text : List ℕ) → is_distinct (kind text) ≡ true)
    → (found : Option (List ℕ × List ℕ)) (is : Tree) (rest : List ℕ)
    → ◌≡◌ {A = Option (Tree × List ℕ)} (option_and_then (λ p. Some (kind p.0, p.1)) found) (Some (is, rest))
    → is_distinct is ≡ true
text_distinct kind told None is rest read = cc
text_distinct kind told (Some p) is rest read =
    ap (λ q. is_distinct q.0) (sym (some_same {A = Tree × List ℕ} (kind p.0, p.1) (is, rest) read)) ∙ told p.0

scalar_distinct : (kind : Start) (bytes rest : List ℕ) (is : Tree) → scalar_at kind bytes ≡ Some (is, rest)
    → is_distinct is ≡ true
scalar_distinct start.Null bytes rest is read = word_distinct (codes "null") null is bytes rest refl read
scalar_distinct start.True bytes rest is read = word_distinct (codes "true") (boolean true) is bytes rest refl read
scalar_distinct start.False bytes rest is read = word_distinct (codes "false") (boolean false) is bytes rest refl read
scalar_distinct start.Number bytes rest is read = text_distinct number (λ text. refl) (number_at bytes) is rest read
scalar_distinct start.Text bytes rest is read = text_distinct string (λ text. refl) (string_at (drop 1 bytes)) is rest read
scalar_distinct start.List bytes rest is read = cc
scalar_distinct start.Map bytes rest is read = cc
scalar_distinct start.Other bytes rest is read = cc

pub scalar-told : {X : Type 0} (is : X → Tree → Type 0) (result : Result (X × Bor (List ℕ)) Fault) (kind : Start)
    (bytes : List ℕ) (before : Bool) → Makes is result (scalar_at kind bytes)
    → Makes (IsToldOf is is_distinct before before) result (scalar_at kind bytes)
scalar-told is (Ok made) kind bytes before (value, read, of) = (
  value,
  read,
  (
    of,
    sym (and_true before) ∙ ap (λ b. before && b) (sym (scalar_distinct kind bytes made.1.now value read)),
  ),
)
scalar-told is (Err fault) kind bytes before made = made
