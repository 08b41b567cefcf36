-- A table of names.
use Rattle.std.specs.Prelude.{◌≡◌, ◌<◌, ◌-◌, ℕ, List, Some, All, Contains, get_or, length, map, slice_get, slice_range}
use Rattle.std.specs.Borrow.{Bor}
use Rattle.std.specs.Cmp.Lexicographic.{slice_cmp}
use Rattle.std.specs.List.Sorted.{IsSortedBy}
use Rattle.std.specs.Ordering.{is_lt, nat_cmp}
use Rattle.city_json.specs.declared.compacting.places.MemberPlace.{MemberPlace}

-- pairs of a name and a place, in the order of the names: each name of the list with its place
pub record IsTable (names : List (List ℕ)) (pairs : List (Bor (List ℕ) × ℕ)) : Type 0 where
  pub rises : IsSortedBy (λ x y. is_lt (slice_cmp nat_cmp x.0.now y.0.now)) pairs
  pub right : All (λ pair. slice_get names pair.1 ≡ Some pair.0.now) pairs
  pub whole : (k : ℕ) (name : List ℕ) → slice_get names k ≡ Some name → (pair : Bor (List ℕ) × ℕ) × Contains pairs pair × (pair.0.now ≡ name)

abbrev pub without_last : List ℕ → List ℕ
without_last bytes = slice_range bytes 0 (length bytes - 1)

-- the name, with its marks, of the member that lies in a part of a text: a colon stands after it
abbrev pub name_there : List ℕ → MemberPlace → List ℕ
name_there text part = without_last (slice_range text part.at part.value)

-- that of the member at a place; none, where there is no such member
abbrev pub name_in : List ℕ → List MemberPlace → ℕ → List ℕ
name_in text parts at = name_there text (get_or parts at (record { at = 0; value = 0; end = 0 }))

abbrev pub with_name : List ℕ → List MemberPlace → ℕ → Bor (List ℕ) × ℕ
with_name text parts at = (record { ref_ptr = (0, 0); now = name_in text parts at }, at)

-- the members at these places, each with its name
abbrev pub names_with : List ℕ → List MemberPlace → List ℕ → List (Bor (List ℕ) × ℕ)
names_with text parts order = map (with_name text parts) order

-- the first numbers, in their order
abbrev pub AreFirst : ℕ → List ℕ → Type 0
AreFirst count places = (length places ≡ count) × ((k d : ℕ) → k < count → get_or places k d ≡ k)
