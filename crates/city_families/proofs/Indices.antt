-- Plain decimal texts of numbers.
use Rattle.std.proofs.Common.{◌≡◌, ◌<◌, ℕ, List, length, refl, true}
use Rattle.std.proofs.lemmas.Bool.{lt-ltb}
use Rattle.std.proofs.lemmas.Slice.Eq.{bytes_eq-Decides}
use Rattle.std.specs.List.{slice_index}
use Rattle.std.specs.Fmt.{decimal}
use Rattle.std.specs.Str.Parse.{digits_value}
use Rattle.city_families.specs.Relabelling.{is_index, own_text}

-- what the table has for a text
pub own_of_index : (table : List ℕ) (text : List ℕ) (k : ℕ) → k < length table → text ≡ decimal k
    → k ≡ digits_value 10 text → own_text table text ≡ decimal (slice_index table k)
own_of_index table text k inside is value = rw (is_true, ← value) refl
  where
    is_true : is_index (length table) text ≡ true
    is_true = rw (← value, (bytes_eq-Decides text (decimal k)).1 is) (lt-ltb k (length table) inside)
