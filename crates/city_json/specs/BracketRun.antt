-- A text that is gone through front by front, to count its brackets.
use Rattle.std.specs.Prelude.{◌≡◌, ◌++◌, ℕ, Bool, true, false, List, [], ◌∷◌, count_by, if◌then◌else◌}
use Rattle.city_json.specs.Depth.{Place, outside, inside, escaped, place_after, unquoted, is_opening, is_closing}

abbrev pub place_of : Bool → Place
place_of in_string = if in_string then inside else outside

abbrev pub is_outside : Place → Bool
is_outside outside = true
is_outside inside = false
is_outside escaped = false

-- for each byte, whether what follows it stands outside strings
abbrev pub outside_after : Place → List ℕ → List Bool
outside_after place [] = []
outside_after place (b ∷ bytes) = is_outside (place_after place b) ∷ outside_after (place_after place b) bytes

-- So many brackets stand outside strings in the front, and the back then begins in a string or not.
pub record IsBracketRun (in_string : Bool) (front back : List ℕ) (opened closed : ℕ)
    (ends_in_string : Bool) : Type 0 where
  pub opened_is : opened ≡ count_by is_opening (unquoted (place_of in_string) front)
  pub closed_is : closed ≡ count_by is_closing (unquoted (place_of in_string) front)
  pub goes_on : unquoted (place_of in_string) (front ++ back) ≡ unquoted (place_of in_string) front
      ++ unquoted (place_of ends_in_string) back
