-- Nested arrays of whole numbers in their compact text, byte by byte.
use Rattle.std.specs.Prelude.{◌≡◌, ◌++◌, ◌+◌, ◌-◌, ◌<◌, ◌≤◌, ◌&&◌, ◌||◌, ◌==◌, ℕ, zero, suc, Bool, true, false, cond, List, [], ◌∷◌, slice_range}
use Rattle.std.specs.Char.{is_ascii_digit}
use Rattle.std.specs.Str.Parse.{AllDigits}
use Rattle.city_json.specs.Bytes.{digit_zero, comma, open_bracket, close_bracket}
use Rattle.city_json.specs.Compact.{compact_items, compact_more_items}
use Rattle.city_json.specs.Fits.{items_depth, AreDistinctItems}
use Rattle.city_json.specs.Tree.{ItemTrees, no_items, item}
use Rattle.city_json.specs.Writable.{AreWritableItems}

-- where a place in an array is
pub data Stage : Type 0 where
  at_start : Stage
  after_comma : Stage
  after_item : Stage
  in_number : Bool → Stage

-- how what is left of an array's inner text looks, where these items are still to come; a number that began with a zero
-- has no further digits
abbrev pub IsLeft : Stage → ItemTrees → List ℕ → Type 0
IsLeft at_start items inner = inner ≡ compact_items items
IsLeft after_comma no_items inner = ⊥
IsLeft after_comma (item first others) inner = inner ≡ compact_items (item first others)
IsLeft after_item items inner = inner ≡ compact_more_items items
IsLeft (in_number zeroed) items inner = (digits : List ℕ) × AllDigits 10 digits × (zeroed ≡ true → digits ≡ [])
    × (inner ≡ digits ++ compact_more_items items)

-- the rest of an array, its bracket, and what is left of those around it
pub record Inside (levels : ℕ) (stage : Stage) (text : List ℕ) (Outer : List ℕ → Type 0) : Type 0 where
  pub items : ItemTrees
  pub inner : List ℕ
  pub rest : List ℕ
  pub splits : text ≡ inner ++ close_bracket ∷ rest
  pub left : IsLeft stage items inner
  pub within : items_depth items ≤ levels
  pub distinct : AreDistinctItems items
  pub writable : AreWritableItems items
  pub outer : Outer rest

-- so many arrays are open, and the text closes them all
abbrev pub Closes : ℕ → ℕ → Stage → List ℕ → Type 0
Closes zero levels stage text = text ≡ []
Closes (suc others) levels stage text = Inside levels stage text (λ rest. Closes others (suc levels) after_item rest)

abbrev pub is_place : ℕ → Bool
is_place c = is_ascii_digit c || ((c == comma) || ((c == open_bracket) || (c == close_bracket)))

-- a byte that may not stand after this one
abbrev pub is_wrong : ℕ → ℕ → Bool
is_wrong p c =
    ((p == open_bracket) && (c == comma))
    || (((p == close_bracket) && (is_ascii_digit c || (c == open_bracket)))
    || (((p == comma) && ((c == comma) || (c == close_bracket)))
    || (is_ascii_digit p && (c == open_bracket))))

-- a zero that begins a number
abbrev pub begins_zero : ℕ → ℕ → Bool
begins_zero p c = (c == digit_zero) && ((p == open_bracket) || (p == comma))

abbrev pub stage_of : ℕ → Bool → Stage
stage_of p zeroed = cond (p == open_bracket) at_start
    (cond (p == comma) after_comma (cond (p == close_bracket) after_item (in_number zeroed)))

abbrev pub up : ℕ → ℕ
up c = cond (c == open_bracket) 1 0

abbrev pub down : ℕ → ℕ
down c = cond (c == close_bracket) 1 0

-- each byte may stand where it stands
abbrev pub AreFine : ℕ → Bool → List ℕ → Type 0
AreFine p z [] = Unit {0}
AreFine p z (c ∷ cs) = (is_place c ≡ true) × (is_wrong p c ≡ false) × ((z && is_ascii_digit c) ≡ false)
    × AreFine c (begins_zero p c) cs

-- an array is open in front of each byte, and after each
abbrev pub StaysOpen : ℕ → List ℕ → Type 0
StaysOpen d [] = 0 < d
StaysOpen d (c ∷ cs) = (0 < d) × StaysOpen (d + up c - down c) cs

abbrev pub ups : List ℕ → ℕ
ups [] = 0
ups (c ∷ cs) = up c + ups cs

abbrev pub downs : List ℕ → ℕ
downs [] = 0
downs (c ∷ cs) = down c + downs cs

abbrev pub last_of : ℕ → List ℕ → ℕ
last_of p [] = p
last_of p (c ∷ cs) = last_of c cs

abbrev pub zeroed_by : ℕ → Bool → List ℕ → Bool
zeroed_by p z [] = z
zeroed_by p z (c ∷ cs) = zeroed_by c (begins_zero p c) cs

-- after an opening bracket stand, up to its closing one, items in their compact text
pub record IsItemsText (levels : ℕ) (text : List ℕ) (at end : ℕ) : Type 0 where
  pub items : ItemTrees
  pub written : slice_range text at end ≡ compact_items items ++ close_bracket ∷ []
  pub within : items_depth items ≤ levels
  pub distinct : AreDistinctItems items
  pub writable : AreWritableItems items

-- each mark but the last, one place on, after a first one
abbrev pub lag : Bool → List Bool → List Bool
lag m [] = []
lag m (n ∷ ns) = m ∷ lag n ns
