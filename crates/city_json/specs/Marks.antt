-- The marks between the parts of an object, as the compactor takes them.
use Rattle.std.specs.Prelude.{◌≡◌, ◌++◌, ◌<◌, ◌+◌, ℕ, List, [], ◌∷◌, length, slice_index}
use Rattle.city_json.specs.Bytes.{close_brace}
use Rattle.city_json.specs.Reading.{after_white}

-- white space, a mark and white space, and then `rest`; the mark was written after `before`
pub record TakenMark (mark : ℕ) (b rest before after : List ℕ) : Type 0 where
  pub next : List ℕ
  pub is_next : after_white b ≡ mark ∷ next
  pub starts : rest ≡ after_white next
  pub is_shown : after ≡ before ++ mark ∷ []

-- white space and the brace that closes an object, and then `rest`; the brace was written after `before`
pub record TakenBrace (b rest before after : List ℕ) : Type 0 where
  pub is_next : after_white b ≡ close_brace ∷ rest
  pub is_shown : after ≡ before ++ close_brace ∷ []

-- the mark stands at a place, and after it a byte above the blank, 32
pub record IsBareMark (mark : ℕ) (text : List ℕ) (at : ℕ) : Type 0 where
  pub within : at + 1 < length text
  pub is : slice_index text at ≡ mark
  pub next : 32 < slice_index text (at + 1)

-- the same, with one blank between the two
pub record IsMarkBeforeBlank (mark : ℕ) (text : List ℕ) (at : ℕ) : Type 0 where
  pub within : at + 2 < length text
  pub is : slice_index text at ≡ mark
  pub blank : slice_index text (at + 1) ≡ 32
  pub next : 32 < slice_index text (at + 2)
