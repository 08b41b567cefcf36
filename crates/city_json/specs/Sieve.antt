-- Two sets of bits, in each of which a number has its place.
use Rattle.std.specs.Prelude.{◌≡◌, ◌*◌, ◌/◌, ◌%◌, ◌^◌, ℕ, List, length, slice_index, bit_xor}
use Rattle.std.specs.Int.{bit_at}

-- its upper half folded onto the lower one, times 2^64 divided by the golden ratio
unfoldable pub spread : ℕ → ℕ
spread number = bit_xor number (number / 2 ^ 32) * 0x9e3779b97f4a7c15 % 2 ^ 64

-- the bit at a place, from which on the words are gone through again and again
unfoldable pub bit_of : List ℕ → ℕ → ℕ
bit_of words place = bit_at (slice_index words (place / 64 % length words)) (place % 64)

-- the bits of the number are set in both
pub record IsMarked (first second : List ℕ) (number : ℕ) : Type 0 where
  pub in_first : bit_of first (spread number / 2 ^ 50) ≡ 1
  pub in_second : bit_of second (spread number / 2 ^ 36) ≡ 1
