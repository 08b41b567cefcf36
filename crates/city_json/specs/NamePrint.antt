-- A print of a member's name: names with different prints differ, whatever the print is.
use Rattle.std.specs.Prelude.{◌-◌, ◌*◌, ◌/◌, ◌%◌, ◌^◌, ℕ, List, length, take, drop, fold, bit_xor, nat_le, if◌then◌else◌}
use Rattle.std.specs.Int.{from_le_bytes, rotate_left, w64}
use Rattle.std.specs.Simd.{first_chunks}
use Rattle.city_json.specs.declared.compacting.names.Print.{Print}
use Rattle.city_json.specs.declared.compacting.names.Print.TheVariants.{Ends, All}

-- the bytes one after another, each eight bits on
unfoldable pub short_print_of : List ℕ → ℕ
short_print_of name = fold (λ print byte. bit_xor (rotate_left w64 print 8) byte) 0 name

-- of longer names the first eight bytes and the last eight
unfoldable pub ends_print : List ℕ → ℕ
ends_print name =
    if nat_le 8 (length name) then bit_xor (rotate_left w64 (from_le_bytes w64 (take 8 name)) 24)
    (from_le_bytes w64 (drop (length name - 8) name))
    else short_print_of name

-- a print of what came before, and a word after it, as FxHash mixes them
unfoldable pub mixed_print : ℕ → ℕ → ℕ
mixed_print print word = bit_xor (rotate_left w64 print 5) word * 0x517cc1b727220a95 % 2 ^ 64

abbrev pub words_print : ℕ → List (List ℕ) → ℕ
words_print before words = fold (λ print word. mixed_print print (from_le_bytes w64 word)) before words

-- of longer names their length, the words of eight bytes from the front on, and the last eight bytes
unfoldable pub print_of : List ℕ → ℕ
print_of name =
    if nat_le 8 (length name) then mixed_print
    (words_print (length name) (first_chunks 8 (length name / 8) name))
    (from_le_bytes w64 (drop (length name - 8) name))
    else short_print_of name

abbrev pub print_by : Print → List ℕ → ℕ
print_by Ends name = ends_print name
print_by All name = print_of name
