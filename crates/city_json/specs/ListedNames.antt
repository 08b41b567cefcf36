-- Names of members as they are listed while their objects are open.
use Rattle.std.specs.Prelude.{ℕ, List, map, slice_range}

-- a name between two places of the text, or decoded
pub data ListedName : Type 0 where
  as_written : ℕ → ℕ → ListedName
  as_decoded : List ℕ → ListedName

-- the bytes of the decoded name
abbrev pub bytes_in : List ℕ → ListedName → List ℕ
bytes_in text (as_written from end) = slice_range text from end
bytes_in text (as_decoded bytes) = bytes

-- the names of which these are listed of a text
abbrev pub names_in : List ℕ → List ListedName → List (List ℕ)
names_in text listed = map (bytes_in text) listed
