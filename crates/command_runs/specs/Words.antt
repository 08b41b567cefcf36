-- What is said of words that are not taken as they are.
use Rattle.std.specs.Prelude.{ℕ, List, codes}

-- a word is not UTF-8
abbrev pub not_utf8_text : List ℕ
not_utf8_text = codes "citymerge: a word is not UTF-8\n"
