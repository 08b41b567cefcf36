-- The compact text of a value: the one spelling that is written.
use Rattle.std.specs.Prelude.{◌++◌, ◌/◌, ◌%◌, ◌==◌, ℕ, List, [], ◌∷◌, true, false, codes, nat_lt, if◌then◌else◌}
use Rattle.std.specs.Char.{digit_char}
use Rattle.std.specs.List.{flat_map}
use Rattle.city_json.specs.Bytes.{quotation_mark, backslash, small_b, small_f, small_n, small_r, small_t, small_u, digit_zero, backspace, tab, newline, form_feed, carriage_return, space, open_bracket, close_bracket, open_brace, close_brace, comma, colon}
use Rattle.city_json.specs.Tree.{Tree, null, boolean, number, string, array, object, ItemTrees, no_items, item, MemberTrees, no_members, member}

-- how a byte of a text is written: by two characters, by `\u00` and two hexadecimal digits in lower case, or as itself
abbrev pub written : ℕ → List ℕ
written b =
    if b == quotation_mark then backslash ∷ quotation_mark ∷ []
    else (if b == backslash then backslash ∷ backslash ∷ []
    else (if b == backspace then backslash ∷ small_b ∷ []
    else (if b == form_feed then backslash ∷ small_f ∷ []
    else (if b == newline then backslash ∷ small_n ∷ []
    else (if b == carriage_return then backslash ∷ small_r ∷ []
    else (if b == tab then backslash ∷ small_t ∷ []
    else (if nat_lt b space then backslash ∷ small_u ∷ digit_zero ∷ digit_zero ∷ digit_char (b / 16)
    ∷ digit_char (b % 16) ∷ []
    else b ∷ [])))))))

abbrev pub quoted : List ℕ → List ℕ
quoted text = quotation_mark ∷ flat_map written text ++ quotation_mark ∷ []

-- no white space, items and members in their order, numbers as they are written
abbrev mutual
  pub compact : Tree → List ℕ
  compact null = codes "null"
  compact (boolean true) = codes "true"
  compact (boolean false) = codes "false"
  compact (number text) = text
  compact (string text) = quoted text
  compact (array items) = open_bracket ∷ compact_items items ++ close_bracket ∷ []
  compact (object members) = open_brace ∷ compact_members members ++ close_brace ∷ []

  pub compact_items : ItemTrees → List ℕ
  compact_items no_items = []
  compact_items (item value others) = compact value ++ compact_more_items others

  -- with a comma before each
  pub compact_more_items : ItemTrees → List ℕ
  compact_more_items no_items = []
  compact_more_items (item value others) = comma ∷ compact value ++ compact_more_items others

  pub compact_members : MemberTrees → List ℕ
  compact_members no_members = []
  compact_members (member name value others) = quoted name ++ colon ∷ compact value ++ compact_more_members others

  pub compact_more_members : MemberTrees → List ℕ
  compact_more_members no_members = []
  compact_more_members (member name value others) =
      comma ∷ quoted name ++ colon ∷ compact value ++ compact_more_members others
