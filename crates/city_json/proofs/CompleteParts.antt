-- What is spelled so is read by the functions on lists: first bytes, numbers, white space, one step of items and
-- members.
use Rattle.std.proofs.Common.{◌≡◌, ◌++◌, ◌==◌, ◌∙◌, ◌≤◌, ℕ, zero, suc, true, false, List, ◌∷◌, Option, Some, None, length, length-append, refl, ap, arith, []}
use Rattle.std.proofs.lemmas.Bool.Decides.{nat_tests}
use Rattle.std.proofs.lemmas.List.Prefix.{front_rest}
use Rattle.city_json.specs.Bytes.{comma, colon, open_bracket, open_brace, close_bracket, close_brace, quotation_mark}
use Rattle.city_json.specs.Grammar.{IsWhite, IsBlank, SpellsValue, SpellsMoreItems, SpellsMoreMembers}
use Rattle.city_json.specs.Number.{IsNumber}
use Rattle.city_json.specs.NumberAt.{number_at, EndsNumber, continues_number, StartsNumber, starts_number}
use Rattle.city_json.specs.Reading.{is_white, after_white, after_byte, start_of, word_at, scalar_at, items_at, array_at, member_at, members_at, object_at, value_at, value_from}
use Rattle.city_json.specs.ReadString.{string_at}
use Rattle.city_json.specs.Strings.{SpellsString}
use Rattle.city_json.specs.Tree.{Tree, null, boolean, number, string, array, object, ItemTrees, no_items, item, MemberTrees, no_members, member}
use Rattle.city_json.specs.declared.reading.Start.{Start}
use Rattle.city_json.specs.declared.reading.Start.TheVariants as start
use Rattle.city_json.proofs.NumberLaws as number_laws
use Rattle.city_json.proofs.Scanning.{IsClear, after_white-blank, starts_with-append}
use Rattle.city_json.proofs.SpelledString.{string_at-complete}

-- A value begins with such a byte: no white space, and nothing that closes.
pub record StartsValue (c : ℕ) : Type 0 where
  pub dark : is_white c ≡ false
  pub no_bracket : (c == close_bracket) ≡ false
  pub no_brace : (c == close_brace) ≡ false

starts_minus_or_digit : (c : ℕ) → starts_number c ≡ true → StartsValue c × (start_of c ≡ start.Number)
starts_minus_or_digit c is = (
  record {
    dark = grind (arith, nat_tests);
    no_bracket = grind (arith, nat_tests);
    no_brace = grind (arith, nat_tests);
  },
  grind (arith, nat_tests),
)

-- the first byte of a text
pub record Begins (text : List ℕ) : Type 0 where
  pub first : ℕ
  pub others : List ℕ
  pub is : text ≡ first ∷ others
  pub starts : StartsValue first

begins_number : (text : List ℕ) → StartsNumber text → Begins text
begins_number [] none = absurd none
begins_number (c ∷ text) is = record { first = c; others = text; is = refl; starts = (starts_minus_or_digit c is).0 }

pub begins : (value : Tree) (text : List ℕ) → SpellsValue value text → Begins text
begins null text is = record {
  first = _;
  others = _;
  is = is;
  starts =
      record { dark = refl; no_bracket = refl; no_brace = refl };
}
begins (boolean true) text is =
    record { first = _; others = _; is = is; starts = record { dark = refl; no_bracket = refl; no_brace = refl } }
begins (boolean false) text is =
    record { first = _; others = _; is = is; starts = record { dark = refl; no_bracket = refl; no_brace = refl } }
begins (number n) text is = begins_number text (rw is.0 (number_laws.number_starts n is.1))
begins (string s) text is = record {
  first = quotation_mark;
  others = _;
  is = is.4;
  starts =
      record { dark = refl; no_bracket = refl; no_brace = refl };
}
begins (array items) text is =
    record {
      first = open_bracket;
      others = _;
      is = is.1;
      starts =
          record { dark = refl; no_bracket = refl; no_brace = refl };
    }
begins (object all) text is = record {
  first = open_brace;
  others = _;
  is = is.1;
  starts =
      record { dark = refl; no_bracket = refl; no_brace = refl };
}

-- a number ends before white space
pub white_ends : (c : ℕ) → IsWhite c → continues_number c ≡ false
white_ends c white = grind (arith, nat_tests)

pub ends_blank : (white b : List ℕ) → IsBlank white → EndsNumber b → EndsNumber (white ++ b)
ends_blank [] b blank ends = ends
ends_blank (c ∷ white) b blank ends = white_ends c blank.0

-- white space before a value is passed over
pub skips : (white text b : List ℕ) → IsBlank white → Begins text → after_white (white ++ (text ++ b)) ≡ text ++ b
skips white text b blank begin =
    let clear : IsClear (text ++ b) = rw begin.is begin.starts.dark in
    after_white-blank white (text ++ b) blank clear

pub no_close : (close : ℕ) (text b : List ℕ) → (begin : Begins text) → (begin.first == close) ≡ false
    → after_byte close (text ++ b) ≡ None
no_close close text b begin apart = rw (begin.is, apart) refl

-- one step of reading items, and of reading members
pub items_at-last : (read : List ℕ → Option (Tree × List ℕ)) (n : ℕ) (b beyond rest : List ℕ) (value : Tree)
    → read b ≡ Some (value, beyond) → after_white beyond ≡ close_bracket ∷ rest
    → items_at read (suc n) b ≡ Some (item value no_items, rest)
unfolding items_at
items_at-last read n b beyond rest value found closes = rw (found, closes) refl

pub items_at-more : (read : List ℕ → Option (Tree × List ℕ)) (n : ℕ) (b beyond after next rest : List ℕ) (value : Tree)
    (others : ItemTrees) → read b ≡ Some (value, beyond) → after_white beyond ≡ comma ∷ after → after_white after ≡ next
    → items_at read n next ≡ Some (others, rest) → items_at read (suc n) b ≡ Some (item value others, rest)
unfolding items_at
items_at-more read n b beyond after next rest value others found goes begins more = rw (found, goes, begins, more) refl

pub members_at-last : (read : List ℕ → Option (Tree × List ℕ)) (n : ℕ) (b beyond rest : List ℕ) (named : List ℕ × Tree)
    → member_at read b ≡ Some (named, beyond) → after_white beyond ≡ close_brace ∷ rest
    → members_at read (suc n) b ≡ Some (member named.0 named.1 no_members, rest)
unfolding members_at
members_at-last read n b beyond rest named found closes = rw (found, closes) refl

pub members_at-more : (read : List ℕ → Option (Tree × List ℕ)) (n : ℕ) (b beyond after next rest : List ℕ)
    (named : List ℕ
    × Tree) (others : MemberTrees) → member_at read b ≡ Some (named, beyond) → after_white beyond ≡ comma ∷ after
    → after_white after ≡ next → members_at read n next ≡ Some (others, rest)
    → members_at read (suc n) b ≡ Some (member named.0 named.1 others, rest)
unfolding members_at
members_at-more read n b beyond after next rest named others found goes begins more =
    rw (found, goes, begins, more) refl

-- the pieces of a member, one after the other
pub member_at-pieces : (read : List ℕ → Option (Tree × List ℕ)) (b text beyond after next rest name : List ℕ)
    (value : Tree)
    → b ≡ quotation_mark ∷ text → string_at text ≡ Some (name, beyond) → after_white beyond ≡ colon ∷ after
    → after_white after ≡ next → read next ≡ Some (value, rest) → member_at read b ≡ Some ((name, value), rest)
member_at-pieces read b text beyond after next rest name value opens named goes begins found =
    rw (opens, named, goes, begins, found) refl

-- how many there are
abbrev pub item_count : ItemTrees → ℕ
item_count no_items = 0
item_count (item value others) = suc (item_count others)

abbrev pub member_count : MemberTrees → ℕ
member_count no_members = 0
member_count (member name value others) = suc (member_count others)

pub few_items : (items : ItemTrees) (b : List ℕ) → SpellsMoreItems items b → item_count items ≤ length b
few_items no_items b is = omega arith
few_items (item value others) b is = rw is.2 (simp length-append (omega (arith, few_items others is.1 is.4)))

pub few_members : (members : MemberTrees) (b : List ℕ) → SpellsMoreMembers members b → member_count members ≤ length b
few_members no_members b is = omega arith
few_members (member name value others) b is = rw is.2 (simp length-append (omega (arith, few_members others is.1 is.4)))

-- what stands after an item or a member ends a number
pub ends_item : (others : ItemTrees) (b rest : List ℕ) → SpellsMoreItems others b
    → EndsNumber (b ++ close_bracket ∷ rest)
ends_item no_items b rest is = rw is refl
ends_item (item value others) b rest is = rw is.2 refl

pub ends_member : (others : MemberTrees) (b rest : List ℕ) → SpellsMoreMembers others b
    → EndsNumber (b ++ close_brace ∷ rest)
ends_member no_members b rest is = rw is refl
ends_member (member name value others) b rest is = rw is.2 refl

-- a scalar is read at any depth
pub scalar_read : (levels : ℕ) (c : ℕ) (b : List ℕ) (kind : Start) → start_of c ≡ kind → (kind ≡ start.List → ⊥)
    → (kind ≡ start.Map → ⊥) → value_at levels (c ∷ b) ≡ scalar_at kind (c ∷ b)
unfolding value_at
scalar_read zero c b kind is list map = rw is refl
scalar_read (suc levels) c b kind is list map = rw is (scalar kind list map)
  where
    scalar : (kind : Start) → (kind ≡ start.List → ⊥) → (kind ≡ start.Map → ⊥)
        → value_from (value_at levels) kind (c ∷ b) ≡ scalar_at kind (c ∷ b)
    scalar start.List list map = absurd (list refl)
    scalar start.Map list map = absurd (map refl)
    scalar _ list map = refl

pub array_read : (levels : ℕ) (b : List ℕ) → value_at (suc levels) (open_bracket ∷ b) ≡ array_at (value_at levels) b
unfolding value_at
array_read levels b = refl

pub object_read : (levels : ℕ) (b : List ℕ) → value_at (suc levels) (open_brace ∷ b) ≡ object_at (value_at levels) b
unfolding value_at
object_read levels b = refl

pub word_read : (word rest : List ℕ) (value : Tree) → word_at word value (word ++ rest) ≡ Some (value, rest)
word_read word rest value = rw (starts_with-append word rest)
    (ap (λ b. Some (value, b)) (front_rest (word ++ rest) word rest refl))

number_begun : (levels : ℕ) (text rest : List ℕ) → StartsNumber text → number_at (text ++ rest) ≡ Some (text, rest)
    → value_at levels (text ++ rest) ≡ Some (number text, rest)
number_begun levels [] rest starts found = absurd starts
number_begun levels (c ∷ text) rest starts found =
    scalar_read levels c (text ++ rest) start.Number (starts_minus_or_digit c starts).1 (λ e. cc) (λ e. cc)
    ∙ rw found refl

pub number_read : (levels : ℕ) (text rest : List ℕ) → IsNumber text → EndsNumber rest
    → value_at levels (text ++ rest) ≡ Some (number text, rest)
number_read levels text rest is ends =
    number_begun levels text rest (number_laws.number_starts text is) (number_laws.complete text rest is ends)

pub string_read : (levels : ℕ) (text s rest : List ℕ) → SpellsString text (quotation_mark ∷ s)
    → value_at levels (quotation_mark ∷ (s ++ rest)) ≡ Some (string text, rest)
string_read levels text s rest spells =
    scalar_read levels quotation_mark (s ++ rest) start.Text refl (λ e. cc) (λ e. cc)
    ∙ rw (string_at-complete text s rest spells) refl

pub array_empty : (read : List ℕ → Option (Tree × List ℕ)) (b rest : List ℕ) → after_white b ≡ close_bracket ∷ rest
    → array_at read b ≡ Some (array no_items, rest)
array_empty read b rest is = rw is refl

pub array_some : (read : List ℕ → Option (Tree × List ℕ)) (b next rest : List ℕ) (items : ItemTrees)
    → after_white b ≡ next
    → after_byte close_bracket next ≡ None → items_at read (length next) next ≡ Some (items, rest)
    → array_at read b ≡ Some (array items, rest)
array_some read b next rest items is none found = rw (is, none, found) refl

pub object_empty : (read : List ℕ → Option (Tree × List ℕ)) (b rest : List ℕ) → after_white b ≡ close_brace ∷ rest
    → object_at read b ≡ Some (object no_members, rest)
object_empty read b rest is = rw is refl

pub object_some : (read : List ℕ → Option (Tree × List ℕ)) (b next rest : List ℕ) (all : MemberTrees)
    → after_white b ≡ next
    → after_byte close_brace next ≡ None → members_at read (length next) next ≡ Some (all, rest)
    → object_at read b ≡ Some (object all, rest)
object_some read b next rest all is none found = rw (is, none, found) refl
