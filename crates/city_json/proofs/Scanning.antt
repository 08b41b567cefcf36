-- White space, single bytes and words: what the functions on lists find is what stands there.
use Rattle.std.proofs.Common.{◌≡◌, ◌⊎◌, ◌++◌, ◌==◌, ℕ, Bool, true, false, cond, List, [], ◌∷◌, Option, Some, None, option_and_then, length, drop, refl, ap, inl, inr, arith, nat_eq, eqb}
use Rattle.std.specs.List.{starts_with}
use Rattle.std.proofs.lemmas.Bool.{eqb-true, eq-eqb, and_parts, false≢true}
use Rattle.std.proofs.lemmas.Option.{none-some, same_Some}
use Rattle.std.proofs.lemmas.Bool.Decides.{nat_tests}
use Rattle.city_json.specs.Bytes.{comma, open_bracket, open_brace, quotation_mark}
use Rattle.city_json.specs.Grammar.{IsWhite, IsBlank}
use Rattle.city_json.specs.Reading.{is_white, after_white, mark_at, after_byte, start_of}
use Rattle.city_json.specs.declared.reading.AfterItem.{AfterItem}
use Rattle.city_json.specs.declared.reading.AfterItem.TheVariants as mark
use Rattle.city_json.specs.declared.reading.Start.TheVariants as start

-- what both parts of a step gave
pub bind_some : {A B : Type 0} (o : Option A) (f : A → Option B) (y : B) → option_and_then f o ≡ Some y → (x : A)
    × (o ≡ Some x) × (f x ≡ Some y)
bind_some None f y is = cc
bind_some (Some x) f y is = (x, refl, is)

pub is_white-IsWhite : (b : ℕ) → is_white b ≡ true → IsWhite b
is_white-IsWhite b white = grind (arith, nat_tests)

pub IsWhite-is_white : (b : ℕ) → IsWhite b → is_white b ≡ true
IsWhite-is_white b white = grind (arith, nat_tests)

-- the bytes are white space and what stands after it
pub record SkipsWhite (b : List ℕ) : Type 0 where
  pub white : List ℕ
  pub blank : IsBlank white
  pub splits : b ≡ white ++ after_white b

pub after_white-splits : (b : List ℕ) → SkipsWhite b
after_white-splits [] = record { white = []; blank = tt; splits = refl }
after_white-splits (c ∷ b) = one_more c b (is_white c) refl (after_white-splits b)
  where
    one_more : (c : ℕ) (b : List ℕ) (white : Bool) → is_white c ≡ white → SkipsWhite b → SkipsWhite (c ∷ b)
    one_more c b true is rest = record {
      white = c ∷ rest.white;
      blank = (is_white-IsWhite c is, rest.blank);
      splits =
          rw is (ap (λ l. c ∷ l) rest.splits);
    }
    one_more c b false is rest = record { white = []; blank = tt; splits = rw is refl }

-- No white space stands at the front.
abbrev pub IsClear : List ℕ → Type 0
IsClear [] = Unit {0}
IsClear (c ∷ b) = is_white c ≡ false

pub after_white-clear : (b : List ℕ) → IsClear b → after_white b ≡ b
after_white-clear [] clear = refl
after_white-clear (c ∷ b) clear = rw clear refl

pub after_white-blank : (white b : List ℕ) → IsBlank white → IsClear b → after_white (white ++ b) ≡ b
after_white-blank [] b blank clear = after_white-clear b clear
after_white-blank (c ∷ white) b blank clear = rw (IsWhite-is_white c blank.0) (after_white-blank white b blank.1 clear)

-- which way a test went
pub chosen : {X : Type 0} (test : Bool) (x y z : X) → cond test x y ≡ z → ((test ≡ true) × (x ≡ z))
    ⊎ ((test ≡ false) × (y ≡ z))
chosen true x y z is = inl (refl, is)
chosen false x y z is = inr (refl, is)

unlike : {X : Type 0} (a b : AfterItem) (x y : List ℕ) → (a ≡ b → ⊥) → ◌≡◌ {A = AfterItem × List ℕ} (a, x) (b, y) → X
unlike a b x y apart is = absurd (apart (ap (λ p. p.0) is))

pub mark_at-comma : (close : ℕ) (b rest : List ℕ) → mark_at close b ≡ (mark.Comma, rest) → b ≡ comma ∷ rest
mark_at-comma close [] rest is = unlike mark.Neither mark.Comma [] rest (λ e. cc) is
mark_at-comma close (c ∷ b) rest is = elim (chosen (c == comma) (mark.Comma, b) _ _ is) [
  | inl p ↦ rw (eqb-true c comma p.0, ap (λ q. q.1) p.1) refl
  | inr p ↦ elim (chosen (c == close) (mark.Close, b) (mark.Neither, c ∷ b) (mark.Comma, rest) p.1) [
    | inl q ↦ unlike mark.Close mark.Comma b rest (λ e. cc) q.1
    | inr q ↦ unlike mark.Neither mark.Comma (c ∷ b) rest (λ e. cc) q.1
  ]
]

pub mark_at-close : (close : ℕ) (b rest : List ℕ) → mark_at close b ≡ (mark.Close, rest) → b ≡ close ∷ rest
mark_at-close close [] rest is = unlike mark.Neither mark.Close [] rest (λ e. cc) is
mark_at-close close (c ∷ b) rest is = elim (chosen (c == comma) (mark.Comma, b) _ _ is) [
  | inl p ↦ unlike mark.Comma mark.Close b rest (λ e. cc) p.1
  | inr p ↦ elim (chosen (c == close) (mark.Close, b) (mark.Neither, c ∷ b) (mark.Close, rest) p.1) [
    | inl q ↦ rw (eqb-true c close q.0, ap (λ r. r.1) q.1) refl
    | inr q ↦ unlike mark.Neither mark.Close (c ∷ b) rest (λ e. cc) q.1
  ]
]

pub after_byte-some : (wanted : ℕ) (b rest : List ℕ) → after_byte wanted b ≡ Some rest → b ≡ wanted ∷ rest
after_byte-some wanted [] rest is = cc
after_byte-some wanted (c ∷ b) rest is = elim (chosen (c == wanted) (Some b) None (Some rest) is) [
  | inl p ↦ rw (eqb-true c wanted p.0, same_Some b rest p.1) refl
  | inr p ↦ absurd (none-some rest p.1)
]

pub starts_with-splits : (b word : List ℕ) → starts_with nat_eq b word ≡ true → b ≡ word ++ drop (length word) b
starts_with-splits b [] is = refl
starts_with-splits [] (w ∷ word) is = absurd (false≢true is)
starts_with-splits (c ∷ b) (w ∷ word) is =
    let parts = and_parts (eqb w c) (starts_with nat_eq b word) is in
    rw (eqb-true w c parts.0) (ap (λ l. c ∷ l) (starts_with-splits b word parts.1))

pub starts_with-append : (word rest : List ℕ) → starts_with nat_eq (word ++ rest) word ≡ true
starts_with-append [] rest = refl
starts_with-append (w ∷ word) rest = rw (eq-eqb w w refl) (starts_with-append word rest)

pub start_of-list : (c : ℕ) → start_of c ≡ start.List → c ≡ open_bracket
start_of-list c is = grind (arith, nat_tests)

pub start_of-map : (c : ℕ) → start_of c ≡ start.Map → c ≡ open_brace
start_of-map c is = grind (arith, nat_tests)

pub start_of-text : (c : ℕ) → start_of c ≡ start.Text → c ≡ quotation_mark
start_of-text c is = grind (arith, nat_tests)
