-- What one stretch more or less, at the front, is to what a tile gives.
use Rattle.std.proofs.Common.{◌≡◌, ◌≤◌, ◌<◌, ◌+◌, ◌++◌, ℕ, Bool, true, false, List, [], ◌∷◌, Option, Some, None, filter_map, length, refl, ap, ◌∙◌, arith, length-append, ⊎_elim}
use Rattle.std.specs.List.{slice_split, onto_first}
use Rattle.std.proofs.lemmas.Grind.{common_steps}
use Rattle.std.proofs.lemmas.Bool.{cases_Bool}
use Rattle.std.proofs.lemmas.Bool.Decides.{nat_tests}
use Rattle.std.proofs.lemmas.List.Elements.{All-rest}
use Rattle.std.proofs.lemmas.List.Sums.{take_while-cons}
use Rattle.std.proofs.lemmas.List.Splits.{slice_split-cons_yes, slice_split-cons_no, slice_split_none, slice_split_at}
use Rattle.city_json.specs.Bytes.{newline}
use Rattle.byte_streams.specs.declared.fault.Fault.{Fault}
use Rattle.byte_streams.specs.declared.fault.Fault.TheVariants.{Read}
use Rattle.byte_streams.specs.declared.places.LineFault.{LineFault}
use Rattle.tile_stream.specs.declared.limits.Limits.{Limits}
use Rattle.tile_stream.specs.Stretches.{HasNoNewline, IsFineFront, IsFineLine}
use Rattle.tile_stream.specs.Tile.{Stretch, TileLines, stretch_of, is_newline, is_blank, fault_at, fault_between, faulty_line, first_of, end_number, lines_of_stretches, lines_from, number_stretches, line_before, only_fault, nothing_left}

module _ (limits : Limits) (size : ℕ) (fails : Bool) (stretch : Stretch) (others : List Stretch) where
  pub by_fault : (fault : Fault) → fault_at limits size fails stretch ≡ Some fault
      → lines_of_stretches limits size fails (stretch ∷ others) ≡ only_fault stretch.number fault
  by_fault fault is = rw (take_while-cons, is) refl

-- a list is split into a first part, which is no longer, and others
pub split-cons : (bytes : List ℕ) → (stretch : List ℕ)
    × ((others : List (List ℕ)) × ((slice_split is_newline bytes ≡ stretch ∷ others) × (length stretch ≤ length bytes)))
split-cons [] = ([], ([], (refl, omega arith)))
split-cons (b ∷ bytes) =
    let inner = split-cons bytes in
    ⊎_elim (λ yes. ([], (slice_split is_newline bytes, (slice_split-cons_yes is_newline b bytes yes, omega arith))))
    (λ no. (
      b ∷ inner.0,
      (
        inner.1.0,
        (
          slice_split-cons_no is_newline b bytes no ∙ ap (onto_first b) inner.1.1.0,
          omega (arith, inner.1.1.1),
        ),
      ),
    ))
    (cases_Bool (is_newline b))

-- there is a stretch
abbrev pub HasStretches : List Stretch → Type 0
HasStretches stretches = (next : Stretch) × (more : List Stretch) × (stretches ≡ next ∷ more)

pub has_stretches : (number start : ℕ) (bytes : List ℕ)
    → HasStretches (number_stretches number start (slice_split is_newline bytes))
has_stretches number start bytes =
    let split = split-cons bytes in (
      stretch_of number start split.0,
      number_stretches (number + 1) (start + length split.0 + 1) split.1.0,
      ap (number_stretches number start) split.1.1.0,
    )

-- a stretch that is not refused, and others after it
module _ (limits : Limits) (size : ℕ) (fails : Bool) (stretch : Stretch) (others : List Stretch)
    (fine : fault_at limits size fails stretch ≡ None) where
  abbrev ended_at : ℕ → TileLines → TileLines
  ended_at number left = record { lines = left.lines; fault = left.fault; last = number }

  abbrev end_after : ℕ
  end_after = end_number (first_of (filter_map (faulty_line limits size fails) others)) (stretch ∷ others)

  pub after_blank : is_blank stretch.bytes ≡ true
      → lines_of_stretches limits size fails (stretch ∷ others) ≡ ended_at end_after (lines_of_stretches limits size fails others)
  after_blank blank = rw (take_while-cons, fine, blank) refl

  pub after_line : is_blank stretch.bytes ≡ false
      → lines_of_stretches limits size fails (stretch ∷ others)
      ≡ ended_at end_after (line_before stretch (lines_of_stretches limits size fails others))
  after_line full = rw (take_while-cons, fine, full) refl

  same_end : (fault : Option LineFault) → HasStretches others → end_number fault (stretch ∷ others) ≡ end_number fault others
  same_end None has = rw has.2 refl
  same_end (Some at) has = refl

  ends_alike : HasStretches others → end_after ≡ end_number (first_of (filter_map (faulty_line limits size fails) others))
      others
  ends_alike has = same_end (first_of (filter_map (faulty_line limits size fails) others)) has

  pub by_blank : HasStretches others → is_blank stretch.bytes ≡ true
      → lines_of_stretches limits size fails (stretch ∷ others) ≡ lines_of_stretches limits size fails others
  by_blank has blank = after_blank blank ∙ ap (λ number. ended_at number (lines_of_stretches limits size fails others))
      (ends_alike has)

  pub by_line : HasStretches others → is_blank stretch.bytes ≡ false
      → lines_of_stretches limits size fails (stretch ∷ others) ≡ line_before stretch (lines_of_stretches limits size fails others)
  by_line has full = after_line full ∙ ap (λ number.
      ended_at number (line_before stretch (lines_of_stretches limits size fails others))) (ends_alike has)

-- what has no newline stands in front of the first stretch of what follows
split-front : (line bytes stretch : List ℕ) (others : List (List ℕ)) → HasNoNewline line
    → slice_split is_newline bytes ≡ stretch ∷ others → slice_split is_newline (line ++ bytes) ≡ (line ++ stretch) ∷ others
split-front [] bytes stretch others none split = split
split-front (b ∷ line) bytes stretch others none split =
    slice_split-cons_no is_newline b (line ++ bytes) (none 0 0 (omega arith))
    ∙ ap (onto_first b) (split-front line bytes stretch others
    (All-rest (λ x. is_newline x ≡ false) b line (b ∷ line) refl none) split)

-- a line that is refused by its first bytes is refused, whatever follows
longer_fault : (limits : Limits) (start end later size : ℕ) (fails : Bool) (fault : Fault) → start ≤ end → end ≤ later
    → later ≤ size
    → fault_between limits end false start end ≡ Some fault → fault_between limits size fails start later ≡ Some fault
longer_fault limits start end later size fails fault from longer within is = grind (arith, nat_tests)

-- a line that a newline ends is refused alike, whatever follows
ended_fault : (limits : Limits) (start end size : ℕ) (fails : Bool) → start ≤ end → end < size
    → fault_between limits size fails start end ≡ fault_between limits (end + 1) false start end
ended_fault limits start end size fails from within = grind (arith, nat_tests)

-- a line that ends where the reader failed, and would not be refused else
broken_off : (limits : Limits) (start end : ℕ) → fault_between limits end false start end ≡ None
    → fault_between limits end true start end ≡ Some Read
broken_off limits start end fine = grind (arith, nat_tests)

module _ (limits : Limits) (number start : ℕ) (line : List ℕ) (none : HasNoNewline line) where
  -- the line and then some bytes, where its first bytes are too many
  pub refused_early : (others : List ℕ) (fails : Bool) (fault : Fault)
      → fault_between limits (start + length line) false start (start + length line) ≡ Some fault
      → lines_from limits number start (line ++ others) fails ≡ only_fault number fault
  refused_early others fails fault is =
      let split = split-cons others in
      let whole = split-front line others split.0 split.1.0 none split.1.1.0 in
      let longer : start + length (line ++ split.0) ≤ start + length (line ++ others) =
      omega (arith, split.1.1.1, length-append line split.0, length-append line others) in
      ap (λ stretches. lines_of_stretches limits (start + length (line ++ others)) fails (number_stretches number start stretches))
      whole
      ∙ by_fault limits (start + length (line ++ others)) fails (stretch_of number start (line ++ split.0)) _ fault
      (longer_fault limits start (start + length line) (start + length (line ++ split.0))
      (start + length (line ++ others)) fails fault (omega arith) (omega (arith, length-append line split.0)) longer
      is)

  -- the line, a newline and other bytes
  opened : (others : List ℕ) (fails : Bool) → lines_from limits number start (line ++ newline ∷ others) fails
      ≡ lines_of_stretches limits (start + length (line ++ newline ∷ others)) fails
      (stretch_of number start line ∷ number_stretches (number + 1) (start + length line + 1) (slice_split is_newline others))
  opened others fails = ap (λ stretches. lines_of_stretches limits (start + length (line ++ newline ∷ others)) fails
      (number_stretches number start stretches)) (slice_split_at is_newline line newline others none refl)

  longer : (others : List ℕ) → start + length (line ++ newline ∷ others) ≡ start + length line + 1 + length others
  longer others = grind (arith, common_steps)

  same_fault : (others : List ℕ) (fails : Bool)
      → fault_at limits (start + length (line ++ newline ∷ others)) fails (stretch_of number start line)
      ≡ fault_between limits (start + length line + 1) false start (start + length line)
  same_fault others fails = ended_fault limits start (start + length line) (start + length (line ++ newline ∷ others))
      fails (omega arith) (omega (arith, longer others))

  pub refused_whole : (others : List ℕ) (fails : Bool) (fault : Fault)
      → fault_between limits (start + length line + 1) false start (start + length line) ≡ Some fault
      → lines_from limits number start (line ++ newline ∷ others) fails ≡ only_fault number fault
  refused_whole others fails fault is = opened others fails
      ∙ by_fault limits _ fails (stretch_of number start line) _ fault (same_fault others fails ∙ is)

  module _ (fine : IsFineLine limits start line) where
    pub whole_blank : (others : List ℕ) (fails : Bool) → is_blank line ≡ true
        → lines_from limits number start (line ++ newline ∷ others) fails
        ≡ lines_from limits (number + 1) (start + length line + 1) others fails
    whole_blank others fails blank =
        opened others fails ∙ by_blank limits _ fails (stretch_of number start line) _ (same_fault others fails ∙ fine)
        (has_stretches (number + 1) (start + length line + 1) others) blank
        ∙ ap (λ size. lines_of_stretches limits size fails
        (number_stretches (number + 1) (start + length line + 1) (slice_split is_newline others))) (longer others)

    pub whole_line : (others : List ℕ) (fails : Bool) → is_blank line ≡ false
        → lines_from limits number start (line ++ newline ∷ others) fails
        ≡ line_before (stretch_of number start line)
        (lines_from limits (number + 1) (start + length line + 1) others fails)
    whole_line others fails full =
        opened others fails ∙ by_line limits _ fails (stretch_of number start line) _ (same_fault others fails ∙ fine)
        (has_stretches (number + 1) (start + length line + 1) others) full
        ∙ ap (λ size. line_before (stretch_of number start line)
        (lines_of_stretches limits size fails (number_stretches (number + 1) (start + length line + 1)
        (slice_split is_newline others)))) (longer others)

  -- the line alone
  alone : (fails : Bool) → lines_from limits number start line fails
      ≡ lines_of_stretches limits (start + length line) fails (stretch_of number start line ∷ [])
  alone fails = ap (λ stretches. lines_of_stretches limits (start + length line) fails (number_stretches number start stretches))
      (slice_split_none is_newline line none)

  module _ (fine : IsFineFront limits start line) where
    pub refused_at_end : lines_from limits number start line true ≡ only_fault number Read
    refused_at_end = alone true ∙ by_fault limits (start + length line) true (stretch_of number start line) [] Read
        (broken_off limits start (start + length line) fine)

    pub last_blank : is_blank line ≡ true → lines_from limits number start line false ≡ nothing_left number
    last_blank blank = alone false ∙ after_blank limits (start + length line) false (stretch_of number start line) [] fine
        blank

    pub last_line : is_blank line ≡ false → lines_from limits number start line false
        ≡ line_before (stretch_of number start line) (nothing_left number)
    last_line full = alone false ∙ after_line limits (start + length line) false (stretch_of number start line) [] fine
        full
