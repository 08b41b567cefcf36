-- What one cut does to what may be left.
use Rattle.std.proofs.Common.{◌<◌, ◌≡◌, ◌≤◌, ◌+◌, ◌++◌, ℕ, Bool, true, false, List, [], ◌∷◌, Option, Some, None, length, take, drop, take_all, refl, sym, ap, subst, ◌∙◌, arith, ⊎_elim, ◌⊎◌, inl, inr}
use Rattle.std.proofs.lemmas.Bool.{cases_Bool}
use Rattle.std.proofs.lemmas.List.{length-take-le}
use Rattle.city_json.specs.Bytes.{newline}
use Rattle.byte_streams.specs.declared.fault.Fault.{Fault}
use Rattle.byte_streams.specs.declared.fault.Fault.TheVariants.{LineTooLong, TileTooLong, Read, Memory}
use Rattle.byte_streams.specs.declared.places.LineFault.{LineFault}
use Rattle.tile_stream.specs.declared.limits.Limits.{Limits}
use Rattle.tile_stream.specs.Ahead.{Ahead, MayCome}
use Rattle.tile_stream.specs.Stretches.{HasNoNewline, IsEndedStretch, IsFineFront, IsFineLine, IsLastStretch, IsNextStretch, IsStretch, IsRefusal}
use Rattle.tile_stream.specs.Unread.{Unread, GivesStretch, Leaves, LeavesIf, StandsAt, stretch_before, IsRefused, BeginsFrom, ComesFrom, EndsFrom}
use Rattle.tile_stream.specs.Tile.{Stretch, TileLines, stretch_of, number_stretches, is_blank, fault_at, lines_of_stretches, lines_from, line_before, nothing_left, only_fault}
use Rattle.tile_stream.specs.Whole.{IsNext, IsNextLine, TakesLine}
use Rattle.tile_stream.proofs.Coming.{none_before, stretch_taken}
use Rattle.tile_stream.proofs.FirstStretches.{split-cons, by_fault, after_blank, after_line, by_blank, whole_blank, whole_line, last_blank, last_line}

pub stretch_blank : (number start : ℕ) (bytes : List ℕ) (left : TileLines) → is_blank bytes ≡ true
    → stretch_before (stretch_of number start bytes) left ≡ left
stretch_blank number start bytes left blank = rw blank refl

pub stretch_full : (number start : ℕ) (bytes : List ℕ) (left : TileLines) → is_blank bytes ≡ false
    → stretch_before (stretch_of number start bytes) left ≡ line_before (stretch_of number start bytes) left
stretch_full number start bytes left full = rw full refl

fault_cases : (fault : Option Fault) → (fault ≡ None) ⊎ ((is : Fault) × (fault ≡ Some is))
fault_cases None = inl refl
fault_cases (Some fault) = inr (fault, refl)

abbrev Begins : ℕ → TileLines → Type 0
Begins from left = BeginsFrom from left.lines left.fault

abbrev Comes : ℕ → TileLines → Type 0
Comes from left = ComesFrom from left.lines left.fault left.last

-- what comes at a number or above it begins at each lower one
pub begins_before : (first number : ℕ) (lines : List Stretch) (fault : Option LineFault) (last : ℕ) → first ≤ number
    → ComesFrom number lines fault last → BeginsFrom first lines fault
begins_before first number [] None last low comes = tt
begins_before first number [] (Some fault) last low comes = omega (arith, low, comes)
begins_before first number (line ∷ others) fault last low comes = omega (arith, low, comes)

-- what is given from a line on bears its number or one above it
module _ (limits : Limits) (size : ℕ) (fails : Bool) (from : ℕ) where
  abbrev Given : List Stretch → Type 0
  Given stretches = Comes from (lines_of_stretches limits size fails stretches)

  first_comes : (stretch : Stretch) (others : List Stretch) → from ≤ stretch.number
      → (fault_at limits size fails stretch ≡ None → is_blank stretch.bytes ≡ true → Given (stretch ∷ others))
      → Given (stretch ∷ others)
  first_comes stretch others low if_blank =
      ⊎_elim
      (λ fine. ⊎_elim
      (λ blank. if_blank fine blank)
      (λ full. subst (Comes from) (sym (after_line limits size fails stretch others fine full)) low)
      (cases_Bool (is_blank stretch.bytes)))
      (λ faulty. subst (Comes from) (sym (by_fault limits size fails stretch others faulty.0 faulty.1)) low)
      (fault_cases (fault_at limits size fails stretch))

  stretches_come : (number start : ℕ) (bytes : List ℕ) (others : List (List ℕ)) → from ≤ number
      → Given (number_stretches number start (bytes ∷ others))
  stretches_come number start bytes [] low =
      let stretch = stretch_of number start bytes in
      first_comes stretch [] low (λ fine blank. subst (Comes from) (sym (after_blank limits size fails stretch [] fine blank))
      low)
  stretches_come number start bytes (next ∷ others) low =
      let stretch = stretch_of number start bytes in
      let after = number_stretches (number + 1) (start + length bytes + 1) (next ∷ others) in
      first_comes stretch after low (λ fine blank.
      subst (Comes from) (sym (by_blank limits size fails stretch after fine (
        stretch_of (number + 1) (start + length bytes + 1) next,
        number_stretches (number + 1 + 1) (start + length bytes + 1 + length next + 1) others,
        refl,
      ) blank))
      (stretches_come (number + 1) (start + length bytes + 1) next others (omega arith)))

lines_come : (limits : Limits) (number start : ℕ) (bytes : List ℕ) (fails : Bool)
    → Comes number (lines_from limits number start bytes fails)
lines_come limits number start bytes fails =
    let split = split-cons bytes in
    let Given : List (List ℕ) → Type 0 = λ stretches.
    Comes number (lines_of_stretches limits (start + length bytes) fails (number_stretches number start stretches)) in
    subst Given (sym split.1.1.0) (stretches_come limits (start + length bytes) fails number number start split.0 split.1.0
    (omega arith))

module _ {R : Type 0} (gives : R → List ℕ → Bool → Type 0) (limits : Limits) (number start : ℕ) (before : Ahead R) where
  abbrev unread : Ahead R → ℕ → ℕ → Unread R
  unread ahead number start = record { ahead = ahead; limits = limits; number = number; start = start; ended = None }

  pub by_ended : (line : List ℕ) (after : Ahead R) (next : ℕ) → next ≡ start + length line + 1 → HasNoNewline line
      → IsFineLine limits start line
      → ((bytes : List ℕ) (fails : Bool) → MayCome gives after bytes fails
      → MayCome gives before (line ++ newline ∷ bytes) fails)
      → (left : TileLines) → Leaves gives (unread after (number + 1) next) left
      → Leaves gives (unread before number start) (stretch_before (stretch_of number start line) left)
  by_ended line after next place none fine follows left leaves =
      let bytes = leaves.0 in
      let fails = leaves.1 in
      let is = leaves.3 ∙ ap (λ at. lines_from limits (number + 1) at bytes fails) place in (
        line ++ newline ∷ bytes,
        fails,
        follows bytes fails leaves.2,
        ⊎_elim
            (λ blank. stretch_blank number start line left blank ∙ is
            ∙ sym (whole_blank limits number start line none fine bytes fails blank))
            (λ full. stretch_full number start line left full ∙ ap (line_before (stretch_of number start line)) is
            ∙ sym (whole_line limits number start line none fine bytes fails full))
            (cases_Bool (is_blank line)),
      )

  -- no newline ends the last stretch
  pub by_last : (line : List ℕ) → HasNoNewline line → IsFineFront limits start line → MayCome gives before line false
      → Leaves gives (unread before number start) (stretch_before (stretch_of number start line) (nothing_left number))
  by_last line none fine comes = (
    line,
    false,
    comes,
    ⊎_elim
        (λ blank. stretch_blank number start line (nothing_left number) blank
        ∙ sym (last_blank limits number start line none fine blank))
        (λ full. stretch_full number start line (nothing_left number) full
        ∙ sym (last_line limits number start line none fine full))
        (cases_Bool (is_blank line)),
  )

  pub by_refusal : (fault : Fault) → IsRefusal fault limits start (MayCome gives before)
      → IsRefused fault number (Leaves gives (unread before number start))
  by_refusal Memory is =
      let bytes = is.0 in
      let fails = is.1 in
      let left = lines_from limits number start bytes fails in
      (left, (bytes, fails, is.2, refl), lines_come limits number start bytes fails)
  by_refusal LineTooLong is = (is.0, is.1, is.2, sym (is.3 number))
  by_refusal TileTooLong is = (is.0, is.1, is.2, sym (is.3 number))
  by_refusal Read is = (is.0, is.1, is.2, sym (is.3 number))
  by_refusal other is = absurd is

ended_stretch : (limits : Limits) (start : ℕ) (held : List ℕ) (count : ℕ) → IsStretch limits start held count
    → count < length held → IsEndedStretch limits start held count
ended_stretch limits start held count (inl stretch) within = stretch
ended_stretch limits start held count (inr stretch) within = absurd (omega (arith, stretch.all, within))

last_stretch : (limits : Limits) (start : ℕ) (held : List ℕ) (count : ℕ) → IsStretch limits start held count
    → ¬ (count < length held) → IsLastStretch limits start held count
last_stretch limits start held count (inl stretch) all = absurd (all stretch.ends.0.high)
last_stretch limits start held count (inr stretch) all = stretch

-- the next stretch stands whole, and is left
module _ {R : Type 0} (gives : R → List ℕ → Bool → Type 0) (before now : Unread R) (count : ℕ)
    (next : IsNext gives before now count) where
  abbrev line : List ℕ
  line = take count now.ahead.held

  -- a newline ends it
  pub left_ended : count < length now.ahead.held → (after : Ahead R)
      → after ≡ record now.ahead { held = drop (count + 1) now.ahead.held } → GivesStretch (Leaves gives before)
      (Leaves gives (unread gives now.limits now.number now.start now.ahead after (now.number + 1) (now.start + (count + 1))))
      now.number line
  left_ended within after is =
      let stretch = ended_stretch now.limits now.start now.ahead.held count next.whole.stretch within in
      let place : now.start + (count + 1) ≡ now.start + length line + 1 =
      omega (arith, length-take-le count now.ahead.held (omega (arith, within))) in
      let By : TileLines → Option TileLines → Type 0 = λ left ended. LeavesIf ended gives now left in (
        now.start,
        λ left leaves. next.back _ (subst (By _) (sym next.whole.going)
            (by_ended gives now.limits now.number now.start now.ahead line after (now.start + (count + 1)) place
            (none_before now.ahead.held count stretch.ends) stretch.fine
            (stretch_taken gives now.ahead after count stretch.ends is) left leaves)),
      )

  -- it is the last
  pub left_last : ¬ (count < length now.ahead.held)
      → GivesStretch (Leaves gives before) (λ left. left ≡ nothing_left now.number) now.number line
  left_last all =
      let stretch = last_stretch now.limits now.start now.ahead.held count next.whole.stretch all in
      let whole : line ≡ now.ahead.held = take_all count now.ahead.held (omega (arith, stretch.all)) in (
        now.start,
        λ left is. subst (Leaves gives before) (ap (λ bytes. stretch_before (stretch_of now.number now.start bytes) (nothing_left now.number)) (sym whole)
            ∙ ap (stretch_before (stretch_of now.number now.start line)) (sym is)) (next.last stretch.all),
      )

-- what is left is a line, where it is not blank
pub taken_line : {R : Type 0} (gives : R → List ℕ → Bool → Type 0) (before now after : Unread R) (count : ℕ)
    → IsNextLine gives before now count → now.number < after.number
    → GivesStretch (Leaves gives before) (Leaves gives after) now.number (take count now.ahead.held)
    → TakesLine gives before after now.number (take count now.ahead.held)
taken_line gives before now after count next later stretch = record {
  line = (
    stretch.0,
    λ left leaves. subst (Leaves gives before)
        (stretch_full now.number stretch.0 (take count now.ahead.held) left next.full) (stretch.1 left leaves),
  );
  from = next.from;
  later = later;
}

-- the next stretch was completed
pub next_of : {R : Type 0} (gives : R → List ℕ → Bool → Type 0) (first : Unread R) (limits : Limits) (number start : ℕ)
    (before after : Ahead R) (count : ℕ)
    → ((left : TileLines) → Leaves gives (unread gives limits number start before before number start) left → Leaves gives first left)
    → IsNextStretch gives limits start before after count
    → IsNext gives first (unread gives limits number start before after number start) count
next_of gives first limits number start before after count back stands = record {
  whole = record { going = refl; stretch = stands.stretch };
  back = λ left leaves. back left (leaves.0, leaves.1, stands.back leaves.0 leaves.1 leaves.2, leaves.3);
  last = λ all.
      let stretch = last_stretch limits start after.held count stands.stretch (λ within. absurd (omega (arith, all, within))) in
      back _ (by_last gives limits number start before after.held stretch.none stretch.fine (stands.last all));
}

-- there is no memory for the next line, which stands whole
module _ {R : Type 0} (gives : R → List ℕ → Bool → Type 0) (before now : Unread R) (count : ℕ)
    (next : IsNext gives before now count) where
  goes_back : (bytes : List ℕ) (fails : Bool) → MayCome gives now.ahead bytes fails
      → Leaves gives before (lines_from now.limits now.number now.start bytes fails)
  goes_back bytes fails comes =
      let By : Option TileLines → Type 0 = λ ended.
      LeavesIf ended gives now (lines_from now.limits now.number now.start bytes fails) in
      next.back _ (subst By (sym next.whole.going) (bytes, fails, comes, refl))

  pub stands_there : StandsAt now.number now.limits (Leaves gives before) (MayCome gives now.ahead)
  stands_there = (now.start, [], λ k d below. absurd (omega (arith, below)), goes_back)

  pub out_of_memory : ((reader : R) → (bytes : List ℕ) × ((fails : Bool) × gives reader bytes fails))
      → IsRefused Memory now.number (Leaves gives before)
  out_of_memory some =
      let rest = some now.ahead.reader in
      let bytes = now.ahead.held ++ rest.0 in (
        lines_from now.limits now.number now.start bytes rest.1.0,
        goes_back bytes rest.1.0 (rest.0, rest.1.1, refl),
        lines_come now.limits now.number now.start bytes rest.1.0,
      )

-- a line that was refused before is refused again
pub by_kept : (fault : Fault) (line : ℕ) → IsRefused fault line (λ left. left ≡ only_fault line fault)
by_kept Memory line = (only_fault line Memory, refl, omega arith)
by_kept other line = refl

-- Something may be left, since each reader gives something; it begins at the next line's number.
something_if : {R : Type 0} (gives : R → List ℕ → Bool → Type 0)
    → ((reader : R) → (bytes : List ℕ) × ((fails : Bool) × gives reader bytes fails))
    → (ended : Option TileLines) (lines : Unread R) → lines.ended ≡ ended → EndsFrom lines.number ended
    → (left : TileLines) × Leaves gives lines left × Begins lines.number left
something_if gives some (Some known) lines is from = rw is (known, refl, from)
something_if gives some None lines is from =
    let rest = some lines.ahead.reader in
    let bytes = lines.ahead.held ++ rest.0 in
    let left = lines_from lines.limits lines.number lines.start bytes rest.1.0 in
    let comes = lines_come lines.limits lines.number lines.start bytes rest.1.0 in
    rw is (
      left,
      (bytes, rest.1.0, (rest.0, rest.1.1, refl), refl),
      begins_before lines.number lines.number left.lines left.fault left.last (omega arith) comes,
    )

pub something_left : {R : Type 0} (gives : R → List ℕ → Bool → Type 0)
    → ((reader : R) → (bytes : List ℕ) × ((fails : Bool) × gives reader bytes fails)) → (lines : Unread R)
    → EndsFrom lines.number lines.ended → (left : TileLines) × Leaves gives lines left × Begins lines.number left
something_left gives some lines from = something_if gives some lines.ended lines refl from

-- A line that is refused now was refused before, if what may be left now may have been left then.
pub refused_back : (fault : Fault) (number : ℕ) (before now : TileLines → Type 0)
    → ((left : TileLines) → now left → before left) → IsRefused fault number now → IsRefused fault number before
refused_back Memory number before now back is = (is.0, back is.0 is.1, is.2)
refused_back other number before now back is = back (only_fault number other) is
