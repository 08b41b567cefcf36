-- What is still to come, step by step.
use Rattle.std.proofs.Common.{◌≡◌, ◌≤◌, ◌<◌, ◌+◌, ◌-◌, ◌++◌, ℕ, Bool, true, false, List, [], ◌∷◌, Option, Some, None, length, take, drop, get_or, slice_range, refl, sym, ap, subst, ◌∙◌, arith, append_assoc, append-nil, ⊎_elim, inr}
use Rattle.std.proofs.lemmas.Grind.{common_steps}
use Rattle.std.proofs.lemmas.Bool.{cases_lt, false_from_ne_true, false≢true}
use Rattle.std.proofs.lemmas.Bool.Decides.{nat_tests}
use Rattle.std.proofs.lemmas.List.{drop_more, get_or-drop, get_or-take, length-drop, length-take-le, take-append-drop, take_rest}
use Rattle.memchr.specs.Find.{IsFirstByte}
use Rattle.city_json.specs.Bytes.{newline}
use Rattle.byte_streams.specs.declared.fault.Fault.{Fault}
use Rattle.byte_streams.specs.declared.fault.Fault.TheVariants.{LineTooLong, TileTooLong, Read, Memory}
use Rattle.tile_stream.specs.declared.limits.Limits.{Limits}
use Rattle.tile_stream.specs.Ahead.{Ahead, MayCome}
use Rattle.tile_stream.specs.Stretches.{BytesComeBack, HasNoNewline, IsFineFront, IsLimitFault, IsFillFault, IsNextStretch, IsRefusedLine, IsRefusal, ReadsMore}
use Rattle.tile_stream.specs.Tile.{is_newline, fault_between, lines_from}
use Rattle.tile_stream.proofs.FirstStretches.{refused_early, refused_whole, refused_at_end}

pub is_code : (b : ℕ) → is_newline b ≡ true → b ≡ newline
is_code b is = grind (arith, nat_tests)

at_any : (xs : List ℕ) (k d : ℕ) → k < length xs → is_newline (get_or xs k d) ≡ true → is_newline (get_or xs k 0) ≡ true
at_any xs k d below passes = grind (arith, common_steps)

-- where no newline was found there is none
pub none_found : (held : List ℕ) → IsFirstByte is_newline held None → HasNoNewline held
none_found held found = λ k d below. false_from_ne_true _
    (λ passes. found k (omega arith) below (at_any held k d below passes))

at_front : (held : List ℕ) (count k d : ℕ) → k < length (take count held)
    → is_newline (get_or (take count held) k d) ≡ true → is_newline (get_or held k 0) ≡ true
at_front held count k d below passes = grind (arith, common_steps)

in_front : (held : List ℕ) (count k : ℕ) → k < length (take count held) → k < count
in_front held count k below = grind (arith, common_steps)

-- before the first newline there is none
pub none_before : (held : List ℕ) (count : ℕ) → IsFirstByte is_newline held (Some count)
    → HasNoNewline (take count held)
none_before held count found = λ k d below.
    false_from_ne_true _ (λ passes. found.0.before k (omega arith) (in_front held count k below)
    (at_front held count k d below passes))

-- what is held is the bytes before the first newline, the newline, and others
pub stretches_found : (held : List ℕ) (count : ℕ) → IsFirstByte is_newline held (Some count)
    → held ≡ take count held ++ newline ∷ drop (count + 1) held
stretches_found held count found =
    sym (take-append-drop count held)
    ∙ ap (λ rest. take count held ++ rest) (drop_more held count 0 found.0.high)
    ∙ ap (λ b. take count held ++ b ∷ drop (count + 1) held) (is_code (get_or held count 0) found.1)

-- the same with what comes after
pub stretches_after : (held : List ℕ) (count : ℕ) → IsFirstByte is_newline held (Some count) → (others : List ℕ)
    → held ++ others ≡ take count held ++ newline ∷ (drop (count + 1) held ++ others)
stretches_after held count found others = ap (λ bytes. bytes ++ others) (stretches_found held count found)
    ∙ append_assoc (take count held) (newline ∷ drop (count + 1) held) others

-- a line that is refused by its limits is refused
pub limit_refusal : (fault : Fault) (limits : Limits) (start : ℕ) (before : List ℕ → Bool → Type 0) → IsLimitFault fault
    → IsRefusedLine fault limits start before → IsRefusal fault limits start before
limit_refusal LineTooLong limits start before kind is = is
limit_refusal TileTooLong limits start before kind is = is
limit_refusal other limits start before kind is = absurd kind

-- a line is refused where a read failed, and out of memory
pub fill_refusal : (fault : Fault) (limits : Limits) (start : ℕ) (before : List ℕ → Bool → Type 0) → IsFillFault fault
    → (fault ≡ Read → IsRefusedLine Read limits start before) → ((bytes : List ℕ) × (fails : Bool) × before bytes fails)
    → IsRefusal fault limits start before
fill_refusal Read limits start before kind failed some = failed refl
fill_refusal Memory limits start before kind failed some = some
fill_refusal other limits start before kind failed some = absurd kind

-- what was found after the bytes that were seen
module _ (held : List ℕ) (seen : ℕ) (none : HasNoNewline (take seen held)) (within : seen ≤ length held) where
  seen_none : (k : ℕ) → k < seen → is_newline (get_or held k 0) ≡ true → ⊥
  seen_none k below passes =
      false≢true (sym (none k 0 (omega (arith, below, within, length-take-le seen held within)))
      ∙ ap is_newline (get_or-take seen held k 0 below) ∙ passes)

  beyond : (k : ℕ) → seen ≤ k → is_newline (get_or held k 0) ≡ true
      → is_newline (get_or (drop seen held) (k - seen) 0) ≡ true
  beyond k from passes =
      let place : seen + (k - seen) ≡ k = omega (arith, from) in
      ap is_newline (get_or-drop seen held (k - seen) 0 ∙ ap (λ i. get_or held i 0) place) ∙ passes

  pub found_after : (more : ℕ) → IsFirstByte is_newline (slice_range held seen (length held)) (Some more)
      → IsFirstByte is_newline held (Some (seen + more))
  found_after more found =
      let here : IsFirstByte is_newline (drop seen held) (Some more) = rw (← take_rest held seen) found in (
        record {
          low = omega arith;
          high = omega (arith, here.0.high, length-drop seen held);
          before = λ k low high passes. ⊎_elim
              (λ (early : k < seen). seen_none k early passes)
              (λ (late : seen ≤ k). here.0.before (k - seen) (omega arith) (omega (arith, late, high))
              (beyond k late passes))
              (cases_lt k seen);
        },
        ap is_newline (sym (get_or-drop seen held more 0)) ∙ here.1,
      )

  pub none_after : IsFirstByte is_newline (slice_range held seen (length held)) None → HasNoNewline held
  none_after found =
      let here : IsFirstByte is_newline (drop seen held) None = rw (← take_rest held seen) found in
      none_found held (λ k low high passes. ⊎_elim
      (λ (early : k < seen). seen_none k early passes)
      (λ (late : seen ≤ k). here (k - seen) (omega arith) (omega (arith, late, high, length-drop seen held))
      (beyond k late passes))
      (cases_lt k seen))

-- what was tested of the line's end, of its length
pub ends : (limits : Limits) (start end : ℕ) (text : List ℕ) (answer : Option Fault) → end ≡ start + length text
    → answer ≡ fault_between limits (end + 1) false start end
    → fault_between limits (start + length text + 1) false start (start + length text) ≡ answer
ends limits start end text answer is tested = sym (tested ∙ ap (λ n. fault_between limits (n + 1) false start n) is)

pub goes_on : (limits : Limits) (start end : ℕ) (text : List ℕ) (answer : Option Fault) → end ≡ start + length text
    → answer ≡ fault_between limits end false start end
    → fault_between limits (start + length text) false start (start + length text) ≡ answer
goes_on limits start end text answer is tested = sym (tested ∙ ap (λ n. fault_between limits n false start n) is)

module _ {R : Type 0} (gives : R → List ℕ → Bool → Type 0) (first now : Ahead R)
    (back : BytesComeBack (MayCome gives first) (MayCome gives now))
    (some : (bytes : List ℕ) × ((fails : Bool) × gives now.reader bytes fails)) where
  -- something was to come
  pub something : (bytes : List ℕ) × (fails : Bool) × MayCome gives first bytes fails
  something = (now.held ++ some.0, some.1.0, back (now.held ++ some.0) some.1.0 (some.0, some.1.1, refl))

  -- a newline was found
  pub whole_refused : (count : ℕ) → IsFirstByte is_newline now.held (Some count) → (limits : Limits) (start : ℕ)
      (fault : Fault)
      → fault_between limits (start + length (take count now.held) + 1) false start
      (start + length (take count now.held)) ≡ Some fault
      → IsRefusedLine fault limits start (MayCome gives first)
  whole_refused count found limits start fault is = (
    now.held ++ some.0,
    some.1.0,
    back (now.held ++ some.0) some.1.0 (some.0, some.1.1, refl),
    λ number. ap (λ bytes. lines_from limits number start bytes some.1.0) (stretches_after now.held count found some.0)
        ∙ refused_whole limits number start (take count now.held) (none_before now.held count found)
        (drop (count + 1) now.held ++ some.0) some.1.0 fault is,
  )

  -- none was found
  module _ (none : HasNoNewline now.held) (limits : Limits) (start : ℕ) where
    pub stretch_refused : (fault : Fault)
        → fault_between limits (start + length now.held) false start (start + length now.held) ≡ Some fault
        → IsRefusedLine fault limits start (MayCome gives first)
    stretch_refused fault is = (
      now.held ++ some.0,
      some.1.0,
      back (now.held ++ some.0) some.1.0 (some.0, some.1.1, refl),
      λ number. refused_early limits number start now.held none some.0 some.1.0 fault is,
    )

-- the end came, or an error
module _ {R : Type 0} (gives : R → List ℕ → Bool → Type 0) (first now : Ahead R)
    (back : BytesComeBack (MayCome gives first) (MayCome gives now)) where
  pub end_came : (fails : Bool) → gives now.reader [] fails → MayCome gives first now.held fails
  end_came fails ended = back now.held fails ([], ended, sym (append-nil now.held))

  pub end_refused : HasNoNewline now.held → (limits : Limits) (start : ℕ) → gives now.reader [] true
      → IsFineFront limits start now.held → IsRefusedLine Read limits start (MayCome gives first)
  end_refused none limits start failed fine = (
    now.held,
    true,
    end_came true failed,
    λ number. refused_at_end limits number start now.held none fine,
  )

  -- more bytes came
  pub more_came : (next : Ahead R) (count : ℕ) → ReadsMore gives now next count
      → BytesComeBack (MayCome gives first) (MayCome gives next)
  more_came next count reads bytes fails comes = back bytes fails (
    reads.more ++ comes.0,
    reads.given comes.0 fails comes.1,
    comes.2 ∙ ap (λ held. held ++ comes.0) reads.held ∙ append_assoc now.held reads.more comes.0,
  )

-- the end came: the stretch is the last
nothing_more : (count : ℕ) (more : List ℕ) → count ≡ length more → count ≡ 0 → more ≡ []
nothing_more count [] is none = refl
nothing_more count (b ∷ more) is none = absurd (omega (arith, is, none))

pub last_stretch : {R : Type 0} (gives : R → List ℕ → Bool → Type 0) (first now next : Ahead R)
    → BytesComeBack (MayCome gives first) (MayCome gives now) → (limits : Limits) (start count all : ℕ)
    → HasNoNewline now.held → IsFineFront limits start now.held → ReadsMore gives now next count → count ≡ 0
    → gives now.reader [] false → all ≡ length now.held → IsNextStretch gives limits start first next all
last_stretch gives first now next back limits start count all none fine reads nothing over is =
    let same : next.held ≡ now.held = reads.held
    ∙ ap (λ more. now.held ++ more) (nothing_more count reads.more reads.counted nothing) ∙ append-nil now.held in
    record {
      stretch = inr (record {
        all = is ∙ ap length (sym same);
        none = subst HasNoNewline (sym same) none;
        fine = subst (IsFineFront limits start) (sym same) fine;
      });
      back = more_came gives first now back next count reads;
      last = λ whole. subst (λ held. MayCome gives first held false) (sym same)
          (end_came gives first now back false over);
    }

-- the stretch of this length and its newline were taken
pub stretch_taken : {R : Type 0} (gives : R → List ℕ → Bool → Type 0) (now next : Ahead R) (count : ℕ)
    → IsFirstByte is_newline now.held (Some count) → next ≡ record now { held = drop (count + 1) now.held }
    → (bytes : List ℕ) (fails : Bool) → MayCome gives next bytes fails
    → MayCome gives now (take count now.held ++ newline ∷ bytes) fails
stretch_taken gives now next count found is bytes fails comes =
    let here = subst (λ (ahead : Ahead _). MayCome gives ahead bytes fails) is comes in (
      here.0,
      here.1,
      ap (λ rest. take count now.held ++ newline ∷ rest) here.2 ∙ sym (stretches_after now.held count found here.0),
    )
