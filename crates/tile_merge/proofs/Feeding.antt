-- A text, or the end, that was read ahead.
use Rattle.std.proofs.Common.{◌≡◌, ◌≤◌, ◌<◌, ◌+◌, ◌++◌, ℕ, Bool, true, false, List, [], ◌∷◌, Option, Some, None, length, map, drop, get_or, take, if◌then◌else◌, refl, sym, ap, subst, ◌∙◌, inr, arith, append-nil, append_assoc, length-append}
use Rattle.std.proofs.lemmas.List.{drop_all, drop_more, get_or-set_same}
use Rattle.std.specs.Io.KnownBytes.{Appends, Keeps}
use Rattle.city_feature.specs.Feature.{FeatureValue}
use Rattle.city_grid.specs.Axes.{Triple}
use Rattle.tile_handoff.specs.Notes.{has_end}
use Rattle.tile_handoff.specs.Queues.{Queue, QueuesState, empty_queue, queue_of, with_queue, longer}
use Rattle.tile_handoff.specs.declared.note.End.{End}
use Rattle.tile_handoff.specs.declared.note.Note.{Note}
use Rattle.tile_handoff.specs.declared.note.Note.TheVariants.{Line as LineNote, End as EndNote}
use Rattle.byte_streams.specs.declared.places.LineFault.{LineFault}
use Rattle.tile_stream.specs.Coming.{LinesMayComeTo, MayComeTo, ComesBack, GivesText, GivesTexts, SomethingComes}
use Rattle.tile_merge.specs.Giving.{Giving}
use Rattle.tile_merge.specs.declared.merging.ends.TileEnd.{TileEnd}
use Rattle.tile_merge.specs.EndNotes.{end_of, ended_so}
use Rattle.tile_merge.specs.Opened.{OpenState}
use Rattle.tile_merge.specs.Rounds.{IsFeedOf, WroteTurn, WroteTurnFront}
use Rattle.tile_merge.specs.Feeds.{FeedState, Course, queue_after, course_of, text_before, most_ahead, ThenComes, NotesCome, MayTake, ReadsOn, TakesTurn, SomeCourse}
use Rattle.tile_stream.specs.Stream.{with_newline}
use Rattle.tile_stream.specs.Texts.{Outcome}
use Rattle.tile_stream.specs.Unread.{Unread, most_left}
use Rattle.tile_merge.proofs.FaultNumbers.{end_tells}

not_empty : (left : List Note) (note : Note) → left ++ note ∷ [] ≡ [] → ⊥
not_empty [] note is = cc is
not_empty (other ∷ left) note is = cc is

-- a note more is put after those that are there; `More` follows it, and `Then` followed the others
module _ (Then More : Course → Type 0) where
  -- no note more, but what follows them is another
  pub notes_stay : ((course : Course) → More course → Then course)
      → (left : List Note) (texts : List (List ℕ)) (ended : TileEnd) → NotesCome More left texts ended
      → NotesCome Then left texts ended
  notes_stay step [] texts ended come = step (course_of texts ended) come
  notes_stay step (LineNote other ∷ left) texts ended come = (come.0, come.1, notes_stay step left come.0 ended come.2)
  notes_stay step (EndNote end ∷ left) texts ended come = come

  pub notes_follow : (more : List (List ℕ)) (last : TileEnd) → More (course_of more last)
      → (left : List Note) → has_end left ≡ false → (texts : List (List ℕ)) (ended : TileEnd)
      → NotesCome Then left texts ended → SomeCourse (λ course. NotesCome More left course.texts course.ended)
  notes_follow more last comes [] is_open texts ended come = (course_of more last, comes)
  notes_follow more last comes (LineNote other ∷ left) is_open texts ended come =
      let some = notes_follow more last comes left is_open come.0 ended come.2 in
      (course_of (other ∷ some.0.texts) some.0.ended, (some.0.texts, refl, some.1))
  notes_follow more last comes (EndNote end ∷ left) is_open texts ended come = absurd (cc is_open)

  module _ (text : List ℕ) where
    pub line_put : ((more : List (List ℕ)) (ended : TileEnd) → More (course_of more ended)
        → Then (course_of (text ∷ more) ended))
        → (left : List Note) (texts : List (List ℕ)) (ended : TileEnd)
        → NotesCome More (left ++ LineNote text ∷ []) texts ended → NotesCome Then left texts ended
    line_put step [] texts ended come =
        subst (λ all. Then (course_of all ended)) (sym come.1) (step come.0 ended come.2)
    line_put step (LineNote other ∷ left) texts ended come = (come.0, come.1, line_put step left come.0 ended come.2)
    line_put step (EndNote end ∷ left) texts ended come = absurd (not_empty left (LineNote text) come.0)

    pub line_follows : (more : List (List ℕ)) (last : TileEnd) → More (course_of more last)
        → (left : List Note) → has_end left ≡ false → (texts : List (List ℕ)) (ended : TileEnd)
        → NotesCome Then left texts ended → SomeCourse
        (λ course. NotesCome More (left ++ LineNote text ∷ []) course.texts course.ended)
    line_follows more last comes [] is_open texts ended come = (course_of (text ∷ more) last, (more, refl, comes))
    line_follows more last comes (LineNote other ∷ left) is_open texts ended come =
        let some = line_follows more last comes left is_open come.0 ended come.2 in
        (course_of (other ∷ some.0.texts) some.0.ended, (some.0.texts, refl, some.1))
    line_follows more last comes (EndNote end ∷ left) is_open texts ended come = absurd (cc is_open)

  module _ (last : TileEnd) (end : End) (is_end : end ≡ end_of last) where
    pub end_put : Then (course_of [] last)
        → (left : List Note) (texts : List (List ℕ)) (ended : TileEnd)
        → NotesCome More (left ++ EndNote end ∷ []) texts ended → NotesCome Then left texts ended
    end_put over [] texts ended come =
        let same : last ≡ ended = end_tells last ended (sym is_end ∙ come.2) in
        let Over : List (List ℕ) → Type 0 = λ all. Then (course_of all ended) in
        subst Over (sym come.1) (subst (λ (e : TileEnd). Then (course_of [] e)) same over)
    end_put over (LineNote other ∷ left) texts ended come = (come.0, come.1, end_put over left come.0 ended come.2)
    end_put over (EndNote other ∷ left) texts ended come = absurd (not_empty left (EndNote end) come.0)

    pub end_follows : (left : List Note) → has_end left ≡ false → (texts : List (List ℕ)) (ended : TileEnd)
        → NotesCome Then left texts ended → SomeCourse
        (λ course. NotesCome More (left ++ EndNote end ∷ []) course.texts course.ended)
    end_follows [] is_open texts ended come = (course_of [] last, (refl, refl, is_end))
    end_follows (LineNote other ∷ left) is_open texts ended come =
        let some = end_follows left is_open come.0 ended come.2 in
        (course_of (other ∷ some.0.texts) some.0.ended, (some.0.texts, refl, some.1))
    end_follows (EndNote other ∷ left) is_open texts ended come = absurd (cc is_open)

-- ---- texts before a queue ----

abbrev line_note : List ℕ → Note
line_note text = LineNote text

pub after_longer : (texts : List (List ℕ)) (queue : Queue) (note : Note)
    → queue_after texts (longer queue note) ≡ longer (queue_after texts queue) note
after_longer texts queue (LineNote text) =
    ap (λ left. record { closed = queue.closed; left = left })
    (sym (append_assoc (map line_note texts) queue.left (LineNote text ∷ [])))
after_longer texts queue (EndNote end) =
    ap (λ left. record { closed = true; left = left })
    (sym (append_assoc (map line_note texts) queue.left (EndNote end ∷ [])))

pub open_after : (texts : List (List ℕ)) (left : List Note) → has_end left ≡ false
    → has_end (map line_note texts ++ left) ≡ false
open_after [] left is = is
open_after (text ∷ texts) left is = open_after texts left is

module _ (Then : Course → Type 0) where
  notes_after : (texts : List (List ℕ)) (left : List Note) (all : List (List ℕ)) (ended : TileEnd)
      → NotesCome Then (map line_note texts ++ left) all ended
      → (more : List (List ℕ)) × (all ≡ texts ++ more) × NotesCome Then left more ended
  notes_after [] left all ended come = (all, refl, come)
  notes_after (text ∷ texts) left all ended come =
      let there = notes_after texts left come.0 ended come.2 in
      (there.0, come.1 ∙ ap (λ ts. text ∷ ts) there.1, there.2)

  notes_first : (texts : List (List ℕ)) (left : List Note) (more : List (List ℕ)) (ended : TileEnd)
      → NotesCome Then left more ended → NotesCome Then (map line_note texts ++ left) (texts ++ more) ended
  notes_first [] left more ended come = come
  notes_first (text ∷ texts) left more ended come = (texts ++ more, refl, notes_first texts left more ended come)

-- the next of the texts stands first, and where there is none the queue is all
pub first_left : (texts : List (List ℕ)) (at : ℕ) → at < length texts → (queue : Queue)
    → (queue_after (drop at texts) queue).left ≡ LineNote (get_or texts at []) ∷ (queue_after (drop (at + 1) texts) queue).left
first_left texts at within queue = ap (λ ts. map line_note ts ++ queue.left) (drop_more texts at [] within)

pub note_left : (texts : List (List ℕ)) (at : ℕ) → length texts ≤ at → (queue next : Queue) (text : List ℕ)
    → queue.left ≡ LineNote text ∷ next.left
    → (queue_after (drop at texts) queue).left ≡ LineNote text ∷ (queue_after (drop at texts) next).left
note_left texts at beyond queue next text is =
    subst (λ (ts : List (List ℕ)). (queue_after ts queue).left ≡ LineNote text ∷ (queue_after ts next).left)
    (sym (drop_all at texts beyond)) is

-- a feed that was just made: the texts of the first line were taken
module _ {R : Type 0} (gives : Giving R) (IsWanted : FeatureValue → Type 0) (tile : OpenState R) (shift : Triple)
    (capacity : ℕ) (now : Unread R) where
  abbrev new_feed : List (List ℕ) → Queue → ℕ → FeedState R
  new_feed first queue count = record {
    unread = now;
    shift = shift;
    capacity = capacity;
    notes = queue_after first queue;
    count = count;
    last = None;
  }

  pub feed_begins : (first : List (List ℕ)) → GivesTexts (MayComeTo gives IsWanted shift tile.unread)
      (LinesMayComeTo gives IsWanted shift now) first → SomethingComes (LinesMayComeTo gives IsWanted shift now)
      → (queue : Queue) → queue ≡ empty_queue → (count : ℕ) → count ≡ length first
      → IsFeedOf gives IsWanted tile shift (new_feed first queue count)
  feed_begins first texts some queue is count counts =
      let Then : Course → Type 0 = λ course. ThenComes false gives IsWanted shift now count None course in
      let ended = ended_so (count + length some.0) some.1.0 in
      let Is : Queue → Type 0 = λ q. IsFeedOf gives IsWanted tile shift (new_feed first q count) in
      subst Is (sym is) (
        λ course may.
            let there = notes_after Then first [] course.texts course.ended may in (
              subst (λ ts. MayComeTo gives IsWanted shift tile.unread ts course.ended.stop) (sym there.1)
                  (texts there.0 course.ended.stop there.2.0),
              omega (arith, there.2.1, counts, ap length there.1, length-append first there.0),
            ),
        λ any. (course_of (first ++ some.0) ended, notes_first Then first [] some.0 ended (some.1.1, refl)),
      )

  pub feed_stops : (at : LineFault) → MayComeTo gives IsWanted shift tile.unread [] (Some at)
      → (first : List (List ℕ)) → first ≡ [] → (end : End) → end ≡ end_of (ended_so 0 (Some at))
      → (queue : Queue) → queue ≡ longer empty_queue (EndNote end) → (count : ℕ)
      → IsFeedOf gives IsWanted tile shift (new_feed first queue count)
  feed_stops at stops first none end is_end queue is count =
      let last = ended_so 0 (Some at) in
      let Is : List (List ℕ) → Queue → Type 0 = λ ts q. IsFeedOf gives IsWanted tile shift (new_feed ts q count) in
      let Given : List (List ℕ) → TileEnd → Type 0 = λ ts ended.
      MayComeTo gives IsWanted shift tile.unread ts ended.stop × (ended.count ≡ length ts) in
      subst (λ ts. Is ts queue) (sym none) (subst (Is []) (sym is) (
        λ course may.
            let same : last ≡ course.ended = end_tells last course.ended (sym is_end ∙ may.2) in
            subst (λ ts. Given ts course.ended) (sym may.1) (subst (Given []) same (stops, refl)),
        λ any. (course_of [] last, (refl, refl, is_end)),
      ))

-- bytes that follow those that were passed on
passed_on : (old mid new : Option (List ℕ)) (bytes : List ℕ) → Keeps old mid → Appends mid new bytes
    → Appends old new bytes
passed_on None mid new bytes kept appends = tt
passed_on (Some xs) None new bytes kept appends = absurd kept
passed_on (Some xs) (Some ys) None bytes kept appends = absurd appends
passed_on (Some xs) (Some ys) (Some zs) bytes kept appends = appends ∙ ap (λ l. l ++ bytes) kept

-- the queue that was set is there
pub set_there : (queues : QueuesState) (queue : Queue) → length queues.tiles ≡ 1
    → queue_of (with_queue queues 0 queue) 0 ≡ queue
set_there queues queue one = get_or-set_same queues.tiles 0 queue _ (omega (arith, one))

-- a feed before and after one more note was read, after which no end note stood
module _ {R : Type 0} (gives : Giving R) (IsWanted : FeatureValue → Type 0) (shift : Triple)
    (places later_places count : ℕ) (last : Option TileEnd) (before after : Unread R) (queue : Queue)
    (is_open : queue.closed ≡ false) (no_end : has_end queue.left ≡ false) where
  abbrev feed : Unread R → ℕ → ℕ → Queue → FeedState R
  feed unread capacity lines notes = record {
    unread = unread;
    shift = shift;
    capacity = capacity;
    notes = notes;
    count = lines;
    last = last;
  }

  abbrev May : Unread R → ℕ → ℕ → Queue → Course → Type 0
  May unread capacity lines notes = MayTake gives IsWanted (feed unread capacity lines notes)

  abbrev Then : Unread R → ℕ → Course → Type 0
  Then unread lines = ThenComes false gives IsWanted shift unread lines last

  -- of the open queue with these notes this was shown, whatever stands in it then
  of_open : (lines : ℕ) (new : Queue) (to : Queue → Queue) → new ≡ to queue
      → ((was : SomeCourse (May before places count (record { closed = false; left = queue.left })))
      → ReadsOn (May before places count (record { closed = false; left = queue.left }))
      (May after later_places lines (to (record { closed = false; left = queue.left }))))
      → SomeCourse (May before places count queue)
      → ReadsOn (May before places count queue) (May after later_places lines new)
  of_open lines new to is_new shown =
      let Is : Bool → Type 0 = λ closed. SomeCourse (May before places count (record { closed = closed; left = queue.left }))
      → ReadsOn (May before places count (record { closed = closed; left = queue.left }))
      (May after later_places lines (to (record { closed = closed; left = queue.left }))) in
      λ was. subst (λ q. ReadsOn (May before places count queue) (May after later_places lines q)) (sym is_new)
      (subst Is (sym is_open) shown was)

  -- a line was read
  pub line_read : (text : List ℕ) → GivesText (LinesMayComeTo gives IsWanted shift before)
      (LinesMayComeTo gives IsWanted shift after) text → SomethingComes (LinesMayComeTo gives IsWanted shift after)
      → (new : Queue) → new ≡ longer queue (LineNote text) → SomeCourse (May before places count queue)
      → ReadsOn (May before places count queue) (May after later_places (count + 1) new)
  line_read text given some new is_new = of_open (count + 1) new (λ q. longer q (LineNote text)) is_new (λ was. (
    λ course come. line_put (Then before count) (Then after (count + 1)) text
        (λ more ended comes. (given more ended.stop comes.0, omega (arith, comes.1))) queue.left course.texts
        course.ended come,
    line_follows (Then before count) (Then after (count + 1)) text some.0
        (ended_so (count + 1 + length some.0) some.1.0) (some.1.1, refl) queue.left no_end was.0.texts was.0.ended was.1,
  ))

  -- a line was read that is not chosen
  pub nothing_read : ComesBack (LinesMayComeTo gives IsWanted shift before) (LinesMayComeTo gives IsWanted shift after)
      → SomethingComes (LinesMayComeTo gives IsWanted shift after) → SomeCourse (May before places count queue)
      → ReadsOn (May before places count queue) (May after later_places count queue)
  nothing_read back some = of_open count queue (λ q. q) refl (λ was. (
    λ course come. notes_stay (Then before count) (Then after count)
        (λ course comes. (back course.texts course.ended.stop comes.0, comes.1)) queue.left course.texts course.ended come,
    notes_follow (Then before count) (Then after count) some.0 (ended_so (count + length some.0) some.1.0)
        (some.1.1, refl) queue.left no_end was.0.texts was.0.ended was.1,
  ))

  -- the end was read
  pub end_read : (outcome : Outcome) → LinesMayComeTo gives IsWanted shift before [] outcome → (end : End)
      → end ≡ end_of (ended_so count outcome) → (new : Queue) → new ≡ longer queue (EndNote end)
      → SomeCourse (May before places count queue)
      → ReadsOn (May before places count queue) (May after later_places count new)
  end_read outcome over end is_end new is_new = of_open count new (λ q. longer q (EndNote end)) is_new (λ was. (
    λ course come. end_put (Then before count) (ThenComes true gives IsWanted shift after count last)
        (ended_so count outcome) end is_end (over, omega arith) queue.left course.texts course.ended come,
    end_follows (Then before count) (ThenComes true gives IsWanted shift after count last) (ended_so count outcome) end
        is_end queue.left no_end was.0.texts was.0.ended was.1,
  ))

-- the first text is taken of those that were read ahead
line_first : (Then : Course → Type 0) (text : List ℕ) (others left : List Note) → left ≡ LineNote text ∷ others
    → SomeCourse (λ course. NotesCome Then left course.texts course.ended)
    → ((course : Course) → NotesCome Then others course.texts course.ended
    → NotesCome Then left (text ∷ course.texts) course.ended)
    × SomeCourse (λ course. NotesCome Then others course.texts course.ended)
line_first Then text others left is was =
    let Comes : List Note → Type 0 = λ notes. NotesCome Then notes was.0.texts was.0.ended in
    let first = subst Comes is was.1 in (
      λ course come. subst (λ notes. NotesCome Then notes (text ∷ course.texts) course.ended) (sym is)
          (course.texts, refl, come),
      (course_of first.0 was.0.ended, first.2),
    )

line_turn : {R : Type 0} (gives : Giving R) (IsWanted : FeatureValue → Type 0)
    (before : FeedState R) (queue : Queue) (text : List ℕ)
    → before.notes.left ≡ LineNote text ∷ queue.left → queue.closed ≡ before.notes.closed
    → SomeCourse (MayTake gives IsWanted before)
    → TakesTurn gives IsWanted before (record before { notes = queue }) (Some text)
line_turn gives IsWanted before queue text is same was =
    let Then : Bool → Course → Type 0 = λ closed course.
    ThenComes closed gives IsWanted before.shift before.unread before.count before.last course in
    let first = line_first (Then before.notes.closed) text queue.left before.notes.left is was in
    let Comes : Course → Bool → Type 0 = λ course closed.
    NotesCome (Then closed) queue.left course.texts course.ended in
    let open_part = ap (λ closed. if closed then 0 else 1 + most_left before.unread) same in (
      λ course come. first.0 course (subst (Comes course) same come),
      (first.1.0, subst (Comes first.1.0) (sym same) first.1.1),
      omega (arith, ap length is, open_part),
    )

-- a turn that gives the text which stands first, once lines were read ahead and what was written was passed on
module _ {R : Type 0} (gives : Giving R) (IsWanted : FeatureValue → Type 0) (before mid : FeedState R) (next : Queue)
    (text : List ℕ) (reads : ReadsOn (MayTake gives IsWanted before) (MayTake gives IsWanted mid))
    (fewer : most_ahead mid ≤ most_ahead before)
    (first : mid.notes.left ≡ LineNote text ∷ next.left) (same : next.closed ≡ mid.notes.closed)
    (old passed new : Option (List ℕ)) (kept : Keeps old passed) where
  turn : TakesTurn gives IsWanted before (record mid { notes = next }) (Some text)
  turn =
      let one = line_turn gives IsWanted mid next text first same reads.1 in
      (λ course come. reads.0 (text_before text course) (one.0 course come), one.1, omega (arith, one.2, fewer))

  pub wrote_turn : Appends passed new (with_newline text)
      → WroteTurn gives IsWanted before (record mid { notes = next }) true old new
  wrote_turn appends = (
    Some text,
    turn,
    refl,
    subst (Appends old new) (sym (append-nil (with_newline text))) (passed_on old passed new _ kept appends),
  )

  pub wrote_front : (count : ℕ) × Appends passed new (take count (with_newline text))
      → WroteTurnFront gives IsWanted before old new
  wrote_front part = inr (text, record mid { notes = next }, part.0, turn, passed_on old passed new _ kept part.1)
