-- How a row keeps reflecting the history of what was asked of it.
use Rattle.std.proofs.Common.{◌≡◌, ℕ, zero, suc, replicate, ◌+◌, ◌<◌, ◌||◌, ◌⊎◌, Bool, true, false, cond, eqb, List, [], ◌∷◌, ◌++◌, length, drop, get_or, Some, sym, ◌∙◌, ap, subst, refl, inl, inr, append_assoc, arith, length-append}
use Rattle.std.specs.Prelude.{slice_get}
use Rattle.std.proofs.lemmas.List.{append-nil, get_or-set_same, get_or-set_other}
use Rattle.std.proofs.lemmas.Bool.{eq-eqb, ne_eqb, cases_eq}
use Rattle.std.proofs.lemmas.List.Folds.{list_any-append}
use Rattle.std.proofs.lemmas.List.Sums.{sum_by-append}
use Rattle.tile_handoff.specs.declared.note.End.{End}
use Rattle.tile_handoff.specs.declared.note.Note.{Note}
use Rattle.tile_handoff.specs.declared.note.Note.TheVariants.{Line as LineNote, End as EndNote}
use Rattle.tile_handoff.specs.declared.mark.Kind.TheVariants.{Take as TakeKind}
use Rattle.tile_handoff.specs.declared.event.Event.{Event}
use Rattle.tile_handoff.specs.declared.event.Event.TheVariants.{Put, Take, Close}
use Rattle.tile_handoff.specs.declared.event.Reply.{Reply}
use Rattle.tile_handoff.specs.declared.event.Reply.TheVariants.{Accepted, Closed, Full, Line as LineReply, End as EndReply, Empty, Drained}
use Rattle.tile_handoff.specs.Notes.{is_end, has_end}
use Rattle.tile_handoff.specs.History.{History, history_of, put_by, got_by, put, got, put_reply, reply_with, take_reply, reply_to, IsLegal, mark_after, marks_from, marks_of}
use Rattle.tile_handoff.specs.Row.{RowState, fresh, left_of, kind_of, closed_in, taken_in, with_note, without_first, IsClosed, IsFull, HasRoom}
use Rattle.tile_handoff.specs.Reflects.{Reflects, Answers, Changes, WouldChange}
use Rattle.tile_handoff.proofs.Histories.{EndsLast, put-push, got-push, open_front, slice_get-append, legal_sound, put_closed}

-- where an entry stands in a history that one more entry ends
split_of :
    (h before after : History) (last entry : Event × Reply) → h ++ last ∷ [] ≡ before ++ entry ∷ after
    → ((h ≡ before) × (last ≡ entry)) ⊎ ((rest : History) × (h ≡ before ++ entry ∷ rest))
split_of [] [] after last entry e = inl (refl, cc)
split_of [] (first ∷ []) after last entry e = absurd cc
split_of [] (first ∷ second ∷ before) after last entry e = absurd cc
split_of (x ∷ h) [] after last entry e = inr (h, cc)
split_of (x ∷ h) (first ∷ before) after last entry e =
    let same : x ≡ first = cc in
    let more : h ++ last ∷ [] ≡ before ++ entry ∷ after = cc in
    elim (split_of h before after last entry more) [
      | inl w ↦ let f : h ≡ before = w.0 in inl (cc, w.1)
      | inr w ↦ let f : h ≡ before ++ entry ∷ w.0 = w.1 in inr (w.0, cc)
    ]

-- a legal history stays legal with an event and its reply by counting
pub IsLegal-push :
    (capacity : ℕ) (h : History) (event : Event) (reply : Reply) → IsLegal capacity h
    → reply ≡ reply_to capacity h event → IsLegal capacity (h ++ (event, reply) ∷ [])
IsLegal-push capacity h event reply legal counted before after other answer e =
    elim (split_of h before after (event, reply) (other, answer) e) [
      | inl w ↦ sym (ap (λ x. x.1) w.1) ∙ counted ∙ ap (λ x. reply_to capacity x event) w.0
          ∙ ap (λ x. reply_to capacity before x.0) w.1
      | inr w ↦ legal before w.0 other answer w.1
    ]

marks_from-push :
    (before h : History) (entry : Event × Reply)
    → marks_from before (h ++ entry ∷ []) ≡ marks_from before h ++ mark_after (before ++ h) entry
marks_from-push before [] entry = append-nil (mark_after before entry)
    ∙ ap (λ x. mark_after x entry) (sym (append-nil before))
marks_from-push before (first ∷ h) entry =
    ap (λ x. mark_after before first ++ x) (marks_from-push (before ++ first ∷ []) h entry
    ∙ ap (λ x. marks_from (before ++ first ∷ []) h ++ mark_after x entry) (append_assoc before (first ∷ []) h))
    ∙ sym (append_assoc (mark_after before first) (marks_from (before ++ first ∷ []) h)
    (mark_after (before ++ first ∷ h) entry))

marks_of-push : (h : History) (entry : Event × Reply) → marks_of (h ++ entry ∷ []) ≡ marks_of h ++ mark_after h entry
marks_of-push h entry = marks_from-push [] h entry

-- a tile is closed in the marks of a history where an end note was put
closed_by :
    (before : History) (entry : Event × Reply) (t : ℕ)
    → closed_in (mark_after before entry) t ≡ has_end (put_by t entry)
closed_by before (Put u line, Accepted) t = by_case (eqb t u)
  where
    by_case : (b : Bool) → false ≡ has_end (cond b (LineNote line ∷ []) [])
    by_case true = refl
    by_case false = refl
closed_by before (Close u end, Accepted) t = by_case (eqb t u)
  where
    by_case : (b : Bool) → (b || false) ≡ has_end (cond b (EndNote end ∷ []) [])
    by_case true = refl
    by_case false = refl
closed_by before (Take u, LineReply line) t = refl
closed_by before (Take u, EndReply end) t = refl
closed_by before other t = refl

closed_from : (before h : History) (t : ℕ) → closed_in (marks_from before h) t ≡ has_end (put h t)
closed_from before [] t = refl
closed_from before (entry ∷ h) t =
    list_any-append _ (mark_after before entry) (marks_from (before ++ entry ∷ []) h)
    ∙ ap (λ b. b || closed_in (marks_from (before ++ entry ∷ []) h) t) (closed_by before entry t)
    ∙ ap (λ b. has_end (put_by t entry) || b) (closed_from (before ++ entry ∷ []) h t)
    ∙ sym (list_any-append is_end (put_by t entry) (put h t))

-- the marks of a history have as many takes of a tile as notes were got of it
taken_by :
    (before : History) (entry : Event × Reply) (t : ℕ)
    → taken_in (mark_after before entry) t ≡ length (got_by t entry)
taken_by before (Take u, LineReply line) t = by_case (eqb t u)
  where
    by_case : (b : Bool) → 0 + cond b 1 0 ≡ length (cond b (LineNote line ∷ []) [])
    by_case true = refl
    by_case false = refl
taken_by before (Take u, EndReply end) t = by_case (eqb t u)
  where
    by_case : (b : Bool) → 0 + cond b 1 0 ≡ length (cond b (EndNote end ∷ []) [])
    by_case true = refl
    by_case false = refl
taken_by before (Put u line, Accepted) t = refl
taken_by before (Close u end, Accepted) t = refl
taken_by before other t = refl

taken_from : (before h : History) (t : ℕ) → taken_in (marks_from before h) t ≡ length (got h t)
taken_from before [] t = refl
taken_from before (entry ∷ h) t =
    sum_by-append _ (mark_after before entry) (marks_from (before ++ entry ∷ []) h)
    ∙ ap (λ n. n + taken_in (marks_from (before ++ entry ∷ []) h) t) (taken_by before entry t)
    ∙ ap (λ n. length (got_by t entry) + n) (taken_from (before ++ entry ∷ []) h t)
    ∙ sym (length-append (got_by t entry) (got h t))

-- what the row knows of a history that it reflects
module _ (row : RowState) (h : History) (reflects : Reflects row h) (t : ℕ) where
  closed_is : closed_in row.marks t ≡ has_end (put h t)
  closed_is = ap (λ x. closed_in x t) reflects.marks ∙ closed_from [] h t

  taken_is : taken_in row.marks t ≡ length (got h t)
  taken_is = ap (λ x. taken_in x t) reflects.marks ∙ taken_from [] h t

  put_length : length (put h t) ≡ length (got h t) + length (left_of row t)
  put_length = ap length (reflects.notes t) ∙ length-append (got h t) (left_of row t)

-- the reply to a put or close of tile t is by the row's state
put_when_closed :
    (row : RowState) (h : History) (t : ℕ) → Reflects row h → IsClosed row t
    → Closed ≡ put_reply row.capacity (put h t) (got h t)
put_when_closed row h t reflects closed = sym
    (put_closed row.capacity (put h t) (got h t) (sym (closed_is row h reflects t) ∙ closed))

open_reply :
    (capacity : ℕ) (was_put was_got : List Note) (b : Bool) → has_end was_put ≡ false
    → eqb (length was_put) (length was_got + capacity) ≡ b
    → cond b Full Accepted ≡ put_reply capacity was_put was_got
open_reply capacity was_put was_got b open_ full =
    sym (ap (λ x. cond x Closed (cond (eqb (length was_put) (length was_got + capacity)) Full Accepted)) open_
    ∙ ap (λ x. cond x Full Accepted) full)

put_when_full :
    (row : RowState) (h : History) (t : ℕ) → Reflects row h → IsFull row t
    → Full ≡ put_reply row.capacity (put h t) (got h t)
put_when_full row h t reflects full =
    open_reply row.capacity (put h t) (got h t) true (sym (closed_is row h reflects t) ∙ full.0)
    (eq-eqb _ _ (omega (arith, put_length row h reflects t, full.1)))

put_when_room :
    (row : RowState) (h : History) (t : ℕ) → Reflects row h → HasRoom row t
    → Accepted ≡ put_reply row.capacity (put h t) (got h t)
put_when_room row h t reflects room =
    open_reply row.capacity (put h t) (got h t) false (sym (closed_is row h reflects t) ∙ room.0)
    (ne_eqb _ _ (λ e. omega (arith, put_length row h reflects t, room.1, e)))

-- the reply to a take of tile t is by the notes left
take_when_empty :
    (row : RowState) (h : History) (t : ℕ) → Reflects row h → left_of row t ≡ []
    → cond (closed_in row.marks t) Drained Empty ≡ take_reply (put h t) (got h t)
take_when_empty row h t reflects empty =
    let all : put h t ≡ got h t ++ [] = reflects.notes t ∙ ap (λ x. got h t ++ x) empty in
    ap (λ b. cond b Drained Empty) (closed_is row h reflects t ∙ ap has_end (all ∙ append-nil (got h t)))
    ∙ ap (λ x. cond (has_end (got h t)) Drained (reply_with x))
    (sym (ap (λ x. slice_get x (length (got h t))) all ∙ slice_get-append (got h t) []))

take_when_left :
    (row : RowState) (h : History) (t : ℕ) (note : Note) (rest : List Note) → IsLegal row.capacity h
    → Reflects row h → left_of row t ≡ note ∷ rest → reply_with (Some note) ≡ take_reply (put h t) (got h t)
take_when_left row h t note rest legal reflects left =
    let all : put h t ≡ got h t ++ note ∷ rest = reflects.notes t ∙ ap (λ x. got h t ++ x) left in
    let open_ : has_end (got h t) ≡ false = open_front (got h t) note rest
    (subst EndsLast all (legal_sound row.capacity h legal t).last) in
    sym (ap (λ b. cond b Drained (reply_with (slice_get (put h t) (length (got h t))))) open_
    ∙ ap (λ x. reply_with (slice_get x (length (got h t)))) all
    ∙ ap reply_with (slice_get-append (got h t) (note ∷ rest)))

-- the row reflects the history with an event that puts and gets nothing
reflects_refusal :
    (row : RowState) (h : History) (entry : Event × Reply) → Reflects row h → mark_after h entry ≡ []
    → ((t : ℕ) → put_by t entry ≡ []) → ((t : ℕ) → got_by t entry ≡ []) → Reflects row (h ++ entry ∷ [])
reflects_refusal row h entry reflects no_mark none_put none_got =
    record {
      marks = reflects.marks ∙ sym (marks_of-push h entry ∙ ap (λ x. marks_of h ++ x) no_mark
          ∙ append-nil (marks_of h));
      notes = λ t. put-push h entry t ∙ ap (λ x. put h t ++ x) (none_put t) ∙ append-nil (put h t) ∙ reflects.notes t
          ∙ ap (λ x. x ++ left_of row t) (sym (got-push h entry t ∙ ap (λ x. got h t ++ x) (none_got t)
          ∙ append-nil (got h t)));
    }

-- the row that took a note in reflects the history with the put or close
reflects_put :
    (row : RowState) (h : History) (entry : Event × Reply) (u : ℕ) (note : Note) → u < length row.left
    → Reflects row h
    → mark_after h entry ≡ record { tile = u; kind = kind_of note; number = length (put h u) } ∷ []
    → ((t : ℕ) → put_by t entry ≡ cond (eqb t u) (note ∷ []) []) → ((t : ℕ) → got_by t entry ≡ [])
    → Reflects (with_note row u note) (h ++ entry ∷ [])
reflects_put row h entry u note within reflects mark puts none_got =
    record {
      marks = ap (λ x. x ++ record {
        tile = u;
        kind = kind_of note;
        number =
            taken_in row.marks u + length (left_of row u);
      } ∷ []) reflects.marks
          ∙ ap (λ n. marks_of h ++ record { tile = u; kind = kind_of note; number = n } ∷ [])
          (ap (λ n. n + length (left_of row u)) (taken_is row h reflects u) ∙ sym (put_length row h reflects u))
          ∙ sym (marks_of-push h entry ∙ ap (λ x. marks_of h ++ x) mark);
      notes = λ t. put-push h entry t ∙ ap (λ x. put h t ++ x) (puts t)
          ∙ notes_at t
          ∙ ap (λ x. x ++ left_of (with_note row u note) t)
          (sym (got-push h entry t ∙ ap (λ x. got h t ++ x) (none_got t) ∙ append-nil (got h t)));
    }
  where
    notes_at : (t : ℕ) → put h t ++ cond (eqb t u) (note ∷ []) [] ≡ got h t ++ left_of (with_note row u note) t
    notes_at t = by_case (cases_eq t u)
      where
        by_case :
            (t ≡ u) ⊎ (t ≡ u → ⊥)
            → put h t ++ cond (eqb t u) (note ∷ []) [] ≡ got h t ++ left_of (with_note row u note) t
        by_case (inl same) =
            ap (λ b. put h t ++ cond b (note ∷ []) []) (eq-eqb t u same) ∙ ap (λ x. x ++ note ∷ []) (reflects.notes t)
            ∙ append_assoc (got h t) (left_of row t) (note ∷ [])
            ∙ ap (λ x. got h t ++ x) (ap (λ x. left_of row x ++ note ∷ []) same
            ∙ sym (ap (left_of (with_note row u note)) same
            ∙ get_or-set_same row.left u (left_of row u ++ note ∷ []) [] within))
        by_case (inr other) =
            ap (λ b. put h t ++ cond b (note ∷ []) []) (ne_eqb t u other) ∙ append-nil (put h t) ∙ reflects.notes t
            ∙ ap (λ x. got h t ++ x) (sym (get_or-set_other row.left u t (left_of row u ++ note ∷ []) [] other))

-- the row that gave its first note reflects the history with the take
reflects_take :
    (row : RowState) (h : History) (entry : Event × Reply) (u : ℕ) (note : Note) (rest : List Note)
    → u < length row.left → Reflects row h → left_of row u ≡ note ∷ rest
    → mark_after h entry ≡ record { tile = u; kind = TakeKind; number = length (got h u) } ∷ []
    → ((t : ℕ) → put_by t entry ≡ []) → ((t : ℕ) → got_by t entry ≡ cond (eqb t u) (note ∷ []) [])
    → Reflects (without_first row u) (h ++ entry ∷ [])
reflects_take row h entry u note rest within reflects left mark none_put gots =
    record {
      marks = ap (λ x. x ++ record { tile = u; kind = TakeKind; number = taken_in row.marks u } ∷ []) reflects.marks
          ∙ ap (λ n. marks_of h ++ record { tile = u; kind = TakeKind; number = n } ∷ []) (taken_is row h reflects u)
          ∙ sym (marks_of-push h entry ∙ ap (λ x. marks_of h ++ x) mark);
      notes = λ t. put-push h entry t ∙ ap (λ x. put h t ++ x) (none_put t) ∙ append-nil (put h t)
          ∙ notes_at t
          ∙ ap (λ x. x ++ left_of (without_first row u) t) (sym (got-push h entry t ∙ ap (λ x. got h t ++ x) (gots t)));
    }
  where
    notes_at : (t : ℕ) → put h t ≡ (got h t ++ cond (eqb t u) (note ∷ []) []) ++ left_of (without_first row u) t
    notes_at t = by_case (cases_eq t u)
      where
        by_case :
            (t ≡ u) ⊎ (t ≡ u → ⊥)
            → put h t ≡ (got h t ++ cond (eqb t u) (note ∷ []) []) ++ left_of (without_first row u) t
        by_case (inl same) =
            reflects.notes t ∙ ap (λ x. got h t ++ x) (ap (left_of row) same ∙ left)
            ∙ sym (append_assoc (got h t) (note ∷ []) rest)
            ∙ sym (ap (λ b. (got h t ++ cond b (note ∷ []) []) ++ left_of (without_first row u) t) (eq-eqb t u same)
            ∙ ap (λ x. (got h t ++ note ∷ []) ++ x)
            (ap (left_of (without_first row u)) same ∙ get_or-set_same row.left u (drop 1 (left_of row u)) [] within
            ∙ ap (drop 1) left))
        by_case (inr other) =
            reflects.notes t
            ∙ sym (ap (λ b. (got h t ++ cond b (note ∷ []) []) ++ left_of (without_first row u) t) (ne_eqb t u other)
            ∙ ap (λ x. x ++ left_of (without_first row u) t) (append-nil (got h t))
            ∙ ap (λ x. got h t ++ x) (get_or-set_other row.left u t (drop 1 (left_of row u)) [] other))

-- the answers of a row to a put, a close and a take, by its state
module _ (row : RowState) (t : ℕ) where
  pub put_closed_answer : (line : List ℕ) → IsClosed row t → Answers row (Put t line) Closed row
  put_closed_answer line closed h legal reflects = (
    put_when_closed row h t reflects closed,
    reflects_refusal row h (Put t line, Closed) reflects refl (λ _. refl) (λ _. refl),
  )

  pub put_full_answer : (line : List ℕ) → IsFull row t → Answers row (Put t line) Full row
  put_full_answer line full h legal reflects = (
    put_when_full row h t reflects full,
    reflects_refusal row h (Put t line, Full) reflects refl (λ _. refl)
        (λ _. refl),
  )

  pub put_memory_answer : (line : List ℕ) → HasRoom row t → WouldChange row (Put t line)
  put_memory_answer line room h legal reflects = subst Changes (put_when_room row h t reflects room) tt

  pub put_accepted_answer :
      (line : List ℕ) (new : RowState) → t < length row.left → HasRoom row t
      → new ≡ with_note row t (LineNote line) → Answers row (Put t line) Accepted new
  put_accepted_answer line new within room is h legal reflects = (
    put_when_room row h t reflects room,
    subst (λ x. Reflects x (h ++ (Put t line, Accepted) ∷ [])) (sym is)
        (reflects_put row h (Put t line, Accepted) t (LineNote line) within reflects refl (λ _. refl) (λ _. refl)),
  )

  pub close_closed_answer : (end : End) → IsClosed row t → Answers row (Close t end) Closed row
  close_closed_answer end closed h legal reflects = (
    put_when_closed row h t reflects closed,
    reflects_refusal row h (Close t end, Closed) reflects refl (λ _. refl) (λ _. refl),
  )

  pub close_full_answer : (end : End) → IsFull row t → Answers row (Close t end) Full row
  close_full_answer end full h legal reflects = (
    put_when_full row h t reflects full,
    reflects_refusal row h (Close t end, Full) reflects refl (λ _. refl)
        (λ _. refl),
  )

  pub close_memory_answer : (end : End) → HasRoom row t → WouldChange row (Close t end)
  close_memory_answer end room h legal reflects = subst Changes (put_when_room row h t reflects room) tt

  pub close_accepted_answer :
      (end : End) (new : RowState) → t < length row.left → HasRoom row t → new ≡ with_note row t (EndNote end)
      → Answers row (Close t end) Accepted new
  close_accepted_answer end new within room is h legal reflects = (
    put_when_room row h t reflects room,
    subst (λ x. Reflects x (h ++ (Close t end, Accepted) ∷ [])) (sym is)
        (reflects_put row h (Close t end, Accepted) t (EndNote end) within reflects refl (λ _. refl) (λ _. refl)),
  )

  pub take_drained_answer : left_of row t ≡ [] → closed_in row.marks t ≡ true → Answers row (Take t) Drained row
  take_drained_answer empty closed h legal reflects = (
    sym (ap (λ b. cond b Drained Empty) closed) ∙ take_when_empty row h t reflects empty,
    reflects_refusal row h (Take t, Drained) reflects refl (λ _. refl) (λ _. refl),
  )

  pub take_empty_answer : left_of row t ≡ [] → closed_in row.marks t ≡ false → Answers row (Take t) Empty row
  take_empty_answer empty open_ h legal reflects = (
    sym (ap (λ b. cond b Drained Empty) open_) ∙ take_when_empty row h t reflects empty,
    reflects_refusal row h (Take t, Empty) reflects refl (λ _. refl) (λ _. refl),
  )

  pub take_line_answer :
      (line : List ℕ) (rest : List Note) (new : RowState) → t < length row.left
      → left_of row t ≡ LineNote line ∷ rest → new ≡ without_first row t → Answers row (Take t) (LineReply line) new
  take_line_answer line rest new within left is h legal reflects = (
    take_when_left row h t (LineNote line) rest legal reflects left,
    subst (λ x. Reflects x (h ++ (Take t, LineReply line) ∷ [])) (sym is)
        (reflects_take row h (Take t, LineReply line) t (LineNote line) rest within reflects left refl (λ _. refl)
        (λ _. refl)),
  )

  pub take_end_answer :
      (end : End) (rest : List Note) (new : RowState) → t < length row.left → left_of row t ≡ EndNote end ∷ rest
      → new ≡ without_first row t → Answers row (Take t) (EndReply end) new
  take_end_answer end rest new within left is h legal reflects = (
    take_when_left row h t (EndNote end) rest legal reflects left,
    subst (λ x. Reflects x (h ++ (Take t, EndReply end) ∷ [])) (sym is)
        (reflects_take row h (Take t, EndReply end) t (EndNote end) rest within reflects left refl (λ _. refl)
        (λ _. refl)),
  )

  -- a take that finds a note left would change the row
  pub take_memory_answer : (note : Note) (rest : List Note) → left_of row t ≡ note ∷ rest → WouldChange row (Take t)
  take_memory_answer note rest left h legal reflects =
      subst Changes (take_when_left row h t note rest legal reflects left) (gives_change note)
    where
      gives_change : (note : Note) → Changes (reply_with (Some note))
      gives_change (LineNote line) = tt
      gives_change (EndNote end) = tt

nothing_at : (tiles t : ℕ) → get_or (replicate {A = List Note} tiles []) t [] ≡ []
nothing_at zero t = refl
nothing_at (suc tiles) zero = refl
nothing_at (suc tiles) (suc t) = nothing_at tiles t

-- a row of which nothing was asked reflects the empty history
pub fresh_reflects : (tiles capacity : ℕ) → Reflects (fresh tiles capacity) []
fresh_reflects tiles capacity = record { marks = refl; notes = λ t. sym (nothing_at tiles t) }

-- one more event with its reply
history_of-push :
    (events : List Event) (replies : List Reply) (event : Event) (reply : Reply)
    → length replies ≡ length events
    → history_of (events ++ event ∷ []) (replies ++ reply ∷ []) ≡ history_of events replies ++ (event, reply) ∷ []
history_of-push [] [] event reply same = refl
history_of-push [] (other ∷ replies) event reply same = absurd (omega arith)
history_of-push (other ∷ events) [] event reply same = absurd (omega arith)
history_of-push (first ∷ events) (answer ∷ replies) event reply same =
    ap (λ x. (first, answer) ∷ x) (history_of-push events replies event reply (omega arith))

-- the empty history is legal
pub legal_empty : (capacity : ℕ) → IsLegal capacity []
legal_empty capacity [] after event reply e = cc
legal_empty capacity (entry ∷ before) after event reply e = cc

-- after one more event the row still reflects a legal history
pub reflects_push :
    (capacity : ℕ) (old new : RowState) (events : List Event) (replies more : List Reply) (event : Event)
    (reply : Reply)
    → old.capacity ≡ capacity → length replies ≡ length events → more ≡ replies ++ reply ∷ []
    → IsLegal capacity (history_of events replies) → Reflects old (history_of events replies)
    → Answers old event reply new
    → IsLegal capacity (history_of (events ++ event ∷ []) more) × Reflects new (history_of (events ++ event ∷ []) more)
reflects_push capacity old new events replies more event reply same answered grown legal reflects answers =
    let h : History = history_of events replies in
    let longer : h ++ (event, reply) ∷ [] ≡ history_of (events ++ event ∷ []) more =
    sym (ap (history_of (events ++ event ∷ [])) grown ∙ history_of-push events replies event reply answered) in
    let answer = answers h (subst (λ n. IsLegal n h) (sym same) legal) reflects in
    let counted : reply ≡ reply_to capacity h event = answer.0 ∙ ap (λ n. reply_to n h event) same in (
      subst (IsLegal capacity) longer (IsLegal-push capacity h event reply legal counted),
      subst (Reflects new) longer answer.1,
    )
