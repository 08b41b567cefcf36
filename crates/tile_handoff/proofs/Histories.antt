-- Histories: what one more event changes, and the law of order and close.
use Rattle.std.proofs.Common.{zero, suc, ◌||◌, arith, ◌≡◌, ℕ, ◌+◌, Bool, true, false, cond, eqb, List, [], ◌∷◌, ◌++◌, length, Option, Some, None, sym, ◌∙◌, ap, subst, refl, append_assoc}
use Rattle.std.specs.Prelude.{slice_get}
use Rattle.std.specs.List.{Contains}
use Rattle.std.proofs.lemmas.Grind.{flat_map-append}
use Rattle.std.proofs.lemmas.List.{append-nil}
use Rattle.std.proofs.lemmas.List.Folds.{list_any-append}
use Rattle.std.proofs.lemmas.Bool.{eqb-true, eq-eqb}
use Rattle.tile_handoff.specs.declared.note.End.{End}
use Rattle.tile_handoff.specs.declared.note.Note.{Note}
use Rattle.tile_handoff.specs.declared.note.Note.TheVariants.{Line as LineNote, End as EndNote}
use Rattle.tile_handoff.specs.declared.event.Event.{Event}
use Rattle.tile_handoff.specs.declared.event.Event.TheVariants.{Put, Take, Close}
use Rattle.tile_handoff.specs.declared.event.Reply.{Reply}
use Rattle.tile_handoff.specs.declared.event.Reply.TheVariants.{Accepted, Closed, Full, Line as LineReply, End as EndReply, Drained}
use Rattle.tile_handoff.specs.Notes.{is_end, has_end}
use Rattle.tile_handoff.specs.History.{History, put_by, got_by, put, got, put_reply, reply_with, reply_to, IsLegal}
use Rattle.tile_handoff.specs.OrderAndClose.{IsPrefix, PutsTo, InOrder, WholeAtEnd, NothingAfterClose}

pub put-push : (h : History) (entry : Event × Reply) (t : ℕ) → put (h ++ entry ∷ []) t ≡ put h t ++ put_by t entry
put-push h entry t = flat_map-append (put_by t) h (entry ∷ []) ∙ ap (λ x. put h t ++ x) (append-nil (put_by t entry))

pub got-push : (h : History) (entry : Event × Reply) (t : ℕ) → got (h ++ entry ∷ []) t ≡ got h t ++ got_by t entry
got-push h entry t = flat_map-append (got_by t) h (entry ∷ []) ∙ ap (λ x. got h t ++ x) (append-nil (got_by t entry))

-- what holds at the start and is kept by each event with its reply by counting, holds of each legal history
pub along :
    (capacity : ℕ) (P : History → Type 0)
    → ((h : History) (event : Event) (reply : Reply) → reply ≡ reply_to capacity h event → P h
    → P (h ++ (event, reply) ∷ []))
    → (before later : History) → IsLegal capacity (before ++ later) → P before → P (before ++ later)
along capacity P step before [] legal p = subst P (sym (append-nil before)) p
along capacity P step before ((event, reply) ∷ later) legal p =
    let e : (before ++ (event, reply) ∷ []) ++ later ≡ before ++ (event, reply) ∷ later =
    append_assoc before ((event, reply) ∷ []) later in
    subst P e (along capacity P step (before ++ (event, reply) ∷ []) later (subst (IsLegal capacity) (sym e) legal)
    (step before event reply (legal before later event reply refl) p))

-- the replies to an accepted put or close, and to a take that gave a note
accepted_is :
    (closed full : Bool) → Accepted ≡ cond closed Closed (cond full Full Accepted)
    → (closed ≡ false) × (full ≡ false)
accepted_is true full e = cc
accepted_is false true e = cc
accepted_is false false e = (refl, refl)

line_is :
    (drained : Bool) (next : Option Note) (line : List ℕ)
    → LineReply line ≡ cond drained Drained (reply_with next) → next ≡ Some (LineNote line)
line_is true next line e = cc
line_is false None line e = cc
line_is false (Some (LineNote other)) line e = cc
line_is false (Some (EndNote end)) line e = cc

end_is :
    (drained : Bool) (next : Option Note) (end : End) → EndReply end ≡ cond drained Drained (reply_with next)
    → next ≡ Some (EndNote end)
end_is true next end e = cc
end_is false None end e = cc
end_is false (Some (LineNote line)) end e = cc
end_is false (Some (EndNote other)) end e = cc

-- in a list of notes an end note stands only last
abbrev pub EndsLast : List Note → Type 0
EndsLast [] = Unit {0}
EndsLast (note ∷ notes) = (is_end note ≡ true → notes ≡ []) × EndsLast notes

EndsLast-push : (notes : List Note) (note : Note) → has_end notes ≡ false → EndsLast (notes ++ note ∷ [])
EndsLast-push [] note open_ = (λ e. refl, tt)
EndsLast-push (LineNote line ∷ notes) note open_ = (λ e. absurd cc, EndsLast-push notes note open_)
EndsLast-push (EndNote end ∷ notes) note open_ = absurd cc

-- where a note stands after others, there is no end note among these
pub open_front :
    (front : List Note) (note : Note) (notes : List Note) → EndsLast (front ++ note ∷ notes)
    → has_end front ≡ false
open_front [] note notes last = refl
open_front (LineNote line ∷ front) note notes last = open_front front note notes last.1
open_front (EndNote end ∷ front) note notes last = absurd (nonempty front note notes (last.0 refl))
  where
    nonempty : (front : List Note) (note : Note) (notes : List Note) → front ++ note ∷ notes ≡ [] → ⊥
    nonempty [] note notes e = cc
    nonempty (first ∷ front) note notes e = cc

pub slice_get-append : (front notes : List Note) → slice_get (front ++ notes) (length front) ≡ slice_get notes 0
slice_get-append [] notes = refl
slice_get-append (note ∷ front) notes = slice_get-append front notes

-- the note that a take gives is the first one after those that were got
next_is :
    (front rest : List Note) (note : Note) → slice_get (front ++ rest) (length front) ≡ Some note
    → (after : List Note) × (rest ≡ note ∷ after)
next_is front [] note e = absurd (none front e)
  where
    none : (front : List Note) → slice_get (front ++ []) (length front) ≡ Some note → ⊥
    none [] e = cc
    none (first ∷ front) e = none front e
next_is front (first ∷ rest) note e = (
  rest,
  ap (λ x. x ∷ rest) (let f = sym (slice_get-append front (first ∷ rest)) ∙ e in cc),
)

-- of a tile: what was got is a prefix of what was put, and an end note was put last
pub record Sound (was_put was_got : List Note) : Type 0 where
  pub prefix : IsPrefix was_got was_put
  pub last : EndsLast was_put

Sound-refused : (was_put was_got : List Note) → Sound was_put was_got → Sound (was_put ++ []) (was_got ++ [])
Sound-refused was_put was_got sound = rw (append-nil was_put, append-nil was_got) sound

Sound-put :
    (was_put was_got : List Note) (note : Note) → has_end was_put ≡ false → Sound was_put was_got
    → Sound (was_put ++ note ∷ []) (was_got ++ [])
Sound-put was_put was_got note open_ sound =
    record {
      prefix = (
        sound.prefix.0 ++ note ∷ [],
        ap (λ x. x ++ note ∷ []) sound.prefix.1
            ∙ append_assoc was_got sound.prefix.0 (note ∷ [])
            ∙ ap (λ x. x ++ (sound.prefix.0 ++ note ∷ [])) (sym (append-nil was_got)),
      );
      last = EndsLast-push was_put note open_;
    }

Sound-got :
    (was_put was_got : List Note) (note : Note) → slice_get was_put (length was_got) ≡ Some note
    → Sound was_put was_got → Sound (was_put ++ []) (was_got ++ note ∷ [])
Sound-got was_put was_got note next sound =
    let split = next_is was_got sound.prefix.0 note
    (ap (λ x. slice_get x (length was_got)) (sym sound.prefix.1) ∙ next) in
    record {
      prefix = (
        split.0,
        append-nil was_put ∙ sound.prefix.1 ∙ ap (λ x. was_got ++ x) split.1
            ∙ sym (append_assoc was_got (note ∷ []) split.0),
      );
      last = rw append-nil sound.last;
    }

-- an event of tile u concerns tile t only where they are the same
pub at_tile :
    (t u : ℕ) (notes : List Note) (P : List Note → Type 0) → (t ≡ u → P notes) → P []
    → P (cond (eqb t u) notes [])
at_tile t u notes P here elsewhere = by_case (eqb t u) refl
  where
    by_case : (b : Bool) → eqb t u ≡ b → P (cond b notes [])
    by_case true e = here (eqb-true t u e)
    by_case false e = elsewhere

-- every tile of a history is sound
abbrev pub AllSound : History → Type 0
AllSound h = (t : ℕ) → Sound (put h t) (got h t)

Sound-accepted :
    (capacity : ℕ) (h : History) (u : ℕ) (note : Note) → Accepted ≡ put_reply capacity (put h u) (got h u)
    → AllSound h → (t : ℕ) → Sound (put h t ++ cond (eqb t u) (note ∷ []) []) (got h t ++ [])
Sound-accepted capacity h u note e sound t =
    at_tile t u (note ∷ []) (λ notes. Sound (put h t ++ notes) (got h t ++ []))
    (λ same. Sound-put (put h t) (got h t) note
    (ap (λ x. has_end (put h x)) same ∙ (accepted_is (has_end (put h u)) _ e).0) (sound t))
    (Sound-refused (put h t) (got h t) (sound t))

Sound-given :
    (h : History) (u : ℕ) (note : Note) → slice_get (put h u) (length (got h u)) ≡ Some note → AllSound h
    → (t : ℕ) → Sound (put h t ++ []) (got h t ++ cond (eqb t u) (note ∷ []) [])
Sound-given h u note e sound t =
    at_tile t u (note ∷ []) (λ notes. Sound (put h t ++ []) (got h t ++ notes))
    (λ same. Sound-got (put h t) (got h t) note (ap (λ x. slice_get (put h x) (length (got h x))) same ∙ e) (sound t))
    (Sound-refused (put h t) (got h t) (sound t))

Sound-entry :
    (capacity : ℕ) (h : History) (event : Event) (reply : Reply) → reply ≡ reply_to capacity h event
    → AllSound h → (t : ℕ) → Sound (put h t ++ put_by t (event, reply)) (got h t ++ got_by t (event, reply))
Sound-entry capacity h (Put u line) Accepted e sound t = Sound-accepted capacity h u (LineNote line) e sound t
Sound-entry capacity h (Close u end) Accepted e sound t = Sound-accepted capacity h u (EndNote end) e sound t
Sound-entry capacity h (Take u) (LineReply line) e sound t =
    Sound-given h u (LineNote line) (line_is (has_end (got h u)) _ line e) sound t
Sound-entry capacity h (Take u) (EndReply end) e sound t =
    Sound-given h u (EndNote end) (end_is (has_end (got h u)) _ end e) sound t
Sound-entry capacity h event reply e sound t = Sound-refused (put h t) (got h t) (sound t)

Sound-push :
    (capacity : ℕ) (h : History) (event : Event) (reply : Reply) → reply ≡ reply_to capacity h event
    → AllSound h → AllSound (h ++ (event, reply) ∷ [])
Sound-push capacity h event reply e sound t =
    subst (λ x. Sound x (got (h ++ (event, reply) ∷ []) t)) (sym (put-push h (event, reply) t))
    (subst (λ x. Sound (put h t ++ put_by t (event, reply)) x) (sym (got-push h (event, reply) t))
    (Sound-entry capacity h event reply e sound t))

-- every tile of a legal history is sound
pub legal_sound : (capacity : ℕ) (h : History) → IsLegal capacity h → AllSound h
legal_sound capacity h legal = along capacity AllSound (Sound-push capacity) [] h legal
    (λ t. record { prefix = ([], refl); last = tt })

-- the law of order and close
pub in_order : (capacity : ℕ) (h : History) → IsLegal capacity h → InOrder h
in_order capacity h legal t = (legal_sound capacity h legal t).prefix

has_end-left : (front notes : List Note) → has_end front ≡ true → has_end (front ++ notes) ≡ true
has_end-left front notes e = list_any-append is_end front notes ∙ ap (λ b. b || has_end notes) e

has_end-right : (front notes : List Note) → has_end notes ≡ true → has_end (front ++ notes) ≡ true
has_end-right front notes e = list_any-append is_end front notes ∙ ap (λ b. has_end front || b) e
    ∙ or_true (has_end front)
  where
    or_true : (b : Bool) → (b || true) ≡ true
    or_true true = refl
    or_true false = refl

-- an event of tile t gives or puts its note to tile t
own_note : (t : ℕ) (note : Note) → cond (eqb t t) (note ∷ []) [] ≡ note ∷ []
own_note t note = ap (λ b. cond b (note ∷ []) []) (eq-eqb t t refl)

end_got : (h : History) (t : ℕ) (end : End) → Contains h (Take t, EndReply end) → has_end (got h t) ≡ true
end_got [] t end (k, within, e) = absurd (omega arith)
end_got (entry ∷ h) t end (zero, within, e) =
    has_end-left (got_by t entry) (got h t) (ap (λ x. has_end (got_by t x)) e ∙ ap has_end (own_note t (EndNote end)))
end_got (entry ∷ h) t end (suc k, within, e) =
    has_end-right (got_by t entry) (got h t) (end_got h t end (k, omega arith, e))

-- where the end note was got, nothing is left
all_got : (was_put was_got : List Note) → Sound was_put was_got → has_end was_got ≡ true → was_got ≡ was_put
all_got was_put was_got sound e = rest_is sound.prefix.0 sound.prefix.1
  where
    rest_is : (rest : List Note) → was_put ≡ was_got ++ rest → was_got ≡ was_put
    rest_is [] split = sym (split ∙ append-nil was_got)
    rest_is (note ∷ rest) split = absurd (let open_ = open_front was_got note rest (subst EndsLast split sound.last) in
        cc)

pub whole_at_end : (capacity : ℕ) (h : History) → IsLegal capacity h → WholeAtEnd h
whole_at_end capacity h legal t end taken =
    all_got (put h t) (got h t) (legal_sound capacity h legal t) (end_got h t end taken)

pub put_closed :
    (capacity : ℕ) (was_put was_got : List Note) → has_end was_put ≡ true
    → put_reply capacity was_put was_got ≡ Closed
put_closed capacity was_put was_got e = ap
    (λ b. cond b Closed (cond (eqb (length was_put) (length was_got + capacity)) Full Accepted)) e

pub closed_reply :
    (capacity : ℕ) (h : History) (t : ℕ) (event : Event) → PutsTo t event → has_end (put h t) ≡ true
    → reply_to capacity h event ≡ Closed
closed_reply capacity h t (Put u line) same e =
    put_closed capacity (put h u) (got h u) (ap (λ x. has_end (put h x)) same ∙ e)
closed_reply capacity h t (Take u) same e = absurd same
closed_reply capacity h t (Close u end) same e =
    put_closed capacity (put h u) (got h u) (ap (λ x. has_end (put h x)) same ∙ e)

end_put :
    (before between : History) (t : ℕ) (end : End)
    → has_end (put (before ++ (Close t end, Accepted) ∷ between) t) ≡ true
end_put before between t end =
    ap has_end (flat_map-append (put_by t) before ((Close t end, Accepted) ∷ between))
    ∙ has_end-right (put before t) (put_by t (Close t end, Accepted) ++ put between t)
    (has_end-left (put_by t (Close t end, Accepted)) (put between t) (ap has_end (own_note t (EndNote end))))

pub nothing_after_close : (capacity : ℕ) (h : History) → IsLegal capacity h → NothingAfterClose h
nothing_after_close capacity h legal t end before between after event reply split puts =
    let first : History = before ++ (Close t end, Accepted) ∷ between in
    legal first after event reply split ∙ closed_reply capacity first t event puts (end_put before between t end)
