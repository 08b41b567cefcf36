-- How a row reflects a history, and what a call answers after it.
use Rattle.std.specs.Prelude.{ℕ, ◌≡◌, [], ◌∷◌, ◌++◌}
use Rattle.tile_handoff.specs.History.{History, put, got, reply_to, IsLegal, marks_of}
use Rattle.tile_handoff.specs.Row.{RowState, left_of}
use Rattle.tile_handoff.specs.declared.event.Event.{Event}
use Rattle.tile_handoff.specs.declared.event.Reply.{Reply}
use Rattle.tile_handoff.specs.declared.event.Reply.TheVariants.{Accepted, Line, End}

-- the marks are those of the history, and of each tile what was put is what was got and then what is left
pub record Reflects (row : RowState) (h : History) : Type 0 where
  pub marks : row.marks ≡ marks_of h
  pub notes : (t : ℕ) → put h t ≡ got h t ++ left_of row t

-- after each legal history that the old row reflects, the reply is the one by counting, and the new row reflects
-- the history with the event
abbrev pub Answers : RowState → Event → Reply → RowState → Type 0
Answers old event reply new =
    (h : History) → IsLegal old.capacity h → Reflects old h
    → (reply ≡ reply_to old.capacity h event) × Reflects new (h ++ (event, reply) ∷ [])

-- a reply accepts or gives a note
abbrev pub Changes : Reply → Type 0
Changes Accepted = Unit {0}
Changes (Line line) = Unit {0}
Changes (End end) = Unit {0}
Changes refusal = ⊥

-- after each legal history that the row reflects, the reply by counting accepts or gives a note
abbrev pub WouldChange : RowState → Event → Type 0
WouldChange row event =
    (h : History) → IsLegal row.capacity h → Reflects row h
    → Changes (reply_to row.capacity h event)
