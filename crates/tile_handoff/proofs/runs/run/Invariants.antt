use Rattle.std.proofs.Common.{◌≡◌, length}
use Rattle.tile_handoff.specs.History.{history_of, IsLegal}
use Rattle.tile_handoff.specs.Reflects.{Reflects}
use Rattle.tile_handoff.proofs.runs.run.Given as goal

-- the events so far with their replies are a legal history, and the row reflects it
abbrev pub invariant-loop-event : goal.invariant-loop-event
invariant-loop-event l =
    record {
      can_next : (goal.iterator-loop-event).can_next l.event-iterator;
      is_finite : (goal.iterator-loop-event).is_finite l.event-iterator;
      answered : length l.replies.items ≡ length l.yielded;
      legal : IsLegal l.capacity (history_of l.yielded l.replies.items);
      reflects : Reflects l.row (history_of l.yielded l.replies.items);
      capacity : l.row.capacity ≡ l.capacity;
      tiles : length l.row.left ≡ l.tiles;
    }
