use Rattle.std.proofs.Common.{◌∙◌, ◌++◌, [], ◌∷◌, ap, sym, append_assoc}
use Rattle.tile_handoff.specs.Ends.{notes_taken}
use Rattle.tile_merge.specs.Threads.{RunningState, lines_in}
use Rattle.tile_merge.proofs.Taken.{lines_more, lines_ended}
use Rattle.tile_merge.proofs.merging.threaded.running.RunningTile.take.Goals as goal

pub returns-in-Some-Line-clause-line : goal.returns-in-Some-Line-clause-line
returns-in-Some-Line-clause-line g c =
    let line = c.in-Some-Line.line in
    let first = c.self.inside.first in
    let before = notes_taken c.self.inside.receiver in
    let taken = rw c.in-Some-Line.field-0-is at c.in-Some-Line.ensures.taken in
    ap (λ lines. first ++ lines) (ap lines_in taken ∙ lines_more before line)
    ∙ sym (append_assoc first (lines_in before) (line ∷ []))
    ∙ ap (λ (tile : RunningState g.row.R.Denot). tile.lines ++ line ∷ []) c.self.view_is

pub returns-in-Some-End-clause-none : goal.returns-in-Some-End-clause-none
returns-in-Some-End-clause-none g c =
    let end = c.in-Some-End.end in
    let taken = rw c.in-Some-End.field-0-is at c.in-Some-End.ensures.taken in
    ap (λ lines. c.self.inside.first ++ lines) (ap lines_in taken ∙ lines_ended (notes_taken c.self.inside.receiver) end)
    ∙ ap (λ (tile : RunningState g.row.R.Denot). tile.lines) c.self.view_is
