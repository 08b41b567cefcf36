-- All that was put was taken: the end note was, so nothing is left.
use Rattle.std.proofs.Common.{ap, ◌∙◌}
use Rattle.tile_handoff.specs.Ends.{notes_put, notes_carried, notes_taken}
use Rattle.tile_handoff_tests.specs.declared.rings.TheConstants.{END}
use Rattle.tile_handoff_tests.proofs.Passing.{end_taken, passed_are}
use Rattle.tile_handoff_tests.proofs.rings.pass.Goals as goal

pub returns : goal.returns
returns g c =
    let passed = c.in-Ok-drain.passed.items in
    let promise = c.in-Ok.feeder.promise in
    let taken = c.in-Ok-drain.ensures.taken in
    let empty = c.in_ok-sender.ensures.empty in
    let before = notes_taken c.in_ok-sender.receiver in
    let after = notes_taken c.drain.new.receiver in
    let none_left = c.in_ok-whole.ensures.drained (end_taken before after passed taken.0 taken.1 empty.1) in
    let put = ap (λ p. notes_put p.sender.value) c.in-Ok.ensures.ok ∙ ap notes_put c.of-2.ensures ∙ empty.0 in
    let lines = ap (λ p. p.lines.value.items) c.in-Ok.ensures.ok ∙ ap (λ l. l.items) c.of.ensures in
    let all = c.in_ok-whole.ensures.whole none_left in (
      passed_are passed promise.lines.value.items c.args.lines.items before (notes_put promise.sender.value) after
          (notes_carried c.join.result) taken.0 END taken.1 empty.1 c.join.ensures.1 put lines all,
      none_left,
    )
