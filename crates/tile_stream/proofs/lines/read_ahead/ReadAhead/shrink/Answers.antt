use Rattle.std.proofs.Common.{◌≡◌, ◌≤◌, ◌-◌, slice_range, vec_len, subst, arith}
use Rattle.std.proofs.lemmas.Grind.{common_steps}
use Rattle.tile_stream.specs.Whole.{EndsTexts}
use Rattle.tile_stream.proofs.lines.read_ahead.ReadAhead.shrink.Goals as goal

pub invariant_of-self : goal.invariant_of-self
invariant_of-self g c =
    let s = c.self.inside in
    let held = slice_range s.piece.items s.at s.filled in
    let piece = c.extend_from_slice.new.self in
    let is : slice_range piece.items 0 (s.filled - s.at) ≡ held = grind (arith, common_steps) in
    let within : s.filled - s.at ≤ vec_len piece = grind (arith, common_steps) in
    let texts : s.texts - s.at ≡ c.saturating_sub-self-inside.result - 0 = grind (arith, common_steps) in
    (omega arith, within, rw is (subst (λ n. EndsTexts held n) texts c.self.invariant.2))
