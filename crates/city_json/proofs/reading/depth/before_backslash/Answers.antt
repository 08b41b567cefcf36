use Rattle.std.proofs.Common.{not, arith}
use Rattle.std.proofs.lemmas.List.Sums.{prefix_len-le-length}
use Rattle.city_json.proofs.BlockLemmas.{is_backslash, place_is, place_none}
use Rattle.city_json.proofs.reading.depth.before_backslash.Goals as goal

pub returns-then-marks-eq0-clause-place : goal.returns-then-marks-eq0-clause-place
returns-then-marks-eq0-clause-place c =
    place_none is_backslash c.args.block _ c.fits-block.0 c.marks_of-marks.ensures c.if-marks-eq0.true

pub returns-clause-place : goal.returns-clause-place
returns-clause-place c = place_is is_backslash c.args.block _ c.fits-block.0 c.marks_of-marks.ensures (omega arith)

pub returns-clause-within : goal.returns-clause-within
returns-clause-within c =
    omega (
      arith,
      place_is is_backslash c.args.block _ c.fits-block.0 c.marks_of-marks.ensures (omega arith),
      prefix_len-le-length (λ b. not (is_backslash b)) c.args.block,
    )
