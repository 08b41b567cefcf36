use Rattle.std.proofs.Common.{◌≤◌, arith, not}
use Rattle.std.proofs.lemmas.List.Sums.{prefix_len-le-length}
use Rattle.city_json.proofs.BlockLemmas.{is_backslash, HasNoBackslash-front, outside_marks_are}
use Rattle.city_json.proofs.reading.depth.outside_marks.Goals as goal

pub overflow_sub-result : goal.overflow_sub-result
overflow_sub-result c = omega (
  arith,
  c.requires.plain,
  prefix_len-le-length (λ b. not (is_backslash b)) c.args.block,
  c.fits-block.0,
)

pub returns : goal.returns
returns c =
    let within : c.args.len ≤ 64 =
    omega (
      arith,
      c.requires.plain,
      prefix_len-le-length (λ b. not (is_backslash b)) c.args.block,
      c.fits-block.0,
    ) in
    rw c.all_or_none.ensures (outside_marks_are c.args.block c.args.len c.parities-ends.result c.args.in_string
    c.fits-block.0 within
    (HasNoBackslash-front c.args.block c.args.len c.requires.plain) (rw c.marks_of.ensures at c.parities-ends.ensures))
