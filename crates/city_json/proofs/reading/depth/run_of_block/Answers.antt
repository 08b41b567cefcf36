use Rattle.std.proofs.Common.{◌≤◌, [], arith, not, take, length-take}
use Rattle.std.proofs.lemmas.List.Sums.{prefix_len-le-length}
use Rattle.city_json.specs.Depth.{is_opening}
use Rattle.city_json.specs.BracketRun.{place_of}
use Rattle.city_json.proofs.BlockLemmas.{is_backslash, HasNoBackslash-front, IsBracketRun-block, count_by-unquoted}
use Rattle.city_json.proofs.reading.depth.run_of_block.Goals as goal

pub overflow_shr-result : goal.overflow_shr-result
overflow_shr-result c = omega (
  arith,
  c.requires.plain,
  prefix_len-le-length (λ b. not (is_backslash b)) c.args.block,
  c.fits-block.0,
)

pub returns-clause-run : goal.returns-clause-run
returns-clause-run c back =
    let within : c.args.len ≤ 64 =
    omega (
      arith,
      c.requires.plain,
      prefix_len-le-length (λ b. not (is_backslash b)) c.args.block,
      c.fits-block.0,
    ) in
    IsBracketRun-block c.args.block back c.args.len _ _ _ c.args.in_string c.fits-block.0 c.requires.some within
    (HasNoBackslash-front c.args.block c.args.len c.requires.plain) c.marks_of_either.ensures
    c.marks_of_either-2.ensures c.outside_marks-outside.ensures

pub returns-clause-few : goal.returns-clause-few
returns-clause-few c =
    let run = returns-clause-run c [] in
    omega (
      arith,
      run.opened_is,
      count_by-unquoted is_opening (take c.args.len c.args.block)
          (place_of c.args.in_string),
      length-take c.args.len c.args.block,
    )
