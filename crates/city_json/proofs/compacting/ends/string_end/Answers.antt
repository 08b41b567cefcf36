use Rattle.std.proofs.Common.{arith}
use Rattle.city_json.proofs.StringEnds.{not_at_end, run_at, string_closes, string_goes_on}
use Rattle.city_json.proofs.compacting.ends.string_end.Goals as goal

pub returns-then-i-text-clause-is : goal.returns-then-i-text-clause-is
returns-then-i-text-clause-is c = λ content rest is.
    let so_far = c.loop-i.invariant.goes_on content rest is in
    let run = run_at c.args.text.now so_far.0 rest c.loop-i.i c.plain_len-i.result c.plain_len-i.ensures.value
    so_far.1 in
    absurd (omega (arith, not_at_end c.args.text.now run.0 rest _ run.1, c.if-i-text.true))

pub returns-then-text-i-eq34-clause-is : goal.returns-then-text-i-eq34-clause-is
returns-then-text-i-eq34-clause-is c = λ content rest is.
    let so_far = c.loop-i.invariant.goes_on content rest is in
    let run = run_at c.args.text.now so_far.0 rest c.loop-i.i c.plain_len-i.result c.plain_len-i.ensures.value
    so_far.1 in
    string_closes c.args.text.now so_far.0 rest c.loop-i.i c.plain_len-i.result c.plain_len-i.ensures.value so_far.1
    (not_at_end c.args.text.now run.0 rest _ run.1) c.if-text-i-eq34.true

pub returns-then-text-i-lt2-clause-is : goal.returns-then-text-i-lt2-clause-is
returns-then-text-i-lt2-clause-is c = λ content rest is.
    let so_far = c.loop-i.invariant.goes_on content rest is in
    let run = run_at c.args.text.now so_far.0 rest c.loop-i.i c.plain_len-i.result c.plain_len-i.ensures.value
    so_far.1 in
    let on = string_goes_on c.args.text.now so_far.0 rest c.loop-i.i c.plain_len-i.result c.plain_len-i.ensures.value
    so_far.1 (not_at_end c.args.text.now run.0 rest _ run.1) c.if-text-i-eq34.false in
    absurd (omega (arith, on.2, c.if-text-i-lt2.true))

pub loop-i-preserved : goal.loop-i-preserved
loop-i-preserved c = record {
  onward = omega (arith, c.loop-i.invariant.onward);
  within = omega (arith, c.if-text-i-lt2.false);
  goes_on = λ content rest is.
      let so_far = c.loop-i.invariant.goes_on content rest is in
      let run = run_at c.args.text.now so_far.0 rest c.loop-i.i c.plain_len-i.result c.plain_len-i.ensures.value
      so_far.1 in
      let on = string_goes_on c.args.text.now so_far.0 rest c.loop-i.i c.plain_len-i.result c.plain_len-i.ensures.value
      so_far.1 (not_at_end c.args.text.now run.0 rest _ run.1) c.if-text-i-eq34.false in
      (on.0, on.1);
}

pub returns-clause-is : goal.returns-clause-is
returns-clause-is c = λ content rest is.
    let so_far = c.loop-i.invariant.goes_on content rest is in
    absurd (omega (arith, not_at_end c.args.text.now so_far.0 rest _ so_far.1, c.loop-i-test.false))
