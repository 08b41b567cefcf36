use Rattle.std.proofs.Common.{length, [], ◌≡◌, ◌+◌, ◌∙◌, sym, ap, arith, false, true, drop, length-drop}
use Rattle.std.proofs.lemmas.Bool.Decides.{nat_tests}
use Rattle.std.proofs.lemmas.List.{drop_all, take_rest}
use Rattle.city_json.specs.Depth.{outside, unquoted}
use Rattle.city_json.specs.BracketRun.{place_of}
use Rattle.city_json.proofs.DepthLemmas.{deep_from, deep_from_over, deep_from_end, deep_from-run, IsBracketRun-few, IsDeep_from, short_is_shallow}
use Rattle.city_json.proofs.reading.depth.is_deep.Goals as goal

pub loop-opened-preserved : goal.loop-opened-preserved
loop-opened-preserved c =
    let old = c.loop-opened in
    let run = c.next_run-run.result in
    let told = c.next_run-run.ensures in
    let few = IsBracketRun-few old.rest.now
    (drop run.len old.rest.now) run.len run.opened run.closed old.in_string run.in_string told.run in
    let rest = take_rest old.rest.now run.len in
    record {
      so_far =
          ap (λ xs. deep_from (old.opened + run.opened) (old.closed + run.closed)
          (unquoted (place_of run.in_string) xs)) rest
          ∙ (deep_from-run old.rest.now run.len old.opened old.closed run.opened run.closed old.in_string run.in_string
          told.run (omega arith) told.short ∙ old.invariant.so_far);
      few_opened = omega (arith, few.0, ap length rest, length-drop run.len old.rest.now);
      few_closed = omega (arith, few.1, ap length rest, length-drop run.len old.rest.now);
    }

pub returns-then-is_empty : goal.returns-then-is_empty
returns-then-is_empty c =
    let old = c.loop-opened in
    let ended : length old.rest.now ≡ 0 = grind (arith, nat_tests) in
    let none : old.rest.now ≡ [] = drop_all 0 old.rest.now (omega arith) in
    let so_far : deep_from old.opened old.closed (unquoted (place_of old.in_string) [])
    ≡ deep_from 0 0 (unquoted outside c.args.bytes.now) = rw none at old.invariant.so_far in
    IsDeep_from false c.args.bytes.now (sym (deep_from_end old.opened old.closed (omega arith)) ∙ so_far)

pub returns : goal.returns
returns c =
    let old = c.loop-opened in
    IsDeep_from true c.args.bytes.now
    (sym (deep_from_over old.opened old.closed (unquoted (place_of old.in_string) old.rest.now) (omega arith))
    ∙ old.invariant.so_far)

pub overflow_add-closed-in-loop-opened-2 : goal.overflow_add-closed-in-loop-opened-2
overflow_add-closed-in-loop-opened-2 c =
    let old = c.loop-opened in
    let run = c.next_run-run.result in
    omega (
      arith,
      (IsBracketRun-few old.rest.now
          (drop run.len old.rest.now) run.len run.opened run.closed old.in_string run.in_string
          c.next_run-run.ensures.run).1,
    )

pub returns-then-bytes-le-MAX_DEPTH : goal.returns-then-bytes-le-MAX_DEPTH
returns-then-bytes-le-MAX_DEPTH c = short_is_shallow c.args.bytes.now (omega (arith, c.if-bytes-le-MAX_DEPTH.true))
