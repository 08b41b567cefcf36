use Rattle.std.proofs.Common.{arith, drop, sym, subst, take, List, ℕ}
use Rattle.std.proofs.lemmas.List.{take-take}
use Rattle.city_json.specs.BracketRun.{IsBracketRun}
use Rattle.city_json.proofs.reading.depth.next_run.Goals as goal

pub returns-then-len-gt0-clause-run : goal.returns-then-len-gt0-clause-run
returns-then-len-gt0-clause-run c =
    let bytes = c.args.bytes.now in
    let run = c.run_of_block.result in
    let len = c.before_backslash-len.result in
    subst (λ (n : ℕ). IsBracketRun c.args.in_string (take n bytes) (drop n bytes) run.opened run.closed run.in_string)
    (sym c.run_of_block.ensures.len)
    (subst (λ (front : List ℕ). IsBracketRun c.args.in_string front
    (drop len bytes) run.opened run.closed run.in_string) (take-take len 64 bytes (omega arith))
    (c.run_of_block.ensures.run (drop len bytes)))
