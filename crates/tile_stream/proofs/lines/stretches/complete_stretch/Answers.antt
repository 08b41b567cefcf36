use Rattle.std.proofs.Common.{◌≡◌, ◌+◌, length, take, ap, sym, ◌∙◌, arith, inl}
use Rattle.std.proofs.lemmas.Grind.{common_steps}
use Rattle.std.proofs.lemmas.List.{length-take-le, take_at}
use Rattle.byte_streams.specs.declared.fault.Fault.TheVariants.{Read}
use Rattle.tile_stream.specs.Ahead.{MayCome}
use Rattle.tile_stream.specs.Stretches.{IsRefusedLine}
use Rattle.tile_stream.proofs.Coming.{end_refused, ends, fill_refusal, found_after, goes_on, last_stretch, limit_refusal, more_came, none_after, stretch_refused, something, whole_refused}
use Rattle.tile_stream.proofs.StandingLines.{none_now}
use Rattle.tile_stream.proofs.lines.stretches.complete_stretch.Goals as goal

pub returns-in-Some-fault_between-clause-refused : goal.returns-in-Some-fault_between-clause-refused
returns-in-Some-fault_between-clause-refused g c =
    let s = c.pieces in
    let now = s.ahead in
    let count = s.seen + c.in-Some.more in
    let found = found_after now.held s.seen s.invariant.none s.invariant.within c.in-Some.more
    (rw c.held-held.ensures at c.in-Some.ensures) in
    let end : c.args.start + count ≡ c.args.start + length (take count now.held) =
    omega (arith, length-take-le count now.held (omega (arith, found.0.high))) in
    limit_refusal c.in-Some-fault_between.fault c.args.limits c.args.start _ c.in-Some-fault_between.ensures.kind
    (whole_refused g.R.Source.gives c.args.ahead.now now s.invariant.back (g.met.R.Source.gives_something now.reader)
    count found c.args.limits c.args.start c.in-Some-fault_between.fault
    (ends c.args.limits c.args.start _ (take count now.held) _ end c.in-Some-fault_between.ensures.fault))

pub returns-in-None-clause-stretch : goal.returns-in-None-clause-stretch
returns-in-None-clause-stretch g c =
    let s = c.pieces in
    let now = s.ahead in
    let count = s.seen + c.in-Some.more in
    let found = found_after now.held s.seen s.invariant.none s.invariant.within c.in-Some.more
    (rw c.held-held.ensures at c.in-Some.ensures) in
    let end : c.args.start + count ≡ c.args.start + length (take count now.held) =
    omega (arith, length-take-le count now.held (omega (arith, found.0.high))) in
    let fine = ends c.args.limits c.args.start _ (take count now.held) _ end c.fault_between.ensures.fault
    ∙ c.in-None.is in
    record {
      stretch = inl (record { ends = found; fine = fine });
      back = s.invariant.back;
      last = λ all. absurd (omega (arith, all, found.0.high));
    }

pub returns-in-Some-fault_between-2-clause-refused : goal.returns-in-Some-fault_between-2-clause-refused
returns-in-Some-fault_between-2-clause-refused g c =
    let s = c.pieces in
    let now = s.ahead in
    let none = none_after now.held s.seen s.invariant.none s.invariant.within
    (rw c.held-held.ensures at c.in_default.ensures) in
    let end = ap (λ held. c.args.start + length held) c.held-held.ensures in
    limit_refusal c.in-Some-fault_between-2.fault c.args.limits c.args.start _ c.in-Some-fault_between-2.ensures.kind
    (stretch_refused g.R.Source.gives c.args.ahead.now now s.invariant.back (g.met.R.Source.gives_something now.reader)
    none c.args.limits c.args.start c.in-Some-fault_between-2.fault
    (goes_on c.args.limits c.args.start _ now.held _ end c.in-Some-fault_between-2.ensures.fault))

pub fill-requires : goal.fill-requires
fill-requires g c =
    none_after c.pieces.ahead.held c.pieces.seen c.pieces.invariant.none c.pieces.invariant.within
    (rw c.held-held.ensures at c.in_default.ensures)

pub returns-in-Ok-eq0-clause-stretch : goal.returns-in-Ok-eq0-clause-stretch
returns-in-Ok-eq0-clause-stretch g c =
    let s = c.pieces in
    let now = s.ahead in
    let none = none_after now.held s.seen s.invariant.none s.invariant.within
    (rw c.held-held.ensures at c.in_default.ensures) in
    let end = ap (λ held. c.args.start + length held) c.held-held.ensures in
    let fine = goes_on c.args.limits c.args.start _ now.held _ end c.fault_between-in-pieces.ensures.fault
    ∙ c.in_default-fault_between.is in
    last_stretch g.R.Source.gives c.args.ahead.now now c.fill.new.self s.invariant.back c.args.limits c.args.start
    c.in-Ok-eq0.field-0 (length c.held-held.result.now) none fine c.in-Ok-eq0.ensures.more c.in-Ok-eq0.field-0-test
    (c.in-Ok-eq0.ensures.end c.in-Ok-eq0.field-0-test) (ap length c.held-held.ensures)

pub returns-in-Ok-eq0-clause-held : goal.returns-in-Ok-eq0-clause-held
returns-in-Ok-eq0-clause-held g c holds =
    let none = none_after c.pieces.ahead.held c.pieces.seen c.pieces.invariant.none c.pieces.invariant.within
    (rw c.held-held.ensures at c.in_default.ensures) in
    absurd (none_now c.pieces.ahead c.args.ahead.now none (c.pieces.invariant.held holds) holds)

pub pieces-preserved : goal.pieces-preserved
pieces-preserved g c =
    let s = c.pieces in
    let now = s.ahead in
    let none = none_after now.held s.seen s.invariant.none s.invariant.within
    (rw c.held-held.ensures at c.in_default.ensures) in
    let reads = c.in-Ok.ensures.more in
    let long = ap length c.held-held.ensures in
    let first : take (length c.held-held.result.now) c.fill.new.self.held ≡ now.held =
    ap (take (length c.held-held.result.now)) reads.held ∙ take_at now.held reads.more _ (sym long) in
    record {
      within = grind (arith, common_steps, long, reads.held);
      none = rw first none;
      back = more_came g.R.Source.gives c.args.ahead.now now s.invariant.back c.fill.new.self c.in-Ok.field-0 reads;
      held = λ holds. absurd (none_now now c.args.ahead.now none (s.invariant.held holds) holds);
      none_failed = grind (arith, common_steps, c.in-Ok.ensures.failures);
    }

pub returns-in-Err-clause-refused : goal.returns-in-Err-clause-refused
returns-in-Err-clause-refused g c =
    let s = c.pieces in
    let now = s.ahead in
    let none = none_after now.held s.seen s.invariant.none s.invariant.within
    (rw c.held-held.ensures at c.in_default.ensures) in
    let end = ap (λ held. c.args.start + length held) c.held-held.ensures in
    let fine = goes_on c.args.limits c.args.start _ now.held _ end c.fault_between-in-pieces.ensures.fault
    ∙ c.in_default-fault_between.is in
    let failed : c.in-Err.fault ≡ Read → IsRefusedLine Read c.args.limits c.args.start
    (MayCome g.R.Source.gives c.args.ahead.now) =
    λ is. end_refused g.R.Source.gives c.args.ahead.now now s.invariant.back none c.args.limits c.args.start
    (c.in-Err.ensures.failed is) fine in
    fill_refusal c.in-Err.fault c.args.limits c.args.start _ c.in-Err.ensures.kind failed
    (something g.R.Source.gives c.args.ahead.now now s.invariant.back (g.met.R.Source.gives_something now.reader))

pub returns-in-Err-clause-held : goal.returns-in-Err-clause-held
returns-in-Err-clause-held g c holds =
    let none = none_after c.pieces.ahead.held c.pieces.seen c.pieces.invariant.none c.pieces.invariant.within
    (rw c.held-held.ensures at c.in_default.ensures) in
    absurd (none_now c.pieces.ahead c.args.ahead.now none (c.pieces.invariant.held holds) holds)
