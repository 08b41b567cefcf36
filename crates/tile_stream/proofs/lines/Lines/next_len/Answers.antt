use Rattle.std.proofs.Common.{rules, ◌≡◌, true, take, refl, sym, ap, subst, ◌∙◌, arith, []}
use Rattle.tile_stream.specs.Tile.{is_blank}
use Rattle.tile_stream.specs.Unread.{Leaves}
use Rattle.tile_stream.specs.Whole.{HoldsLine}
use Rattle.tile_stream.proofs.Leaving.{by_kept, by_refusal, next_of, stretch_blank, refused_back}
use Rattle.tile_stream.proofs.StandingLines.{ends_too, still_holds}
use Rattle.tile_stream.proofs.lines.Lines.next_len.Goals as goal

pub returns-in-Refused-clause-refused : goal.returns-in-Refused-clause-refused
returns-in-Refused-clause-refused g c =
    let at = c.in-Refused.fault in
    let back = rw (← c.self.view_is, c.in-Refused.is) at c.stretches.invariant.back in
    refused_back at.fault at.line (Leaves g.R.Source.gives c.args.self.now) _ back (by_kept at.fault at.line)

pub returns-then-not-is_blank-clause-line : goal.returns-then-not-is_blank-clause-line
returns-then-not-is_blank-clause-line g c =
    let s = c.self.inside in
    let back = rw (← c.self.view_is, c.in-Open.is) at c.stretches.invariant.back in
    let later = rw (← c.self.view_is) at c.stretches.invariant.later in
    let full = ap is_blank (sym c.front.ensures) ∙ sym c.is_blank.ensures ∙ c.if-not-is_blank.true in
    rw (c.in-Open.is) (record {
      next = next_of g.R.Source.gives c.args.self.now s.limits s.number s.start s.ahead c.complete_stretch.new.ahead
          c.in-Ok.count back c.in-Ok.ensures.stretch;
      full = full;
      from = later;
    })

pub stretches-preserved : goal.stretches-preserved
stretches-preserved g c =
    let s = c.self.inside in
    let now = c.complete_stretch.new.ahead in
    let line = take c.in-Ok.count now.held in
    let blank : is_blank line ≡ true =
    ap is_blank (sym c.front.ensures) ∙ sym c.is_blank.ensures ∙ c.if-not-is_blank.false in
    let back = rw (← c.self.view_is, c.in-Open.is) at c.stretches.invariant.back in
    let stretch = c.leave_line.ensures.stretch c.args.self.now (rw (c.in-Open.is) (next_of g.R.Source.gives c.args.self.now s.limits s.number s.start
    s.ahead now c.in-Ok.count back c.in-Ok.ensures.stretch)) in
    record {
      back = λ left leaves. subst (Leaves g.R.Source.gives c.args.self.now)
          (stretch_blank c.leave_line.result stretch.0 line left blank) (stretch.1 left leaves);
      kept = search rules;
      later = search rules;
      fewer = search rules;
      refused = search rules;
      held = λ holds.
          let was = rw (← c.self.view_is) at (c.stretches.invariant.held holds) in
          let same = c.in-Ok.ensures.held (ends_too s.ahead.held was.0) in
          let there = subst (λ ahead. HoldsLine ahead.held) (sym same) was.0 in (
            still_holds now.held line c.leave_line.new.self.ahead.held there blank
                (c.leave_line.ensures.of_held (ends_too now.held there)),
            c.leave_line.ensures.reader ∙ ap (λ ahead. ahead.reader) same ∙ was.1,
          );
      failed = search rules;
      failures = search rules;
    }

pub returns-in-Err-clause-refused : goal.returns-in-Err-clause-refused
returns-in-Err-clause-refused g c =
    let s = c.self.inside in
    let back = rw (← c.self.view_is, c.in-Open.is) at c.stretches.invariant.back in
    rw (c.refuse.ensures.at) (refused_back c.in-Err.fault s.number (Leaves g.R.Source.gives c.args.self.now) _ back
    (by_refusal g.R.Source.gives s.limits s.number s.start s.ahead c.in-Err.fault c.in-Err.ensures.refused))

pub returns-in-Err-clause-stands : goal.returns-in-Err-clause-stands
returns-in-Err-clause-stands g c memory going =
    let back = rw (← c.self.view_is, c.in-Open.is) at c.stretches.invariant.back in
    let within = c.in-Err.ensures.stands (rw (c.refuse.ensures.at) at memory) in
    rw (c.refuse.ensures.at, c.refuse.ensures.refused) (
      c.self.inside.start,
      [],
      λ k d below. absurd (omega (arith, below)),
      λ bytes fails comes. back _ (bytes, fails, within bytes fails comes, refl),
    )
