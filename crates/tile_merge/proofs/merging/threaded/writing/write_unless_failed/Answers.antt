use Rattle.std.proofs.Common.{◌≡◌, ◌∙◌, Result, Ok, IfErr, ap, subst, sym}
use Rattle.std.proofs.KnownBytes.{Appends-trans}
use Rattle.std.proofs.lemmas.Result.{err_from_is_err_and}
use Rattle.byte_streams.specs.Failures.{Wrote, after_call, one_more}
use Rattle.byte_streams.specs.declared.fault.Fault.{Fault}
use Rattle.byte_streams.specs.declared.fault.Fault.TheVariants.{Write}
use Rattle.tile_stream.specs.Stream.{with_newline}
use Rattle.tile_merge.proofs.Writing.{still_failed, fails_now, one_text}
use Rattle.tile_merge.proofs.merging.threaded.writing.write_unless_failed.Goals as goal

abbrev Done : Type 0
Done = Result (Unit {0}) Fault

abbrev IsNamed : Done → Type 0
IsNamed result = IfErr result (λ fault. fault ≡ Write)

pub returns-in_err-wrote-clause-written : goal.returns-in_err-wrote-clause-written
returns-in_err-wrote-clause-written g c before now longer lists i within header old count =
    let result = c.from_residual.result in
    let refusal = err_from_is_err_and result c.from_residual.ensures.1 in
    let taken = g.W.Sink.taken c.args.output.now in
    let failures = g.W.Sink.failures c.args.output.now in
    one_text lists i within before now c.args.line longer header old count c.args.wrote result taken taken failures failures
    (λ bytes wrote. still_failed bytes (with_newline c.args.line) old c.in_err-wrote.field-0.0 refusal.0 taken c.args.wrote
    result c.in_err-wrote.was refusal.1 wrote)
    (λ counted. counted ∙ ap (λ (r : Done). after_call r count) c.in_err-wrote.was
    ∙ sym (ap (λ (r : Done). after_call r count) refusal.1))
    (λ named. subst IsNamed (sym refusal.1) (refusal.2 ∙ subst IsNamed c.in_err-wrote.was named))

pub returns-in_err-write_line-clause-written : goal.returns-in_err-write_line-clause-written
returns-in_err-write_line-clause-written g c before now longer lists i within header old count =
    let result = c.from_residual-in_err-write_line.result in
    let refusal = err_from_is_err_and result c.from_residual-in_err-write_line.ensures.1 in
    let wrote = c.write_line.new.output in
    let failed = c.in_err-write_line.ensures in
    one_text lists i within before now c.args.line longer header old count c.args.wrote result
    (g.W.Sink.taken c.args.output.now) (g.W.Sink.taken wrote) (g.W.Sink.failures c.args.output.now)
    (g.W.Sink.failures wrote)
    (λ bytes whole. fails_now bytes (with_newline c.args.line) old refusal.0 (g.W.Sink.taken c.args.output.now)
    (g.W.Sink.taken wrote) c.args.wrote result c.in_ok-wrote.was refusal.1 whole failed.some)
    (λ counted. failed.failures
    ∙ ap one_more (counted ∙ ap (λ (r : Done). after_call r count) c.in_ok-wrote.was)
    ∙ sym (ap (λ (r : Done). after_call r count) refusal.1))
    (λ named. subst IsNamed (sym refusal.1) (refusal.2 ∙ failed.fault))

pub returns-clause-written : goal.returns-clause-written
returns-clause-written g c before now longer lists i within header old count =
    let taken = g.W.Sink.taken c.args.output.now in
    let wrote = g.W.Sink.taken c.write_line.new.output in
    let all = c.in_ok-write_line.ensures in
    one_text lists i within before now c.args.line longer header old count c.args.wrote (Ok tt) taken wrote
    (g.W.Sink.failures c.args.output.now) (g.W.Sink.failures c.write_line.new.output)
    (λ bytes whole. Appends-trans old taken wrote bytes (with_newline c.args.line)
    (subst (λ (r : Done). Wrote r old taken bytes) c.in_ok-wrote.was whole) all.all.1)
    (λ counted. all.failures ∙ counted ∙ ap (λ (r : Done). after_call r count) c.in_ok-wrote.was)
    (λ named. tt)
