use Rattle.std.proofs.Common.{◌≡◌, ◌∙◌, [], ap, get_or}
use Rattle.std.proofs.lemmas.Result.{err_from_is_err_and}
use Rattle.city_families.specs.HeldTexts.{HeldTexts}
use Rattle.tile_stream.proofs.FirstBytes.{both_written, common_failed, on_err_more, on_ok_more, own_failed}
use Rattle.document_stream.proofs.writing.write_at.Goals as goal

pub returns-in_err-write_own-clause-some : goal.returns-in_err-write_own-clause-some
returns-in_err-write_own-clause-some g c =
    let held = c.args.texts.now in
    let refusal = err_from_is_err_and c.from_residual.result c.from_residual.ensures.1 in
    rw refusal.1 (own_failed (get_or held.own c.args.at []) held.common (g.W.Sink.taken c.args.output.now)
    (g.W.Sink.taken c.write_own.new.output) c.in_err-write_own.ensures.some)

pub returns-clause-ok : goal.returns-clause-ok
returns-clause-ok g c =
    let held = c.args.texts.now in
    let common : c.common.result.now ≡ held.common =
    c.common.ensures ∙ ap (λ (texts : HeldTexts). texts.common) c.in_ok-write_own.ensures.same in
    on_ok_more c.write_text.result
    (both_written (get_or held.own c.args.at []) held.common (g.W.Sink.taken c.args.output.now)
    (g.W.Sink.taken c.write_own.new.output) c.in_ok-write_own.ensures.ok (g.W.Sink.taken c.write_text.new.output))
    (rw common at c.write_text.ensures.all)

pub returns-clause-some : goal.returns-clause-some
returns-clause-some g c =
    let held = c.args.texts.now in
    let common : c.common.result.now ≡ held.common =
    c.common.ensures ∙ ap (λ (texts : HeldTexts). texts.common) c.in_ok-write_own.ensures.same in
    on_err_more c.write_text.result
    (common_failed (get_or held.own c.args.at []) held.common (g.W.Sink.taken c.args.output.now)
    (g.W.Sink.taken c.write_own.new.output) c.in_ok-write_own.ensures.ok (g.W.Sink.taken c.write_text.new.output))
    (rw common at c.write_text.ensures.some)
