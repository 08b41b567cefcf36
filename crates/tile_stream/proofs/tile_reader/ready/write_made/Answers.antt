use Rattle.std.proofs.Common.{◌∙◌, [], ℕ, ap, get_or, subst, sym, take}
use Rattle.std.proofs.lemmas.Result.{err_from_is_err_and}
use Rattle.std.specs.Io.KnownBytes.{Appends}
use Rattle.city_families.specs.HeldTexts.{HeldTexts}
use Rattle.tile_stream.specs.Stream.{with_newline}
use Rattle.tile_stream.proofs.FirstBytes.{common_failed, on_err_more, own_failed}
use Rattle.tile_stream.proofs.HeldTexts.{text_there}
use Rattle.tile_stream.proofs.tile_reader.ready.write_made.Goals as goal

pub returns-in_err-write_own-clause-some : goal.returns-in_err-write_own-clause-some
returns-in_err-write_own-clause-some g c =
    let held = c.args.texts.now in
    let old = g.W.Sink.taken c.args.output.now in
    let new = g.W.Sink.taken c.write_own.new.output in
    let refusal = err_from_is_err_and c.from_residual.result c.from_residual.ensures.1 in
    rw refusal.1 (subst (λ text. (count : ℕ) × Appends old new (take count (with_newline text)))
    (sym (text_there held c.args.at c.requires))
    (own_failed (get_or held.own c.args.at []) held.common old new c.in_err-write_own.ensures.some))

pub returns-clause-some : goal.returns-clause-some
returns-clause-some g c =
    let held = c.args.texts.now in
    let old = g.W.Sink.taken c.args.output.now in
    let mid = g.W.Sink.taken c.write_own.new.output in
    let new = g.W.Sink.taken c.write_text.new.output in
    let end = c.common.ensures ∙ ap (λ (texts : HeldTexts). texts.common) c.in_ok-write_own.ensures.same in
    on_err_more c.write_text.result (λ some. subst (λ text. (count : ℕ) × Appends old new (take count (with_newline text)))
    (sym (text_there held c.args.at c.requires))
    (common_failed (get_or held.own c.args.at []) held.common old mid c.in_ok-write_own.ensures.ok new
    (subst (λ text. (count : ℕ) × Appends mid new (take count (with_newline text))) end some)))
    c.write_text.ensures.some
