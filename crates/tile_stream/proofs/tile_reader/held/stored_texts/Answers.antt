use Rattle.std.proofs.Common.{◌<◌, ◌∙◌, ◌++◌, ap, arith, length, option_map, sym, subst}
use Rattle.std.proofs.lemmas.Bool.Decides.{nat_tests}
use Rattle.std.proofs.lemmas.Result.{err_from_is_err_and}
use Rattle.city_families.specs.HeldTexts.{AreOwnParts, HeldTexts, texts_in, with_end}
use Rattle.city_feature.specs.Choice.{IsChosen}
use Rattle.tile_stream.proofs.HeldTexts.{made_more, more_mapped, refuses_all, texts_long}
use Rattle.tile_stream.proofs.tile_reader.held.stored_texts.Goals as goal

pub returns-in_err-given-clause-refused : goal.returns-in_err-given-clause-refused
returns-in_err-given-clause-refused c =
    let now : c.held.at < length (texts_in c.held.held) =
    grind (arith, nat_tests, c.held-test.true, c.len.ensures, texts_long c.held.held) in
    let within = subst (λ (held : HeldTexts). c.held.at < length (texts_in held)) c.held.invariant.same now in
    let e = err_from_is_err_and c.from_residual.result c.from_residual.ensures.1 in
    rw (e.1, e.2) (refuses_all c.args.shift c.in_err-given.field-0.0 (texts_in c.args.held.now) c.held.at within
    (rw c.held.invariant.same at c.in_err-given.ensures.refused))

pub held-preserved : goal.held-preserved
held-preserved c =
    let now : c.held.at < length (texts_in c.held.held) =
    grind (arith, nat_tests, c.held-test.true, c.len.ensures, texts_long c.held.held) in
    let within = subst (λ (held : HeldTexts). c.held.at < length (texts_in held)) c.held.invariant.same now in
    let common = c.args.held.now.common in
    let given = option_map (λ front. front ++ common) c.in_ok-given.given in
    record {
      same = c.in_ok-given.ensures.same ∙ c.held.invariant.same;
      within = omega (arith, within);
      made = made_more (IsChosen c.args.choice.now) c.args.shift (texts_in c.args.held.now) c.held.at
          (with_end common c.held.texts.items) c.held.invariant.made within given
          (rw c.held.invariant.same at c.in_ok-given.ensures.ok)
          (with_end common c.push_given.new.texts.items)
          (ap (with_end common) c.in_ok-push_given.ensures
          ∙ more_mapped (λ front. front ++ common) c.held.texts.items c.in_ok-given.given);
    }

pub text_at-requires-clause-own : goal.text_at-requires-clause-own
text_at-requires-clause-own c = subst AreOwnParts (sym c.held.invariant.same) c.requires.own
