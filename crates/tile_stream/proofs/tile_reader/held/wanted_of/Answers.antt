use Rattle.std.proofs.Common.{◌<◌, ◌≤◌, ◌∙◌, length, arith, sym, subst}
use Rattle.std.proofs.lemmas.Bool.Decides.{nat_tests}
use Rattle.std.proofs.lemmas.Result.{err_from_is_err_and}
use Rattle.city_families.specs.HeldTexts.{AreOwnParts, HeldTexts, texts_in}
use Rattle.city_feature.specs.Choice.{IsChosen}
use Rattle.tile_stream.proofs.HeldTexts.{refuses_all, texts_long}
use Rattle.tile_stream.proofs.WantedTexts.{all_told, told_more}
use Rattle.tile_stream.proofs.tile_reader.held.wanted_of.Goals as goal

pub returns-in_err-is_wanted_at-clause-refused : goal.returns-in_err-is_wanted_at-clause-refused
returns-in_err-is_wanted_at-clause-refused c =
    let now : c.held.at < length (texts_in c.held.held) =
    grind (arith, nat_tests, c.held-test.true, c.len-in-held.ensures, texts_long c.held.held) in
    let within = subst (λ (held : HeldTexts). c.held.at < length (texts_in held)) c.held.invariant.same now in
    let e = err_from_is_err_and c.from_residual-in_err-is_wanted_at.result c.from_residual-in_err-is_wanted_at.ensures.1 in
    rw (e.1, e.2) (refuses_all c.args.shift c.in_err-is_wanted_at.field-0.0 (texts_in c.args.held.now) c.held.at within
    (rw c.held.invariant.same at c.in_err-is_wanted_at.ensures.refused))

pub held-preserved : goal.held-preserved
held-preserved c =
    let now : c.held.at < length (texts_in c.held.held) =
    grind (arith, nat_tests, c.held-test.true, c.len-in-held.ensures, texts_long c.held.held) in
    let within = subst (λ (held : HeldTexts). c.held.at < length (texts_in held)) c.held.invariant.same now in
    record {
      same = c.in_ok-is_wanted_at.ensures.same ∙ c.held.invariant.same;
      within = omega (arith, within);
      told = told_more (IsChosen c.args.choice.now) c.args.shift (texts_in c.args.held.now) c.held.at
          c.held.wanted.items c.push.new.self.items within c.held.invariant.told c.in_ok-is_wanted_at.field-0
          (rw c.held.invariant.same at c.in_ok-is_wanted_at.ensures.ok) c.in_ok-push.ensures.items;
    }

pub returns-clause-ok : goal.returns-clause-ok
returns-clause-ok c =
    let now : length (texts_in c.held.held) ≤ c.held.at =
    grind (arith, nat_tests, c.held-test.false, c.len-in-held.ensures, texts_long c.held.held) in
    let done = subst (λ (held : HeldTexts). length (texts_in held) ≤ c.held.at) c.held.invariant.same now in
    all_told (IsChosen c.args.choice.now) c.args.shift (texts_in c.args.held.now) c.held.at c.held.wanted.items done
    c.held.invariant.told

pub is_wanted_at-requires-clause-own : goal.is_wanted_at-requires-clause-own
is_wanted_at-requires-clause-own c = subst AreOwnParts (sym c.held.invariant.same) c.requires.own
