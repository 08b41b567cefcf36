use Rattle.std.proofs.Common.{◌∙◌, ◌++◌, [], ap, get_or, sym, subst}
use Rattle.std.proofs.lemmas.List.Elements.{All-from_recursion}
use Rattle.std.proofs.lemmas.Result.{on_ok_weaker}
use Rattle.city_feature.specs.Ended.{IsOwnPart}
use Rattle.tile_stream.proofs.HeldTexts.{text_there}
use Rattle.tile_stream.proofs.tile_reader.held.take_own.Goals as goal

pub returns-clause-own : goal.returns-clause-own
returns-clause-own c =
    let own = get_or c.args.held.now.own c.args.at [] in
    on_ok_weaker c.append_own.result (λ appended. appended ∙ ap (λ line. line ++ own) c.truncate.ensures)
    c.append_own.ensures.ok

pub returns-clause-part : goal.returns-clause-part
returns-clause-part c =
    let held = c.args.held.now in
    let own = get_or held.own c.args.at [] in
    on_ok_weaker c.append_own.result (λ appended.
    subst (λ l. IsOwnPart l held.common) (sym (appended ∙ ap (λ line. line ++ own) c.truncate.ensures))
    (All-from_recursion (λ o. IsOwnPart o held.common) held.own c.requires.parts c.args.at [] c.requires.within))
    c.append_own.ensures.ok

pub returns-clause-whole : goal.returns-clause-whole
returns-clause-whole c =
    let held = c.args.held.now in
    let own = get_or held.own c.args.at [] in
    on_ok_weaker c.append_own.result (λ appended.
    text_there held c.args.at c.requires.within
    ∙ ap (λ l. l ++ held.common) (sym (appended ∙ ap (λ line. line ++ own) c.truncate.ensures))) c.append_own.ensures.ok
