use Rattle.std.proofs.Common.{◌≡◌, ◌∙◌, ◌<◌, ◌^◌, ◌++◌, ap, arith, drop, refl, subst, sym}
use Rattle.std.proofs.lemmas.List.Folds.{drop_split}
use Rattle.std.specs.Fmt.{decimal}
use Rattle.city_json.specs.Compacting.{shown}
use Rattle.cut_on_text.proofs.CopiedLeaves.{part_leaf}
use Rattle.city_families.proofs.CopiedTexts.{shown_here, stopped_at}
use Rattle.cut_on_text.proofs.on_text.drafts.copy_leaf.Goals as goal

pub returns-clause-made : goal.returns-clause-made
returns-clause-made g c =
    let text = c.args.text.now in
    let k = c.in_ok-digits.digits.size in
    let end = c.in_ok-digits.digits.end in
    let ends = c.ends_item.ensures c.if-not-ends_item.false in
    let onward : c.args.at < end = c.in_ok-digits.ensures.onward in
    let begins : drop c.args.at text ≡ decimal k ++ drop end text =
    drop_split text c.args.at end (omega (arith, onward))
    ∙ ap (λ l. l ++ drop end text) c.in_ok-digits.ensures.written in
    let small : k < 2 ^ 64 = omega arith in
    let is = shown_here c.label.new.draft.line text end end refl in
    part_leaf _ _ _ _ _ (drop c.args.at text) (drop end text) k (omega arith) small
    (subst (λ l. g.L.Labels.labelled c.args.copier.now.labels
    (shown c.args.copier.now.draft.line text c.args.copier.now.draft.from c.args.at) c.label.new.self l k) (sym is)
    c.in_ok-label.ensures.labelled) (stopped_at text end ends.0 ends.1) begins
