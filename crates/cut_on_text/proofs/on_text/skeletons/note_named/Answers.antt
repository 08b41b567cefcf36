use Rattle.std.proofs.Common.{◌∙◌, ap, arith, length}
use Rattle.cut_on_text.specs.Skeletons.{SkeletonPlace}
use Rattle.cut_on_text.proofs.TextMembers.{if_some_more}
use Rattle.cut_on_text.proofs.Sketched.{sketched}
use Rattle.cut_on_text.proofs.on_text.skeletons.note_named.Goals as goal

pub note_object-requires : goal.note_object-requires
note_object-requires c = c.in_ok-one.ensures.holders

pub returns-clause-made : goal.returns-clause-made
returns-clause-made c = if_some_more c.new.result (λ start is pairs are.
    sketched _ c.args.at c.in_ok-one.one.value.now c.in_ok-id.id.now c.args.copier.now.labels.leaves.items c.args.copier.now.draft.line
    c.append_text.new.line c.append_text-2.new.line c.note_object.new.copier.labels.leaves.items c.note_object.new.copier.draft.line
    start c.in_ok-split.split pairs (c.in_ok-one.ensures.is pairs are).2 (c.in_ok-id.ensures pairs are)
    c.in_ok-append_text.ensures c.in_ok-append_text-2.ensures c.in_ok-split.ensures.made
    (ap (λ (p : SkeletonPlace). p.text) is ∙ ap length c.items-begin.ensures)
    (ap (λ (p : SkeletonPlace). p.name) is ∙ ap length c.items-name.ensures)
    (omega (arith, ap (λ (p : SkeletonPlace). p.leaves) is, c.len-leaves.ensures, c.args.copier.now.labels.leaves.ok))
    (omega (arith, ap (λ (p : SkeletonPlace). p.split) is))) c.new.ensures
