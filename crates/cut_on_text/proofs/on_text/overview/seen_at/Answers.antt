use Rattle.cut_on_text.specs.Kin.{HasChildrenText, HasParents}
use Rattle.cut_on_text.proofs.TextOverviews.{held_here, said_here}
use Rattle.cut_on_text.proofs.on_text.overview.seen_at.Goals as goal

pub returns-clause-parents : goal.returns-clause-parents
returns-clause-parents c =
    let found = c.in_ok-found.found in
    said_here HasParents c.args.text.now c.in_ok-value.value.now found.part found.members.items c.deref.result.now
    c.in_ok-parents.parents c.in_ok-value.ensures.some c.deref.ensures.value c.in_ok-found.ensures.members
    c.in_ok-parents.ensures

pub returns-clause-children : goal.returns-clause-children
returns-clause-children c =
    let found = c.in_ok-found.found in
    said_here HasChildrenText c.args.text.now c.in_ok-value.value.now found.part found.members.items
    c.deref-2.result.now c.in_ok-children.children c.in_ok-value.ensures.some c.deref-2.ensures.value
    c.in_ok-found.ensures.members c.in_ok-children.ensures

pub returns-clause-held : goal.returns-clause-held
returns-clause-held c =
    let found = c.in_ok-found.found in
    held_here c.args.text.now c.in_ok-value.value.now found.part found.members.items c.deref-3.result.now
    c.in_ok-held.held c.in_ok-value.ensures.some c.deref-3.ensures.value c.in_ok-found.ensures.members
    c.in_ok-held.ensures
