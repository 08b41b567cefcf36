use Rattle.std.proofs.Common.{◌≡◌, ◌≢◌, ◌∙◌, ◌+◌, ap, length, subst, sym, rules, arith, true, false}
use Rattle.std.specs.List.{All}
use Rattle.city_json.specs.Tree.{member_trees}
use Rattle.city_families.specs.Families.{IsMarkedSoFar}
use Rattle.city_families.proofs.Seeking.{marked_more, marked_on, parted_here, unmarked_at, written_back}
use Rattle.city_families.proofs.families.family_at.Goals as goal

pub returns-then-index-clause-marked : goal.returns-then-index-clause-marked
returns-then-index-clause-marked c = marked_on _ _ _ c.requires.marked

pub returns-then-index-clause-begun : goal.returns-then-index-clause-begun
returns-then-index-clause-begun c = λ pairs rel.
    parted_here pairs c.args.kin.now.parents.items c.args.at true _ rel.parted
    (omega (arith, c.requires.at, c.requires.parents)) (sym c.index.ensures ∙ c.if-index.true)

pub family_of-requires-clause-unmarked : goal.family_of-requires-clause-unmarked
family_of-requires-clause-unmarked c = subst (All (λ mark. mark ≢ c.args.at)) (sym c.deref_mut.ensures.value)
    (unmarked_at _ _ _ c.requires.marked c.requires.at)

pub returns-clause-begun : goal.returns-clause-begun
returns-clause-begun c = λ pairs rel. (
  parted_here pairs c.args.kin.now.parents.items c.args.at false _ rel.parted
      (omega (arith, c.requires.at, c.requires.parents)) (sym c.index.ensures ∙ c.if-index.false),
  c.in_ok-family.ensures.root,
  c.in_ok-family.ensures.family (member_trees pairs) rel.differ
      rel.linked,
)

pub returns-clause-marked : goal.returns-clause-marked
returns-clause-marked c =
    let marks = c.args.marks.now in
    let new = c.family_of.new.marks in
    let long : marks.len ≡ length marks.items = search rules in
    let same : length new ≡ length marks.items = c.in_ok-family.ensures.long ∙ ap length c.deref_mut.ensures.value in
    subst (IsMarkedSoFar (length c.args.kin.now.children) (c.args.at + 1))
    (sym (written_back marks.len new marks.items long same))
    (marked_more _ _ marks.items new c.requires.marked same
    (rw c.deref_mut.ensures.value at c.in_ok-family.ensures.others))
