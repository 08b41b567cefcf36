use Rattle.std.proofs.Common.{◌≡◌, ◌∙◌, inr, sym, subst, refl, length, true, false, rules}
use Rattle.std.specs.List.{list_any}
use Rattle.std.specs.Prelude.{nat_eq}
use Rattle.city_families.proofs.Seeking.{any_marked, belongs, is_orphan, none_marked, written_back}
use Rattle.city_families.proofs.families.check_belonging.Goals as goal

pub returns-then-contains-clause-fault : goal.returns-then-contains-clause-fault
returns-then-contains-clause-fault c =
    let marks = c.in_ok-marks.marks in
    let new = c.mark_families.new.marks in
    let long : marks.len ≡ length marks.items = search rules in
    let same : length new ≡ length marks.items = search (rules, c.in_ok-meets.ensures.long) in
    let back : c.deref.result.now ≡ new =
    c.deref.ensures.value ∙ written_back marks.len new marks.items long same in
    let found : list_any (λ mark. nat_eq mark 0) new ≡ true =
    subst (λ l. list_any (λ mark. nat_eq mark 0) l ≡ true) back (sym c.contains.ensures.value ∙ c.if-contains.true) in
    let there = any_marked 0 new found in
    inr (
      refl,
      λ pairs rel. is_orphan pairs c.args.graph.now c.args.parents.now new rel c.in_ok-meets.ensures.long
          c.in_ok-meets.ensures.marked there.0 there.1 there.2,
    )

pub returns-clause-belong : goal.returns-clause-belong
returns-clause-belong c =
    let marks = c.in_ok-marks.marks in
    let new = c.mark_families.new.marks in
    let long : marks.len ≡ length marks.items = search rules in
    let same : length new ≡ length marks.items = search (rules, c.in_ok-meets.ensures.long) in
    let back : c.deref.result.now ≡ new =
    c.deref.ensures.value ∙ written_back marks.len new marks.items long same in
    let none : list_any (λ mark. nat_eq mark 0) new ≡ false =
    subst (λ l. list_any (λ mark. nat_eq mark 0) l ≡ false) back (sym c.contains.ensures.value ∙ c.if-contains.false) in
    λ pairs rel. belongs pairs c.args.graph.now c.args.parents.now new rel c.in_ok-meets.ensures.long
    c.in_ok-meets.ensures.marked c.in_ok-meets.ensures.others (none_marked 0 new none)
