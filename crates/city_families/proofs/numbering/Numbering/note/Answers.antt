use Rattle.std.proofs.Common.{◌≡◌, ◌++◌, [], ◌∷◌, length, rules}
use Rattle.city_families.specs.Numbered.{HasNumber}
use Rattle.city_families.proofs.CopiedTexts.{extends_new, extends_same, has_new}
use Rattle.city_families.proofs.Numbers.{numbered_again, numbered_new}
use Rattle.city_families.proofs.numbering.Numbering.note.Goals as goal

pub returns-then-has-clause-ok : goal.returns-then-has-clause-ok
returns-then-has-clause-ok c = λ uses all. numbered_again uses _ _ _ all (c.has.ensures.0 c.if-has.true)

pub returns-clause-ok : goal.returns-clause-ok
returns-clause-ok c = λ uses all.
    let pushed : c.push.new.self.items ≡ c.args.self.now.order.items ++ c.args.vertex ∷ [] = search rules in
    let count : c.len-number.result ≡ length c.args.self.now.order.items = search rules in
    let hasnt : ¬ HasNumber c.args.self.now.table.items c.args.self.now.order.items c.args.vertex = search rules in
    rw (pushed, count) (numbered_new uses c.args.self.now.table.items c.args.self.now.order.items c.args.vertex all
    c.requires hasnt)

pub returns-then-has-clause-kept : goal.returns-then-has-clause-kept
returns-then-has-clause-kept c = extends_same _ _

pub returns-clause-kept : goal.returns-clause-kept
returns-clause-kept c =
    let pushed : c.push.new.self.items ≡ c.args.self.now.order.items ++ c.args.vertex ∷ [] = search rules in
    let count : c.len-number.result ≡ length c.args.self.now.order.items = search rules in
    let hasnt : ¬ HasNumber c.args.self.now.table.items c.args.self.now.order.items c.args.vertex = search rules in
    rw (pushed, count) (extends_new c.args.self.now.table.items c.args.self.now.order.items c.args.vertex c.requires
    hasnt)

pub returns-clause-has : goal.returns-clause-has
returns-clause-has c =
    let pushed : c.push.new.self.items ≡ c.args.self.now.order.items ++ c.args.vertex ∷ [] = search rules in
    let count : c.len-number.result ≡ length c.args.self.now.order.items = search rules in
    rw (pushed, count) (has_new c.args.self.now.table.items c.args.self.now.order.items c.args.vertex c.requires)
