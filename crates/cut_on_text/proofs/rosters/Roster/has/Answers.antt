use Rattle.std.proofs.Common.{rules, ◌≡◌, ◌<◌, ◌≤◌, ◌==◌, ◌∙◌, length, sym, ap, arith}
use Rattle.std.proofs.lemmas.Bool.{le-ltb}
use Rattle.std.proofs.lemmas.List.{get_or_default}
use Rattle.std.specs.List.{list_any, slice_index}
use Rattle.cut_on_text.specs.Rosters.{RosterState}
use Rattle.cut_on_text.proofs.Noted.{has_below, has_past}
use Rattle.cut_on_text.proofs.rosters.Roster.has.Goals as goal

pub returns-then-number-len : goal.returns-then-number-len
returns-then-number-len c =
    let table = c.self.inside.table.items in
    let order = c.self.inside.order.items in
    let inside : c.args.one < length table =
    omega (arith, c.requires, ap (λ (s : RosterState). s.count) c.self.view_is) in
    let number : c.index-number.result.now ≡ slice_index table c.args.one =
    c.index-number.ensures ∙ get_or_default table c.args.one c.index-number.result.now 0 inside in
    let long : c.len.result ≡ length order = search rules in
    let below : c.index-number.result.now < length order = omega (arith, c.if-number-len.true, long) in
    let value : c.index.result.now ≡ slice_index order (slice_index table c.args.one) =
    c.index.ensures ∙ (get_or_default order c.index-number.result.now c.index.result.now 0 below
    ∙ ap (slice_index order) number) in
    rw (← c.self.view_is, value) (has_below table order c.self.invariant.0 c.args.one (omega (arith, below, number)))

pub returns-else-number-len : goal.returns-else-number-len
returns-else-number-len c =
    let table = c.self.inside.table.items in
    let order = c.self.inside.order.items in
    let inside : c.args.one < length table =
    omega (arith, c.requires, ap (λ (s : RosterState). s.count) c.self.view_is) in
    let number : c.index-number.result.now ≡ slice_index table c.args.one =
    c.index-number.ensures ∙ get_or_default table c.args.one c.index-number.result.now 0 inside in
    let long : c.len.result ≡ length order = search rules in
    let past : length order ≤ slice_index table c.args.one = omega (arith, c.if-number-len.false, number, long) in
    le-ltb c.index-number.result.now c.len.result c.if-number-len.false
    ∙ (sym (has_past table order c.self.invariant.0 c.args.one past) ∙ ap (λ (s : RosterState). list_any (λ x. x == c.args.one) s.order) c.self.view_is)
