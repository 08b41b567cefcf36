use Rattle.std.proofs.Common.{rules, ◌≡◌, ◌<◌, ◌==◌, ◌∙◌, true, length, sym, ap, arith}
use Rattle.std.proofs.lemmas.List.{get_or_default}
use Rattle.std.specs.List.{list_any}
use Rattle.cut_on_text.specs.Rosters.{RosterState}
use Rattle.cut_on_text.proofs.Noted.{number_is, place_none}
use Rattle.cut_on_text.proofs.rosters.Roster.number.Goals as goal

pub returns-then-has : goal.returns-then-has
returns-then-has c =
    let table = c.self.inside.table.items in
    let order = c.self.inside.order.items in
    let inside : c.args.one < length table =
    omega (arith, c.requires, ap (λ (s : RosterState). s.count) c.self.view_is) in
    let found : list_any (λ x. x == c.args.one) order ≡ true =
    ap (λ (s : RosterState). list_any (λ x. x == c.args.one) s.order) c.self.view_is
    ∙ (sym c.has.ensures ∙ c.if-has.true) in
    rw (← c.self.view_is) (c.index.ensures ∙ (get_or_default table c.args.one c.index.result.now 0 inside
    ∙ number_is table order c.self.invariant.0 c.args.one found))

pub returns : goal.returns
returns c =
    let long : c.len.result ≡ length c.self.inside.order.items = search rules in
    long ∙ (ap (λ (s : RosterState). length s.order) c.self.view_is
    ∙ sym (place_none c.args.self.now.order c.args.one (sym c.has.ensures ∙ c.if-has.false)))
