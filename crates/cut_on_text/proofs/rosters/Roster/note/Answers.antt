use Rattle.std.proofs.Common.{rules, ◌≡◌, ◌<◌, ◌==◌, ◌∙◌, false, length, length-set, sym, ap, arith}
use Rattle.std.specs.List.{list_any}
use Rattle.std.specs.Prelude.{vec_len}
use Rattle.cut_on_text.specs.Rosters.{RosterState}
use Rattle.cut_on_text.proofs.Noted.{room, roster_more}
use Rattle.cut_on_text.proofs.rosters.Roster.note.Goals as goal

pub push_reserved-requires : goal.push_reserved-requires
push_reserved-requires c =
    let table = c.self.inside.table.items in
    let order = c.self.inside.order.items in
    let inside : c.args.one < length table =
    omega (arith, c.requires, ap (λ (s : RosterState). s.count) c.self.view_is) in
    let new : list_any (λ x. x == c.args.one) order ≡ false =
    ap (λ (s : RosterState). list_any (λ x. x == c.args.one) s.order) c.self.view_is
    ∙ (sym c.has.ensures ∙ c.if-has.false) in
    let long : vec_len c.self.inside.order ≡ length order = search rules in
    omega (arith, room table order c.args.one c.self.invariant.0 inside new, c.self.invariant.1, long)

pub invariant_of-self : goal.invariant_of-self
invariant_of-self c =
    let table = c.self.inside.table.items in
    let order = c.self.inside.order.items in
    let inside : c.args.one < length table =
    omega (arith, c.requires, ap (λ (s : RosterState). s.count) c.self.view_is) in
    let new : list_any (λ x. x == c.args.one) order ≡ false =
    ap (λ (s : RosterState). list_any (λ x. x == c.args.one) s.order) c.self.view_is
    ∙ (sym c.has.ensures ∙ c.if-has.false) in
    let count : c.len-number.result ≡ length order = search rules in (
      rw (c.push_reserved.ensures.items, count) (roster_more table order c.args.one c.self.invariant.0 inside new),
      omega (arith, length-set table c.args.one c.len-number.result, c.self.invariant.1, c.push_reserved.ensures.capacity),
    )
