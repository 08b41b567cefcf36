use Rattle.std.proofs.Common.{◌∙◌, ap, rules, subst, sym}
use Rattle.std.proofs.lemmas.Fn.{always_returns_same}
use Rattle.std.specs.Prelude.{slice_get}
use Rattle.city_families.specs.Table.{IsTable, name_in}
use Rattle.city_families.proofs.Tables.{by_bytes, found_named, not_named}
use Rattle.cut_on_text.proofs.on_text.names.ObjectNames.place.Goals as goal

pub returns-in-Ok : goal.returns-in-Ok
returns-in-Ok c = λ names table.
    let these = c.self.inside in
    let equal = c.in-Ok.ensures.position (λ at. by_bytes (name_in these.text.now these.parts.now at) c.args.name.now)
    (always_returns_same _ _ _ (λ a r f k. search rules)) in
    ap (slice_get names) c.index.ensures ∙ found_named names these.text.now these.parts.now these.order.items
    c.args.name.now c.in-Ok.at _ (subst (IsTable names) (sym c.self.view_is) table) (rw (sym c.deref.ensures.value) c.in-Ok.ensures.bound)
    (rw (sym c.deref.ensures.value) equal)

pub returns-in-Err : goal.returns-in-Err
returns-in-Err c = λ names table.
    let these = c.self.inside in
    let apart = c.in-Err.ensures.position (λ at. by_bytes (name_in these.text.now these.parts.now at) c.args.name.now)
    (always_returns_same _ _ _ (λ a r f k. search rules)) in
    not_named names these.text.now these.parts.now these.order.items c.args.name.now c.in-Err.field-0
    (subst (IsTable names) (sym c.self.view_is) table) (rw (sym c.deref.ensures.value) apart)
