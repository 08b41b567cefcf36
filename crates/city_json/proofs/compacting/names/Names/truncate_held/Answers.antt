use Rattle.std.proofs.Common.{◌≡◌, ◌∙◌, ap, take, length, arith}
use Rattle.city_json.proofs.HeldNames.{left, left_names, stay_within}
use Rattle.city_json.proofs.compacting.names.Names.truncate_held.Goals as goal

pub overflow_sub-stay : goal.overflow_sub-stay
overflow_sub-stay c =
    let all : c.len.result ≡ length c.self.inside.held.items = omega (arith, c.len.ensures) in
    (stay_within c.self.inside.listed.items c.deref.result.now c.args.base c.self.inside.text_len
    (length c.self.inside.held.items) _ c.first_held-stay.result c.self.invariant c.deref.ensures.value
    (omega (arith, all)) c.first_held-stay.ensures).0

pub invariant_of-self : goal.invariant_of-self
invariant_of-self c =
    let all : c.len.result ≡ length c.self.inside.held.items = omega (arith, c.len.ensures) in
    left c.self.inside.listed.items c.deref.result.now c.truncate-2.new.self.items c.self.inside.held.items
    c.truncate.new.self.items c.args.base c.self.inside.text_len _ c.first_held-stay.result _ c.self.invariant
    c.deref.ensures.value (omega (arith, all)) c.first_held-stay.ensures c.truncate-2.ensures.items
    c.truncate.ensures.items (omega arith)

pub returns : goal.returns
returns c =
    let all : c.len.result ≡ length c.self.inside.held.items = omega (arith, c.len.ensures) in
    left_names c.self.inside.listed.items c.deref.result.now c.truncate-2.new.self.items c.self.inside.held.items
    c.truncate.new.self.items c.args.base c.self.inside.text_len _ c.first_held-stay.result _ c.self.invariant
    c.deref.ensures.value (omega (arith, all)) c.first_held-stay.ensures c.truncate-2.ensures.items
    c.truncate.ensures.items (omega arith)
    ∙ ap (take c.args.base) c.self.view_is
