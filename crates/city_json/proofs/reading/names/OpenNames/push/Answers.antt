use Rattle.std.proofs.Common.{◌≡◌, ◌∙◌, ◌++◌, ◌∷◌, [], ap, length, arith}
use Rattle.city_json.proofs.EndedNames.{are_more, names_more}
use Rattle.city_json.proofs.reading.names.OpenNames.push.Goals as goal

pub invariant_of-self-2 : goal.invariant_of-self-2
invariant_of-self-2 c =
    let count : c.len.result ≡ length c.extend_from_slice.new.self.items = omega (arith, c.len.ensures) in
    are_more c.self.inside.ends.items c.push_reserved.new.self.items c.self.inside.bytes.items
    c.extend_from_slice.new.self.items c.args.name.now c.len.result c.self.invariant
    (c.push_reserved.ensures.items ∙ ap (λ l. l ++ c.len.result ∷ []) c.in_ok-reserve.ensures.items)
    c.in_ok-extend_from_slice.ensures.items count

pub returns : goal.returns
returns c =
    let count : c.len.result ≡ length c.extend_from_slice.new.self.items = omega (arith, c.len.ensures) in
    names_more c.self.inside.ends.items c.push_reserved.new.self.items c.self.inside.bytes.items
    c.extend_from_slice.new.self.items c.args.name.now c.len.result c.self.invariant
    (c.push_reserved.ensures.items ∙ ap (λ l. l ++ c.len.result ∷ []) c.in_ok-reserve.ensures.items)
    c.in_ok-extend_from_slice.ensures.items count
    ∙ ap (λ names. names ++ c.args.name.now ∷ []) c.self.view_is
