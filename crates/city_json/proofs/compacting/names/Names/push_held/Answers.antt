use Rattle.std.proofs.Common.{◌≡◌, ◌∙◌, ◌+◌, ◌++◌, [], ◌∷◌, ap, length, arith}
use Rattle.std.proofs.lemmas.Grind.{common_steps}
use Rattle.city_json.specs.ListedNames.{as_decoded}
use Rattle.city_json.proofs.HeldNames.{pushed_held, pushed_names}
use Rattle.city_json.proofs.compacting.names.Names.push_held.Goals as goal

pub invariant_of-self-2 : goal.invariant_of-self-2
invariant_of-self-2 c =
    let count : c.len.result ≡ length c.self.inside.held.items = omega (arith, c.len.ensures) in
    let last : c.in_ok-end.end ≡ c.self.inside.text_len + c.len.result + length c.args.name.now =
    grind (arith, common_steps) in
    pushed_held c.self.inside.listed.items c.reserve.new.self.items c.push_reserved.new.self.items _
    c.self.inside.held.items c.extend_from_slice.new.self.items c.args.name.now c.self.inside.text_len c.self.invariant
    c.reserve.ensures.items c.push_reserved.ensures.items c.in-Ok-extend_from_slice.ensures.items
    (omega (arith, count)) (omega (arith, count, last))

pub returns : goal.returns
returns c =
    let count : c.len.result ≡ length c.self.inside.held.items = omega (arith, c.len.ensures) in
    let last : c.in_ok-end.end ≡ c.self.inside.text_len + c.len.result + length c.args.name.now =
    grind (arith, common_steps) in
    pushed_names c.self.inside.listed.items c.reserve.new.self.items c.push_reserved.new.self.items _
    c.self.inside.held.items c.extend_from_slice.new.self.items c.args.name.now c.self.inside.text_len c.self.invariant
    c.reserve.ensures.items c.push_reserved.ensures.items c.in-Ok-extend_from_slice.ensures.items
    (omega (arith, count)) (omega (arith, count, last))
    ∙ ap (λ l. l ++ as_decoded c.args.name.now ∷ []) c.self.view_is
