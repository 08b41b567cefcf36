use Rattle.std.proofs.Common.{◌≡◌, ◌∙◌, ap, sym, map, take, length, arith}
use Rattle.std.proofs.lemmas.Bool.{eqb-true}
use Rattle.std.proofs.lemmas.List.{take-map}
use Rattle.city_json.specs.MemberName.{listed_name}
use Rattle.city_json.proofs.HeldNames.{left_written}
use Rattle.city_json.proofs.compacting.names.Names.truncate.Goals as goal

pub invariant_of-self : goal.invariant_of-self
invariant_of-self c =
    let none : length c.self.inside.held.items ≡ 0 =
    omega (arith, eqb-true _ _ (sym c.is_empty.ensures ∙ c.if-is_empty.true)) in
    left_written c.self.inside.listed.items c.truncate.new.self.items c.args.base c.self.inside.text_len
    (length c.self.inside.held.items) c.self.invariant none c.truncate.ensures.items

pub returns-then-is_empty : goal.returns-then-is_empty
returns-then-is_empty c =
    let name = listed_name c.self.inside.text_len c.self.inside.held.items in
    ap (map name) c.truncate.ensures.items ∙ sym (take-map name c.args.base _) ∙ ap (take c.args.base) c.self.view_is
