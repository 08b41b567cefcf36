use Rattle.std.proofs.Common.{◌≡◌, ◌∙◌, ◌-◌, suc, ap, arith}
use Rattle.city_json.specs.OpenNames.{begin_of}
use Rattle.city_json.proofs.EndedNames.{begins_after}
use Rattle.city_json.proofs.reading.names.begin_of.Goals as goal

pub returns-else-place-eq0 : goal.returns-else-place-eq0
returns-else-place-eq0 c =
    let next : suc (c.args.place - 1) ≡ c.args.place = omega arith in
    begins_after 0 (c.args.place - 1) c.args.ends.now (omega arith) ∙ ap (λ n. begin_of 0 n c.args.ends.now) next
