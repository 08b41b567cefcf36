use Rattle.std.proofs.Common.{◌≡◌, subst, sym, rules, arith}
use Rattle.std.specs.Fmt.{decimal}
use Rattle.city_json.specs.Number.{IsNumber}
use Rattle.cut_by_value.proofs.Answered.{number_memory}
use Rattle.city_families.proofs.Copies.{decimal_is_number}
use Rattle.cut_by_value.proofs.relabelling.plain.Goals as goal

pub returns-clause-fault : goal.returns-clause-fault
returns-clause-fault c =
    let text : c.as_bytes.result.now ≡ decimal c.args.value = search rules in
    number_memory _ c.as_bytes.result.now (subst IsNumber (sym text) (decimal_is_number c.args.value (omega arith)))
    c.read.ensures.fault
