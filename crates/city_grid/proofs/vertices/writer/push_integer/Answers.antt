use Rattle.std.proofs.Common.{◌≡◌, subst, sym, rules}
use Rattle.std.proofs.lemmas.Result.{err_from_is_err_and}
use Rattle.std.specs.Fmt.{signed_decimal}
use Rattle.city_json.specs.Number.{IsNumber}
use Rattle.city_grid.proofs.vertices.DecimalIntegers.{decimal_is_number, only_memory}
use Rattle.city_grid.proofs.vertices.writer.push_integer.Goals as goal

pub returns-in_err-number-clause-fault : goal.returns-in_err-number-clause-fault
returns-in_err-number-clause-fault c =
    let p = err_from_is_err_and c.from_residual.result c.from_residual.ensures.1 in
    let number = decimal_is_number c.args.component c.ranges.component in
    let text : c.as_bytes.result.now ≡ signed_decimal c.args.component = search rules in
    rw (p.1, p.2) (only_memory _ c.as_bytes.result.now c.in_err-number.ensures.fault (subst IsNumber (sym text) number))
