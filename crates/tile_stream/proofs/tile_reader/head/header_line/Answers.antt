use Rattle.std.proofs.Common.{◌<◌, ◌^◌, length, rules}
use Rattle.std.proofs.lemmas.Result.{err_from_is_err_and}
use Rattle.city_json.specs.Tree.{tree}
use Rattle.tile_stream.proofs.Heads.{header_refused, header_taken}
use Rattle.tile_stream.proofs.tile_reader.head.header_line.Goals as goal

pub returns-in_err-header-clause-refused : goal.returns-in_err-header-clause-refused
returns-in_err-header-clause-refused c =
    let p = err_from_is_err_and c.from_residual-in_err-header.result c.from_residual-in_err-header.ensures.1 in
    let value = c.in_ok-value.ensures.value in
    let none = c.requires (tree c.in_ok-value.value) value.0 in
    rw (p.1, p.2) (header_refused c.args.bytes.now c.in_ok-value.value value.0 value.1 none _ c.in_err-header.ensures.refusal)

pub returns-clause-ok : goal.returns-clause-ok
returns-clause-ok c =
    let short : length c.args.bytes.now < 2 ^ 64 = search rules in
    let value = c.in_ok-value.ensures.value in
    let none = c.requires (tree c.in_ok-value.value) value.0 in
    header_taken c.args.bytes.now c.in_ok-value.value value.0 value.1 none short c.in_ok-header.header
    c.in_ok-header.ensures.ok _ c.none-texts.ensures.texts
