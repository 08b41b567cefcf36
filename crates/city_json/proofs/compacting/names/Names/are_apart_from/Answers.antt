use Rattle.std.proofs.Common.{◌<◌, length, drop, arith, length-drop}
use Rattle.std.proofs.lemmas.List.{length-map}
use Rattle.city_json.specs.ListedNames.{bytes_in, names_in}
use Rattle.city_json.proofs.NamesApart.{one_differs}
use Rattle.city_json.proofs.compacting.names.Names.are_apart_from.Goals as goal

pub returns-then-len-base-lt2 : goal.returns-then-len-base-lt2
returns-then-len-base-lt2 c = λ members is.
    let names = names_in c.args.text.now c.args.self.now in
    let few : length (drop c.args.base names) < 2 =
    omega (
      arith,
      length-drop c.args.base names,
      length-map c.args.self.now (bytes_in c.args.text.now),
      c.len.ensures,
      c.if-len-base-lt2.true,
    ) in
    one_differs members (drop c.args.base names) is few
