use Rattle.std.proofs.Common.{◌<◌, ◌^◌, length, arith, rules, sym}
use Rattle.cut_on_text.proofs.OwnVertices.{as_many}
use Rattle.cut_on_text.proofs.SpelledLengths.{compact_within}
use Rattle.cut_on_text.proofs.on_text.points.count_vertices.Goals as goal

pub returns-clause-ok : goal.returns-clause-ok
returns-clause-ok c = λ items of.
    let short : length c.args.text.now < 2 ^ 64 = search rules in
    let told = c.in_ok-take_vertices.ensures.taken items of in
    let few : length told.0 < 2 ^ 64 = omega (
      arith,
      as_many items told.0 told.2,
      compact_within items c.args.text.now of,
      short,
    ) in
    (told.0, told.2, sym (told.1 few))
