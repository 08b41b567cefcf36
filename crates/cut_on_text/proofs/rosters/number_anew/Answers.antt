use Rattle.std.proofs.Common.{◌<◌, ◌∙◌, refl, length, length-set, arith}
use Rattle.std.specs.List.{All, slice_index, slice_set}
use Rattle.cut_on_text.proofs.Noted.{anew_more}
use Rattle.cut_on_text.proofs.rosters.number_anew.Goals as goal

pub loop-place-preserved : goal.loop-place-preserved
loop-place-preserved c =
    let table = c.loop-place.table in
    let at = slice_index c.args.order.now c.loop-place.place in
    let within : All (λ one. one < length table) c.args.order.now =
    λ k d inside. omega (arith, c.requires.within k d inside, c.loop-place.invariant.long) in
    record {
      long = length-set table at c.loop-place.place ∙ c.loop-place.invariant.long;
      placed = anew_more table (slice_set table at c.loop-place.place) c.args.order.now c.loop-place.place at within
          c.requires.rises c.loop-place-test.true c.loop-place.invariant.placed refl refl;
    }
