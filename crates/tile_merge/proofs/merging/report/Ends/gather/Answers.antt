use Rattle.std.proofs.Common.{Some, None, [], ◌∷◌, ◌++◌, ◌∙◌, sym, ap, append-nil, filter_map, take, take_all, length, arith}
use Rattle.std.proofs.lemmas.List.{length-take-le}
use Rattle.tile_merge.specs.EndNotes.{EndsState}
use Rattle.tile_merge.proofs.Ends.{ends_few, ends_more}
use Rattle.tile_merge.proofs.merging.report.Ends.gather.Goals as goal

pub loop-tile-preserved-in_default : goal.loop-tile-preserved-in_default
loop-tile-preserved-in_default g c =
    let loop = c.loop-tile in
    let more = ends_more g.T.Ending.last_of c.args.tiles.now loop.tile-index c.tile-item.result None
    c.loop-tile-test.true c.tile-item.is (sym c.in_default.is ∙ c.last.ensures) in
    (loop.invariant.0 ∙ sym (append-nil _) ∙ sym more, loop.invariant.1)

pub loop-tile-preserved : goal.loop-tile-preserved
loop-tile-preserved g c =
    let loop = c.loop-tile in
    let end = c.in-Some.end in
    let more = ends_more g.T.Ending.last_of c.args.tiles.now loop.tile-index c.tile-item.result (Some end)
    c.loop-tile-test.true c.tile-item.is (sym c.in-Some.is ∙ c.last.ensures) in (
      ap (λ (all : EndsState). all.ends) c.add.ensures ∙ ap (λ ends. ends ++ end ∷ []) loop.invariant.0 ∙ sym more,
      ap (λ (all : EndsState). all.room) c.add.ensures ∙ loop.invariant.1,
    )

pub add-requires : goal.add-requires
add-requires g c =
    let loop = c.loop-tile in
    let few = ends_few g.T.Ending.last_of (take loop.tile-index c.args.tiles.now) in
    let front = length-take-le loop.tile-index c.args.tiles.now (omega (arith, c.loop-tile-test.true)) in
    record {
      room = omega (
        arith,
        few,
        front,
        c.loop-tile-test.true,
        c.requires.room,
        ap length loop.invariant.0,
        loop.invariant.1,
      );
    }

pub returns-clause-few : goal.returns-clause-few
returns-clause-few g c =
    let tiles = c.args.tiles.now in
    let whole = take_all c.loop-tile.tile-index tiles c.loop-tile-test.false in
    let ends = c.loop-tile.invariant.0 ∙ ap (filter_map g.T.Ending.last_of) whole in
    omega (arith, ends_few g.T.Ending.last_of tiles, ap length ends)
