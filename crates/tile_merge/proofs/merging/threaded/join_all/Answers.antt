use Rattle.std.proofs.Common.{[], ◌∷◌, ◌∙◌, sym, append_assoc}
use Rattle.tile_stream.proofs.GoneThrough.{goes_on}
use Rattle.tile_merge.proofs.Threaded.{given_more}
use Rattle.tile_merge.proofs.merging.threaded.join_all.Goals as goal

pub loop-tile-preserved : goal.loop-tile-preserved
loop-tile-preserved g c =
    let loop = c.loop-tile in
    let tile = c.in-Some.tile in
    let are = goes_on c.args.tiles.items loop.yielded _ tile _ loop.invariant.left c.in-Some.ensures.steps.0 in
    record {
      can_next = tt;
      is_finite = tt;
      given = given_more g.R.Source.gives loop.yielded tile loop.invariant.given c.finish.ensures;
      left = are ∙ sym (append_assoc loop.yielded (tile ∷ []) c.next.new.self.rest.items);
    }
