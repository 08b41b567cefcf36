use Rattle.std.proofs.Common.{◌≡◌, ◌≤◌, ◌∷◌, [], length, take, get_or, ap, sym, subst, ◌∙◌, arith, append_assoc}
use Rattle.std.proofs.lemmas.List.{map-id}
use Rattle.std.proofs.lemmas.Iterator.Adapters.{YieldsList-from_vec}
use Rattle.std.proofs.lemmas.Iterator.Consumers.{YieldsList-end}
use Rattle.city_feature.specs.Choice.{IsChosen}
use Rattle.tile_merge.specs.Opened.{OpenState}
use Rattle.tile_merge.specs.Rounds.{IsFeedOf}
use Rattle.tile_stream.specs.TileState.{most_to_come, most_texts}
use Rattle.tile_merge.proofs.Ends.{all_at}
use Rattle.tile_stream.proofs.GoneThrough.{goes_on, is_longer}
use Rattle.tile_merge.proofs.Opening.{all_three_long}
use Rattle.tile_merge.proofs.Threes.{threes_all, threes_more}
use Rattle.tile_merge.proofs.merging.in_turn.feeds_of.Goals as goal

pub bounds-shifts-len : goal.bounds-shifts-len
bounds-shifts-len g c =
    let loop = c.loop-tile in
    let tiles = c.args.tiles.items in
    let long = all_three_long (IsFeedOf g.R.Source.gives (IsChosen c.args.choice.now)) loop.yielded (take (length loop.yielded) c.args.shifts.now)
    loop.feeds.items loop.invariant.fed in
    let within = is_longer tiles loop.yielded c.in-Some.tile _
    (goes_on tiles loop.yielded _ c.in-Some.tile _ loop.invariant.left c.in-Some.ensures.steps.0) in
    omega (arith, long.1, within, c.len-in-loop-tile.ensures, loop.feeds.ok.0, c.requires.shifts)

pub offset_bounds-shifts-len : goal.offset_bounds-shifts-len
offset_bounds-shifts-len g c = omega (arith, bounds-shifts-len g c, c.requires.few, c.requires.shifts)

pub new-requires-in-loop-tile-clause-most : goal.new-requires-in-loop-tile-clause-most
new-requires-in-loop-tile-clause-most g c =
    let loop = c.loop-tile in
    let tiles = c.args.tiles.items in
    let Few : OpenState g.row.R.Denot → Type 0 = λ tile. most_to_come tile.unread ≤ most_texts in
    let few = all_at Few tiles loop.yielded c.in-Some.tile _
    (goes_on tiles loop.yielded _ c.in-Some.tile _ loop.invariant.left c.in-Some.ensures.steps.0) c.requires.most in
    few

pub loop-tile-preserved : goal.loop-tile-preserved
loop-tile-preserved g c =
    let loop = c.loop-tile in
    let tile = c.in-Some.tile in
    let are = goes_on c.args.tiles.items loop.yielded _ tile _ loop.invariant.left c.in-Some.ensures.steps.0 in
    let long = all_three_long (IsFeedOf g.R.Source.gives (IsChosen c.args.choice.now)) loop.yielded (take (length loop.yielded) c.args.shifts.now)
    loop.feeds.items loop.invariant.fed in
    let is_shift = subst (λ n. c.index-shifts-len.result ≡ get_or c.args.shifts.now n c.index-shifts-len.result)
    (c.len-in-loop-tile.ensures ∙ loop.feeds.ok.0 ∙ long.1) c.index-shifts-len.is in
    let shift = c.index-shifts-len.result in
    record {
      can_next = tt;
      is_finite = tt;
      fed = threes_more (IsFeedOf g.R.Source.gives (IsChosen c.args.choice.now)) loop.yielded c.args.shifts.now loop.feeds.items
          c.push.new.self.items tile c.index-shifts-len.result c.new-in-loop-tile.result loop.invariant.fed
          (omega (arith, is_longer c.args.tiles.items loop.yielded tile _ are, c.requires.shifts)) is_shift c.new-in-loop-tile.ensures
          c.in_ok-push.ensures.items;
      left = are ∙ sym (append_assoc loop.yielded (tile ∷ []) c.next.new.self.rest.items);
    }

pub returns-clause-long : goal.returns-clause-long
returns-clause-long g c =
    let loop = c.loop-tile in
    let end = YieldsList-end (YieldsList-from_vec {s = c.into_iter-tile-iterator.result} c.args.tiles.items
    c.into_iter-tile-iterator.ensures.into_iter_gives.0
    (c.into_iter-tile-iterator.ensures.into_iter_gives.1 ∙ c.args.tiles.ok.0)) loop.yielded loop.tile-iterator
    loop.yielded_by c.next.result c.next.new.self c.in-None.is c.next.ensures.steps in
    let long = all_three_long (IsFeedOf g.R.Source.gives (IsChosen c.args.choice.now)) loop.yielded (take (length loop.yielded) c.args.shifts.now)
    loop.feeds.items loop.invariant.fed in
    long.1 ∙ ap length (sym (map-id loop.yielded) ∙ end.0)

pub returns-clause-ok : goal.returns-clause-ok
returns-clause-ok g c =
    let loop = c.loop-tile in
    let end = YieldsList-end (YieldsList-from_vec {s = c.into_iter-tile-iterator.result} c.args.tiles.items
    c.into_iter-tile-iterator.ensures.into_iter_gives.0
    (c.into_iter-tile-iterator.ensures.into_iter_gives.1 ∙ c.args.tiles.ok.0)) loop.yielded loop.tile-iterator
    loop.yielded_by c.next.result c.next.new.self c.in-None.is c.next.ensures.steps in
    threes_all (IsFeedOf g.R.Source.gives (IsChosen c.args.choice.now)) c.args.tiles.items loop.yielded c.args.shifts.now loop.feeds.items
    (sym (map-id loop.yielded) ∙ end.0) c.requires.shifts loop.invariant.fed
