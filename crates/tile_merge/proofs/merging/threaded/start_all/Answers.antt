use Rattle.std.proofs.Common.{◌≡◌, ◌≤◌, ◌+◌, ◌∷◌, [], length, take, get_or, ap, inl, refl, sym, subst, ◌∙◌, arith, append_assoc}
use Rattle.std.proofs.lemmas.List.{map-id}
use Rattle.std.proofs.lemmas.Result.{err_from_is_err_and}
use Rattle.std.proofs.lemmas.Iterator.Adapters.{YieldsList-from_vec}
use Rattle.std.proofs.lemmas.Iterator.Consumers.{YieldsList-end}
use Rattle.tile_merge.specs.Opened.{OpenState}
use Rattle.tile_merge.specs.Threads.{IsRunOf}
use Rattle.tile_stream.specs.TileState.{most_to_come, most_texts}
use Rattle.tile_merge.proofs.Ends.{all_at}
use Rattle.tile_stream.proofs.GoneThrough.{goes_on, is_longer}
use Rattle.tile_merge.proofs.Opening.{all_three_long}
use Rattle.tile_merge.proofs.Starting.{unstarted}
use Rattle.tile_merge.proofs.Threes.{threes_all, threes_more}
use Rattle.tile_merge.proofs.merging.threaded.start_all.Goals as goal

pub bounds-shifts-len : goal.bounds-shifts-len
bounds-shifts-len g c =
    let loop = c.loop-tile in
    let tiles = c.args.tiles.items in
    let long = all_three_long (IsRunOf g.R.Source.gives c.args.choice.now) loop.yielded (take (length loop.yielded) c.args.shifts.now)
    loop.running.items loop.invariant.runs in
    let within = is_longer tiles loop.yielded c.in-Some.tile _
    (goes_on tiles loop.yielded _ c.in-Some.tile _ loop.invariant.left c.in-Some.ensures.steps.0) in
    omega (arith, long.1, within, c.len-in-loop-tile.ensures, loop.running.ok.0, c.requires.shifts)

pub offset_bounds-shifts-len : goal.offset_bounds-shifts-len
offset_bounds-shifts-len g c = omega (arith, bounds-shifts-len g c, c.requires.few, c.requires.shifts)

pub returns-in_err-running : goal.returns-in_err-running
returns-in_err-running g c =
    let e = err_from_is_err_and c.from_residual.result c.from_residual.ensures.1 in
    rw (e.1, e.2) (record { ok = tt; long = tt; refused = inl refl })

pub start_tile-requires-clause-most : goal.start_tile-requires-clause-most
start_tile-requires-clause-most g c κs within =
    let loop = c.loop-tile in
    let tiles = c.args.tiles.items in
    let Few : OpenState g.row.R.Denot → Type 0 = λ tile. most_to_come tile.unread ≤ most_texts in
    all_at Few tiles loop.yielded c.in-Some.tile _
    (goes_on tiles loop.yielded _ c.in-Some.tile _ loop.invariant.left c.in-Some.ensures.steps.0) c.requires.most

pub push_reserved-requires : goal.push_reserved-requires
push_reserved-requires g c =
    let loop = c.loop-tile in
    let tiles = c.args.tiles.items in
    let long = all_three_long (IsRunOf g.R.Source.gives c.args.choice.now) loop.yielded (take (length loop.yielded) c.args.shifts.now)
    loop.running.items loop.invariant.runs in
    let within = is_longer tiles loop.yielded c.in-Some.tile _
    (goes_on tiles loop.yielded _ c.in-Some.tile _ loop.invariant.left c.in-Some.ensures.steps.0) in
    omega (arith, long.1, within, loop.running.ok.0, loop.invariant.room)

pub loop-tile-preserved : goal.loop-tile-preserved
loop-tile-preserved g c =
    let loop = c.loop-tile in
    let tile = c.in-Some.tile in
    let are = goes_on c.args.tiles.items loop.yielded _ tile _ loop.invariant.left c.in-Some.ensures.steps.0 in
    let long = all_three_long (IsRunOf g.R.Source.gives c.args.choice.now) loop.yielded (take (length loop.yielded) c.args.shifts.now)
    loop.running.items loop.invariant.runs in
    let is_shift = subst (λ n. c.index-shifts-len.result ≡ get_or c.args.shifts.now n c.index-shifts-len.result)
    (c.len-in-loop-tile.ensures ∙ loop.running.ok.0 ∙ long.1) c.index-shifts-len.is in
    record {
      can_next = tt;
      is_finite = tt;
      runs = threes_more (IsRunOf g.R.Source.gives c.args.choice.now) loop.yielded c.args.shifts.now loop.running.items
          c.push_reserved.new.self.items tile c.index-shifts-len.result c.in-Ok.started loop.invariant.runs
          (omega (arith, is_longer c.args.tiles.items loop.yielded tile _ are, c.requires.shifts)) is_shift
          c.in-Ok.ensures.ok c.push_reserved.ensures.items;
      room = c.push_reserved.ensures.capacity ∙ loop.invariant.room;
      left = are ∙ sym (append_assoc loop.yielded (tile ∷ []) c.next.new.self.rest.items);
    }

pub overflow_cast-len : goal.overflow_cast-len
overflow_cast-len g c =
    let loop = c.loop-tile in
    let tiles = c.args.tiles.items in
    let long = all_three_long (IsRunOf g.R.Source.gives c.args.choice.now) loop.yielded (take (length loop.yielded) c.args.shifts.now)
    loop.running.items loop.invariant.runs in
    let within = is_longer tiles loop.yielded c.in-Some.tile _
    (goes_on tiles loop.yielded _ c.in-Some.tile _ loop.invariant.left c.in-Some.ensures.steps.0) in
    omega (arith, long.1, within, c.len-in-Err.ensures, loop.running.ok.0, c.requires.few)

pub overflow_add-len : goal.overflow_add-len
overflow_add-len g c =
    let loop = c.loop-tile in
    let tiles = c.args.tiles.items in
    let long = all_three_long (IsRunOf g.R.Source.gives c.args.choice.now) loop.yielded (take (length loop.yielded) c.args.shifts.now)
    loop.running.items loop.invariant.runs in
    let within = is_longer tiles loop.yielded c.in-Some.tile _
    (goes_on tiles loop.yielded _ c.in-Some.tile _ loop.invariant.left c.in-Some.ensures.steps.0) in
    omega (arith, long.1, within, c.len-in-Err.ensures, loop.running.ok.0, c.requires.few)

pub returns-in-Err : goal.returns-in-Err
returns-in-Err g c =
    let loop = c.loop-tile in
    let tiles = c.args.tiles.items in
    let long = all_three_long (IsRunOf g.R.Source.gives c.args.choice.now) loop.yielded (take (length loop.yielded) c.args.shifts.now)
    loop.running.items loop.invariant.runs in
    let within = is_longer tiles loop.yielded c.in-Some.tile _
    (goes_on tiles loop.yielded _ c.in-Some.tile _ loop.invariant.left c.in-Some.ensures.steps.0) in
    let told = c.refusal_at_start-refusal in
    record {
      ok = tt;
      long = tt;
      refused = unstarted (length tiles) (c.len-in-Err.result + 1) (omega arith)
          (omega (arith, long.1, within, c.len-in-Err.ensures, loop.running.ok.0)) c.in-Err.fault
          c.in-Err.ensures.refused told.result told.ensures.thread told.ensures.memory;
    }

pub returns : goal.returns
returns g c =
    let loop = c.loop-tile in
    let IsRun = IsRunOf g.R.Source.gives c.args.choice.now in
    let end = YieldsList-end (YieldsList-from_vec {s = c.into_iter-tile-iterator.result} c.args.tiles.items
    c.into_iter-tile-iterator.ensures.into_iter_gives.0
    (c.into_iter-tile-iterator.ensures.into_iter_gives.1 ∙ c.args.tiles.ok.0)) loop.yielded loop.tile-iterator
    loop.yielded_by c.next.result c.next.new.self c.in-None.is c.next.ensures.steps in
    let whole = sym (map-id loop.yielded) ∙ end.0 in
    let long = all_three_long IsRun loop.yielded (take (length loop.yielded) c.args.shifts.now) loop.running.items
    loop.invariant.runs in
    record {
      ok = threes_all IsRun c.args.tiles.items loop.yielded c.args.shifts.now loop.running.items whole c.requires.shifts
          loop.invariant.runs;
      long = long.1 ∙ ap length whole;
      refused = tt;
    }
