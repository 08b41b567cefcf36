use Rattle.std.proofs.Common.{◌∷◌, [], map, sym, ◌∙◌, append_assoc, arith, inl}
use Rattle.city_feature.specs.Values.{header_value}
use Rattle.tile_merge.specs.Opened.{IsOpened}
use Rattle.tile_stream.proofs.GoneThrough.{goes_on, is_longer}
use Rattle.tile_merge.proofs.Opening.{all_three_long, opened_push, first_headless}
use Rattle.tile_merge.proofs.merging.tiles.take_heads.Goals as goal

pub overflow_cast-len : goal.overflow_cast-len
overflow_cast-len g c =
    let loop = c.loop-reader in
    let long = all_three_long (IsOpened g.R.Source.gives) loop.yielded loop.tiles.items
    (map header_value loop.headers.items) loop.invariant.opened in
    let within = is_longer c.args.readers.items loop.yielded c.in-Some.reader _
    (goes_on c.args.readers.items loop.yielded _ c.in-Some.reader _ loop.invariant.left
    c.in-Some.ensures.steps.0) in
    omega (arith, long.0, within, c.len-in-Err.ensures, loop.tiles.ok.0, c.requires.few)

pub overflow_add-len : goal.overflow_add-len
overflow_add-len g c =
    let loop = c.loop-reader in
    let long = all_three_long (IsOpened g.R.Source.gives) loop.yielded loop.tiles.items
    (map header_value loop.headers.items) loop.invariant.opened in
    let within = is_longer c.args.readers.items loop.yielded c.in-Some.reader _
    (goes_on c.args.readers.items loop.yielded _ c.in-Some.reader _ loop.invariant.left
    c.in-Some.ensures.steps.0) in
    omega (arith, long.0, within, c.len-in-Err.ensures, loop.tiles.ok.0, c.requires.few)

pub returns-in-Err-clause-refused : goal.returns-in-Err-clause-refused
returns-in-Err-clause-refused g c =
    let loop = c.loop-reader in
    let readers = c.args.readers.items in
    let are = goes_on readers loop.yielded _ c.in-Some.reader _ loop.invariant.left c.in-Some.ensures.steps.0 in
    inl (first_headless g.R.Source.gives readers loop.yielded c.in-Some.reader c.next.new.self.rest.items
    loop.tiles.items (map header_value loop.headers.items) are loop.invariant.opened c.in-Err.at
    c.in-Err.ensures.refused c.len-in-Err.result (c.len-in-Err.ensures ∙ loop.tiles.ok.0) c.of_tile.result
    c.of_tile.ensures)

pub loop-reader-preserved : goal.loop-reader-preserved
loop-reader-preserved g c =
    let loop = c.loop-reader in
    let reader = c.in-Some.reader in
    let are = goes_on c.args.readers.items loop.yielded _ reader _ loop.invariant.left c.in-Some.ensures.steps.0 in
    record {
      can_next = tt;
      is_finite = tt;
      opened = opened_push g.R.Source.gives loop.yielded loop.tiles.items loop.headers.items reader c.in-Ok.opened.0
          c.in-Ok.opened.1 loop.invariant.opened c.in-Ok.ensures.ok c.push.new.self.items
          c.push-in-loop-reader.new.self.items c.in_ok-push.ensures.items c.in_ok-push-2.ensures.items;
      left = are ∙ sym (append_assoc loop.yielded (reader ∷ []) c.next.new.self.rest.items);
    }
