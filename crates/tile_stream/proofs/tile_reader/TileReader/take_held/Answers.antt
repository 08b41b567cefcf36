use Rattle.std.proofs.Common.{[], Some, subst, sym, arith}
use Rattle.std.proofs.lemmas.Bool.Decides.{nat_tests}
use Rattle.std.proofs.lemmas.List.{nil_from_length}
use Rattle.city_families.specs.HeldTexts.{AreOwnParts, texts_in}
use Rattle.city_feature.specs.Choice.{IsChosen}
use Rattle.tile_stream.specs.Coming.{LinesMayComeTo, MayComeTo, GivesTexts}
use Rattle.tile_stream.specs.TileState.{TileState}
use Rattle.tile_stream.proofs.HeldFirst.{texts_given, none_given, held_stops, lines_come}
use Rattle.tile_stream.proofs.HeldTexts.{texts_long}
use Rattle.tile_stream.proofs.Leaving.{something_left}
use Rattle.tile_stream.proofs.tile_reader.TileReader.take_held.Goals as goal

pub returns-then-len-eq0-clause-texts : goal.returns-then-len-eq0-clause-texts
returns-then-len-eq0-clause-texts g c =
    let s = c.self.inside in
    let now : TileState g.row.R.Denot = record {
      held = record { line = s.held.line; texts = texts_in s.held.texts };
      lines = s.lines;
    } in
    let none = nil_from_length (texts_in s.held.texts)
    (grind (arith, nat_tests, c.if-len-eq0.true, c.len.ensures.count, texts_long s.held.texts)) in
    rw (← c.self.view_is) (none_given g.R.Source.gives (IsChosen c.args.choice.now) c.args.shift now none c.none.result
    c.none.ensures)

pub returns-then-len-eq0-clause-some : goal.returns-then-len-eq0-clause-some
returns-then-len-eq0-clause-some g c =
    rw (← c.self.view_is) (lines_come g.R.Source.gives (IsChosen c.args.choice.now) c.args.shift
    g.met.R.Source.gives_something c.self.inside.lines c.self.invariant.0)

pub returns-in-Ok-clause-texts : goal.returns-in-Ok-clause-texts
returns-in-Ok-clause-texts g c =
    let s = c.self.inside in
    let before : TileState g.row.R.Denot = record {
      held = record { line = s.held.line; texts = texts_in s.held.texts };
      lines = s.lines;
    } in
    let made = rw c.replace-held.ensures.value at c.in-Ok.ensures.ok in
    let Gives : TileState g.row.R.Denot → Type 0 =
    λ tile. GivesTexts (MayComeTo g.R.Source.gives (IsChosen c.args.choice.now) c.args.shift tile)
    (LinesMayComeTo g.R.Source.gives (IsChosen c.args.choice.now) c.args.shift s.lines) c.in-Ok.texts in
    subst Gives c.self.view_is
    (texts_given g.R.Source.gives (IsChosen c.args.choice.now) c.args.shift before c.in-Ok.texts made)

pub returns-in-Ok-clause-some : goal.returns-in-Ok-clause-some
returns-in-Ok-clause-some g c =
    lines_come g.R.Source.gives (IsChosen c.args.choice.now) c.args.shift g.met.R.Source.gives_something
    c.self.inside.lines c.self.invariant.0

pub returns-in-Err-clause-refused : goal.returns-in-Err-clause-refused
returns-in-Err-clause-refused g c =
    let s = c.self.inside in
    let before : TileState g.row.R.Denot = record {
      held = record { line = s.held.line; texts = texts_in s.held.texts };
      lines = s.lines;
    } in
    let refused = rw c.replace-held.ensures.value at c.in-Err.ensures.refused in
    let Stops : TileState g.row.R.Denot → Type 0 =
    λ tile. MayComeTo g.R.Source.gives (IsChosen c.args.choice.now) c.args.shift tile []
    (Some (record { line = s.held.line; fault = c.in-Err.fault })) in
    let some = something_left g.R.Source.gives g.met.R.Source.gives_something s.lines c.self.invariant.0 in
    subst Stops c.self.view_is (held_stops g.R.Source.gives (IsChosen c.args.choice.now) c.args.shift before
    (some.0, (some.1, some.2)) c.in-Err.fault refused)

pub returns-in-Err-clause-some : goal.returns-in-Err-clause-some
returns-in-Err-clause-some g c =
    lines_come g.R.Source.gives (IsChosen c.args.choice.now) c.args.shift g.met.R.Source.gives_something
    c.self.inside.lines c.self.invariant.0

pub texts_of-requires-clause-own : goal.texts_of-requires-clause-own
texts_of-requires-clause-own g c = subst AreOwnParts (sym c.replace-held.ensures.value) c.self.invariant.1
