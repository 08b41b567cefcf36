use Rattle.std.proofs.Common.{◌≤◌, ◌∙◌, List, ℕ, length, sym, subst, ap, arith}
use Rattle.city_feature.specs.Choice.{IsChosen}
use Rattle.tile_merge.specs.EndNotes.{ended_so}
use Rattle.tile_merge.specs.Opened.{OpenState}
use Rattle.tile_merge.specs.Threads.{IsRunOf, fresh_run}
use Rattle.tile_merge.specs.declared.merging.ends.TileEnd.{TileEnd}
use Rattle.tile_stream.specs.Coming.{GivesTexts, LinesMayComeTo, MayComeTo}
use Rattle.tile_stream.specs.TileState.{most_to_come, most_texts}
use Rattle.tile_stream.specs.Unread.{most_left}
use Rattle.tile_merge.proofs.Answering.{if_ok}
use Rattle.tile_merge.proofs.Starting.{runs_on, stops_there}
use Rattle.tile_merge.proofs.merging.threaded.start_tile.Goals as goal
use Rattle.tile_merge.proofs.merging.threaded.start_tile.Goals.{in-Ok, in-Err}

pub start-requires-clause-most : goal.start-requires-clause-most
start-requires-clause-most g c κs within =
    let most = subst (λ (tile : OpenState g.row.R.Denot). most_to_come tile.unread ≤ most_texts) (sym c.tile.view_is)
    c.requires.most in
    let made = c.match-take_held in
    let counted = ap (λ (ended : TileEnd). ended.count) c.new.ensures ∙ c.len.ensures.count in
    elim made.branch [
      | in-Ok w ↦ omega (arith, most, counted, ap (λ p. length p.0) w.first-is, w.in-Ok.ensures.fewer)
      | in-Err w ↦ omega (
        arith,
        most,
        counted,
        ap (λ p. length p.0) w.first-is,
        ap length w.none.ensures,
        ap most_left c.take_held.ensures.lines,
      )
    ]

pub returns-clause-ok : goal.returns-clause-ok
returns-clause-ok g c =
    let gives = g.R.Source.gives in
    let choice = c.in_ok-choice.choice in
    let tile : OpenState g.row.R.Denot = record { unread = c.tile.inside.reader; line = c.tile.inside.line } in
    let shift = c.args.shift in
    let now = c.take_held.new.self in
    let made = c.match-take_held in
    let begun = c.new.ensures ∙ ap (λ n. ended_so n made.first.1) c.len.ensures.count in
    let run : IsRunOf gives choice tile shift (fresh_run (record {
      fed = record { unread = now.lines; shift = shift; choice = choice; begun = c.new.result };
      first = made.first.0;
    })) = elim made.branch [
      | in-Ok w ↦
          let Gives : List (List ℕ) → Type 0 = λ texts. GivesTexts
          (MayComeTo gives (IsChosen choice) shift tile.unread) (LinesMayComeTo gives (IsChosen choice) shift now.lines) texts in
          runs_on gives choice tile shift now.lines made.first.0
          (subst Gives (sym (ap (λ p. p.0) w.first-is)) w.in-Ok.ensures.texts) c.new.result
          (begun ∙ ap (λ p. ended_so (length made.first.0) p.1) w.first-is)
      | in-Err w ↦ stops_there gives choice tile shift now.lines w.in-Err.at w.in-Err.ensures.refused made.first.0
          (ap (λ p. p.0) w.first-is ∙ w.none.ensures) c.new.result
          (begun ∙ ap (λ p. ended_so (length made.first.0) p.1) w.first-is)
    ] in
    let ok = if_ok c.start.result (λ running is. subst (λ ch. IsRunOf gives ch tile shift running)
    c.in_ok-choice.ensures.ok (subst (IsRunOf gives choice tile shift) (sym is) run)) c.start.ensures.ok in
    rw (← c.tile.view_is) ok
