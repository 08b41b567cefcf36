use Rattle.std.proofs.Common.{◌≡◌, ◌≤◌, ◌+◌, ◌++◌, ◌∷◌, [], ℕ, List, Some, None, length, ap, sym, subst, ◌∙◌, refl, arith, rules}
use Rattle.tile_handoff.specs.declared.note.Note.{Note}
use Rattle.rtrb.specs.Ring.{received}
use Rattle.city_feature.specs.Choice.{IsChosen}
use Rattle.tile_handoff.specs.Ends.{notes_put, notes_carried}
use Rattle.tile_stream.specs.Coming.{LinesMayComeTo}
use Rattle.tile_merge.specs.EndNotes.{end_of}
use Rattle.tile_merge.specs.Threads.{Fed, FedSoFar}
use Rattle.tile_stream.specs.TileState.{most_texts}
use Rattle.tile_stream.specs.Unread.{most_left}
use Rattle.tile_merge.proofs.Feeder.{fed_start, fed_text, fed_nothing, fed_whole, fed_front, fed_stopped}
use Rattle.tile_merge.proofs.merging.threaded.feeder.FedTile.feed.Goals as goal
use Rattle.tile_merge.proofs.merging.threaded.feeder.FedTile.feed.Goals.{then-is_chosen, else-is_chosen}

pub lines-init : goal.lines-init
lines-init g c =
    let most = subst (λ (fed : Fed g.row.R.Denot). fed.begun.count + most_left fed.unread ≤ most_texts)
    (sym c.self.view_is) c.requires.most in
    record {
      so_far = fed_start (LinesMayComeTo g.R.Source.gives (IsChosen c.self.inside.choice) c.self.inside.shift
          c.self.inside.reader.lines) c.self.inside.begun.count (notes_put c.args.sender);
      own = search rules;
      same = search rules;
      unseen = refl;
      bounded = omega (arith, most);
    }

pub returns-then-is_some-clause-fed : goal.returns-then-is_some-clause-fed
returns-then-is_some-clause-fed g c =
    let Unasked = received c.finish.result.cancellation.consumer ≡ received c.args.links.cancellation.consumer in
    let fed = fed_stopped g.R.Source.gives (record
    { unread = c.self.inside.reader.lines; shift = c.self.inside.shift; choice = c.self.inside.choice; begun = c.self.inside.begun })
    Unasked (notes_put c.args.sender) (sym c.is_some.ensures ∙ c.if-is_some.true) (notes_carried c.finish.result.closed)
    c.finish.ensures.put in
    rw (← c.self.view_is) fed

pub returns-in-Ok-None-clause-fed : goal.returns-in-Ok-None-clause-fed
returns-in-Ok-None-clause-fed g c =
    let over = rw c.in-Ok-None.field-0-is at c.in-Ok-None.ensures.over in
    let comes = LinesMayComeTo g.R.Source.gives (IsChosen c.self.inside.choice) c.self.inside.shift in
    let Unasked = received c.finish-in-Ok-None.result.cancellation.consumer ≡ received c.args.links.cancellation.consumer in
    let fed = fed_whole g.R.Source.gives (record
    { unread = c.self.inside.reader.lines; shift = c.self.inside.shift; choice = c.self.inside.choice; begun = c.self.inside.begun })
    Unasked (notes_put c.args.sender) (sym c.is_some.ensures ∙ c.if-is_some.false) (comes c.lines.reader.lines) c.lines.count (notes_put c.lines.sender)
    c.lines.invariant.so_far (end_of c.new.result) (notes_carried c.finish-in-Ok-None.result.closed) c.finish-in-Ok-None.ensures.put None
    over (ap end_of c.new.ensures) in
    rw (← c.self.view_is) fed

pub returns-in-Err-clause-fed : goal.returns-in-Err-clause-fed
returns-in-Err-clause-fed g c =
    let comes = LinesMayComeTo g.R.Source.gives (IsChosen c.self.inside.choice) c.self.inside.shift in
    let finish = c.finish-in-Err in
    let Unasked = received finish.result.cancellation.consumer ≡ received c.args.links.cancellation.consumer in
    let fed = fed_whole g.R.Source.gives (record
    { unread = c.self.inside.reader.lines; shift = c.self.inside.shift; choice = c.self.inside.choice; begun = c.self.inside.begun })
    Unasked (notes_put c.args.sender) (sym c.is_some.ensures ∙ c.if-is_some.false) (comes c.lines.reader.lines) c.lines.count (notes_put c.lines.sender)
    c.lines.invariant.so_far (end_of c.new-in-Err.result) (notes_carried finish.result.closed) finish.ensures.put
    (Some c.in-Err.at) c.in-Err.ensures.refused (ap end_of c.new-in-Err.ensures) in
    rw (← c.self.view_is) fed

pub returns-then-is_asked-clause-fed : goal.returns-then-is_asked-clause-fed
returns-then-is_asked-clause-fed g c =
    let comes = LinesMayComeTo g.R.Source.gives (IsChosen c.self.inside.choice) c.self.inside.shift in
    let old = notes_put c.args.sender in
    let text = rw c.in-Ok-Some.field-0-is at c.in-Ok-Some.ensures.text in
    let skipped = rw c.in-Ok-Some.field-0-is at c.in-Ok-Some.ensures.skipped in
    let before = comes c.self.inside.reader.lines in
    let now = comes c.lines.reader.lines in
    let after = comes c.pass.new.self.lines in
    let so_far = c.lines.invariant.so_far in
    let passed : FedSoFar before after c.self.inside.begun.count c.if-is_chosen.count old (notes_put c.if-is_chosen.sender) =
    elim c.if-is_chosen.branch [
      | then-is_chosen w ↦
          let given = text w.if-is_chosen.true in
          subst (λ n. FedSoFar before after c.self.inside.begun.count n old (notes_put c.if-is_chosen.sender)) (sym w.count-is)
          (fed_text before c.self.inside.begun.count old now c.lines.count (notes_put c.lines.sender) so_far after c.in-Ok-Some.passed.text given
          (notes_put c.if-is_chosen.sender) (ap notes_put w.sender-is ∙ w.put.ensures.put
          ∙ ap (λ (text : List ℕ). notes_put c.lines.sender ++ Note.Line text ∷ []) w.fitted.ensures))
      | else-is_chosen w ↦ rw (w.count-is, w.sender-is)
          (fed_nothing before c.self.inside.begun.count old now c.lines.count (notes_put c.lines.sender) so_far after
          (skipped w.if-is_chosen.false).1)
    ] in
    let finish = c.finish-then-is_asked in
    let Unasked = received finish.result.cancellation.consumer ≡ received c.args.links.cancellation.consumer in
    let one_more = c.is_asked.ensures.yes c.if-is_asked.true in
    let unseen = ap length c.lines.invariant.unseen in
    let kept = ap received finish.ensures.asked in
    let fed = fed_front g.R.Source.gives (record
    { unread = c.self.inside.reader.lines; shift = c.self.inside.shift; choice = c.self.inside.choice; begun = c.self.inside.begun })
    Unasked old (sym c.is_some.ensures ∙ c.if-is_some.false) after
    c.if-is_chosen.count (notes_put c.if-is_chosen.sender) passed (end_of c.new-then-is_asked.result)
    (notes_carried finish.result.closed) finish.ensures.put c.pass.ensures.some
    (λ unasked. omega (arith, one_more, unseen, ap length (sym kept ∙ unasked))) in
    rw (← c.self.view_is) fed

pub lines-preserved : goal.lines-preserved
lines-preserved g c =
    let comes = LinesMayComeTo g.R.Source.gives (IsChosen c.self.inside.choice) c.self.inside.shift in
    let old = notes_put c.args.sender in
    let text = rw c.in-Ok-Some.field-0-is at c.in-Ok-Some.ensures.text in
    let skipped = rw c.in-Ok-Some.field-0-is at c.in-Ok-Some.ensures.skipped in
    let fewer = rw c.in-Ok-Some.field-0-is at c.in-Ok-Some.ensures.fewer in
    let before = comes c.self.inside.reader.lines in
    let now = comes c.lines.reader.lines in
    let after = comes c.pass.new.self.lines in
    let so_far = c.lines.invariant.so_far in
    let passed : FedSoFar before after c.self.inside.begun.count c.if-is_chosen.count old (notes_put c.if-is_chosen.sender) =
    elim c.if-is_chosen.branch [
      | then-is_chosen w ↦
          let given = text w.if-is_chosen.true in
          subst (λ n. FedSoFar before after c.self.inside.begun.count n old (notes_put c.if-is_chosen.sender)) (sym w.count-is)
          (fed_text before c.self.inside.begun.count old now c.lines.count (notes_put c.lines.sender) so_far after c.in-Ok-Some.passed.text given
          (notes_put c.if-is_chosen.sender) (ap notes_put w.sender-is ∙ w.put.ensures.put
          ∙ ap (λ (text : List ℕ). notes_put c.lines.sender ++ Note.Line text ∷ []) w.fitted.ensures))
      | else-is_chosen w ↦ rw (w.count-is, w.sender-is)
          (fed_nothing before c.self.inside.begun.count old now c.lines.count (notes_put c.lines.sender) so_far after
          (skipped w.if-is_chosen.false).1)
    ] in
    let bound : c.if-is_chosen.count + most_left c.pass.new.self.lines ≤ most_texts =
    elim c.if-is_chosen.branch [
      | then-is_chosen w ↦ omega (arith, c.lines.invariant.bounded, fewer, w.count-is)
      | else-is_chosen w ↦ omega (arith, c.lines.invariant.bounded, fewer, w.count-is)
    ] in
    record {
      so_far = passed;
      own = search rules;
      same = search rules;
      unseen = c.is_asked.ensures.no c.if-is_asked.false ∙ c.lines.invariant.unseen;
      bounded = bound;
    }
