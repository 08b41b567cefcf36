use Rattle.std.proofs.Common.{◌∙◌, ap}
use Rattle.city_families.specs.HeldTexts.{HeldTexts}
use Rattle.city_feature.specs.Choice.{IsChosen}
use Rattle.tile_stream.proofs.WantedTexts.{kept_given}
use Rattle.tile_stream.proofs.tile_reader.held.made_texts.Goals as goal

pub returns : goal.returns
returns c =
    let made = ap (λ (held : HeldTexts). held.is_made) c.in_ok-wanted.ensures.same ∙ c.requires.made in
    let gave = kept_given (IsChosen c.args.choice.now) c.args.shift c.args.held c.in_ok-wanted.wanted.items
    c.in_ok-wanted.ensures.ok c.move_by.new.self c.keep.new.self
    (rw c.in_ok-wanted.ensures.same at c.in_ok-move_by.ensures.moved (c.in_ok-move_by.ensures.is ∙ made))
    (rw c.deref.ensures.value at c.keep.ensures.kept (c.keep.ensures.is ∙ (c.in_ok-move_by.ensures.made ∙ made)))
    c.made.result c.made.ensures in
    record { ok = gave.0; fewer = gave.1; refused = tt }
