use Rattle.std.proofs.Common.{◌∙◌, ◌∷◌, ◌+◌, drop, get_or, ap, sym, arith}
use Rattle.std.specs.List.{slice_range}
use Rattle.city_json.specs.OpenNames.{names_between}
use Rattle.city_json.proofs.EndedNames.{ends_after, ends_within, name_at}
use Rattle.city_json.proofs.reading.names.text_at.Goals as goal

pub slice_bounds-result-count : goal.slice_bounds-result-count
slice_bounds-result-count c =
    let after = ends_after 0 c.args.place c.args.ends.now _ c.requires.ends c.requires.place in
    omega (arith, c.begin_of-start.ensures, after)

pub slice_bounds-result-start : goal.slice_bounds-result-start
slice_bounds-result-start c =
    let within = ends_within 0 c.args.place c.args.ends.now _ c.requires.ends c.requires.place in
    let after = ends_after 0 c.args.place c.args.ends.now _ c.requires.ends c.requires.place in
    omega (arith, c.begin_of-start.ensures, within, after)

pub slice_bounds-result-end : goal.slice_bounds-result-end
slice_bounds-result-end c =
    let within = ends_within 0 c.args.place c.args.ends.now _ c.requires.ends c.requires.place in
    omega (arith, within)

pub returns : goal.returns
returns c =
    name_at 0 c.args.place c.args.ends.now c.args.bytes.now c.requires.place
    ∙ ap (λ n. slice_range c.args.bytes.now n (get_or c.args.ends.now c.args.place 0)
    ∷ drop (c.args.place + 1) (names_between 0 c.args.ends.now c.args.bytes.now)) (sym c.begin_of-start.ensures)
