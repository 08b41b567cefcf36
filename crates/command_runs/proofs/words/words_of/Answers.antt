use Rattle.std.proofs.Common.{◌∙◌, sym, ap, map, string_bytes}
use Rattle.std.proofs.lemmas.Iterator.Adapters.{YieldsList-from_vec}
use Rattle.std.proofs.lemmas.Iterator.Consumers.{YieldsList-end}
use Rattle.std.proofs.lemmas.List.{map-id}
use Rattle.std.specs.Vec.Iter.{into_iter_items, into_iter_len}
use Rattle.command_runs.proofs.words.words_of.Goals as goal

pub returns : goal.returns
returns c =
    let start = c.into_iter-word-iterator.ensures.into_iter_gives in
    let all = YieldsList-from_vec {s = c.into_iter-word-iterator.result} (into_iter_items c.args.args)
    (ap into_iter_items start) (ap into_iter_len start ∙ c.args.args.rest.ok.0) in
    let end = YieldsList-end all c.loop-word.yielded _ c.loop-word.yielded_by _ c.next.new.self c.in-None.is
    c.next.ensures.steps in
    c.loop-word.invariant ∙ ap (map string_bytes) (sym (map-id c.loop-word.yielded) ∙ end.0)
