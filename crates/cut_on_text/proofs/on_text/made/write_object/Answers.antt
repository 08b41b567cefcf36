use Rattle.std.proofs.Common.{◌≡◌, ◌∙◌, ◌+◌, ℕ, List, [], ap, arith, drop, subst, sym}
use Rattle.std.proofs.lemmas.List.{drop_all}
use Rattle.std.specs.Fmt.{decimal}
use Rattle.std.specs.List.{slice_range}
use Rattle.cut_on_text.specs.Made.{place_in}
use Rattle.cut_on_text.specs.Skeletons.{place_at, skeleton_text_at, woven}
use Rattle.cut_on_text.specs.Written.{Writes}
use Rattle.cut_on_text.proofs.Writing.{WritesUpTo, none_yet, woven_more, writes_last}
use Rattle.cut_on_text.proofs.on_text.made.write_object.Goals as goal

pub loop-leaf-init : goal.loop-leaf-init
loop-leaf-init g c = rw (c.text-text.ensures, c.begin-from.ensures, c.leaves-leaf-items.ensures)
    (none_yet g.W.Sink.taken g.W.Sink.failures c.args.output.now c.args.wrote.now
    (skeleton_text_at c.args.skeletons.now (λ vertex. decimal (place_in c.args.order.now.order vertex)) c.args.at))

pub loop-leaf-preserved : goal.loop-leaf-preserved
loop-leaf-preserved g c =
    let label : ℕ → List ℕ = λ vertex. decimal (place_in c.args.order.now.order vertex) in
    let piece = c.write_piece.new in
    let number = c.write_number.new in
    let front = subst (Writes g.W.Sink.taken g.W.Sink.failures c.loop-leaf.output c.loop-leaf.wrote piece.output piece.wrote)
    (c.between.ensures ∙ ap (slice_range c.text-text.result.now c.loop-leaf.from) c.at.ensures) c.write_piece.ensures in
    let named = subst (Writes g.W.Sink.taken g.W.Sink.failures piece.output piece.wrote number.output number.wrote)
    (ap decimal (c.number.ensures ∙ ap (place_in c.args.order.now.order) c.vertex.ensures)) c.write_number.ensures in
    rw c.at-from.ensures (woven_more g.W.Sink.taken g.W.Sink.failures c.text-text.result.now c.loop-leaf.from
    (place_at c.args.skeletons.now (c.args.at + 1)).text c.loop-leaf.leaf-index c.leaves-leaf-items.result.now label
    c.leaf-item.result c.args.output.now c.args.wrote.now c.loop-leaf.output c.loop-leaf.wrote piece.output piece.wrote
    number.output number.wrote (skeleton_text_at c.args.skeletons.now label c.args.at) c.loop-leaf-test.true
    (sym c.leaf-item.is) c.loop-leaf.invariant front named)

pub returns : goal.returns
returns g c =
    let label : ℕ → List ℕ = λ vertex. decimal (place_in c.args.order.now.order vertex) in
    let whole = skeleton_text_at c.args.skeletons.now label c.args.at in
    let text = c.text-text.result.now in
    let from = c.loop-leaf.from in
    let end = (place_at c.args.skeletons.now (c.args.at + 1)).text in
    let none : drop c.loop-leaf.leaf-index c.leaves-leaf-items.result.now ≡ [] =
    drop_all c.loop-leaf.leaf-index c.leaves-leaf-items.result.now (omega (arith, c.loop-leaf-test.false)) in
    writes_last g.W.Sink.taken g.W.Sink.failures c.args.output.now c.args.wrote.now c.loop-leaf.output c.loop-leaf.wrote
    c.write_piece-2.new.output c.write_piece-2.new.wrote whole (slice_range text from end)
    (subst (λ leaves. WritesUpTo g.W.Sink.taken g.W.Sink.failures c.args.output.now c.args.wrote.now c.loop-leaf.output
    c.loop-leaf.wrote whole (woven text from end leaves label)) none c.loop-leaf.invariant)
    (subst (Writes g.W.Sink.taken g.W.Sink.failures c.loop-leaf.output c.loop-leaf.wrote c.write_piece-2.new.output
    c.write_piece-2.new.wrote) (c.between-2.ensures ∙ ap (slice_range text from) c.end.ensures) c.write_piece-2.ensures)
