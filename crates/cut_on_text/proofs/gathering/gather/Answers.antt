use Rattle.std.proofs.Common.{◌≡◌, ◌<◌, ◌∙◌, ◌∷◌, [], Some, length, get_or, sym, ap, subst, arith}
use Rattle.std.specs.List.{slice_get, slice_index}
use Rattle.cut_on_text.specs.Made.{first_uses}
use Rattle.cut_on_text.specs.Rosters.{RosterState}
use Rattle.cut_on_text.proofs.Gathered.{Gathers, gathered, gathers_more, gathers_start}
use Rattle.cut_on_text.proofs.gathering.gather.Goals as goal

pub reached-init : goal.reached-init
reached-init c =
    let root = c.args.root in
    let is : c.note.new.self.order ≡ root ∷ [] = ap (λ (s : RosterState). s.order) c.note.ensures
    ∙ ap (λ (s : RosterState). first_uses s.order (root ∷ [])) c.clear.ensures in
    record {
      count = ap (λ (s : RosterState). s.count) c.note.ensures
          ∙ (ap (λ (s : RosterState). s.count) c.clear.ensures ∙ c.requires.count);
      gathers = subst (λ l. Gathers c.args.graph.now root l 0) (sym is) (gathers_start c.args.graph.now root);
    }

pub row-requires : goal.row-requires
row-requires c =
    let order = c.reached.found.order in
    let at = c.reached.at in
    let inside : at < length order = omega (arith, c.reached-test.true, ap length c.order.ensures.order) in
    let next : get_or c.order-in-reached.result.now at 0 ≡ slice_index order at =
    ap (λ l. get_or l at 0) c.order-in-reached.ensures.order in
    omega (arith, next, c.order.ensures.within at 0 inside, c.reached.invariant.count)

pub reached-preserved : goal.reached-preserved
reached-preserved c =
    let graph = c.args.graph.now in
    let order = c.reached.found.order in
    let at = c.reached.at in
    let row = c.row.result.now in
    let inside : at < length order = omega (arith, c.reached-test.true, ap length c.order.ensures.order) in
    let next : get_or c.order-in-reached.result.now at 0 ≡ slice_index order at =
    ap (λ l. get_or l at 0) c.order-in-reached.ensures.order in
    let got : slice_get graph (slice_index order at) ≡ Some row =
    subst (λ n. slice_get graph n ≡ Some row) next c.row.ensures in
    record {
      count = ap (λ (s : RosterState). s.count) c.note_all.ensures ∙ c.reached.invariant.count;
      gathers = gathers_more graph c.args.root order c.note_all.new.self.order at row c.reached.invariant.gathers inside
          got (ap (λ (s : RosterState). s.order) c.note_all.ensures);
    }

pub returns : goal.returns
returns c =
    let graph = c.args.graph.now in
    let order = c.reached.found.order in
    let count = c.sort.ensures.count ∙ c.reached.invariant.count in
    let is = gathered graph c.args.root order c.sort.new.self.order c.reached.at c.requires.graph c.requires.root
    c.reached.invariant.gathers (omega (arith, c.reached-test.false, ap length c.order.ensures.order))
    c.sort.ensures.rises c.sort.ensures.same in
    ap (λ n. record { count = n; order = c.sort.new.self.order }) count
    ∙ ap (λ l. record { count = length graph; order = l }) is
