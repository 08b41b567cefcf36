use Rattle.std.proofs.Common.{◌+◌, ◌++◌, ◌∷◌, ◌<◌, ◌≤◌, [], arith, refl, subst, sym}
use Rattle.std.proofs.lemmas.List.Elements.{All-nil, All-push}
use Rattle.city_grid.specs.Axes.{IsInRange, triple}
use Rattle.city_feature.proofs.features.TripleVertices.{GoesTo, Remain, all_remain, first_here, next, next_within, read_last, read_next}
use Rattle.city_feature.proofs.features.on_text.unread.extent_of_triples.Goals as goal

pub vertices-init : goal.vertices-init
vertices-init c =
    let all = all_remain c.args.text.now c.args.from c.args.end c.requires.within c.requires.long c.requires.triples in
    record {
      within = omega (arith, c.requires.long);
      remain = all.0;
      so_far = ([], all.1, All-nil IsInRange, refl);
    }

pub returns-then-found-end : goal.returns-then-found-end
returns-then-found-end c =
    let text = c.args.text.now in
    let end = c.args.end in
    let at = c.vertices.at in
    let r = c.vertices.invariant.remain in
    let within = c.requires.within in
    let (read, goes, range, extent) = c.vertices.invariant.so_far in
    let (place, z, near, written) = c.in_ok-found.ensures.is (next text at end within r) r.first
    (next_within text at end within r) r.triple (first_here text at end within r) in
    let v = triple c.in_ok-found.found.x c.in_ok-found.found.y z in
    let last : end ≤ next text at end within r + 1 = omega (arith, place, c.if-found-end.true) in (
      read ++ v ∷ [],
      read_last text at end within r c.args.from read (read ++ v ∷ []) v refl written goes last,
      All-push IsInRange read v range near,
      c.extended-wider.ensures read z extent,
    )

pub vertices-preserved : goal.vertices-preserved
vertices-preserved c =
    let text = c.args.text.now in
    let end = c.args.end in
    let at = c.vertices.at in
    let r = c.vertices.invariant.remain in
    let within = c.requires.within in
    let (read, goes, range, extent) = c.vertices.invariant.so_far in
    let (place, z, near, written) = c.in_ok-found.ensures.is (next text at end within r) r.first
    (next_within text at end within r) r.triple (first_here text at end within r) in
    let v = triple c.in_ok-found.found.x c.in_ok-found.found.y z in
    let further : next text at end within r + 1 < end = omega (arith, place, c.if-found-end.false) in
    let more = read_next text at end within r c.args.from read (read ++ v ∷ []) v refl written goes further in
    let here = subst (λ k. Remain text (k + 1) end × GoesTo text c.args.from end (k + 1) (read ++ v ∷ [])) (sym place)
    more in
    record {
      within = omega (arith, c.if-found-end.false);
      remain = here.0;
      so_far = (
        read ++ v ∷ [],
        here.1,
        All-push IsInRange read v range near,
        c.extended-wider.ensures read z extent,
      );
    }
