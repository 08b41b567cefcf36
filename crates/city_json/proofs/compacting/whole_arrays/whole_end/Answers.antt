use Rattle.std.proofs.Common.{◌≡◌, ◌≤◌, length, ◌-◌, ◌+◌, ◌∙◌, ◌++◌, [], ◌∷◌, sym, subst, arith, get_or, refl, slice_range, append-nil, false, true}
use Rattle.city_json.specs.Whole.{Closes, stage_of, is_place}
use Rattle.city_json.proofs.Places.{slice_more}
use Rattle.city_json.proofs.WholeArrays.{two_runs, one_more_byte}
use Rattle.city_json.proofs.compacting.whole_arrays.whole_end.Goals as goal

pub bytes-preserved-in-Some : goal.bytes-preserved-in-Some
bytes-preserved-in-Some c =
    let text = c.args.text.now in
    let i = c.bytes.i in
    let last : i + 63 ≡ i + 64 - 1 = omega arith in
    let room : i + 64 ≤ length text = omega (arith, c.if-text-i-ge64.true) in
    record {
      onward = omega (arith, c.bytes.invariant.onward);
      within = room;
      depth = c.in-Some.ensures.open;
      sum = c.in-Some.ensures.sum ∙ c.bytes.invariant.sum;
      placed = subst (λ k. is_place (get_or text k 0) ≡ true) last c.in-Some.ensures.place;
      goes_on = λ further given. subst (Closes 1 c.args.levels (stage_of (get_or c.args.text.now (c.args.at - 1) 0) false))
          (two_runs text further c.args.at i (i + 64) c.bytes.invariant.onward (omega arith))
          (c.bytes.invariant.goes_on (slice_range text i (i + 64) ++ further)
          (c.in-Some.ensures.goes_on further
          (subst (λ k. Closes c.in-Some.next.depth c.in-Some.next.room
          (stage_of (get_or text k 0) c.in-Some.next.zeroed) further) (sym last) given)));
    }

pub returns-then-next-eq0-clause-closes : goal.returns-then-next-eq0-clause-closes
returns-then-next-eq0-clause-closes c =
    let text = c.args.text.now in
    let i = c.bytes.i in
    let b = c.in_ok-next.next in
    let closed : Closes b.depth b.room (stage_of (get_or text i 0) b.zeroed) [] =
    subst (λ d. Closes d b.room (stage_of (get_or text i 0) b.zeroed) []) (sym c.if-next-eq0.true) refl in
    subst (Closes 1 c.args.levels (stage_of (get_or c.args.text.now (c.args.at - 1) 0) false))
    (one_more_byte text [] c.args.at i c.bytes.invariant.onward c.bytes-test.true
    ∙ append-nil (slice_range text c.args.at (i + 1)))
    (c.bytes.invariant.goes_on (get_or text i 0 ∷ []) (c.in_ok-next.ensures.goes_on [] closed))

pub bytes-preserved : goal.bytes-preserved
bytes-preserved c =
    let text = c.args.text.now in
    let i = c.bytes.i in
    let b = c.in_ok-next.next in
    let last : i ≡ i + 1 - 1 = omega arith in
    record {
      onward = omega (arith, c.bytes.invariant.onward);
      within = omega (arith, c.bytes-test.true);
      depth = omega (arith, c.if-next-eq0.false);
      sum = c.in_ok-next.ensures.sum ∙ c.bytes.invariant.sum;
      placed = subst (λ k. is_place (get_or text k 0) ≡ true) last c.in_ok-next.ensures.place;
      goes_on = λ further given. subst (Closes 1 c.args.levels (stage_of (get_or c.args.text.now (c.args.at - 1) 0) false))
          (one_more_byte text further c.args.at i c.bytes.invariant.onward c.bytes-test.true)
          (c.bytes.invariant.goes_on (get_or text i 0 ∷ further)
          (c.in_ok-next.ensures.goes_on further
          (subst (λ k. Closes b.depth b.room (stage_of (get_or text k 0) b.zeroed) further) (sym last) given)));
    }

pub returns-in-Some-closing_end-clause-closes : goal.returns-in-Some-closing_end-clause-closes
returns-in-Some-closing_end-clause-closes c =
    let text = c.args.text.now in
    let i = c.bytes.i in
    let end = c.in-Some-closing_end.end in
    subst (Closes 1 c.args.levels (stage_of (get_or c.args.text.now (c.args.at - 1) 0) false))
    (sym (slice_more text c.args.at i end c.bytes.invariant.onward (omega (arith, c.in-Some-closing_end.ensures.onward))))
    (c.bytes.invariant.goes_on (slice_range text i end) c.in-Some-closing_end.ensures.closes)
