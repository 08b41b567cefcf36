use Rattle.std.proofs.Common.{◌≡◌, ◌+◌, ◌-◌, ◌∙◌, ◌≤◌, ◌<◌, ◌*◌, ◌%◌, ◌^◌, sym, subst, arith, refl}
use Rattle.std.proofs.Math.Nat.{mod-le}
use Rattle.std.proofs.lemmas.Nat.{ones-le}
use Rattle.std.specs.Int.Count.{count_trailing_zeros, ones}
use Rattle.city_json.specs.Whole.{StaysOpen}
use Rattle.city_json.proofs.WholeArrays.{round_goes, stays_none, powers}
use Rattle.city_json.proofs.compacting.whole_arrays.stays_open_by_brackets.Goals as goal

pub returns-then-down-eq0 : goal.returns-then-down-eq0
returns-then-down-eq0 c = λ _ bytes short is_up is_down.
    let left = c.rounds.invariant.goes_on bytes short is_up is_down in
    left.4 (stays_none c.rounds.left left.0 (omega (arith, c.if-left-eq0.false)) (sym left.3 ∙ c.if-down-eq0.true))

pub rounds-preserved : goal.rounds-preserved
rounds-preserved c =
    let place = count_trailing_zeros 64 c.rounds.down in
    let low : 2 ^ place ≤ 2 ^ 63 = powers place 63 (omega (arith, c.if-place-ge64.false)) in
    let power : 1 * 2 ^ place % 2 ^ 64 ≡ 2 ^ place = omega (arith, low) in
    let part : c.rounds.up % (1 * 2 ^ place % 2 ^ 64) < 2 ^ 64 =
    omega (arith, mod-le c.rounds.up (1 * 2 ^ place % 2 ^ 64), c.rounds.auto.up-fits) in
    let few : ones (c.rounds.up % (1 * 2 ^ place % 2 ^ 64)) ≤ 64 = ones-le 64 _ part in
    record {
      few = omega (arith, few, c.rounds.invariant.few);
      goes_on = λ bytes short is_up is_down.
          let left = c.rounds.invariant.goes_on bytes short is_up is_down in
          let next = round_goes c.rounds.left c.rounds.up c.rounds.down place left.0
          (omega (arith, c.if-left-eq0.false)) (omega (arith, c.if-down-eq0.false)) left.1 left.2 left.3 refl in (
            next.0,
            next.1,
            next.2,
            next.3,
            λ given. left.4 (next.4 (subst (λ k. StaysOpen (c.rounds.left + ones (c.rounds.up % k) - 1) next.0) power
                given)),
          );
    }
