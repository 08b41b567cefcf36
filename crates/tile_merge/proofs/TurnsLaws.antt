-- Lists in turn, round by round.
use Rattle.std.proofs.Common.{◌≡◌, ◌++◌, ◌-◌, ℕ, zero, suc, List, [], ◌∷◌, length, take, drop, refl, ap, arith}
use Rattle.std.proofs.lemmas.Grind.{flat_map-append}
use Rattle.std.specs.List.{AllByRecursion}
use Rattle.tile_merge.specs.Turns.{firsts, rests, longest, rounds, turns}

module _ {X : Type 0} where
  -- each list is one shorter without its first item
  shorter : (list : List X) → length (drop 1 list) ≡ length list - 1
  shorter [] = refl
  shorter (x ∷ list) = omega arith

  pub longest_rests : (lists : List (List X)) → longest (rests lists) ≡ longest lists - 1
  longest_rests [] = refl
  longest_rests (list ∷ others) = omega (arith, shorter list, longest_rests others)

  -- lists of which the longest is empty have no first items
  no_firsts : (lists : List (List X)) → longest lists ≡ 0 → firsts lists ≡ []
  no_firsts [] none = refl
  no_firsts ([] ∷ others) none = no_firsts others (omega (arith, none))
  no_firsts ((x ∷ list) ∷ others) none = absurd (omega (arith, none))

  step_of : (lists : List (List X)) (before after : ℕ) → longest lists ≡ before → after ≡ before - 1
      → rounds before lists ≡ firsts lists ++ rounds after (rests lists)
  unfolding rounds
  step_of lists zero after long one = rw (no_firsts lists long, one) refl
  step_of lists (suc n) after long one =
      let same : n ≡ after = omega (arith, one) in
      ap (λ (k : ℕ). firsts lists ++ rounds k (rests lists)) same

  -- the first items come first, and then the others in turn
  pub turns_step : (lists : List (List X)) → turns lists ≡ firsts lists ++ turns (rests lists)
  turns_step lists = step_of lists (longest lists) (longest (rests lists)) refl (longest_rests lists)

  none_longest : (lists : List (List X)) → AllByRecursion (λ (list : List X). list ≡ []) lists → longest lists ≡ 0
  none_longest [] none = refl
  none_longest (list ∷ others) none = omega (arith, ap length none.0, none_longest others none.1)

  -- of empty lists nothing comes
  pub turns_nothing : (lists : List (List X)) → AllByRecursion (λ (list : List X). list ≡ []) lists → turns lists ≡ []
  unfolding rounds
  turns_nothing lists none = rw (none_longest lists none) refl

  pub firsts-append : (lists others : List (List X)) → firsts (lists ++ others) ≡ firsts lists ++ firsts others
  firsts-append lists others = flat_map-append (take 1) lists others
