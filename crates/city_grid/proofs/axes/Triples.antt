-- Triples that are answered where they are in range, and refused where they are not.
use Rattle.std.proofs.Common.{◌≡◌, ℤ, ◌∙◌, ap, sym, refl, subst, Option, Some, None, Result, IfOk, IfErr}
use Rattle.std.specs.Option.{SomeIff, ok_or}
use Rattle.byte_streams.specs.declared.fault.Fault.{Fault}
use Rattle.city_grid.specs.Axes.{Triple, IsInRange}

pub same_triple : (p q : Triple) → p.x ≡ q.x → p.y ≡ q.y → p.z ≡ q.z → p ≡ q
same_triple p q x y z =
    let triple : ℤ → ℤ → ℤ → Triple = λ a b c. record { x = a; y = b; z = c } in
    ap (λ a. triple a p.y p.z) x ∙ ap (λ b. triple q.x b p.z) y ∙ ap (λ c. triple q.x q.y c) z

pub found_at : (found : Option Triple) (p v : Triple) → SomeIff found (IsInRange p) p → p.x ≡ v.x → p.y ≡ v.y
    → p.z ≡ v.z → SomeIff found (IsInRange v) v
found_at found p v given x y z = subst (λ t. SomeIff found (IsInRange t) t) (same_triple p v x y z) given

-- `found.ok_or(fault)`, where what is found is v exactly where it is in range
module _ (found : Option Triple) (v : Triple) (given : SomeIff found (IsInRange v) v) (fault : Fault)
    (answer : Result Triple Fault) (is : answer ≡ ok_or found fault) where
  pub answered : IfOk answer (λ r. r ≡ v)
  answered = subst (λ a. IfOk a (λ r. r ≡ v)) (sym is) (go found given)
    where
      go : (found : Option Triple) → SomeIff found (IsInRange v) v → IfOk (ok_or found fault) (λ r. r ≡ v)
      go None given = tt
      go (Some r) given = given.1

  pub answered_in_range : IfOk answer IsInRange
  answered_in_range = subst (λ a. IfOk a IsInRange) (sym is) (go found given)
    where
      go : (found : Option Triple) → SomeIff found (IsInRange v) v → IfOk (ok_or found fault) IsInRange
      go None given = tt
      go (Some r) given = subst IsInRange (sym given.1) given.0

  pub refused : IfErr answer (λ f. (f ≡ fault) × ¬ IsInRange v)
  refused = subst (λ a. IfErr a (λ f. (f ≡ fault) × ¬ IsInRange v)) (sym is) (go found given)
    where
      go : (found : Option Triple) → SomeIff found (IsInRange v) v
          → IfErr (ok_or found fault) (λ f. (f ≡ fault) × ¬ IsInRange v)
      go None given = (refl, given)
      go (Some r) given = tt
