-- How a feature comes together.
use Rattle.std.proofs.Common.{ℕ, List, [], refl, arith}
use Rattle.city_families.specs.Numbered.{AreNumbered}

pub numbered_none : (table : List ℕ) → AreNumbered [] table []
numbered_none table = record {
  inside = λ i below. absurd (omega (arith, below));
  stands = λ i below. absurd (omega (arith, below));
  known = λ k c. absurd (omega (arith, c.1));
  in_order = refl;
}
