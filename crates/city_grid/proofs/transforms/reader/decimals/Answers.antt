use Rattle.std.proofs.Common.{◌≡◌, ◌∙◌, ℤ, Some, sym}
use Rattle.city_grid.proofs.axes.Triples.{same_triple}
use Rattle.city_grid.proofs.transforms.reader.decimals.Goals as goal

same_some : {a b : ℤ} → Some a ≡ Some b → b ≡ a
same_some equal = cc

pub returns-in_err-decimal_of-clause-none : goal.returns-in_err-decimal_of-clause-none
returns-in_err-decimal_of-clause-none c =
    rw c.from_residual.ensures (λ units each. c.in_err-decimal_of.ensures.none units.x each.0)

pub returns-in_err-decimal_of-2-clause-none : goal.returns-in_err-decimal_of-2-clause-none
returns-in_err-decimal_of-2-clause-none c =
    rw c.from_residual-in_err-decimal_of-2.ensures (λ units each. c.in_err-decimal_of-2.ensures.none units.y each.1)

pub returns-in_err-decimal_of-3-clause-none : goal.returns-in_err-decimal_of-3-clause-none
returns-in_err-decimal_of-3-clause-none c =
    rw c.from_residual-in_err-decimal_of-3.ensures (λ units each. c.in_err-decimal_of-3.ensures.none units.z each.2)

pub returns-clause-only : goal.returns-clause-only
returns-clause-only c = λ units each.
    same_triple units _ (same_some (sym c.in_ok-decimal_of.was ∙ c.decimal_of.ensures.only units.x each.0))
    (same_some (sym c.in_ok-decimal_of-2.was ∙ c.decimal_of-2.ensures.only units.y each.1))
    (same_some (sym c.in_ok-decimal_of-3.was ∙ c.decimal_of-3.ensures.only units.z each.2))
