use Rattle.std.proofs.Common.{rules, ◌≡◌, [], ◌∷◌, drop, if◌then◌else◌, subst}
use Rattle.city_json.specs.Bytes.{minus}
use Rattle.city_json.specs.Number.{IsNumber}
use Rattle.city_json.proofs.text.NumText.parts.Goals as goal
use Rattle.city_json.proofs.text.NumText.parts.Goals.{After-number_parts}

same : (c : After-number_parts) → c.items.result.now ≡ c.args.self.now
same c = search rules

pub returns-clause-sign : goal.returns-clause-sign
returns-clause-sign c =
    subst (λ text. (n : IsNumber text) → n.minus_sign ≡ (if c.number_parts.result.is_negative then minus ∷ [] else []))
    (same (goal.at.returns-clause-sign c).After-number_parts) c.number_parts.ensures.sign

pub returns-clause-whole : goal.returns-clause-whole
returns-clause-whole c =
    subst (λ text. (n : IsNumber text) → c.number_parts.result.whole.now ≡ n.whole)
    (same (goal.at.returns-clause-whole c).After-number_parts) c.number_parts.ensures.whole

pub returns-clause-fraction : goal.returns-clause-fraction
returns-clause-fraction c =
    subst (λ text. (n : IsNumber text) → c.number_parts.result.fraction.now ≡ drop 1 n.fraction)
    (same (goal.at.returns-clause-fraction c).After-number_parts) c.number_parts.ensures.fraction

pub returns-clause-exponent : goal.returns-clause-exponent
returns-clause-exponent c =
    subst (λ text. (n : IsNumber text) → c.number_parts.result.exponent.now ≡ drop 1 n.exponent)
    (same (goal.at.returns-clause-exponent c).After-number_parts) c.number_parts.ensures.exponent
