use Rattle.city_feature.proofs.choices.selecting.has_type.Goals as goal

pub returns-in_default : goal.returns-in_default
returns-in_default c = ((λ no. absurd cc), λ has. absurd (c.in_default.ensures.none has.0 has.1))
