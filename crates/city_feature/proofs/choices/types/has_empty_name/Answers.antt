use Rattle.std.proofs.Common.{rules, tests, lit<, length, ◌==◌}
use Rattle.std.proofs.lemmas.Iterator.Search.{any_from_yields_List}
use Rattle.std.proofs.lemmas.Iterator.Splits.{YieldsList-from_str_split}
use Rattle.city_feature.proofs.choices.Cuts.{some_is_empty}
use Rattle.city_feature.proofs.choices.types.has_empty_name.Goals as goal

pub returns : goal.returns
returns c =
    some_is_empty _ _
    (any_from_yields_List (λ name. length name == 0) _ _ _ c.any.ensures.ran
    (YieldsList-from_str_split 44 c.args.text.now
    (lit< tt) c.split.ensures.text c.split.ensures.has_more c.split.ensures.pattern)
    (λ x b q k. search (rules, tests)))
