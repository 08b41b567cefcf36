use Rattle.std.proofs.Common.{◌≡◌, ◌∙◌, ◌++◌, ◌∷◌, [], ℕ, List, map, ap, sym, refl, lit<}
use Rattle.std.specs.Borrow.{Bor}
use Rattle.std.proofs.lemmas.Bool.{false≢true}
use Rattle.std.proofs.lemmas.List.{map-append}
use Rattle.std.proofs.lemmas.Iterator.Consumers.{YieldsList-end}
use Rattle.std.proofs.lemmas.Iterator.Splits.{YieldsList-from_str_split}
use Rattle.std.specs.Str.Iter.{split_text, split_has_more, split_pattern}
use Rattle.city_feature.proofs.choices.types.types.Goals as goal

pub returns-clause-some : goal.returns-clause-some
returns-clause-some c =
    let start = c.into_iter-name-iterator.ensures.into_iter_gives in
    let parts = YieldsList-from_str_split {s = c.into_iter-name-iterator.result} 44 c.args.text.now (lit< tt)
    (ap split_text start ∙ c.split-name-items.ensures.text) (ap split_has_more start
    ∙ c.split-name-items.ensures.has_more) (ap split_pattern start ∙ c.split-name-items.ensures.pattern) in
    let end = YieldsList-end parts c.loop-name.yielded _ c.loop-name.yielded_by _ _ c.in-None.is c.next.ensures.steps in
    c.from_vec.ensures ∙ c.loop-name.invariant ∙ end.0

names_more : (names more : List (List ℕ)) (lent : List (Bor (List ℕ))) (name : Bor (List ℕ))
    → more ≡ names ++ name.now ∷ [] → names ≡ map (λ each. each.now) lent
    → more ≡ map (λ each. each.now) (lent ++ name ∷ [])
names_more names more lent name is names_are =
    is ∙ (ap (λ l. l ++ name.now ∷ []) names_are
    ∙ sym (map-append (λ (each : Bor (List ℕ)). each.now) lent (name ∷ [])))

pub loop-name-preserved : goal.loop-name-preserved
loop-name-preserved c =
    names_more c.loop-name.names.items c.list_name.new.names.items c.loop-name.yielded c.in-Some.name
    c.in_ok-list_name.ensures.ok c.loop-name.invariant

pub returns-then-has_empty_name-clause-none : goal.returns-then-has_empty_name-clause-none
returns-then-has_empty_name-clause-none c =
    (λ same. c.has_empty_name.ensures.0 c.if-has_empty_name.true, λ empty. refl)

pub returns-clause-none : goal.returns-clause-none
returns-clause-none c = (
  λ same. absurd cc,
  λ empty. absurd (false≢true (sym c.if-has_empty_name.false ∙ c.has_empty_name.ensures.1 empty)),
)
