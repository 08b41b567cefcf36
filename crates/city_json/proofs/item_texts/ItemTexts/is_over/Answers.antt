use Rattle.std.proofs.Common.{◌≡◌, arith, get_or, subst, sym}
use Rattle.std.proofs.lemmas.Bool.Decides.{nat_tests}
use Rattle.city_json.specs.Bytes.{close_bracket}
use Rattle.city_json.specs.NextItems.{HasNoItem}
use Rattle.city_json.proofs.PassedItems.{over}
use Rattle.city_json.proofs.item_texts.ItemTexts.is_over.Goals as goal

pub returns-clause-yes : goal.returns-clause-yes
returns-clause-yes c closes =
    let rest = c.rest-rest.result.now in
    let closed : get_or rest 0 0 ≡ close_bracket = grind (arith, nat_tests, closes) in
    subst HasNoItem (sym c.rest-rest.ensures) (over rest (λ some. closed))
