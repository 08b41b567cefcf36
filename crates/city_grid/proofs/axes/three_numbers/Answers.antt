use Rattle.std.proofs.Common.{◌≡◌, ◌∙◌, sym, ap, arith}
use Rattle.std.proofs.lemmas.Bool.Decides.{nat_tests}
use Rattle.city_json.specs.Tree.{tree, array, items_tree}
use Rattle.city_grid.proofs.axes.ThreeNumbers.{tree_of_list, length_of_three, first_of_three, second_of_three, third_of_three, three_from}
use Rattle.city_grid.proofs.axes.three_numbers.Goals as goal
use Rattle.city_grid.proofs.axes.three_numbers.Goals.{After-as_slice}

tree_is : (c : After-as_slice) → tree c.args.value.now ≡ array (items_tree c.as_slice.result.now)
tree_is c = ap tree c.in-List.is ∙ tree_of_list c.in-List.items
    ∙ ap (λ values. array (items_tree values)) (sym c.as_slice.ensures.value)

pub returns-in_default-as_slice-clause-none : goal.returns-in_default-as_slice-clause-none
returns-in_default-as_slice-clause-none c = λ texts equal.
    let is = tree_is (goal.at.returns-in_default-as_slice-clause-none c).After-as_slice in
    let all = length_of_three c.as_slice.result.now texts (sym is ∙ equal) in
    grind (arith, nat_tests)

pub returns-in_err-as_number-clause-none : goal.returns-in_err-as_number-clause-none
returns-in_err-as_number-clause-none c =
    let is = tree_is (goal.at.returns-in_err-as_number-clause-none c).After-as_slice in
    rw c.from_residual.ensures (λ texts equal.
    c.in_err-as_number.ensures.none texts.x
    (first_of_three c.as_slice.result.now texts (sym is ∙ equal) c.x-item.result c.x-item.is))

pub returns-in_err-as_number-2-clause-none : goal.returns-in_err-as_number-2-clause-none
returns-in_err-as_number-2-clause-none c =
    let is = tree_is (goal.at.returns-in_err-as_number-2-clause-none c).After-as_slice in
    rw c.from_residual-in_err-as_number-2.ensures
    (λ texts equal. c.in_err-as_number-2.ensures.none texts.y
    (second_of_three c.as_slice.result.now texts (sym is ∙ equal) c.y-item.result c.y-item.is))

pub returns-in_err-as_number-3-clause-none : goal.returns-in_err-as_number-3-clause-none
returns-in_err-as_number-3-clause-none c =
    let is = tree_is (goal.at.returns-in_err-as_number-3-clause-none c).After-as_slice in
    rw c.from_residual-in_err-as_number-3.ensures
    (λ texts equal. c.in_err-as_number-3.ensures.none texts.z
    (third_of_three c.as_slice.result.now texts (sym is ∙ equal) c.z-item.result c.z-item.is))

pub returns-clause-some : goal.returns-clause-some
returns-clause-some c =
    let is = tree_is (goal.at.returns-clause-some c).After-as_slice in
    is ∙ three_from c.as_slice.result.now c.x-item.result c.y-item.result c.z-item.result _
    (omega arith) c.x-item.is c.y-item.is c.z-item.is c.in_ok-as_number.ensures.some
    c.in_ok-as_number-2.ensures.some c.in_ok-as_number-3.ensures.some
