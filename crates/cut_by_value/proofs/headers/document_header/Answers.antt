use Rattle.std.proofs.Common.{◌≡◌, ◌∙◌, sym, subst, ap}
use Rattle.city_json.specs.Tree.{tree}
use Rattle.city_feature.specs.Header.{HasGrid, IsHeader}
use Rattle.city_families.specs.Cut.{header_tree}
use Rattle.cut_by_value.proofs.Answered.{if_ok, only_ok}
use Rattle.city_families.proofs.HeaderMembers.{header_grid, is_header}
use Rattle.cut_by_value.proofs.headers.document_header.Goals as goal

pub returns-clause-ok : goal.returns-clause-ok
returns-clause-ok c =
    let made : tree c.empty.new.document ≡ header_tree (tree c.args.document) = c.in_ok-empty.ensures.ok in
    if_ok c.header.result (λ header holds. (
      ap tree holds.0 ∙ made,
      header_grid (tree c.args.document) header.grid (subst (λ t. HasGrid t header.grid) made holds.1.2),
    ))
    c.header.ensures.ok

pub returns-clause-fault : goal.returns-clause-fault
returns-clause-fault c =
    let made : tree c.empty.new.document ≡ header_tree (tree c.args.document) = c.in_ok-empty.ensures.ok in
    only_ok _ _ c.header.result (c.header.ensures.only c.requires.2.0
    (subst (λ t. IsHeader t c.requires.2.0) (sym made)
    (is_header (tree c.args.document) c.requires.2.0 c.requires.0.0 c.requires.1 c.requires.2.1)))
