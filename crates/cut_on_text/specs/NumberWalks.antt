-- Walks that put at each leaf the number that a feature gives to its vertex.
use Rattle.std.specs.Prelude.{◌∷◌, []}
use Rattle.std.specs.Fmt.{decimal}
use Rattle.city_families.specs.Copied.{Copies}
use Rattle.cut_on_text.specs.Walks.{Labelling}
use Rattle.city_families.specs.declared.numbering.Numbering.{Numbering}

abbrev pub NumberLabelled : Labelling Numbering
NumberLabelled n line n' line' vertex = Copies n.table.items n.order.items line n'.table.items n'.order.items line'
    (vertex ∷ []) (λ change. change (decimal vertex))
