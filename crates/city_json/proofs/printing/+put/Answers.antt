use Rattle.std.proofs.Common.{[], ◌∷◌}
use Rattle.city_json.specs.Bytes.{open_bracket, close_bracket, open_brace, close_brace}
use Rattle.city_json.proofs.LineParts.{put_by_parts, compact_list, compact_map}
use Rattle.city_json.proofs.printing.+put.Goals as goal

pub put_value-returns-in_ok-put_items-in-List-clause-ok :
    goal.put_value-returns-in_ok-put_items-in-List-clause-ok
put_value-returns-in_ok-put_items-in-List-clause-ok t c =
    put_by_parts c.append-in-List-2.result _ _ _ _ (open_bracket ∷ []) _ (close_bracket ∷ []) _
    c.in_ok-append-in-List.ensures.ok c.in_ok-put_items-in-List.ensures.ok
    (compact_list _ _ _ c.in-List.is c.deref.ensures.value) c.append-in-List-2.ensures.ok

pub put_value-returns-in_ok-put_members-in-Map-clause-ok :
    goal.put_value-returns-in_ok-put_members-in-Map-clause-ok
put_value-returns-in_ok-put_members-in-Map-clause-ok t c =
    put_by_parts c.append-in-Map-2.result _ _ _ _ (open_brace ∷ []) _ (close_brace ∷ []) _
    c.in_ok-append-in-Map.ensures.ok c.in_ok-put_members-in-Map.ensures.ok
    (compact_map _ _ _ c.in-Map.is c.deref-in-Map.ensures.value) c.append-in-Map-2.ensures.ok
