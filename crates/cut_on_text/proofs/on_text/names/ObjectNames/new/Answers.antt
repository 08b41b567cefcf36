use Rattle.std.proofs.Common.{◌≡◌, ◌∙◌, ◌++◌, ap, arith, drop, length, map, refl, subst, sym, take}
use Rattle.std.proofs.Math.Seq.{take-append_seam}
use Rattle.std.proofs.lemmas.List.{length-map}
use Rattle.std.proofs.lemmas.List.Sorted.{length_permutation}
use Rattle.std.specs.Prelude.{ℕ, List}
use Rattle.city_json.specs.Bytes.{colon}
use Rattle.city_json.specs.Compact.{quoted}
use Rattle.city_json.specs.CompactTexts.{IsCompactOf}
use Rattle.city_json.specs.Parts.{AreParts}
use Rattle.city_json.specs.Tree.{Tree, member_trees, object}
use Rattle.city_families.specs.Chosen.{named_at}
use Rattle.city_families.specs.Table.{AreFirst, IsTable, name_in, names_with, without_last}
use Rattle.cut_on_text.proofs.TextFeatures.{as_many_parts, name_there}
use Rattle.cut_on_text.proofs.TextGraphs.{quoted_at}
use Rattle.city_families.proofs.Tables.{ordered_table, without_the_last}
use Rattle.cut_on_text.proofs.on_text.names.ObjectNames.new.Goals as goal

pub returns : goal.returns
returns c = λ pairs are.
    let text = c.text-text.result.now in
    let parts = c.places-parts.result.now in
    let order = c.sort_places.new.places in
    let of = subst (λ l. IsCompactOf l (object (member_trees pairs))) (sym c.text-text.ensures) are.0 in
    let listed = subst (λ l. AreParts 1 l (member_trees pairs)) (sym c.places-parts.ensures) are.1 in
    let many = as_many_parts 1 parts pairs listed in
    let names : List (List ℕ) = map (λ (pair : List ℕ × Tree). quoted pair.0) pairs in
    let long = length_permutation c.deref_mut.result.now order c.sort_places.ensures.permutation in
    let count : c.in_ok-order.order.len ≡ length order =
    omega (arith, long, ap length c.deref_mut.ensures.value, c.in_ok-order.order.ok.0) in
    let others = drop (length order) c.in_ok-order.order.items in
    let same : take c.in_ok-order.order.len (order ++ others) ≡ order =
    ap (λ n. take n (order ++ others)) count ∙ take-append_seam order others in
    let first : AreFirst (length parts) c.deref_mut.result.now =
    subst (AreFirst (length parts)) (sym c.deref_mut.ensures.value)
    (subst (λ n. AreFirst n c.in_ok-order.order.items) c.in-Ok.ensures.1 c.in_ok-order.ensures) in
    let table = ordered_table names text parts c.deref_mut.result.now order first
    (length-map pairs (λ (pair : List ℕ × Tree). quoted pair.0) ∙ sym many)
    (λ k within. quoted_at pairs k (name_in text parts k) (omega (arith, many, within))
    (ap without_last (name_there text _ parts k _ pairs within refl of listed)
    ∙ without_the_last (quoted (named_at pairs k).0) colon))
    c.sort_places.ensures.permutation c.sort_places.ensures.sorted in
    subst (λ l. IsTable names (names_with text parts l)) (sym same) table
