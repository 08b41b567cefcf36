-- The families, object by object, and the search for what is in none.
use Rattle.std.proofs.Common.{◌≡◌, ◌<◌, ◌⊎◌, inl, inr, ℕ, Bool, List, [], length, get_or, map, sym, ap, ◌∙◌, arith}
use Rattle.std.proofs.Math.ListN.{get_or-map}
use Rattle.std.proofs.lemmas.List.{get_or_default, length-map}
use Rattle.city_json.specs.declared.json.Member.{Member}
use Rattle.city_json.specs.Tree.{Tree, MemberTrees, members_tree, named_tree}
use Rattle.byte_streams.specs.declared.fault.Fault.{Fault}
use Rattle.byte_streams.specs.declared.fault.Fault.TheVariants.{Memory, Orphan}
use Rattle.city_families.specs.CityObjects.{HasOrphan, LacksChild, has_parents}
use Rattle.city_families.specs.Families.{RefusesFamilies}
use Rattle.city_families.specs.Places.{IsGraph, name_at}
use Rattle.cut_by_value.proofs.Kinship.{names_long}
use Rattle.cut_by_value.proofs.Tables.{names_map}

pub name_here : (objects : List Member) (i : ℕ) (m : Member) → i < length objects → m ≡ get_or objects i m
    → name_at (members_tree objects) i ≡ (named_tree m).0
name_here objects i m within at =
    rw (names_map objects) (get_or_default (map (λ m. (named_tree m).0) objects) i [] (named_tree m).0
    (omega (arith, within, length-map objects (λ m. (named_tree m).0)))
    ∙ (get_or-map (λ m. (named_tree m).0) objects i m ∙ ap (λ m. (named_tree m).0) (sym at)))

pub parted_long : (objects : List Member) (parents : List Bool) (graph : List (List ℕ))
    → parents ≡ map (λ (pair : List ℕ × Tree). has_parents pair.1) (map named_tree objects)
    → IsGraph (members_tree objects) graph → length parents ≡ length graph
parted_long objects parents graph parted linked =
    omega (
      arith,
      ap length parted,
      length-map (map named_tree objects) (λ (pair : List ℕ × Tree). has_parents pair.1),
      length-map objects named_tree,
      linked.long,
      names_long objects,
    )

pub refused : (fault : Fault) (objects : MemberTrees) → (LacksChild objects → ⊥)
    → (fault ≡ Memory) ⊎ ((fault ≡ Orphan) × HasOrphan objects) → RefusesFamilies fault objects
refused fault objects none (inl memory) = rw memory tt
refused fault objects none (inr orphan) = rw orphan.0 (none, orphan.1)
