use Rattle.std.proofs.Common.{subst, sym}
use Rattle.city_json.specs.ObjectTexts.{PlacedObject, SpellsThere}
use Rattle.city_json.proofs.ObjectTexts.{compact_of, compacted_here, spelled_there}
use Rattle.city_json.proofs.compacting.object.CompactObject.text.Goals as goal

pub new-requires : goal.new-requires
new-requires c =
    let given = compacted_here c.requires.0 _ c.bytes.result.now _ c.deref.result.now c.bytes.ensures c.deref.ensures.value
    c.requires.1 in
    (given.0, compact_of c.requires.0 c.bytes.result.now c.deref.result.now given, given.5)

pub returns-clause-spelled : goal.returns-clause-spelled
returns-clause-spelled c = λ spelled given.
    subst (λ (there : PlacedObject). SpellsThere spelled there) (sym c.new.ensures)
    (spelled_there spelled c.bytes.result.now c.deref.result.now
    (compacted_here spelled _ c.bytes.result.now _ c.deref.result.now c.bytes.ensures c.deref.ensures.value given))
