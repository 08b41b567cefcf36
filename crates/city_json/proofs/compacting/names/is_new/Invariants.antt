use Rattle.std.proofs.Common.{drop}
use Rattle.city_json.specs.MemberName.{name_bytes}
use Rattle.city_json.proofs.NamesApart.{AreNew}
use Rattle.city_json.proofs.compacting.names.is_new.Given as goal

abbrev pub invariant-loop-other : goal.invariant-loop-other
invariant-loop-other l = AreNew (name_bytes l.text l.held) l.name (drop l.other-index l.listed)
    → AreNew (name_bytes l.text l.held) l.name l.listed
