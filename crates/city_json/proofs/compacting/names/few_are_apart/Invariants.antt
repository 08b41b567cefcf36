use Rattle.std.proofs.Common.{length}
use Rattle.std.specs.List.{All}
use Rattle.city_json.specs.MemberName.{IsWithin, name_bytes}
use Rattle.city_json.proofs.NamesApart.{AreApart}
use Rattle.city_json.proofs.compacting.names.few_are_apart.Given as goal

abbrev pub invariant-loop-rest : goal.invariant-loop-rest
invariant-loop-rest l = record {
  within : All (IsWithin (length l.text) (length l.held)) l.rest;
  differ : AreApart (name_bytes l.text l.held) l.rest → AreApart (name_bytes l.text l.held) l.listed;
}

abbrev pub decreases-loop-rest : goal.decreases-loop-rest
decreases-loop-rest l = length l.rest
