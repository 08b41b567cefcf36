use Rattle.std.proofs.Common.{◌<◌, length, map, take}
use Rattle.city_json.specs.MemberName.{name_bytes}
use Rattle.city_json.specs.NamePrint.{print_by}
use Rattle.city_json.proofs.Sieving.{AreTold}
use Rattle.city_json.proofs.compacting.names.sieved.Given as goal

abbrev pub invariant-loop-name : goal.invariant-loop-name
invariant-loop-name l = record {
  first : 0 < length l.first;
  second : 0 < length l.second;
  told : AreTold l.first l.second
      (map (λ name. print_by l.print (name_bytes l.text l.held name)) (take l.name-index l.listed));
}
