use Rattle.std.proofs.Common.{◌+◌, length, drop, map}
use Rattle.city_json.specs.Tree.{named_tree}
use Rattle.city_json.proofs.PrintedParts.{GoesOn, PrintsOn}
use Rattle.city_json.proofs.compacting.floor.put_parts.Given as goal

abbrev pub invariant-loop-member : goal.invariant-loop-member
invariant-loop-member l = record {
  line : PrintsOn l.fn.line (map named_tree l.fn.members) l.line (map named_tree (drop l.member-index l.others));
  parts : GoesOn (length l.fn.line) (map named_tree l.fn.members) (length l.line + 1)
      (map named_tree (drop l.member-index l.others)) l.parts.items;
}
