use Rattle.std.proofs.Common.{ap, sym, map, ◌∙◌}
use Rattle.std.proofs.lemmas.Simd.{map-map}
use Rattle.city_json.specs.MemberName.{name_bytes}
use Rattle.city_json.specs.NamePrint.{print_of}
use Rattle.city_json.proofs.compacting.names.sorted_apart.Goals as goal

pub returns-then-rise_when_sorted : goal.returns-then-rise_when_sorted
returns-then-rise_when_sorted c = λ members is.
    c.rise_when_sorted.ensures c.if-rise_when_sorted.true members (ap (map print_of) is
    ∙ (map-map print_of (name_bytes c.args.text.now c.args.held.now) c.args.listed.now ∙ sym c.in_ok-prints.ensures))
