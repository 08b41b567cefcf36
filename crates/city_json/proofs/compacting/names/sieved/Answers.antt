use Rattle.std.proofs.Common.{◌<◌, ◌∙◌, length, ap, arith}
use Rattle.city_json.specs.MemberName.{name_bytes}
use Rattle.city_json.specs.NamePrint.{print_by}
use Rattle.city_json.proofs.Sieving.{apart_when_told, none_told, one_more_at}
use Rattle.city_json.proofs.compacting.names.sieved.Goals as goal

pub loop-name-init : goal.loop-name-init
loop-name-init c = record {
  first = c.requires.first;
  second = c.requires.second;
  told = none_told c.args.first.now c.args.second.now;
}

pub loop-name-preserved : goal.loop-name-preserved
loop-name-preserved c =
    let some_first : 0 < length c.loop-name.first = c.loop-name.invariant.first in
    let some_second : 0 < length c.loop-name.second = c.loop-name.invariant.second in
    record {
      first = omega (arith, some_first);
      second = omega (arith, some_second);
      told = one_more_at (λ name. print_by c.args.print (name_bytes c.args.text.now c.args.held.now name)) c.loop-name.first
          c.loop-name.second _ _
          c.args.listed.now c.loop-name.name-index _ c.of-print_of_name.result c.loop-name-test.true
          (c.of-print_of_name.ensures ∙ ap (print_by c.args.print) c.bytes.ensures) c.loop-name.invariant.told
          c.in_ok-mark.ensures.new c.in_ok-mark.ensures.marked c.in_ok-mark.ensures.kept;
    }

pub returns : goal.returns
returns c = λ members is.
    apart_when_told (name_bytes c.args.text.now c.args.held.now) (print_by c.args.print) c.loop-name.first c.loop-name.second
    c.args.listed.now
    c.loop-name.name-index members c.loop-name-test.false c.loop-name.invariant.told is
