use Rattle.std.proofs.Common.{◌∙◌, drop, sym, arith, length-drop}
use Rattle.city_json.proofs.Told.{apart_as_members, one_apart}
use Rattle.city_json.proofs.reading.names.OpenNames.are_apart_from.Goals as goal

pub returns : goal.returns
returns c = apart_as_members (drop c.args.base c.args.self.now) _
    (λ members is. c.are_apart_when_sorted.ensures members (is ∙ sym c.in_ok-listed.ensures))

pub returns-then-len-base-lt2 : goal.returns-then-len-base-lt2
returns-then-len-base-lt2 c = sym (one_apart (drop c.args.base c.args.self.now)
    (omega (arith, length-drop c.args.base c.args.self.now, c.len.ensures, c.if-len-base-lt2.true)))
