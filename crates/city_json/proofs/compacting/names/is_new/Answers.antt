use Rattle.std.proofs.Common.{◌∙◌, ap, map, arith}
use Rattle.std.proofs.lemmas.List.{drop_all}
use Rattle.city_json.specs.MemberName.{name_bytes}
use Rattle.city_json.proofs.NamesApart.{new_step_at, no_names}
use Rattle.city_json.proofs.compacting.names.is_new.Goals as goal

pub returns : goal.returns
returns c = λ ok. c.loop-other.invariant
    (λ members is. no_names _ members (is
    ∙ ap (map (name_bytes c.args.text.now c.args.held.now)) (drop_all c.loop-other.other-index c.args.listed.now
    (omega arith))))

pub loop-other-preserved : goal.loop-other-preserved
loop-other-preserved c =
    new_step_at (name_bytes c.args.text.now c.args.held.now) c.args.name.now c.args.listed.now
    c.loop-other.other-index _ _
    c.loop-other-test.true (c.has_bytes.ensures c.if-has_bytes.false) c.loop-other.invariant
