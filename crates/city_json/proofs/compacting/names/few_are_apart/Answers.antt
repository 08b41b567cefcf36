use Rattle.std.proofs.Common.{◌∙◌, ap, drop, length, map, arith, refl, subst}
use Rattle.std.proofs.lemmas.List.{nil_from_length}
use Rattle.std.proofs.lemmas.List.Elements.{All-drop, All-take}
use Rattle.city_json.specs.Fits.{IsNewName}
use Rattle.city_json.specs.MemberName.{IsWithin, name_bytes}
use Rattle.city_json.proofs.NamesApart.{differ_step_at, none_differ, two_apart}
use Rattle.city_json.proofs.compacting.names.few_are_apart.Goals as goal

pub returns : goal.returns
returns c = c.loop-rest.invariant.differ
    (λ members is. none_differ members (is
    ∙ ap (map (name_bytes c.args.text.now c.args.held.now)) (nil_from_length c.loop-rest.rest.now (omega arith))))

pub loop-rest-preserved : goal.loop-rest-preserved
loop-rest-preserved c = record {
  within = All-take (IsWithin (length c.args.text.now) (length c.args.held.now)) _ (drop 1 c.loop-rest.rest.now)
      (All-drop (IsWithin (length c.args.text.now) (length c.args.held.now)) 1 c.loop-rest.rest.now
      c.loop-rest.invariant.within);
  differ = differ_step_at (name_bytes c.args.text.now c.args.held.now) c.loop-rest.rest.now _ _ _
      c.in-len1-up.len_at_least refl
      (λ members is. subst (λ l. IsNewName l members) c.bytes-in-len1-up.ensures
      (c.is_new.ensures c.if-not-is_new.false members is))
      c.loop-rest.invariant.differ;
}

pub returns-in-len2 : goal.returns-in-len2
returns-in-len2 c =
    two_apart (name_bytes c.args.text.now c.args.held.now) c.args.listed.now _ c.bytes.result.now
    c.in-len2.len_at_least c.in-len2.len_below c.bytes.ensures (c.has_bytes.ensures c.if-has_bytes.false)

pub is_new-requires : goal.is_new-requires
is_new-requires c = record {
  within = All-take (IsWithin (length c.args.text.now) (length c.args.held.now)) _ (drop 1 c.loop-rest.rest.now)
      (All-drop (IsWithin (length c.args.text.now) (length c.args.held.now)) 1 c.loop-rest.rest.now
      c.loop-rest.invariant.within);
}
