use Rattle.cut_on_text.proofs.TextFeatures.{named_made}
use Rattle.cut_on_text.proofs.TextMembers.{on_some_more}
use Rattle.cut_on_text.proofs.on_text.features.append_named.Goals as goal

pub append_object-requires : goal.append_object-requires
append_object-requires c = c.in_ok-one.ensures.holders

pub returns-clause-made : goal.returns-clause-made
returns-clause-made c = on_some_more c.append_object.result (λ made pairs are.
    named_made _ c.in_ok-one.one.name.now c.in_ok-one.one.value.now _ _ _ _ _ _ _ c.args.at pairs
    c.in_ok-append_text.ensures made (c.in_ok-one.ensures.is pairs are)) c.append_object.ensures.made
