use Rattle.cut_on_text.specs.declared.on_text.holders.Holder.TheVariants.{Address}
use Rattle.cut_on_text.proofs.TextCopies.{item_as}
use Rattle.cut_on_text.proofs.TextMembers.{on_some_more}
use Rattle.cut_on_text.proofs.on_text.items.append_item.Goals as goal

pub returns-in_ok-one-in-Address-clause-made : goal.returns-in_ok-one-in-Address-clause-made
returns-in_ok-one-in-Address-clause-made g c = on_some_more c.append_address.result (λ made all of.
    let (first, others, is, first_of, others_of) = c.in_ok-one-in-Address.ensures.some all of in
    let (held, walks) = item_as c.args.holder Address _ _ _ _ _ first c.in-Address.is (made first first_of) in
    (first, others, is, others_of, held, walks)) c.append_address.ensures.made
