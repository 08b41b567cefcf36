use Rattle.std.proofs.Common.{subst, sym}
use Rattle.city_json.specs.CompactTexts.{IsCompactOf}
use Rattle.city_json.specs.Tree.{array}
use Rattle.cut_on_text.specs.declared.on_text.holders.Holder.TheVariants.{Address}
use Rattle.cut_on_text.proofs.TextCopies.{array_made, held_as, not_array_made}
use Rattle.cut_on_text.proofs.TextMembers.{on_some_more}
use Rattle.cut_on_text.proofs.on_text.items.append_held.Goals as goal

pub returns-in-Some-clause-made : goal.returns-in-Some-clause-made
returns-in-Some-clause-made g c = on_some_more c.append_items.result (λ made.
    array_made c.args.holder _ c.args.text.now _ _ _ _ c.in-Some.ensures.array
    (λ all of. made all (subst (λ l. IsCompactOf l (array all)) (sym c.in-Some.ensures.some) of))) c.append_items.ensures.made

pub returns-clause-made : goal.returns-clause-made
returns-clause-made g c = on_some_more c.append_text.result (λ appended value of.
    held_as c.args.holder Address _ _ _ _ _ value c.in-Address.is
    (not_array_made _ c.args.text.now _ _ _ c.in_default.ensures.none appended value of)) c.append_text.ensures
