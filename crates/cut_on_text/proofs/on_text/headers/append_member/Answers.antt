use Rattle.std.proofs.Common.{◌∙◌, refl, sym}
use Rattle.cut_on_text.proofs.TextHeaders.{member_written}
use Rattle.cut_on_text.proofs.TextMembers.{on_some_more}
use Rattle.cut_on_text.specs.HeaderText.{header_members, value_in_header}
use Rattle.cut_on_text.proofs.on_text.headers.append_member.Goals as goal

pub returns-then-is_left_out-clause-written : goal.returns-then-is_left_out-clause-written
returns-then-is_left_out-clause-written c = λ named value others utf8_named marks is.
    rw (sym (c.is_left_out.ensures named utf8_named (c.in_ok-name.ensures.some ∙ marks)) ∙ c.if-is_left_out.true) refl

pub returns-clause-written : goal.returns-clause-written
returns-clause-written c = on_some_more c.append_text-2.result (λ appended named value others utf8_named marks is.
    member_written named value c.args.drops_appearance others c.args.line.now c.append_comma.new.line
    c.in_ok-name.name.now c.value_in_header.result.now c.append_text-2.new.line
    (sym (c.is_left_out.ensures named utf8_named (c.in_ok-name.ensures.some ∙ marks)) ∙ c.if-is_left_out.false)
    (c.in_ok-append_comma.ensures.written named (value_in_header named value)
    (header_members c.args.drops_appearance others)) c.in_ok-append_comma.ensures.some
    (c.in_ok-name.ensures.some ∙ marks)
    (c.value_in_header.ensures named value utf8_named (c.in_ok-name.ensures.some ∙ marks) (c.in_ok-value.ensures.some ∙ is))
    (appended ∙ rw c.in_ok-append_text.ensures refl)) c.append_text-2.ensures
