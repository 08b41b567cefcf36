use Rattle.std.proofs.Common.{◌∙◌, ap, if◌then◌else◌, not, sym, true}
use Rattle.city_feature.specs.JoinedMembers.{has_members}
use Rattle.city_feature.specs.Values.{lent_members}
use Rattle.city_feature.proofs.LentMembers.{nil_by_equation, nil_by_length, some_of_both}
use Rattle.city_feature.proofs.MemberPieces.{is_nil}
use Rattle.city_feature.proofs.joining.extensions.Extensions.has_some.Goals as goal

pub returns-then-is_empty : goal.returns-then-is_empty
returns-then-is_empty c =
    let first = c.self.inside.first.entries in
    let later = c.self.inside.later in
    let none = sym (nil_by_length c.is_empty.result first c.is_empty.ensures) ∙ c.if-is_empty.true in
    ap not (nil_by_equation c.is_empty-then-is_empty.result later c.is_empty-then-is_empty.ensures)
    ∙ (sym (some_of_both first later ∙ ap (λ nil. if nil then not (is_nil later) else true) none)
    ∙ ap (λ pairs. has_members (lent_members pairs)) c.self.view_is)

pub returns : goal.returns
returns c =
    let first = c.self.inside.first.entries in
    let later = c.self.inside.later in
    let some = sym (nil_by_length c.is_empty.result first c.is_empty.ensures) ∙ c.if-is_empty.false in
    sym (some_of_both first later ∙ ap (λ nil. if nil then not (is_nil later) else true) some)
    ∙ ap (λ pairs. has_members (lent_members pairs)) c.self.view_is
