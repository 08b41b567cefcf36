use Rattle.std.proofs.Common.{ap, nat_eq, ◌∙◌}
use Rattle.std.specs.Cmp.Lexicographic.{pointwise}
use Rattle.indexmap.proofs.CallerLemmas.{insert_entry-new}
use Rattle.city_json.specs.Members.{first_named}
use Rattle.city_json.specs.Tree.{tree}
use Rattle.city_feature.specs.Joined.{with_last}
use Rattle.city_feature.specs.Values.{lent_members}
use Rattle.city_feature.proofs.LentMembers.{new_in_first, new_in_later, put_first, put_later}
use Rattle.city_feature.proofs.NamedMembers.{on_ok}
use Rattle.city_feature.proofs.joining.extensions.Extensions.append.Goals as goal

pub returns-then-len-lt-MAX_HASHED-clause-ok : goal.returns-then-len-lt-MAX_HASHED-clause-ok
returns-then-len-lt-MAX_HASHED-clause-ok c =
    let first = c.self.inside.first in
    let later = c.self.inside.later in
    let new = new_in_first c.args.name.now first.entries later
    (ap (λ pairs. first_named c.args.name.now (lent_members pairs)) c.self.view_is ∙ c.requires) in
    put_first first.entries later c.args.name c.args.value _ (c.is_empty.ensures.0 c.if-is_empty.true)
    (c.in_ok-insert.ensures.entries
    ∙ insert_entry-new (λ x y. pointwise nat_eq x.now y.now) first c.args.name c.args.value new)
    ∙ ap (λ pairs. with_last (lent_members pairs) c.args.name.now (tree c.args.value.now)) c.self.view_is

pub append-requires : goal.append-requires
append-requires c =
    new_in_later _ c.self.inside.first.entries c.self.inside.later
    (ap (λ pairs. first_named c.args.name.now (lent_members pairs)) c.self.view_is ∙ c.requires)

pub returns-clause-ok : goal.returns-clause-ok
returns-clause-ok c =
    on_ok c.append.result (λ appended.
    put_later c.self.inside.first.entries c.self.inside.later c.args.name c.args.value _ appended
    ∙ ap (λ pairs. with_last (lent_members pairs) c.args.name.now (tree c.args.value.now)) c.self.view_is)
    c.append.ensures.ok
