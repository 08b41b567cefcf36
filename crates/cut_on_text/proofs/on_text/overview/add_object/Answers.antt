use Rattle.std.proofs.Common.{slice_range}
use Rattle.city_json.specs.declared.compacting.places.MemberPlace.{MemberPlace}
use Rattle.cut_on_text.specs.Overviews.{HasChildrenIn, HasHolders, HasParentsIn}
use Rattle.cut_on_text.specs.declared.on_text.holders.HeldParts.{HeldParts}
use Rattle.cut_on_text.proofs.TextOverviews.{zip_more}
use Rattle.cut_on_text.proofs.on_text.overview.add_object.Goals as goal

pub returns-clause-parents : goal.returns-clause-parents
returns-clause-parents c = zip_more (HasParentsIn c.args.text.now) _ _ _ _ _ _ c.in_ok-list_object.ensures.places
    c.in_ok-list_object.ensures.parents c.in_ok-seen.ensures.parents

pub returns-clause-children : goal.returns-clause-children
returns-clause-children c = zip_more (HasChildrenIn c.args.text.now) _ _ _ _ _ _ c.in_ok-list_object.ensures.places
    c.in_ok-list_object.ensures.children c.in_ok-seen.ensures.children

pub returns-clause-held : goal.returns-clause-held
returns-clause-held c = zip_more
    (λ (part : MemberPlace) (there : HeldParts). HasHolders (slice_range c.args.text.now part.value part.end) there)
    _ _ _ _ _ _ c.in_ok-list_object.ensures.places c.in_ok-list_object.ensures.held c.in_ok-seen.ensures.held
