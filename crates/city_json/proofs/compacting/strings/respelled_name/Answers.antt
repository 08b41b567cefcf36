use Rattle.std.proofs.Common.{◌≡◌, ◌∙◌, ◌++◌, ◌+◌, [], ◌∷◌, ap}
use Rattle.std.proofs.lemmas.List.{map-append}
use Rattle.city_json.specs.ListedNames.{as_decoded, bytes_in, names_in}
use Rattle.city_json.proofs.PassEscapes.{written_name}
use Rattle.city_json.proofs.PassScalars.{rest_is}
use Rattle.city_json.proofs.PassStrings.{name_taken}
use Rattle.city_json.specs.ReadString.{decoded}
use Rattle.city_json.proofs.compacting.strings.respelled_name.Goals as goal

pub slice_bounds-push_content-count-2 : goal.slice_bounds-push_content-count-2
slice_bounds-push_content-count-2 c =
    (written_name c.args.text.now c.items-mark.result.now c.copy_to.new.draft.line c.respelled.new.draft.line
    c.copy_to-2.new.draft.line c.items.result.now _ c.copy_to.new.draft.from c.respelled.new.draft.from
    c.copy_to-2.new.draft.from c.args.at c.in_ok-end.end
    c.items-mark.ensures c.in_ok-copy_to.ensures.line c.in_ok-copy_to.ensures.from c.in_ok-end.ensures.copied
    c.in_ok-end.ensures.within c.in_ok-end.ensures.taken c.in_ok-copy_to-2.ensures.line
    c.in_ok-copy_to-2.ensures.from c.items.ensures).inside

pub slice_bounds-push_content-start-2 : goal.slice_bounds-push_content-start-2
slice_bounds-push_content-start-2 c =
    (written_name c.args.text.now c.items-mark.result.now c.copy_to.new.draft.line c.respelled.new.draft.line
    c.copy_to-2.new.draft.line c.items.result.now _ c.copy_to.new.draft.from c.respelled.new.draft.from
    c.copy_to-2.new.draft.from c.args.at c.in_ok-end.end
    c.items-mark.ensures c.in_ok-copy_to.ensures.line c.in_ok-copy_to.ensures.from c.in_ok-end.ensures.copied
    c.in_ok-end.ensures.within c.in_ok-end.ensures.taken c.in_ok-copy_to-2.ensures.line
    c.in_ok-copy_to-2.ensures.from c.items.ensures).inside

pub returns-clause-taken : goal.returns-clause-taken
returns-clause-taken c =
    let text = c.args.text.now in
    let anew = c.in_ok-end.ensures.taken in
    let listed = c.args.draft.now.names in
    let name = written_name text c.items-mark.result.now c.copy_to.new.draft.line c.respelled.new.draft.line
    c.copy_to-2.new.draft.line c.items.result.now _ c.copy_to.new.draft.from c.respelled.new.draft.from
    c.copy_to-2.new.draft.from c.args.at c.in_ok-end.end
    c.items-mark.ensures c.in_ok-copy_to.ensures.line c.in_ok-copy_to.ensures.from c.in_ok-end.ensures.copied
    c.in_ok-end.ensures.within anew c.in_ok-copy_to-2.ensures.line c.in_ok-copy_to-2.ensures.from c.items.ensures in
    let names = names_in text in
    let pushed = c.in_ok-push_content.ensures anew.content _ (ap decoded (rest_is text (c.args.at + 1)) ∙ anew.is_read)
    name.is in
    let before : names c.copy_to-2.new.draft.names ≡ names listed = c.in_ok-copy_to-2.ensures.names
    ∙ (c.in_ok-end.ensures.names ∙ c.in_ok-copy_to.ensures.names) in
    name_taken anew.content _ _ _ _ (names listed) (names c.push_content.new.names) name.taken (ap names pushed
    ∙ (map-append (bytes_in text) c.copy_to-2.new.draft.names (as_decoded anew.content ∷ [])
    ∙ ap (λ l. l ++ anew.content ∷ []) before))
