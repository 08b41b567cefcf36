use Rattle.std.proofs.Common.{◌≡◌, ◌∙◌, ◌++◌, ◌∷◌, true, ℕ, List, length, drop, ap, sym, subst, arith}
use Rattle.city_json.specs.Bytes.{colon}
use Rattle.city_json.specs.Compact.{compact, quoted}
use Rattle.city_json.specs.Compacting.{shown, TakenMember}
use Rattle.city_json.specs.ListedNames.{names_in}
use Rattle.city_json.specs.Triples.{HasTriples}
use Rattle.city_json.proofs.GivenTexts.{triples_after, triples_noted}
use Rattle.city_json.proofs.PassMembers.{member_taken}
use Rattle.city_json.proofs.PassParts.{part_is}
use Rattle.city_json.proofs.compacting.parts.member.Goals as goal

pub returns-clause-taken : goal.returns-clause-taken
unfolding member_taken
returns-clause-taken c =
    let text = c.args.text.now in
    let names = names_in text in
    let before : List ℕ = shown c.args.draft.now.line text c.args.draft.now.from c.args.at in
    let mid : List ℕ = shown c.name_and_colon.new.draft.line text c.name_and_colon.new.draft.from c.in_ok-start.start in
    let after : List ℕ = shown c.top_value.new.draft.line text c.top_value.new.draft.from c.in_ok-value.value.end in
    let taken : TakenMember c.args.levels (drop c.args.at text)
    (drop c.in_ok-value.value.end text) before after (names c.args.draft.now.names)
    (names c.top_value.new.draft.names) =
    member_taken c.args.levels (drop c.args.at text) (drop c.in_ok-start.start text)
    (drop c.in_ok-value.value.end text) before mid after (names c.args.draft.now.names)
    (names c.name_and_colon.new.draft.names)
    (names c.top_value.new.draft.names)
    c.in_ok-start.ensures.taken c.in_ok-value.ensures.taken c.in_ok-value.ensures.names in
    record {
      taken = taken;
      part = record { at = c.in_ok-named.named; value = c.in_ok-valued.valued; end = c.in_ok-ended.ended };
      is_part = part_is before mid after taken.name taken.value _ taken.is_shown c.in_ok-value.ensures.taken.is_shown
          c.in_ok-named.ensures c.in_ok-valued.ensures c.in_ok-ended.ensures;
      parts_are = c.in_ok-push.ensures;
    }

pub returns-clause-triples : goal.returns-clause-triples
returns-clause-triples c =
    let text = c.args.text.now in
    let names = names_in text in
    let found = c.in_ok-value.value in
    let start = c.in_ok-start.start in
    let was = c.name_and_colon.new.draft in
    let draft = c.top_value.new.draft in
    let before : List ℕ = shown c.args.draft.now.line text c.args.draft.now.from c.args.at in
    let mid : List ℕ = shown was.line text was.from start in
    let after : List ℕ = shown draft.line text draft.from found.end in
    let taken : TakenMember c.args.levels (drop c.args.at text)
    (drop found.end text) before after (names c.args.draft.now.names) (names draft.names) =
    member_taken c.args.levels (drop c.args.at text) (drop start text) (drop found.end text) before mid after
    (names c.args.draft.now.names) (names was.names) (names draft.names) c.in_ok-start.ensures.taken
    c.in_ok-value.ensures.taken
    c.in_ok-value.ensures.names in
    let some : found.are_triples ≡ true → HasTriples after c.triples_or.result = λ are.
    let (t, line_is, from_is) = c.in_ok-value.ensures.triples are in
    let same : shown was.line text was.from found.end ≡ after =
    sym (λ i. shown (line_is i) text (from_is i) found.end) in
    let places = c.triples_or.ensures.some are in
    subst (λ written. HasTriples written c.triples_or.result) same
    (triples_noted was.line text was.from start found.end c.triples_or.result c.in_ok-start.ensures.copied
    (omega (arith, c.in_ok-value.ensures.onward)) (places.0 ∙ c.in_ok-valued.ensures)
    (places.1 ∙ (c.in_ok-ended.ensures ∙ ap length (sym same))) t) in
    triples_after found.are_triples before after c.args.triples.now c.triples_or.result some c.triples_or.ensures.none
    (quoted taken.name ++ colon ∷ compact taken.value) taken.is_shown c.requires.triples
