use Rattle.std.proofs.Common.{◌≤◌, ◌<◌, ◌+◌, ◌∙◌, length, drop, refl, sym, arith, subst, append-nil, [], ◌∷◌}
use Rattle.city_json.specs.Bytes.{comma, close_brace}
use Rattle.city_json.specs.Compacting.{shown, TakenParts}
use Rattle.city_json.specs.ListedNames.{names_in}
use Rattle.city_json.specs.Triples.{HasTriples}
use Rattle.city_json.proofs.GivenTexts.{triples_more}
use Rattle.city_json.proofs.Marks.{bare_mark}
use Rattle.city_json.proofs.PassMembers.{names_more}
use Rattle.city_json.proofs.PassParts.{parts_go_on, parts_none, parts_start, parts_stop}
use Rattle.city_json.proofs.Places.{at_mark, mark_shown}
use Rattle.city_json.proofs.compacting.parts.members.Goals as goal

pub returns-then-text-i-eq125-clause-taken : goal.returns-then-text-i-eq125-clause-taken
returns-then-text-i-eq125-clause-taken c =
    let text = c.args.text.now in
    let before_end : c.skip-i.result ≤ length text = c.skip-i.ensures.within in
    let inside : c.skip-i.result < length text = omega (arith, c.if-i-text.false) in
    parts_none c.args.levels (drop c.args.at text) (drop (c.skip-i.result + 1) text) _ _ _ c.requires.no_parts
    (at_mark text (drop c.args.at text) c.skip-i.result close_brace
    (c.skip-i.ensures.skipped inside) inside c.if-text-i-eq125.true)
    (mark_shown c.skip-i.new.draft.line text _ c.skip-i.new.draft.from c.skip-i.result close_brace
    (c.skip-i.ensures.copied inside) inside c.if-text-i-eq125.true (c.skip-i.ensures.is_shown inside))

pub returns-then-text-i-eq125-clause-triples : goal.returns-then-text-i-eq125-clause-triples
returns-then-text-i-eq125-clause-triples c =
    let text = c.args.text.now in
    let inside : c.skip-i.result < length text = omega (arith, c.if-i-text.false, c.skip-i.ensures.within) in
    triples_more _ (close_brace ∷ []) _ _ (mark_shown c.skip-i.new.draft.line text _ c.skip-i.new.draft.from c.skip-i.result
    close_brace (c.skip-i.ensures.copied inside) inside c.if-text-i-eq125.true (c.skip-i.ensures.is_shown inside))
    c.requires.triples

pub members-init : goal.members-init
members-init c =
    let text = c.args.text.now in
    let names = names_in text in
    let before_end : c.skip-i.result ≤ length text = c.skip-i.ensures.within in
    let inside : c.skip-i.result < length text = omega (arith, c.if-i-text.false) in
    record {
      onward = c.skip-i.ensures.onward inside;
      within = before_end;
      copied = c.skip-i.ensures.copied inside;
      triples = subst (λ written. HasTriples written c.args.triples.now) (sym (c.skip-i.ensures.is_shown inside))
          c.requires.triples;
      goes_on = λ rest after listed parts from.
          parts_start c.args.levels (drop c.args.at text)
          (drop c.skip-i.result text) rest _ _ after (names c.skip-i.new.draft.names) listed c.args.parts.now.items
          parts
          (c.skip-i.ensures.skipped inside) (c.skip-i.ensures.is_shown inside)
          (c.skip-i.ensures.names inside ∙ c.requires.none) c.requires.no_parts from;
    }

pub members-preserved-then-is_bare : goal.members-preserved-then-is_bare
members-preserved-then-is_bare c =
    let text = c.args.text.now in
    let names = names_in text in
    let end = c.in_ok-end.end in
    let onward : c.members.i < end = c.in_ok-end.ensures.onward in
    let was = c.members.draft in
    let draft = c.member.new.draft in
    let bare = c.is_bare.ensures.is c.if-is_bare.true in
    let mark = bare_mark draft.line text draft.from end comma c.in_ok-end.ensures.copied (omega arith) bare in
    record {
      onward = omega (arith, onward, c.members.invariant.onward);
      within = omega (arith, bare.within);
      copied = omega (arith, c.in_ok-end.ensures.copied);
      triples = triples_more _ (comma ∷ []) _ _ mark.is_shown c.in_ok-end.ensures.triples;
      goes_on = λ rest after listed parts.
          parts_go_on c.args.levels (drop c.args.at text) (drop c.members.i text) (drop end text) (drop (end + 1) text)
          rest (shown c.args.draft.now.line text c.args.draft.now.from c.args.at)
          (shown was.line text was.from c.members.i) (shown draft.line text draft.from end)
          (shown draft.line text draft.from (end + 1)) after (names was.names) (names draft.names) (names draft.names)
          listed c.members.parts.items c.member.new.parts.items parts c.in_ok-end.ensures.taken refl mark
          (c.members.invariant.goes_on rest after);
    }

pub members-preserved : goal.members-preserved
members-preserved c =
    let text = c.args.text.now in
    let names = names_in text in
    let end = c.in_ok-end.end in
    let next = c.after_member-after.result.at in
    let before_end : next ≤ length text = c.after_member-after.ensures.within in
    let inside : next < length text = omega (arith, c.if-after-text.false) in
    let onward : c.members.i < end = c.in_ok-end.ensures.onward in
    let further : end < next = c.after_member-after.ensures.further inside c.if-after.false in
    let was = c.members.draft in
    let mid = c.member.new.draft in
    let draft = c.after_member-after.new.draft in
    let mark = c.after_member-after.ensures.goes_on inside c.if-after.false in
    record {
      onward = omega (arith, onward, further, c.members.invariant.onward);
      within = before_end;
      copied = c.after_member-after.ensures.copied inside;
      triples = triples_more _ (comma ∷ []) _ _ mark.is_shown c.in_ok-end.ensures.triples;
      goes_on = λ rest after listed parts.
          parts_go_on c.args.levels (drop c.args.at text) (drop c.members.i text) (drop end text) (drop next text)
          rest (shown c.args.draft.now.line text c.args.draft.now.from c.args.at)
          (shown was.line text was.from c.members.i) (shown mid.line text mid.from end)
          (shown draft.line text draft.from next) after (names was.names) (names mid.names) (names draft.names)
          listed c.members.parts.items c.member.new.parts.items parts c.in_ok-end.ensures.taken
          (c.after_member-after.ensures.names inside) mark (c.members.invariant.goes_on rest after);
    }

pub returns-then-after-clause-taken : goal.returns-then-after-clause-taken
returns-then-after-clause-taken c =
    let text = c.args.text.now in
    let names = names_in text in
    let end = c.in_ok-end.end in
    let next = c.after_member-after.result.at in
    let before_end : next ≤ length text = c.after_member-after.ensures.within in
    let inside : next < length text = omega (arith, c.if-after-text.false) in
    let member_draft = c.member.new.draft in
    let draft = c.after_member-after.new.draft in
    let brace = c.after_member-after.ensures.closes inside c.if-after.true in
    let t = c.in_ok-end.ensures.taken in
    let all = c.members.invariant.goes_on _ _ (t.taken.name ∷ []) (t.part ∷ [])
    (parts_stop c.args.levels (drop c.members.i text) (drop end text) (drop (next + 1) text) _ _
    (shown member_draft.line text member_draft.from end) (shown draft.line text draft.from (next + 1)) _ _ _ _ t
    brace.is_next refl brace.is_shown) in
    let listed = names_more 0 (names c.members.draft.names) (names member_draft.names) (names draft.names)
    t.taken.name []
    (omega arith) t.taken.names_are (c.after_member-after.ensures.names inside) in
    let all_listed = all.names_are ∙ (listed ∙ append-nil (names draft.names)) in
    subst (λ l. TakenParts c.args.levels (drop c.args.at text) (drop (next + 1) text)
    (shown c.args.draft.now.line text c.args.draft.now.from c.args.at) (shown draft.line text draft.from (next + 1)) l)
    (sym t.parts_are)
    (all.whole (c.in_ok-are_apart_from.ensures all.members all_listed))

pub returns-then-after-clause-triples : goal.returns-then-after-clause-triples
returns-then-after-clause-triples c =
    let text = c.args.text.now in
    let next = c.after_member-after.result.at in
    let before_end : next ≤ length text = c.after_member-after.ensures.within in
    let inside : next < length text = omega (arith, c.if-after-text.false) in
    let brace = c.after_member-after.ensures.closes inside c.if-after.true in
    triples_more _ (close_brace ∷ []) _ _ brace.is_shown c.in_ok-end.ensures.triples
