use Rattle.std.proofs.Common.{◌≡◌, ◌≤◌, ◌<◌, ◌+◌, ◌-◌, ◌∙◌, length, drop, get_or, refl, arith, ap, sym, subst, take_all, append-nil, [], ◌∷◌}
use Rattle.std.proofs.lemmas.List.{drop_all, length-map, take-map}
use Rattle.city_json.specs.Bytes.{comma, close_bracket, open_bracket, close_brace, open_brace}
use Rattle.city_json.specs.Compacting.{shown, Taken}
use Rattle.city_json.specs.ListedNames.{bytes_in, names_in}
use Rattle.city_json.proofs.WholeArrays.{whole_taken}
use Rattle.city_json.proofs.Marks.{bare_mark}
use Rattle.city_json.proofs.PassFlat.{all_taken, next_array, next_closed, next_run, next_skip, next_value, one_open}
use Rattle.city_json.proofs.PassItems.{array_taken, items_none, items_start}
use Rattle.city_json.proofs.PassMembers.{member_taken, members_more, members_none, members_start, members_stop, names_kept, names_left, names_more, object_taken}
use Rattle.city_json.proofs.Options.{if_some_both, if_some_more}
use Rattle.city_json.proofs.PassScalars.{scalar_taken}
use Rattle.city_json.proofs.Places.{at_mark, drop_one, mark_shown, shown_one}
use Rattle.city_json.proofs.compacting.values.+value.Goals as goal

pub array-returns-in-Some-clause-taken : goal.array-returns-in-Some-clause-taken
array-returns-in-Some-clause-taken t c =
    whole_taken c.args.levels c.args.draft.now.line c.args.text.now c.args.draft.now.from c.args.at
    c.in-Some.end c.requires.copied c.in-Some.ensures.onward c.in-Some.ensures.is

pub array-returns-then-text-first-eq93-clause-taken : goal.array-returns-then-text-first-eq93-clause-taken
array-returns-then-text-first-eq93-clause-taken t c =
    let text = c.args.text.now in
    let before_end : c.skip-first.result ≤ length text = c.skip-first.ensures.within in
    let inside : c.skip-first.result < length text = omega (arith, c.if-first-text.false) in
    items_none c.args.levels (drop c.args.at text) (drop (c.skip-first.result + 1) text) _ _
    (at_mark text (drop c.args.at text) c.skip-first.result close_bracket
    (c.skip-first.ensures.skipped inside) inside c.if-text-first-eq93.true)
    (mark_shown c.skip-first.new.draft.line text _ c.skip-first.new.draft.from c.skip-first.result close_bracket
    (c.skip-first.ensures.copied inside) inside c.if-text-first-eq93.true (c.skip-first.ensures.is_shown inside))

pub array-returns-clause-taken : goal.array-returns-clause-taken
array-returns-clause-taken t c =
    let text = c.args.text.now in
    let before_end : c.skip-first.result ≤ length text = c.skip-first.ensures.within in
    let inside : c.skip-first.result < length text = omega (arith, c.if-first-text.false) in
    if_some_more c.items.result (λ end from.
    items_start c.args.levels (drop c.args.at text) (drop c.skip-first.result text) (drop end text) _ _ _
    (c.skip-first.ensures.skipped inside) (c.skip-first.ensures.is_shown inside) from) c.items.ensures.taken

pub member-returns-clause-taken : goal.member-returns-clause-taken
member-returns-clause-taken t c =
    let text = c.args.text.now in
    let names = names_in text in
    member_taken c.args.levels (drop c.args.at text) (drop c.in_ok-start.start text)
    (drop c.in_ok-end.end text) _ _ _ (names c.args.draft.now.names) (names c.name_and_colon.new.draft.names)
    (names c.member_value.new.draft.names)
    c.in_ok-start.ensures.taken c.in_ok-end.ensures.taken c.in_ok-end.ensures.names

pub value-returns-else-levels-eq0-clause-taken : goal.value-returns-else-levels-eq0-clause-taken
value-returns-else-levels-eq0-clause-taken t c =
    let text = c.args.text.now in
    let at_end : c.args.at ≤ length text = c.requires.within in
    let inside : c.args.at < length text = omega (arith, c.if-at-text.false) in
    if_some_more c.array.result (λ end taken. array_taken c.args.levels (drop c.args.at text) (drop (c.args.at + 1) text)
    (drop end text) _ _ _ c.if-levels-eq0.false (drop_one text c.args.at open_bracket inside c.in-91.is)
    (shown_one c.args.draft.now.line text c.args.draft.now.from c.args.at open_bracket c.requires.copied inside
    c.in-91.is) taken) c.array.ensures.taken

pub value-returns-else-levels-eq0-2-clause-taken : goal.value-returns-else-levels-eq0-2-clause-taken
value-returns-else-levels-eq0-2-clause-taken t c =
    let text = c.args.text.now in
    let at_end : c.args.at ≤ length text = c.requires.within in
    let inside : c.args.at < length text = omega (arith, c.if-at-text.false) in
    if_some_more c.object.result (λ end taken.
    object_taken c.args.levels (drop c.args.at text) (drop (c.args.at + 1) text)
    (drop end text) _ _ _ c.if-levels-eq0-2.false (drop_one text c.args.at open_brace inside c.in-123.is)
    (shown_one c.args.draft.now.line text c.args.draft.now.from c.args.at open_brace c.requires.copied inside
    c.in-123.is) taken) c.object.ensures.taken

pub value-returns-in_default-clause-taken : goal.value-returns-in_default-clause-taken
value-returns-in_default-clause-taken t c =
    if_some_both c.scalar_end.result
    (λ end onward is. scalar_taken c.args.levels c.args.draft.now.line c.args.text.now c.args.draft.now.from
    c.args.at end c.requires.copied onward is) c.scalar_end.ensures.onward c.scalar_end.ensures.is

pub object-returns-then-text-i-eq125-clause-taken : goal.object-returns-then-text-i-eq125-clause-taken
object-returns-then-text-i-eq125-clause-taken t c =
    let text = c.args.text.now in
    let before_end : c.skip-i.result ≤ length text = c.skip-i.ensures.within in
    let inside : c.skip-i.result < length text = omega (arith, c.if-i-text.false) in
    members_none c.args.levels (drop c.args.at text) (drop (c.skip-i.result + 1) text) _ _
    (at_mark text (drop c.args.at text) c.skip-i.result close_brace
    (c.skip-i.ensures.skipped inside) inside c.if-text-i-eq125.true)
    (mark_shown c.skip-i.new.draft.line text _ c.skip-i.new.draft.from c.skip-i.result close_brace
    (c.skip-i.ensures.copied inside) inside c.if-text-i-eq125.true (c.skip-i.ensures.is_shown inside))

pub object-members-init : goal.object-members-init
object-members-init t c =
    let text = c.args.text.now in
    let names = names_in text in
    let before_end : c.skip-i.result ≤ length text = c.skip-i.ensures.within in
    let inside : c.skip-i.result < length text = omega (arith, c.if-i-text.false) in
    let same : names c.skip-i.new.draft.names ≡ names c.args.draft.now.names = (c.skip-i.ensures.names inside) in
    let count : c.len-base.result ≡ length (names c.args.draft.now.names) = c.len-base.ensures
    ∙ sym (length-map c.args.draft.now.names (bytes_in text)) in
    let long : length (names c.skip-i.new.draft.names) ≡ length (names c.args.draft.now.names) = ap length same in
    record {
      onward = (c.skip-i.ensures.onward inside);
      within = c.skip-i.ensures.within;
      copied = (c.skip-i.ensures.copied inside);
      few = omega (arith, count, long);
      names = take_all c.len-base.result (names c.skip-i.new.draft.names) (omega (arith, count, long)) ∙ same;
      goes_on = λ rest after listed from.
          members_start c.args.levels (drop c.args.at text) (drop c.skip-i.result text) rest _ _ after
          (drop c.len-base.result (names c.skip-i.new.draft.names)) listed (c.skip-i.ensures.skipped inside)
          (c.skip-i.ensures.is_shown inside)
          (drop_all c.len-base.result (names c.skip-i.new.draft.names) (omega (arith, count, long))) from;
    }

pub object-members-preserved-then-is_bare : goal.object-members-preserved-then-is_bare
object-members-preserved-then-is_bare t c =
    let text = c.args.text.now in
    let names = names_in text in
    let end = c.in_ok-end.end in
    let onward : c.members.i < end = c.in_ok-end.ensures.onward in
    let draft = c.member.new.draft in
    let bare = c.is_bare.ensures.is c.if-is_bare.true in
    let one = names c.members.draft.names in
    let taken = c.in_ok-end.ensures.taken in
    record {
      onward = omega (arith, onward, c.members.invariant.onward);
      within = omega (arith, bare.within);
      copied = omega (arith, c.in_ok-end.ensures.copied);
      few = names_left c.len-base.result one (names draft.names) (names draft.names) taken.name c.members.invariant.few
          taken.names_are refl;
      names = names_kept c.len-base.result one (names draft.names) (names draft.names) taken.name
          c.members.invariant.few taken.names_are refl ∙ c.members.invariant.names;
      goes_on = λ rest after listed.
          members_more c.args.levels c.len-base.result (drop c.args.at text) (drop c.members.i text) (drop end text)
          (drop (end + 1) text) rest (shown c.args.draft.now.line text c.args.draft.now.from c.args.at)
          (shown c.members.draft.line text c.members.draft.from c.members.i) (shown draft.line text draft.from end)
          (shown draft.line text draft.from (end + 1)) after one (names draft.names) (names draft.names) listed taken
          c.members.invariant.few refl
          (bare_mark draft.line text draft.from end comma c.in_ok-end.ensures.copied (omega arith) bare)
          (c.members.invariant.goes_on rest after);
    }

pub object-members-preserved : goal.object-members-preserved
object-members-preserved t c =
    let text = c.args.text.now in
    let names = names_in text in
    let end = c.in_ok-end.end in
    let next = c.after_member-after.result.at in
    let before_end : next ≤ length text = c.after_member-after.ensures.within in
    let inside : next < length text = omega (arith, c.if-after-text.false) in
    let onward : c.members.i < end = c.in_ok-end.ensures.onward in
    let further : end < next = c.after_member-after.ensures.further inside c.if-after.false in
    let was = c.member.new.draft in
    let draft = c.after_member-after.new.draft in
    let same : names draft.names ≡ names was.names = c.after_member-after.ensures.names inside in
    let one = names c.members.draft.names in
    let taken = c.in_ok-end.ensures.taken in
    record {
      onward = omega (arith, onward, further, c.members.invariant.onward);
      within = before_end;
      copied = c.after_member-after.ensures.copied inside;
      few = names_left c.len-base.result one (names was.names) (names draft.names) taken.name c.members.invariant.few
          taken.names_are same;
      names = names_kept c.len-base.result one (names was.names) (names draft.names) taken.name
          c.members.invariant.few taken.names_are same ∙ c.members.invariant.names;
      goes_on = λ rest after listed.
          members_more c.args.levels c.len-base.result (drop c.args.at text) (drop c.members.i text) (drop end text)
          (drop next text) rest (shown c.args.draft.now.line text c.args.draft.now.from c.args.at)
          (shown c.members.draft.line text c.members.draft.from c.members.i) (shown was.line text was.from end)
          (shown draft.line text draft.from next) after one (names was.names) (names draft.names) listed taken
          c.members.invariant.few same (c.after_member-after.ensures.goes_on inside c.if-after.false)
          (c.members.invariant.goes_on rest after);
    }

pub object-returns-then-after-clause-names : goal.object-returns-then-after-clause-names
object-returns-then-after-clause-names t c =
    let text = c.args.text.now in
    let names = names_in text in
    let next = c.after_member-after.result.at in
    let before_end : next ≤ length text = c.after_member-after.ensures.within in
    let inside : next < length text = omega (arith, c.if-after-text.false) in
    let taken = c.in_ok-end.ensures.taken in
    ap names c.truncate.ensures
    ∙ (sym (take-map (bytes_in text) c.len-base.result c.after_member-after.new.draft.names)
    ∙ (names_kept c.len-base.result (names c.members.draft.names) (names c.member.new.draft.names)
    (names c.after_member-after.new.draft.names) taken.name c.members.invariant.few taken.names_are
    (c.after_member-after.ensures.names inside) ∙ c.members.invariant.names))

pub object-returns-then-after-clause-taken : goal.object-returns-then-after-clause-taken
object-returns-then-after-clause-taken t c =
    let text = c.args.text.now in
    let names = names_in text in
    let end = c.in_ok-end.end in
    let next = c.after_member-after.result.at in
    let before_end : next ≤ length text = c.after_member-after.ensures.within in
    let inside : next < length text = omega (arith, c.if-after-text.false) in
    let member_draft = c.member.new.draft in
    let draft = c.after_member-after.new.draft in
    let brace = c.after_member-after.ensures.closes inside c.if-after.true in
    let one = names c.members.draft.names in
    let taken = c.in_ok-end.ensures.taken in
    let few : c.len-base.result ≤ length one = c.members.invariant.few in
    let all = c.members.invariant.goes_on _ _ (taken.name ∷ [])
    (members_stop c.args.levels (drop c.members.i text) (drop end text) (drop (next + 1) text) _ _
    (shown member_draft.line text member_draft.from end) (shown draft.line text draft.from (next + 1)) one
    (names member_draft.names) taken brace.is_next refl brace.is_shown) in
    let listed = names_more c.len-base.result one (names member_draft.names) (names draft.names) taken.name []
    few taken.names_are (c.after_member-after.ensures.names inside) in
    all.whole (c.in_ok-are_apart_from.ensures all.members (all.names_are
    ∙ (listed ∙ append-nil (drop c.len-base.result (names draft.names)))))

pub member_value-returns-then-may_end-clause-taken : goal.member_value-returns-then-may_end-clause-taken
member_value-returns-then-may_end-clause-taken t c =
    scalar_taken c.args.levels c.args.draft.now.line c.args.text.now c.args.draft.now.from c.args.at
    c.decimal_end-end.result c.requires.copied c.if-at-end.true (c.decimal_end-end.ensures.is c.if-at-end.true)

pub items-items-init : goal.items-items-init
items-items-init t c = record {
  onward = omega arith;
  within = c.requires.within;
  copied = c.requires.copied;
  names = refl;
  some = omega arith;
  few = omega arith;
  goes_on = λ rest after all. one_open c.args.levels (drop c.args.at c.args.text.now) rest
      (shown c.args.draft.now.line c.args.text.now c.args.draft.now.from c.args.at) after all;
}

pub items-returns-then-next-eq0-clause-taken : goal.items-returns-then-next-eq0-clause-taken
items-returns-then-next-eq0-clause-taken t c =
    c.items.invariant.goes_on _ _ (c.in_ok-next.ensures.goes_on _ _
    (all_taken c.in_ok-next.next.depth (c.args.levels + 1) _ _ c.if-next-eq0.true))

pub items-items-preserved : goal.items-items-preserved
items-items-preserved t c =
    let first : c.args.at ≤ c.items.i = c.items.invariant.onward in
    let onward : c.items.i < c.in_ok-next.next.at = c.in_ok-next.ensures.onward in
    record {
      onward = omega (arith, first, onward);
      within = c.in_ok-next.ensures.within;
      copied = c.in_ok-next.ensures.copied;
      names = c.in_ok-next.ensures.names ∙ c.items.invariant.names;
      some = omega (arith, c.if-next-eq0.false);
      few = c.in_ok-next.ensures.few;
      goes_on = λ rest after further.
          c.items.invariant.goes_on rest after (c.in_ok-next.ensures.goes_on rest after further);
    }

pub next_item-returns-then-run-clause-goes_on : goal.next_item-returns-then-run-clause-goes_on
next_item-returns-then-run-clause-goes_on t c =
    let text = c.args.text.now in
    let total = c.args.levels + 1 in
    let start = c.skip-start.result in
    let before_end : start ≤ length text = c.skip-start.ensures.within in
    let inside : start < length text = omega (arith, before_end, c.if-start-text.false) in
    let begun = c.skip-start.new.draft in
    let run = c.in_ok-run.run' in
    let now = c.numbers.new.draft in
    if_some_more c.after_item.result
    (λ next goes_on rest after further. next_skip c.args.depth total (drop c.args.at text) (drop start text) rest _
    (shown begun.line text begun.from start) after c.requires.some (c.skip-start.ensures.skipped inside)
    (c.skip-start.ensures.is_shown inside)
    (next_closed c.args.depth total (drop start text) (drop run.at text) rest (shown begun.line text begun.from start)
    (shown now.line text now.from run.at) after c.requires.some (c.in_ok-run.ensures.closes c.if-run.true)
    (goes_on total rest after further))) c.after_item.ensures.goes_on

pub next_item-returns-then-opens_array-clause-goes_on : goal.next_item-returns-then-opens_array-clause-goes_on
next_item-returns-then-opens_array-clause-goes_on t c =
    let text = c.args.text.now in
    let total = c.args.levels + 1 in
    let start = c.skip-start.result in
    let before_end : start ≤ length text = c.skip-start.ensures.within in
    let inside : start < length text = omega (arith, before_end, c.if-start-text.false) in
    let begun = c.skip-start.new.draft in
    let run = c.in_ok-run.run' in
    let now = c.numbers.new.draft in
    let item = c.skip-item.result in
    let before_end₂ : item ≤ length text = c.skip-item.ensures.within in
    let inside₂ : item < length text = omega (arith, before_end₂, c.if-item-text.false) in
    let draft = c.skip-item.new.draft in
    let opens : get_or text item 0 ≡ open_bracket = c.opens_array.ensures c.if-opens_array.true in
    let room : c.args.depth < total = omega (arith, c.if-depth-levels.true) in
    λ rest after further. next_skip c.args.depth total (drop c.args.at text) (drop start text) rest _
    (shown begun.line text begun.from start) after c.requires.some (c.skip-start.ensures.skipped inside)
    (c.skip-start.ensures.is_shown inside)
    (next_run c.args.depth total (drop start text) (drop run.at text) rest (shown begun.line text begun.from start)
    (shown now.line text now.from run.at) after c.requires.some (c.in_ok-run.ensures.goes_on c.if-run.false)
    (next_array c.args.depth total (drop run.at text) (drop item text) (drop (item + 1) text) rest
    (shown now.line text now.from run.at) (shown draft.line text draft.from (item + 1)) after c.requires.some room
    (c.skip-item.ensures.skipped inside₂) (drop_one text item open_bracket inside₂ opens)
    (mark_shown draft.line text (shown now.line text now.from run.at) draft.from item open_bracket
    (c.skip-item.ensures.copied inside₂) inside₂ opens (c.skip-item.ensures.is_shown inside₂)) further))

pub next_item-returns-clause-goes_on : goal.next_item-returns-clause-goes_on
next_item-returns-clause-goes_on t c =
    let text = c.args.text.now in
    let total = c.args.levels + 1 in
    let start = c.skip-start.result in
    let before_end : start ≤ length text = c.skip-start.ensures.within in
    let inside : start < length text = omega (arith, before_end, c.if-start-text.false) in
    let begun = c.skip-start.new.draft in
    let run = c.in_ok-run.run' in
    let now = c.numbers.new.draft in
    let item = c.skip-item.result in
    let before_end₂ : item ≤ length text = c.skip-item.ensures.within in
    let inside₂ : item < length text = omega (arith, before_end₂, c.if-item-text.false) in
    let draft = c.skip-item.new.draft in
    let end = c.in_ok-end.end in
    let ended = c.value.new.draft in
    let some : 0 < c.args.depth = c.requires.some in
    let room : c.args.levels - (c.args.depth - 1) ≡ total - c.args.depth = omega (arith, some) in
    let taken = subst (λ n. Taken n (drop item text) (drop end text) (shown draft.line text draft.from item)
    (shown ended.line text ended.from end)) room c.in_ok-end.ensures.taken in
    if_some_more c.after_item-2.result
    (λ next goes_on rest after further. next_skip c.args.depth total (drop c.args.at text) (drop start text) rest _
    (shown begun.line text begun.from start) after c.requires.some (c.skip-start.ensures.skipped inside)
    (c.skip-start.ensures.is_shown inside)
    (next_run c.args.depth total (drop start text) (drop run.at text) rest (shown begun.line text begun.from start)
    (shown now.line text now.from run.at) after c.requires.some (c.in_ok-run.ensures.goes_on c.if-run.false)
    (next_value c.args.depth total (drop run.at text) (drop item text) (drop end text) rest
    (shown now.line text now.from run.at) (shown draft.line text draft.from item)
    (shown ended.line text ended.from end) after some (c.skip-item.ensures.skipped inside₂)
    (c.skip-item.ensures.is_shown inside₂) taken (goes_on total rest after further))))
    c.after_item-2.ensures.goes_on
