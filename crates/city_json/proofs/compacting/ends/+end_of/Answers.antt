use Rattle.std.proofs.Common.{◌≡◌, ◌≤◌, ◌<◌, ◌+◌, ◌-◌, length, drop, arith, refl, sym, subst}
use Rattle.city_json.specs.Bytes.{open_bracket, open_brace, quotation_mark}
use Rattle.city_json.specs.CompactEnds.{LeavesValue}
use Rattle.city_json.proofs.CompactEnds.{array_leaves, array_past, item_left, items_begin, items_more, items_none, items_past, items_stop, no_array, no_object, object_leaves, scalar_leaves, string_leaves, whole_leaves}
use Rattle.city_json.proofs.MemberEnds.{member_left, members_begin, members_more, members_none, members_past, members_stop, name_left, name_past}
use Rattle.city_json.proofs.Places.{drop_one}
use Rattle.city_json.proofs.compacting.ends.+end_of.Goals as goal

pub array_end-returns-in-Some-clause-is : goal.array_end-returns-in-Some-clause-is
array_end-returns-in-Some-clause-is t c =
    whole_leaves c.args.levels c.args.text.now c.args.at c.in-Some.end c.in-Some.ensures.onward c.in-Some.ensures.is

pub array_end-returns-then-at-text-clause-is : goal.array_end-returns-then-at-text-clause-is
array_end-returns-then-at-text-clause-is t c = λ items rest w within is.
    absurd (array_past c.args.text.now rest c.args.at items (omega (arith, c.if-at-text.true)) is)

pub array_end-returns-then-text-at-eq93-clause-is : goal.array_end-returns-then-text-at-eq93-clause-is
array_end-returns-then-text-at-eq93-clause-is t c = λ items rest w within is.
    let at_end : c.args.at ≤ length c.args.text.now = c.requires in
    items_none c.args.text.now rest c.args.at items (omega (arith, c.if-at-text.false)) c.if-text-at-eq93.true w is

pub array_end-items-init : goal.array_end-items-init
array_end-items-init t c =
    let at_end : c.args.at ≤ length c.args.text.now = c.requires in
    record {
      onward = omega arith;
      within = at_end;
      goes_on = λ items rest w within is. items_begin c.args.levels c.args.text.now rest c.args.at items
          (omega (arith, c.if-at-text.false)) c.if-text-at-eq93.false w within is;
    }

pub array_end-returns-then-end-text-clause-is : goal.array_end-returns-then-end-text-clause-is
array_end-returns-then-end-text-clause-is t c = λ items rest w within is.
    let left = c.items.invariant.goes_on items rest w within is in
    absurd (items_past c.args.text.now rest c.end_of-end.result left.others (omega (arith, c.if-end-text.true))
    (item_left c.args.levels (drop c.items.i c.args.text.now) (drop c.end_of-end.result c.args.text.now) rest left
    c.end_of-end.ensures.is))

pub array_end-returns-then-text-end-eq93-clause-is : goal.array_end-returns-then-text-end-eq93-clause-is
array_end-returns-then-text-end-eq93-clause-is t c = λ items rest w within is.
    let before_end : c.end_of-end.result ≤ length c.args.text.now = c.end_of-end.ensures.within in
    let left = c.items.invariant.goes_on items rest w within is in
    items_stop c.args.text.now rest c.end_of-end.result left.others (omega (arith, c.if-end-text.false))
    c.if-text-end-eq93.true (item_left c.args.levels (drop c.items.i c.args.text.now)
    (drop c.end_of-end.result c.args.text.now) rest left c.end_of-end.ensures.is)

pub array_end-items-preserved : goal.array_end-items-preserved
array_end-items-preserved t c =
    let before_end : c.end_of-end.result ≤ length c.args.text.now = c.end_of-end.ensures.within in
    let inside : c.end_of-end.result < length c.args.text.now = omega (arith, c.if-end-text.false) in
    let onward : c.items.i ≤ c.end_of-end.result = c.end_of-end.ensures.onward in
    record {
      onward = omega (arith, onward, c.items.invariant.onward);
      within = omega (arith, inside);
      goes_on = λ items rest w within is.
          let left = c.items.invariant.goes_on items rest w within is in
          items_more c.args.levels c.args.text.now rest c.end_of-end.result left.first left.others inside
          c.if-text-end-eq93.false left.writable left.within
          (item_left c.args.levels (drop c.items.i c.args.text.now) (drop c.end_of-end.result c.args.text.now) rest
          left c.end_of-end.ensures.is);
    }

pub end_of-returns-then-levels-eq0-clause-is : goal.end_of-returns-then-levels-eq0-clause-is
end_of-returns-then-levels-eq0-clause-is t c =
    let at_end : c.args.at ≤ length c.args.text.now = c.requires in
    subst (λ n. LeavesValue n (drop c.args.at c.args.text.now) (drop (length c.args.text.now) c.args.text.now))
    (sym c.if-levels-eq0.true)
    (no_array (drop c.args.at c.args.text.now) (drop (c.args.at + 1) c.args.text.now) _
    (drop_one c.args.text.now c.args.at open_bracket (omega (arith, c.if-at-text.false)) c.in-91.is))

pub end_of-returns-then-levels-eq0-2-clause-is : goal.end_of-returns-then-levels-eq0-2-clause-is
end_of-returns-then-levels-eq0-2-clause-is t c =
    let at_end : c.args.at ≤ length c.args.text.now = c.requires in
    subst (λ n. LeavesValue n (drop c.args.at c.args.text.now) (drop (length c.args.text.now) c.args.text.now))
    (sym c.if-levels-eq0-2.true)
    (no_object (drop c.args.at c.args.text.now) (drop (c.args.at + 1) c.args.text.now) _
    (drop_one c.args.text.now c.args.at open_brace (omega (arith, c.if-at-text.false)) c.in-123.is))

pub end_of-returns-in-34-clause-is : goal.end_of-returns-in-34-clause-is
end_of-returns-in-34-clause-is t c =
    let at_end : c.args.at ≤ length c.args.text.now = c.requires in
    string_leaves c.args.levels (drop c.args.at c.args.text.now) (drop (c.args.at + 1) c.args.text.now) _
    (drop_one c.args.text.now c.args.at quotation_mark (omega (arith, c.if-at-text.false)) c.in-34.is)
    c.string_end.ensures.is

pub end_of-returns-else-levels-eq0-clause-is : goal.end_of-returns-else-levels-eq0-clause-is
end_of-returns-else-levels-eq0-clause-is t c =
    let at_end : c.args.at ≤ length c.args.text.now = c.requires in
    let levels : c.args.levels - 1 + 1 ≡ c.args.levels = omega (arith, c.if-levels-eq0.false) in
    subst (λ n. LeavesValue n (drop c.args.at c.args.text.now) (drop c.array_end.result c.args.text.now)) levels
    (array_leaves (c.args.levels - 1) (drop c.args.at c.args.text.now) (drop (c.args.at + 1) c.args.text.now) _
    (drop_one c.args.text.now c.args.at open_bracket (omega (arith, c.if-at-text.false)) c.in-91.is)
    c.array_end.ensures.is)

pub end_of-returns-else-levels-eq0-2-clause-is : goal.end_of-returns-else-levels-eq0-2-clause-is
end_of-returns-else-levels-eq0-2-clause-is t c =
    let at_end : c.args.at ≤ length c.args.text.now = c.requires in
    let levels : c.args.levels - 1 + 1 ≡ c.args.levels = omega (arith, c.if-levels-eq0-2.false) in
    subst (λ n. LeavesValue n (drop c.args.at c.args.text.now) (drop c.object_end.result c.args.text.now)) levels
    (object_leaves (c.args.levels - 1) (drop c.args.at c.args.text.now) (drop (c.args.at + 1) c.args.text.now) _
    (drop_one c.args.text.now c.args.at open_brace (omega (arith, c.if-at-text.false)) c.in-123.is)
    c.object_end.ensures.is)

pub end_of-returns-in_default-clause-is : goal.end_of-returns-in_default-clause-is
end_of-returns-in_default-clause-is t c =
    let at_end : c.args.at ≤ length c.args.text.now = c.requires in
    scalar_leaves c.args.levels (drop c.args.at c.args.text.now) (drop (c.args.at + 1) c.args.text.now) _ _
    (drop_one c.args.text.now c.args.at _ (omega (arith, c.if-at-text.false)) refl) (omega (arith, c.in_default))
    (omega (arith, c.in_default)) (omega (arith, c.in_default)) c.scalar_stop.ensures.is

pub object_end-returns-then-text-at-eq125-clause-is : goal.object_end-returns-then-text-at-eq125-clause-is
object_end-returns-then-text-at-eq125-clause-is t c = λ all rest w within is.
    let at_end : c.args.at ≤ length c.args.text.now = c.requires in
    members_none c.args.text.now rest c.args.at all (omega (arith, c.if-at-text.false)) c.if-text-at-eq125.true is

pub object_end-members-init : goal.object_end-members-init
object_end-members-init t c =
    let at_end : c.args.at ≤ length c.args.text.now = c.requires in
    record {
      onward = omega arith;
      within = at_end;
      goes_on = λ all rest w within is. members_begin c.args.levels c.args.text.now rest c.args.at all
          (omega (arith, c.if-at-text.false)) c.if-text-at-eq125.false w within is;
    }

pub object_end-returns-then-colon-text-clause-is : goal.object_end-returns-then-colon-text-clause-is
object_end-returns-then-colon-text-clause-is t c = λ all rest w within is.
    let before_end : c.members.i ≤ length c.args.text.now = c.members.invariant.within in
    let left = c.members.invariant.goes_on all rest w within is in
    absurd (name_past c.args.text.now _ _ c.string_end-colon.result (omega (arith, c.if-colon-text.true))
    (name_left c.args.levels c.args.text.now rest c.members.i c.string_end-colon.result
    (omega (arith, c.if-i-text.false)) left c.string_end-colon.ensures.is))

pub object_end-returns-then-end-text-clause-is : goal.object_end-returns-then-end-text-clause-is
object_end-returns-then-end-text-clause-is t c = λ all rest w within is.
    let before_end : c.members.i ≤ length c.args.text.now = c.members.invariant.within in
    let before_colon : c.string_end-colon.result ≤ length c.args.text.now = c.string_end-colon.ensures.within in
    let left = c.members.invariant.goes_on all rest w within is in
    absurd (members_past c.args.text.now rest c.end_of-end.result left.others (omega (arith, c.if-end-text.true))
    (member_left c.args.levels c.args.text.now (drop c.end_of-end.result c.args.text.now) rest c.members.i
    c.string_end-colon.result (omega (arith, c.if-i-text.false)) (omega (arith, c.if-colon-text.false)) left
    c.string_end-colon.ensures.is c.end_of-end.ensures.is))

pub object_end-returns-then-text-end-eq125-clause-is : goal.object_end-returns-then-text-end-eq125-clause-is
object_end-returns-then-text-end-eq125-clause-is t c = λ all rest w within is.
    let before_end : c.members.i ≤ length c.args.text.now = c.members.invariant.within in
    let before_colon : c.string_end-colon.result ≤ length c.args.text.now = c.string_end-colon.ensures.within in
    let before_end₂ : c.end_of-end.result ≤ length c.args.text.now = c.end_of-end.ensures.within in
    let left = c.members.invariant.goes_on all rest w within is in
    members_stop c.args.text.now rest c.end_of-end.result left.others (omega (arith, c.if-end-text.false))
    c.if-text-end-eq125.true (member_left c.args.levels c.args.text.now (drop c.end_of-end.result c.args.text.now)
    rest c.members.i c.string_end-colon.result (omega (arith, c.if-i-text.false))
    (omega (arith, c.if-colon-text.false)) left c.string_end-colon.ensures.is c.end_of-end.ensures.is)

pub object_end-members-preserved : goal.object_end-members-preserved
object_end-members-preserved t c =
    let before_i : c.members.i ≤ length c.args.text.now = c.members.invariant.within in
    let before_colon : c.string_end-colon.result ≤ length c.args.text.now = c.string_end-colon.ensures.within in
    let before_end : c.end_of-end.result ≤ length c.args.text.now = c.end_of-end.ensures.within in
    let inside : c.end_of-end.result < length c.args.text.now = omega (arith, c.if-end-text.false) in
    let one : c.members.i + 1 ≤ c.string_end-colon.result = c.string_end-colon.ensures.onward in
    let two : c.string_end-colon.result + 1 ≤ c.end_of-end.result = c.end_of-end.ensures.onward in
    record {
      onward = omega (arith, one, two, c.members.invariant.onward);
      within = omega (arith, inside);
      goes_on = λ all rest w within is.
          let left = c.members.invariant.goes_on all rest w within is in
          members_more c.args.levels c.args.text.now rest left.name c.end_of-end.result left.first left.others inside
          c.if-text-end-eq125.false left.writable left.within
          (member_left c.args.levels c.args.text.now (drop c.end_of-end.result c.args.text.now) rest c.members.i
          c.string_end-colon.result (omega (arith, c.if-i-text.false)) (omega (arith, c.if-colon-text.false)) left
          c.string_end-colon.ensures.is c.end_of-end.ensures.is);
    }
