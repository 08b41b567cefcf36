use Rattle.std.proofs.Common.{length, ◌+◌, ◌-◌, ◌∙◌, ◌&&◌, sym, ap, arith, rules}
use Rattle.std.proofs.lemmas.Result.{err_from_is_err_and}
use Rattle.city_json.specs.Distinct.{is_distinct}
use Rattle.city_json.specs.Makes.{onto_items, onto_members}
use Rattle.city_json.specs.Reading.{value_at}
use Rattle.city_json.specs.Tree.{no_items, item, no_members, member}
use Rattle.city_json.proofs.Fronts.{refused, items-failed, items-close, items-neither, items-comma, items-none, members-none, members-failed, members-close, members-neither, members-comma}
use Rattle.city_json.proofs.Starts.{value_at-empty, value_at-scalar_below, value_at-array, value_at-object, value_at-scalar}
use Rattle.city_json.proofs.Told.{items-told, members-told, members-named, scalar-told}
use Rattle.city_json.proofs.reading.+value.Goals as goal

pub read_items-returns-in_err-value-clause-made : goal.read_items-returns-in_err-value-clause-made
read_items-returns-in_err-value-clause-made g t c =
    let p = err_from_is_err_and c.from_residual.result c.from_residual.ensures.1 in
    let (front, are, before, told, named) = c.loop.invariant in
    rw (p.1, p.2) (refused _ _ _ (λ failed. sym before ∙ items-failed (value_at c.args.levels) front
    (length c.args.bytes.now - c.loop.counter) c.loop.rest.now failed) c.in_err-value.ensures.made)

pub read_items-returns-in-Close-clause-made : goal.read_items-returns-in-Close-clause-made
read_items-returns-in-Close-clause-made g t c =
    let (front, are, before, told, named) = c.loop.invariant in
    let (one, read, is) = c.in_ok-value.ensures.made in (
      onto_items front (item one no_items),
      items-close (value_at c.args.levels) front (length c.args.bytes.now - (c.loop.counter + 1)) read
          c.after_white.ensures c.mark_at-mark.ensures before (omega arith) c.in-Close.is,
      (c.in_ok-push_item.ensures front one are is.0, items-told _ _ _ front one told is.1),
    )

pub read_items-returns-in-Neither-clause-made : goal.read_items-returns-in-Neither-clause-made
read_items-returns-in-Neither-clause-made g t c =
    let (front, are, before, told, named) = c.loop.invariant in
    let (one, read, is) = c.in_ok-value.ensures.made in
    items-neither (value_at c.args.levels) front (length c.args.bytes.now - (c.loop.counter + 1)) read
    c.after_white.ensures c.mark_at-mark.ensures before (omega arith) c.in-Neither.is

pub read_items-loop-preserved : goal.read_items-loop-preserved
read_items-loop-preserved g t c =
    let (front, are, before, told, named) = c.loop.invariant in
    let (one, read, is) = c.in_ok-value.ensures.made in (
      onto_items front (item one no_items),
      c.in_ok-push_item.ensures front one are is.0,
      items-comma (value_at c.args.levels) front (length c.args.bytes.now - (c.loop.counter + 1)) read
          c.after_white.ensures c.mark_at-mark.ensures before (omega arith) c.in-Comma.is c.after_white-rest.result.now
          c.after_white-rest.ensures,
      items-told _ _ _ front one told is.1,
      c.in_ok-value.ensures.names ∙ named,
    )

pub read_items-returns-clause-made : goal.read_items-returns-clause-made
read_items-returns-clause-made g t c =
    let (front, are, before, told, named) = c.loop.invariant in
    sym before ∙ items-none (value_at c.args.levels) front (length c.args.bytes.now - c.loop.counter)
    c.loop.rest.now (omega arith)

pub read_member-returns : goal.read_member-returns
read_member-returns g t c =
    let (name, named, (is_name, listed)) = c.in_ok-name.ensures.made in
    let (value, read, is) = c.in_ok-value.ensures.made in (
      (name, value),
      search rules,
      (
        is_name,
        (is.0, is.1 ∙ ap (λ b. b && is_distinct value) c.in_ok-name.ensures.are_distinct),
        c.in_ok-value.ensures.names ∙ listed,
      ),
    )

pub read_members-returns-in_err-name : goal.read_members-returns-in_err-name
read_members-returns-in_err-name g t c =
    let p = err_from_is_err_and c.from_residual.result c.from_residual.ensures.1 in
    let (front, are, before, told, named) = c.loop.invariant in
    rw (p.1, p.2) (refused _ _ _ (λ failed. sym before ∙ members-failed (value_at c.args.levels) front
    (length c.args.bytes.now - c.loop.counter) c.loop.rest.now failed) c.in_err-name.ensures)

pub read_members-returns-in-Close : goal.read_members-returns-in-Close
read_members-returns-in-Close g t c =
    let (front, are, before, told, named) = c.loop.invariant in
    let (one, read, (is_name, is, listed)) = c.in_ok-name.ensures in (
      onto_members front (member one.0 one.1 no_members),
      members-close (value_at c.args.levels) front (length c.args.bytes.now - (c.loop.counter + 1)) c.loop.rest.now read
          c.after_white.ensures c.mark_at-mark.ensures before (omega arith) c.in-Close.is,
      (
        (c.in_ok-push_member.ensures front one are is_name is.0, members-told _ _ _ front one told is.1),
        members-named _ _ _ front one named listed,
      ),
    )

pub read_members-returns-in-Neither : goal.read_members-returns-in-Neither
read_members-returns-in-Neither g t c =
    let (front, are, before, told, named) = c.loop.invariant in
    let (one, read, (is_name, is, listed)) = c.in_ok-name.ensures in
    members-neither (value_at c.args.levels) front (length c.args.bytes.now - (c.loop.counter + 1)) c.loop.rest.now read
    c.after_white.ensures c.mark_at-mark.ensures before (omega arith) c.in-Neither.is

pub read_members-loop-preserved : goal.read_members-loop-preserved
read_members-loop-preserved g t c =
    let (front, are, before, told, named) = c.loop.invariant in
    let (one, read, (is_name, is, listed)) = c.in_ok-name.ensures in (
      onto_members front (member one.0 one.1 no_members),
      c.in_ok-push_member.ensures front one are is_name is.0,
      members-comma (value_at c.args.levels) front (length c.args.bytes.now - (c.loop.counter + 1)) c.loop.rest.now read
          c.after_white.ensures c.mark_at-mark.ensures before (omega arith) c.in-Comma.is c.after_white-rest.result.now
          c.after_white-rest.ensures,
      members-told _ _ _ front one told is.1,
      members-named _ _ _ front one named listed,
    )

pub read_members-returns : goal.read_members-returns
read_members-returns g t c =
    let (front, are, before, told, named) = c.loop.invariant in
    sym before ∙ members-none (value_at c.args.levels) front (length c.args.bytes.now - c.loop.counter)
    c.loop.rest.now (omega arith)

pub read_value-returns-in_default-clause-made : goal.read_value-returns-in_default-clause-made
read_value-returns-in_default-clause-made g t c =
    value_at-empty c.args.levels c.args.bytes.now c.in_default.ensures.value

pub read_value-returns-then-levels-eq0-clause-made : goal.read_value-returns-then-levels-eq0-clause-made
read_value-returns-then-levels-eq0-clause-made g t c =
    rw (← value_at-scalar_below c.args.levels c.args.bytes.now c.in-Some.first.now c.start_of-start.result
    c.in-Some.ensures.value c.start_of-start.ensures c.if-levels-eq0.true)
    (scalar-told g.M.Make.is c.read_scalar.result c.start_of-start.result c.args.bytes.now _ c.read_scalar.ensures)

pub read_value-returns-in-List-clause-made : goal.read_value-returns-in-List-clause-made
read_value-returns-in-List-clause-made g t c =
    rw (← value_at-array c.args.levels c.args.bytes.now c.in-Some.first.now c.start_of-start.result
    c.in-Some.ensures.value c.start_of-start.ensures c.if-levels-eq0.false c.in-List.is) c.read_array.ensures.made

pub read_value-returns-in-Map-clause-made : goal.read_value-returns-in-Map-clause-made
read_value-returns-in-Map-clause-made g t c =
    rw (← value_at-object c.args.levels c.args.bytes.now c.in-Some.first.now c.start_of-start.result
    c.in-Some.ensures.value c.start_of-start.ensures c.if-levels-eq0.false c.in-Map.is) c.read_object.ensures.made

pub read_value-returns-in_default-start-clause-made : goal.read_value-returns-in_default-start-clause-made
read_value-returns-in_default-start-clause-made g t c =
    rw (← value_at-scalar c.args.levels c.args.bytes.now c.in-Some.first.now c.start_of-start.result
    c.in-Some.ensures.value c.start_of-start.ensures c.if-levels-eq0.false c.in_default-start.not-List
    c.in_default-start.not-Map) (scalar-told g.M.Make.is c.read_scalar-in_default-start.result c.start_of-start.result
    c.args.bytes.now _ c.read_scalar-in_default-start.ensures)
