use Rattle.std.proofs.Common.{◌∙◌, ℕ, List, subst, inl, inr, arith}
use Rattle.std.specs.List.{AllZip}
use Rattle.command_runs.specs.Opening.{RefusesFiles}
use Rattle.command_runs.proofs.Opened.{all_opened, first_not_opened, one_more_opened, so_many_opened}
use Rattle.command_runs.proofs.tiles.open_tiles.Goals as goal

pub not_opened-requires : goal.not_opened-requires
not_opened-requires g c =
    let gives = g.O.Opener.may_give c.args.opener.now in
    let few = so_many_opened gives c.items-paths.result.now c.loop-path.readers.items c.loop-path.path-index
    c.path-item.result c.loop-path-test.true c.loop-path.invariant in
    omega (arith, few, c.len.ensures, c.loop-path.readers.ok.0, c.in_ok-tile_count.ensures.ok, c.loop-path-test.true)

pub returns-in_default-clause-refused : goal.returns-in_default-clause-refused
returns-in_default-clause-refused g c =
    let gives = g.O.Opener.may_give c.args.opener.now in
    let fails = g.O.Opener.may_fail c.args.opener.now in
    let failed = subst fails (c.as_str.ensures ∙ c.path-item.is) c.in_default.ensures.failed in
    let refuses = λ (paths : List (List ℕ)). RefusesFiles gives fails paths c.not_opened.result in
    subst refuses c.items-paths.ensures (inr (inl (
      c.in_ok-tile_count.ensures.ok,
      first_not_opened gives c.items-paths.result.now c.loop-path.readers.items
          c.loop-path.path-index c.path-item.result c.loop-path-test.true c.loop-path.invariant fails failed c.len.result
          (c.len.ensures ∙ c.loop-path.readers.ok.0) c.not_opened.result c.not_opened.ensures,
    )))

pub loop-path-preserved : goal.loop-path-preserved
loop-path-preserved g c =
    let gives = g.O.Opener.may_give c.args.opener.now in
    one_more_opened gives c.items-paths.result.now c.loop-path.readers.items c.loop-path.path-index c.path-item.result
    c.loop-path-test.true c.loop-path.invariant c.in-Some.reader
    (subst (λ path. gives path c.in-Some.reader) (c.as_str.ensures ∙ c.path-item.is) c.in-Some.ensures.given)
    c.push.new.self.items c.in_ok-push.ensures.items

pub returns-clause-all : goal.returns-clause-all
returns-clause-all g c =
    let gives = g.O.Opener.may_give c.args.opener.now in
    subst (λ paths. AllZip gives paths c.loop-path.readers.items) c.items-paths.ensures
    (all_opened gives c.items-paths.result.now c.loop-path.readers.items c.loop-path.path-index
    c.loop-path-test.false c.loop-path.invariant)
