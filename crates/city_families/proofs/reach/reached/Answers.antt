use Rattle.std.proofs.Common.{rules, ◌≡◌, ◌∙◌, [], arith}
use Rattle.city_families.proofs.Growth.{begun_with, kept_others, noted_once, reached_from_one}
use Rattle.city_families.proofs.reach.reached.Goals as goal

pub search_on-requires-clause-found : goal.search_on-requires-clause-found
search_on-requires-clause-found c =
    let none : c.in_ok-found.found.items ≡ [] = search rules in
    let once = noted_once c.args.root c.args.marks.now c.note.new.marks c.in_ok-found.found.items c.note.new.found.items
    (omega (arith, c.requires.root, c.requires.marks)) c.requires.unmarked none c.in_ok-note.ensures.first in
    begun_with c.args.root c.args.root c.args.marks.now c.note.new.marks c.note.new.found.items once.0
    c.requires.unmarked

pub search_on-requires-clause-marks : goal.search_on-requires-clause-marks
search_on-requires-clause-marks c =
    let none : c.in_ok-found.found.items ≡ [] = search rules in
    let once = noted_once c.args.root c.args.marks.now c.note.new.marks c.in_ok-found.found.items c.note.new.found.items
    (omega (arith, c.requires.root, c.requires.marks)) c.requires.unmarked none c.in_ok-note.ensures.first in
    omega (arith, once.0.long, c.requires.marks)

pub returns-clause-ok : goal.returns-clause-ok
returns-clause-ok c =
    let none : c.in_ok-found.found.items ≡ [] = search rules in
    let once = noted_once c.args.root c.args.marks.now c.note.new.marks c.in_ok-found.found.items c.note.new.found.items
    (omega (arith, c.requires.root, c.requires.marks)) c.requires.unmarked none c.in_ok-note.ensures.first in
    λ k. reached_from_one c.args.graph.now c.note.new.found.items c.args.root k once.1 (c.in_ok-search_on.ensures.ok k)

pub returns-clause-marks : goal.returns-clause-marks
returns-clause-marks c =
    let none : c.in_ok-found.found.items ≡ [] = search rules in
    let once = noted_once c.args.root c.args.marks.now c.note.new.marks c.in_ok-found.found.items c.note.new.found.items
    (omega (arith, c.requires.root, c.requires.marks)) c.requires.unmarked none c.in_ok-note.ensures.first in
    λ k. reached_from_one c.args.graph.now c.note.new.found.items c.args.root k once.1
    (c.in_ok-search_on.ensures.marks k)

pub returns-clause-others : goal.returns-clause-others
returns-clause-others c =
    let none : c.in_ok-found.found.items ≡ [] = search rules in
    let once = noted_once c.args.root c.args.marks.now c.note.new.marks c.in_ok-found.found.items c.note.new.found.items
    (omega (arith, c.requires.root, c.requires.marks)) c.requires.unmarked none c.in_ok-note.ensures.first in
    kept_others c.args.root _ c.args.marks.now c.note.new.marks c.search_on.new.marks c.note.new.found.items once.0
    c.in_ok-search_on.ensures.others

pub returns-clause-long : goal.returns-clause-long
returns-clause-long c =
    let none : c.in_ok-found.found.items ≡ [] = search rules in
    let once = noted_once c.args.root c.args.marks.now c.note.new.marks c.in_ok-found.found.items c.note.new.found.items
    (omega (arith, c.requires.root, c.requires.marks)) c.requires.unmarked none c.in_ok-note.ensures.first in
    c.in_ok-search_on.ensures.long ∙ once.0.long
