use Rattle.std.proofs.Common.{◌∙◌, ℤ, subst, sym, to_z, of_z, w64, IfOk, IfErr, arith}
use Rattle.std.proofs.lemmas.Int.{ints}
use Rattle.std.specs.Option.{SomeIff}
use Rattle.city_json.specs.Tree.{tree}
use Rattle.city_grid.specs.Axes.{Each, Triple, Texts, IsInRange}
use Rattle.city_grid.specs.Vertex.{IsInteger, IsVertex, RefusesVertex}
use Rattle.city_grid.proofs.axes.Triples.{found_at}
use Rattle.city_grid.proofs.vertices.OneVertex.{vertex_of, vertex_refused, only_vertex}
use Rattle.city_grid.proofs.axes.ThreeNumbers.{same_texts}
use Rattle.city_grid.proofs.vertices.reader.vertex.Goals as goal
use Rattle.city_grid.proofs.vertices.reader.vertex.Goals.{After-ok_or}

-- a number as the code passes it on
abbrev passed : ℤ → ℤ
passed z = to_z w64 (of_z w64 z)

read : After-ok_or → Triple
read c = let r = c.in-Some-all_integers.read in record { x = r.x; y = r.y; z = r.z }

texts : After-ok_or → Texts
texts c = let n = c.in-Some.numbers in record { x = n.x.now; y = n.y.now; z = n.z.now }

given : (c : After-ok_or) → SomeIff c.new.result (IsInRange (read c)) (read c)
unfolding read
given c =
    let r = c.in-Some-all_integers.read in
    found_at c.new.result (record { x = passed r.x; y = passed r.y; z = passed r.z }) (read c) c.new.ensures
    (omega (arith, ints)) (omega (arith, ints)) (omega (arith, ints))

pub returns-clause-ok : goal.returns-clause-ok
unfolding read texts
returns-clause-ok c =
    let at = (goal.at.returns-clause-ok c).After-ok_or in
    let written = c.in-Some-all_integers.ensures.some in
    subst (λ answer. IfOk answer (IsVertex (tree c.args.value.now))) (sym c.ok_or.ensures.value)
    (vertex_of (tree c.args.value.now) (texts at)
    (read at) written.0 c.in-Some.ensures.some written.1 written.2 written.3 written.4 c.new.result (given at))

pub returns-clause-refusal : goal.returns-clause-refusal
unfolding read texts
returns-clause-refusal c =
    let at = (goal.at.returns-clause-refusal c).After-ok_or in
    let written = c.in-Some-all_integers.ensures.some in
    subst (λ answer. IfErr answer (λ fault. RefusesVertex fault (tree c.args.value.now))) (sym c.ok_or.ensures.value)
    (vertex_refused (tree c.args.value.now) (texts at)
    (read at) written.0 c.in-Some.ensures.some written.1 written.2 written.3 written.4 c.new.result (given at))

pub returns-clause-only : goal.returns-clause-only
unfolding read texts
returns-clause-only c = λ p other range.
    let at = (goal.at.returns-clause-only c).After-ok_or in
    let written = c.in-Some-all_integers.ensures.some in
    c.ok_or.ensures.value ∙ only_vertex (tree c.args.value.now) (texts at)
    (read at) written.0 c.in-Some.ensures.some written.1 written.2 written.3 written.4 c.new.result
    (given at) p other range

pub returns-in_default-all_integers-clause-only : goal.returns-in_default-all_integers-clause-only
returns-in_default-all_integers-clause-only c = λ p other range.
    let same = same_texts other.0 _ (sym other.1 ∙ c.in-Some.ensures.some) in
    absurd (c.in_default-all_integers.ensures.none p (subst (λ texts. Each IsInteger texts p) same other.2))
