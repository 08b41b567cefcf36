use Rattle.std.proofs.Common.{ap, ℤ, ◌+ℤ◌, to_z, of_z, w64, arith}
use Rattle.std.proofs.lemmas.Int.{ints}
use Rattle.std.specs.Option.{SomeIff}
use Rattle.byte_streams.specs.declared.fault.Fault.TheVariants.{VertexRange}
use Rattle.city_grid.specs.Axes.{Triple, IsInRange, sum}
use Rattle.city_grid.proofs.axes.Triples.{found_at, answered, answered_in_range, refused}
use Rattle.city_grid.proofs.vertices.moved.Goals as goal
use Rattle.city_grid.proofs.vertices.moved.Goals.{After-ok_or}

-- a number as the code passes it on
abbrev passed : ℤ → ℤ
passed z = to_z w64 (of_z w64 z)

abbrev x_of : Triple → ℤ
x_of steps = steps.x

abbrev y_of : Triple → ℤ
y_of steps = steps.y

abbrev z_of : Triple → ℤ
z_of steps = steps.z

given : (c : After-ok_or) → SomeIff c.new.result (IsInRange (sum c.args.vertex c.args.shift))
    (sum c.args.vertex c.args.shift)
given c =
    let from = c.steps-from.result in
    let by = c.steps-by.result in
    let of_vertex = c.steps-from.ensures in
    let of_shift = c.steps-by.ensures in
    found_at c.new.result (record {
      x = passed (passed from.x +ℤ passed by.x);
      y =
          passed (passed from.y +ℤ passed by.y);
      z = passed (passed from.z +ℤ passed by.z);
    })
    (sum c.args.vertex c.args.shift) c.new.ensures
    (omega (arith, ints, ap x_of of_vertex.value, ap x_of of_shift.value, of_vertex.range.0, of_shift.range.0))
    (omega (arith, ints, ap y_of of_vertex.value, ap y_of of_shift.value, of_vertex.range.1, of_shift.range.1))
    (omega (arith, ints, ap z_of of_vertex.value, ap z_of of_shift.value, of_vertex.range.2, of_shift.range.2))

pub returns-clause-ok : goal.returns-clause-ok
returns-clause-ok c = answered c.new.result (sum c.args.vertex c.args.shift)
    (given c) VertexRange c.ok_or.result c.ok_or.ensures.value

pub returns-clause-range : goal.returns-clause-range
returns-clause-range c = answered_in_range c.new.result (sum c.args.vertex c.args.shift)
    (given c) VertexRange c.ok_or.result c.ok_or.ensures.value

pub returns-clause-refusal : goal.returns-clause-refusal
returns-clause-refusal c = refused c.new.result (sum c.args.vertex c.args.shift)
    (given c) VertexRange c.ok_or.result c.ok_or.ensures.value
