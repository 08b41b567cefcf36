use Rattle.city_grid.specs.Axes.{triple}
use Rattle.city_grid.proofs.vertices.VertexTexts.{vertex_text}
use Rattle.city_grid.proofs.vertices.texts.vertex_end.Goals as goal

pub returns-clause-is : goal.returns-clause-is
returns-clause-is c =
    let opened = c.byte_is.ensures.0 c.if-not-byte_is.false in
    let first = c.byte_is-2.ensures.0 c.if-not-byte_is-2.false in
    let second = c.byte_is-3.ensures.0 c.if-not-byte_is-3.false in
    let closed = c.byte_is-4.ensures.0 c.if-not-byte_is-4.false in
    let (x, x_text, x_range) = c.in_ok-x.ensures.is in
    let (y, y_text, y_range) = c.in_ok-y.ensures.is in
    let (z, z_text, z_range) = c.in_ok-z.ensures.is in (
      triple x y z,
      vertex_text c.args.text.now c.args.at c.in_ok-x.x c.in_ok-y.y c.in_ok-z.z (triple x y z)
          opened.0 opened.1 c.in_ok-x.ensures.onward x_text first.0 first.1 c.in_ok-y.ensures.onward y_text second.0
          second.1 c.in_ok-z.ensures.onward z_text closed.0 closed.1,
      (x_range, y_range, z_range),
    )
