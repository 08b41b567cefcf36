use Rattle.std.proofs.Common.{◌≡◌, ◌∙◌, ◌+◌, ap, sym, subst, refl, slice_range, to_z, of_z, w64, arith}
use Rattle.std.proofs.lemmas.Int.{ints}
use Rattle.city_grid.specs.Vertex.{IsInteger}
use Rattle.std.specs.Fmt.{signed_decimal}
use Rattle.city_grid.proofs.vertices.VertexTexts.{three_text, vertex_text}
use Rattle.city_grid.proofs.vertices.spelled.spelled_vertex_at.Goals as goal

pub returns-clause-spelled : goal.returns-clause-spelled
returns-clause-spelled c =
    let text = c.args.text.now in
    let opened = c.byte_is.ensures.0 c.if-not-byte_is.false in
    let first = c.byte_is-2.ensures.0 c.if-not-byte_is-2.false in
    let second = c.byte_is-3.ensures.0 c.if-not-byte_is-3.false in
    let closed = c.byte_is-4.ensures.0 c.if-not-byte_is-4.false in
    let x = c.in_ok-x.x in
    let y = c.in_ok-y.y in
    let z = c.in_ok-z.z in
    let is = c.in_ok-vertex.ensures.1 in
    let kept_x : to_z w64 (of_z w64 x.value) ≡ x.value = omega (arith, ints) in
    let kept_y : to_z w64 (of_z w64 y.value) ≡ y.value = omega (arith, ints) in
    let kept_z : to_z w64 (of_z w64 z.value) ≡ z.value = omega (arith, ints) in
    let xs = slice_range text (c.args.at + 1) x.end in
    let ys = slice_range text (x.end + 1) y.end in
    let zs = slice_range text (y.end + 1) z.end in (
      record { x = xs; y = ys; z = zs },
      three_text text xs ys zs c.args.at x.end y.end z.end
          opened.0 opened.1
          c.in_ok-x.ensures.onward refl first.0 first.1
          c.in_ok-y.ensures.onward refl second.0 second.1
          c.in_ok-z.ensures.onward refl closed.0 closed.1,
      (
        subst (IsInteger xs) (sym (ap (λ q. q.x) is ∙ kept_x)) c.in_ok-x.ensures.spelled,
        subst (IsInteger ys) (sym (ap (λ q. q.y) is ∙ kept_y)) c.in_ok-y.ensures.spelled,
        subst (IsInteger zs) (sym (ap (λ q. q.z) is ∙ kept_z)) c.in_ok-z.ensures.spelled,
      ),
    )

pub returns-clause-written : goal.returns-clause-written
returns-clause-written c as_written =
    let opened = c.byte_is.ensures.0 c.if-not-byte_is.false in
    let first = c.byte_is-2.ensures.0 c.if-not-byte_is-2.false in
    let second = c.byte_is-3.ensures.0 c.if-not-byte_is-3.false in
    let closed = c.byte_is-4.ensures.0 c.if-not-byte_is-4.false in
    let x = c.in_ok-x.x.value in
    let y = c.in_ok-y.y.value in
    let z = c.in_ok-z.z.value in
    let is = c.in_ok-vertex.ensures.1 in
    let kept_x : to_z w64 (of_z w64 x) ≡ x = omega (arith, ints) in
    let kept_y : to_z w64 (of_z w64 y) ≡ y = omega (arith, ints) in
    let kept_z : to_z w64 (of_z w64 z) ≡ z = omega (arith, ints) in
    let (written_x, written_y, written_z) = c.all_three.ensures as_written in
    vertex_text c.args.text.now c.args.at c.in_ok-x.x.end c.in_ok-y.y.end c.in_ok-z.z.end c.in_ok-vertex.vertex
    opened.0 opened.1
    c.in_ok-x.ensures.onward (c.in_ok-x.ensures.written written_x
    ∙ ap signed_decimal (sym (ap (λ q. q.x) is ∙ kept_x))) first.0 first.1
    c.in_ok-y.ensures.onward (c.in_ok-y.ensures.written written_y
    ∙ ap signed_decimal (sym (ap (λ q. q.y) is ∙ kept_y))) second.0 second.1
    c.in_ok-z.ensures.onward (c.in_ok-z.ensures.written written_z
    ∙ ap signed_decimal (sym (ap (λ q. q.z) is ∙ kept_z))) closed.0 closed.1
