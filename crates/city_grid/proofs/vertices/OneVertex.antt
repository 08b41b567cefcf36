-- A value is one vertex at most, which is answered where it is in range, and else refused.
use Rattle.std.proofs.Common.{◌≡◌, ◌∙◌, ap, sym, subst, Option, Some, None, Ok, IfOk, IfErr}
use Rattle.std.specs.Option.{SomeIff, ok_or}
use Rattle.byte_streams.specs.declared.fault.Fault.TheVariants.{VertexRange}
use Rattle.city_json.specs.Tree.{Tree}
use Rattle.city_grid.specs.Axes.{Triple, IsInRange, Texts, three, Each}
use Rattle.city_grid.specs.Vertex.{IsInteger, IsSameOrLarge, IsVertex, RefusesVertex}
use Rattle.city_grid.proofs.axes.ThreeNumbers.{same_texts}
use Rattle.city_grid.proofs.vertices.IntegerTexts.{same_in_range, range_of_read}
use Rattle.city_grid.proofs.axes.Triples.{same_triple}

-- a value is one vertex at most
pub one_vertex : (value : Tree) (p q : Triple) → IsVertex value p → IsVertex value q → p ≡ q
one_vertex value p q first second =
    let same = same_texts first.0 second.0 (sym first.1 ∙ second.1) in
    let moved = subst (λ texts. Each IsInteger texts p) same first.2 in
    same_triple p q (moved.0.3 ∙ sym second.2.0.3) (moved.1.3 ∙ sym second.2.1.3) (moved.2.3 ∙ sym second.2.2.3)

-- three integers as they were read, which a vertex is made of where they are in range
module _ (value : Tree) (texts : Texts) (read written : Triple) (shape : value ≡ three texts)
    (integers : Each IsInteger texts written) (x : IsSameOrLarge written.x read.x) (y : IsSameOrLarge written.y read.y)
    (z : IsSameOrLarge written.z read.z) where
  same_as_written : IsInRange read → read ≡ written
  same_as_written range = same_triple read written (same_in_range written.x read.x x range.0)
      (same_in_range written.y read.y y range.1) (same_in_range written.z read.z z range.2)

  range_of_written : IsInRange written → IsInRange read
  range_of_written range = (
    range_of_read written.x read.x x range.0,
    range_of_read written.y read.y y range.1,
    range_of_read written.z read.z z range.2,
  )

  pub vertex_of : (found : Option Triple) → SomeIff found (IsInRange read) read
      → IfOk (ok_or found VertexRange) (IsVertex value)
  vertex_of None given = tt
  vertex_of (Some v) given = (
    texts,
    shape,
    subst (Each IsInteger texts) (sym (given.1 ∙ same_as_written given.0)) integers,
  )

  pub vertex_refused : (found : Option Triple) → SomeIff found (IsInRange read) read
      → IfErr (ok_or found VertexRange) (λ fault. RefusesVertex fault value)
  vertex_refused None given = (written, (texts, shape, integers), λ range. given (range_of_written range))
  vertex_refused (Some v) given = tt

  pub only_vertex : (found : Option Triple) → SomeIff found (IsInRange read) read → (p : Triple) → IsVertex value p
      → IsInRange p → ok_or found VertexRange ≡ Ok p
  only_vertex None given p other range =
      absurd (given (range_of_written
      (subst IsInRange (one_vertex value p written other (texts, shape, integers)) range)))
  only_vertex (Some v) given p other range =
      ap Ok (given.1 ∙ same_as_written given.0 ∙ sym (one_vertex value p written other (texts, shape, integers)))
