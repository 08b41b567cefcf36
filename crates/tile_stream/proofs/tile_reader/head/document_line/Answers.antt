use Rattle.std.proofs.Common.{inl, inr}
use Rattle.tile_stream.proofs.Heads.{true_is_false}
use Rattle.tile_stream.proofs.tile_reader.head.document_line.Goals as goal

pub returns-then-not-holds_city-clause-none : goal.returns-then-not-holds_city-clause-none
returns-then-not-holds_city-clause-none c = λ holds.
    true_is_false c.holds_city.result (c.holds_city.ensures.1 holds) c.if-not-holds_city.true

pub returns-in-Ok-clause-ok : goal.returns-in-Ok-clause-ok
returns-in-Ok-clause-ok c =
    let (cuttable, features, cut, texts) = c.in-Ok.ensures.ok in
    (features, inl (c.holds_city.ensures.0 c.if-not-holds_city.false, cuttable, cut), texts)

pub returns-in-Err-clause-refused : goal.returns-in-Err-clause-refused
returns-in-Err-clause-refused c =
    elim c.in-Err.ensures.refused [
      | inl memory ↦ inl memory
      | inr refused ↦ inr (inl (c.holds_city.ensures.0 c.if-not-holds_city.false, refused))
    ]
