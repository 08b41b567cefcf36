use Rattle.std.proofs.Common.{◌≡◌, ◌≤◌, ◌+◌, ◌-◌, ℕ, List, length, take, drop, slice_range, sym, ap, subst, ◌∙◌, arith, length-take}
use Rattle.std.proofs.lemmas.List.{drop-take, drop-drop}
use Rattle.tile_stream.specs.Whole.{EndsTexts}
use Rattle.tile_stream.proofs.StandingLines.{ends_later}
use Rattle.tile_stream.proofs.lines.read_ahead.ReadAhead.skip.Goals as goal

later : (bytes : List ℕ) (at count filled : ℕ) → count ≤ length (slice_range bytes at filled)
    → slice_range bytes (at + count) filled ≡ drop count (slice_range bytes at filled)
later bytes at count filled within =
    let room : filled - at ≡ count + (filled - (at + count)) =
    omega (arith, length-take (filled - at) (drop at bytes), within) in
    sym (ap (λ n. drop count (take n (drop at bytes))) room ∙ drop-take count (filled - (at + count)) (drop at bytes)
    ∙ ap (λ xs. take (filled - (at + count)) xs) (drop-drop count at bytes))

pub invariant_of-self : goal.invariant_of-self
invariant_of-self g c =
    let s = c.self.inside in
    let count = c.args.count in
    let within = rw (← c.self.view_is) at c.requires in
    let held = slice_range s.piece.items s.at s.filled in
    let beyond : s.texts - s.at - count ≡ s.texts - (s.at + count) = omega arith in (
      omega (arith, within, length-take (s.filled - s.at) (drop s.at s.piece.items)),
      c.self.invariant.1,
      rw (later s.piece.items s.at count s.filled within) (subst (λ n. EndsTexts (drop count held) n) beyond
          (ends_later held (s.texts - s.at) count c.self.invariant.2)),
    )

pub returns : goal.returns
returns g c =
    let within = rw (← c.self.view_is) at c.requires in
    rw (← c.self.view_is) (c.shrink.ensures ∙ ap (λ held. record { reader = c.self.inside.reader; held = held })
    (later c.self.inside.piece.items c.self.inside.at c.args.count c.self.inside.filled within))
