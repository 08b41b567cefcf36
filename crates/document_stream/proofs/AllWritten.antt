-- A stream of which some first bytes were written.
use Rattle.std.proofs.Common.{◌≡◌, ℕ, Bool, List, Option, refl, sym, subst, take}
use Rattle.std.specs.Io.KnownBytes.{Appends}
use Rattle.byte_streams.specs.declared.fault.Fault.TheVariants.{Write}
use Rattle.document_stream.specs.CutStream.{IsRefusedDocument, IsStreamOf, WroteCut}
use Rattle.document_stream.specs.Input.{SomeInput}
use Rattle.tile_stream.specs.Tile.{tile_of}

module _ (gives : List ℕ → Bool → Type 0) (count : ℕ) (bytes : List ℕ)
    (given : SomeInput gives (λ input. IsStreamOf input count bytes)) (old new : Option (List ℕ)) where
  pub some_written : (first : ℕ) → Appends old new (take first bytes) → IsRefusedDocument gives Write 0 0 old new
  some_written first written = (refl, refl, (given.0, given.1, given.2, (count, bytes, given.3, first, written)))

  pub all_written : (written : ℕ) → written ≡ count → Appends old new bytes
      → SomeInput gives (λ input. WroteCut input written old new)
  all_written written same wrote = (
    given.0,
    given.1,
    given.2,
    (bytes, subst (λ n. IsStreamOf (tile_of given.0 given.1) n bytes) (sym same) given.3, wrote),
  )
