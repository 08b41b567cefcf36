-- The number of a fault tells the fault, and so an end note tells how a tile ended.
use Rattle.std.proofs.Common.{◌≡◌, ℕ, zero, suc, List, [], ◌∷◌, Option, Some, None, refl, sym, ap, ◌∙◌}
use Rattle.std.specs.Option.{option_map}
use Rattle.byte_streams.specs.Faults.{number_of}
use Rattle.byte_streams.specs.declared.fault.Fault.{Fault}
use Rattle.byte_streams.specs.declared.fault.Fault.TheVariants.{NoHeader, NotUtf8, Syntax, TooDeep, DuplicateName, NotCityJson, Version, NoTransform, Decimal, ScaleNotPositive, HeaderNotEmpty, ScaleDiffers, CrsDiffers, OffGrid, ShiftRange, ExtensionClash, TemplatesDiffer, NotAFeature, VertexShape, VertexNotInteger, VertexRange, LineTooLong, TileTooLong, Read, Write, Memory, NoThread, Handoff, TooManyTiles, ChildMissing, Orphan, BoundaryIndex}
use Rattle.tile_handoff.specs.declared.note.End.{End}
use Rattle.tile_merge.specs.EndNotes.{end_of, end_with, ended_so}
use Rattle.tile_stream.specs.Texts.{Outcome}
use Rattle.tile_merge.specs.declared.merging.ends.TileEnd.{TileEnd}

-- the item at a place, counted from 1
abbrev at_place : ℕ → List Fault → Option Fault
at_place n [] = None
at_place zero (fault ∷ faults) = None
at_place (suc zero) (fault ∷ faults) = Some fault
at_place (suc (suc n)) (fault ∷ faults) = at_place (suc n) faults

abbrev numbered : ℕ → Option Fault
numbered n = at_place n (NoHeader ∷ NotUtf8 ∷ Syntax ∷ TooDeep ∷ DuplicateName ∷ NotCityJson ∷ Version ∷ NoTransform
    ∷ Decimal ∷ ScaleNotPositive ∷ HeaderNotEmpty ∷ ScaleDiffers ∷ CrsDiffers ∷ OffGrid ∷ ShiftRange ∷ ExtensionClash
    ∷ TemplatesDiffer ∷ NotAFeature ∷ VertexShape ∷ VertexNotInteger ∷ VertexRange ∷ LineTooLong ∷ TileTooLong ∷ Read
    ∷ Write ∷ Memory ∷ NoThread ∷ Handoff ∷ TooManyTiles ∷ ChildMissing ∷ Orphan ∷ BoundaryIndex ∷ [])

told_by : (fault : Fault) → numbered (number_of fault) ≡ Some fault
told_by NoHeader = refl
told_by NotUtf8 = refl
told_by Syntax = refl
told_by TooDeep = refl
told_by DuplicateName = refl
told_by NotCityJson = refl
told_by Version = refl
told_by NoTransform = refl
told_by Decimal = refl
told_by ScaleNotPositive = refl
told_by HeaderNotEmpty = refl
told_by ScaleDiffers = refl
told_by CrsDiffers = refl
told_by OffGrid = refl
told_by ShiftRange = refl
told_by ExtensionClash = refl
told_by TemplatesDiffer = refl
told_by NotAFeature = refl
told_by VertexShape = refl
told_by VertexNotInteger = refl
told_by VertexRange = refl
told_by LineTooLong = refl
told_by TileTooLong = refl
told_by Read = refl
told_by Write = refl
told_by Memory = refl
told_by NoThread = refl
told_by Handoff = refl
told_by TooManyTiles = refl
told_by ChildMissing = refl
told_by Orphan = refl
told_by BoundaryIndex = refl

abbrev told_end : End → TileEnd
told_end end = ended_so end.count (option_map (λ fault. record { line = end.line; fault = fault })
    (numbered end.number))

tells_itself : (count : ℕ) (outcome : Outcome) → told_end (end_with count outcome) ≡ ended_so count outcome
tells_itself count None = refl
tells_itself count (Some at) = ap (λ fault.
    ended_so count (option_map (λ (f : Fault). record { line = at.line; fault = f }) fault)) (told_by at.fault)

pub end_tells : (a b : TileEnd) → end_of a ≡ end_of b → a ≡ b
end_tells a b same = sym (tells_itself a.count a.stop) ∙ ap told_end same ∙ tells_itself b.count b.stop
