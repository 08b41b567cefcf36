-- The number and the text of each fault.
use Rattle.std.specs.Prelude.{ℕ, List, codes}
use Rattle.byte_streams.specs.declared.fault.Fault.{Fault}
use Rattle.byte_streams.specs.declared.fault.Fault.TheVariants.{NoHeader, NotUtf8, Syntax, TooDeep, DuplicateName, NotCityJson, Version, NoTransform, Decimal, ScaleNotPositive, HeaderNotEmpty, ScaleDiffers, CrsDiffers, OffGrid, ShiftRange, ExtensionClash, TemplatesDiffer, NotAFeature, VertexShape, VertexNotInteger, VertexRange, LineTooLong, TileTooLong, Read, Write, Memory, NoThread, Handoff, TooManyTiles, ChildMissing, Orphan, BoundaryIndex}

abbrev pub number_of : Fault → ℕ
number_of NoHeader = 1
number_of NotUtf8 = 2
number_of Syntax = 3
number_of TooDeep = 4
number_of DuplicateName = 5
number_of NotCityJson = 6
number_of Version = 7
number_of NoTransform = 8
number_of Decimal = 9
number_of ScaleNotPositive = 10
number_of HeaderNotEmpty = 11
number_of ScaleDiffers = 12
number_of CrsDiffers = 13
number_of OffGrid = 14
number_of ShiftRange = 15
number_of ExtensionClash = 16
number_of TemplatesDiffer = 17
number_of NotAFeature = 18
number_of VertexShape = 19
number_of VertexNotInteger = 20
number_of VertexRange = 21
number_of LineTooLong = 22
number_of TileTooLong = 23
number_of Read = 24
number_of Write = 25
number_of Memory = 26
number_of NoThread = 27
number_of Handoff = 28
number_of TooManyTiles = 29
number_of ChildMissing = 30
number_of Orphan = 31
number_of BoundaryIndex = 32

abbrev pub text_of : Fault → List ℕ
text_of NoHeader = codes "the stream has no header line"
text_of NotUtf8 = codes "the line is not UTF-8"
text_of Syntax = codes "the line is not a JSON text"
text_of TooDeep = codes "the JSON text is nested too deeply"
text_of DuplicateName = codes "a name is repeated in an object"
text_of NotCityJson = codes "the object is not a CityJSON object"
text_of Version = codes "the version is not 2.0"
text_of NoTransform = codes "the transform is missing or malformed"
text_of Decimal = codes "a transform number is outside the profile"
text_of ScaleNotPositive = codes "a scale is not above zero"
text_of HeaderNotEmpty = codes "the header holds city objects or vertices"
text_of ScaleDiffers = codes "the scale differs from tile 1"
text_of CrsDiffers = codes "the reference system differs from tile 1"
text_of OffGrid = codes "the translation is off the grid"
text_of ShiftRange = codes "the shift is out of range"
text_of ExtensionClash = codes "an extension differs between tiles"
text_of TemplatesDiffer = codes "geometry templates differ between tiles"
text_of NotAFeature = codes "the line is not a CityJSONFeature"
text_of VertexShape = codes "a vertex is not three numbers"
text_of VertexNotInteger = codes "a vertex number is not written as a whole number"
text_of VertexRange = codes "a vertex number is out of range"
text_of LineTooLong = codes "the line is too long"
text_of TileTooLong = codes "the tile is too long"
text_of Read = codes "the tile could not be read"
text_of Write = codes "the output could not be written"
text_of Memory = codes "there is not enough memory"
text_of NoThread = codes "a thread could not be started"
text_of Handoff = codes "the hand-off could not be confirmed"
text_of TooManyTiles = codes "there are more than 64 tiles"
text_of ChildMissing = codes "a child is missing"
text_of Orphan = codes "a city object belongs to no feature"
text_of BoundaryIndex = codes "a boundary index is wrong"
