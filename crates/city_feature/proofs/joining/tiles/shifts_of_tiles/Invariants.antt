use Rattle.std.proofs.Common.{◌≡◌, ◌+◌, ◌++◌, ℕ, List, drop, map}
use Rattle.byte_streams.specs.declared.fault.Fault.{Fault}
use Rattle.city_grid.specs.Axes.{Triple}
use Rattle.city_feature.specs.Joined.{AllAgree, IsFirstMisfit, all_extensions}
use Rattle.city_feature.specs.Values.{header_value, lent_members}
use Rattle.city_feature.proofs.joining.tiles.shifts_of_tiles.Given as goal

-- whatever holds of the tiles from here on, with what is known now, holds of all with what was known
abbrev pub invariant-loop-header : goal.invariant-loop-header
invariant-loop-header l =
    let first = header_value l.first in
    let now = lent_members l.extensions in
    let old = lent_members l.fn.extensions in
    let rest = map header_value (drop l.header-index l.headers) in
    let all = map header_value l.headers in
    record {
      agree : (ks : List Triple) → AllAgree first l.base now rest ks
          → AllAgree first l.base old all (l.shifts.items ++ ks);
      misfit : (tile : ℕ) (fault : Fault) → IsFirstMisfit first l.base now (l.tile + 1) rest tile fault
          → IsFirstMisfit first l.base old 1 all tile fault;
      extensions : all_extensions now rest ≡ all_extensions old all;
      count : l.tile ≡ l.header-index;
    }
