-- A tile may move to a thread of its own, with all that it holds, where its reader may.
use denote.RattleType.{RattleType}
use denote.Param.Send.{IsSend, recorded_send, struct_send, view_send}
use denote.Struct.Declared.{shape}
use denote.Struct.Struct.{Struct}
use Rattle.city_grid.proofs.shifts.Shift.TheSendSync as shift
use Rattle.city_json.proofs.compacting.workspace.Workspace.TheSendSync as workspace
use Rattle.city_feature.proofs.choices.Choice.TheSendSync as choice
use Rattle.tile_merge.proofs.merging.ends.TileEnd.TheSendSync as begun
use Rattle.tile_merge.specs.contracts.merging.threaded.feeder.FedTile as fed_tile
use Rattle.tile_merge.specs.contracts.merging.threaded.feeder.FedTile.TheInside as fed_inside
use Rattle.tile_stream.specs.contracts.tile_reader.TileReader as reader_type
use Rattle.tile_stream.specs.contracts.tile_reader.TileReader.TheInside as reader_inside
use Rattle.tile_stream.proofs.tile_reader.held.Held.TheSendSync as held
use Rattle.tile_stream.proofs.lines.Lines.TheSendSync as lines

module _ (R : RattleType) (reader : IsSend R) where
  reader_inside_send : IsSend (reader_inside.the_row R)
  reader_inside_send =
      let T = reader_inside.the_type R in
      let fields = struct_send (shape T) (lines.the_send R reader, (held.the_field_send, (workspace.the_field_send, tt))) in
      recorded_send (Struct (shape T)) T.D T.to T.to_one fields

  reader_send : IsSend (reader_type.the_row R)
  reader_send = view_send (reader_inside.the_row R) _ _ _ _ reader_inside_send

  fed_inside_send : IsSend (fed_inside.the_row R)
  fed_inside_send =
      let T = fed_inside.the_type R in
      let fields = struct_send (shape T) (reader_send, (shift.the_send, (choice.the_field_send, (begun.the_field_send, tt)))) in
      recorded_send (Struct (shape T)) T.D T.to T.to_one fields

  pub fed_tile_send : IsSend (fed_tile.the_row R)
  fed_tile_send = view_send (fed_inside.the_row R) _ _ _ _ fed_inside_send
