-- The search for this one runs out of steps, so what the closure takes with it is gone through by hand.
use denote.Exit.{yes}
use denote.RattleType.{RattleType}
use denote.Param.{copied, param}
use denote.Param.Send.{AllSend, IsSend, arg_send, param_send, recorded_send, struct_send}
use denote.Struct.Declared.{shape}
use denote.Struct.Struct.{Struct}
use denote.Struct.Tuple.{type_at}
use Rattle.std.specs.Prelude.{ℕ, List, [], ◌∷◌, codes}
use Rattle.std.proofs.Crossing as crossing
use Rattle.std.specs.contracts.alloc.Global as heap
use Rattle.tile_handoff.specs.contracts.ring.sender.Sender as sender_type
use Rattle.tile_handoff.proofs.ring.sender.Sender.TheSendSync as sender
use Rattle.tile_merge.specs.contracts.merging.threaded.feeder.FedTile as fed_tile
use Rattle.tile_merge.specs.contracts.merging.threaded.feeder.Links as links_type
use Rattle.tile_merge.proofs.Sending.{fed_tile_send}
use Rattle.tile_merge.proofs.merging.threaded.feeder.Links.TheSendSync as links
use Rattle.tile_merge.proofs.merging.threaded.running.start_with.Goals as goal

-- the closure of the thread, and what it takes with it
abbrev closure : List ℕ
closure = codes "tile_merge::merging::threaded::running::fn::start_with::spawn_with+Self"

abbrev taken : RattleType → RattleType → List RattleType
taken H R = fed_tile.the_row (param 1 R) ∷ copied 0 H ∷ heap.the_row ∷ sender_type.the_row ∷ links_type.the_row ∷ []

pub spawn_with-requires-send-F : goal.spawn_with-requires-send-F
spawn_with-requires-send-F g c κs within =
    let rt = c.type_bounds.send-H in
    let tile = fed_tile_send (param 1 g.row.R) c.type_bounds.send-R in
    let handle : IsSend (copied 0 g.row.H) = record { owned = rt.owned; leaving = λ k x w. tt } in
    let all : AllSend (taken g.row.H g.row.R) =
    (tile, (handle, (crossing.send, (sender.the_send, (links.the_send, tt))))) in
    let T = type_at closure (taken g.row.H g.row.R) in
    let fields = recorded_send (Struct (shape T)) T.D T.to T.to_one (struct_send (shape T) all) in
    param_send 2 _ (arg_send _ yes _ fields)
