-- Queues by their fields, and as contracts see them.
use Rattle.std.proofs.Common.{◌≡◌, ℕ, zero, suc, ◌<◌, List, [], ◌∷◌, length, map, replicate, set, get_or, sym, ◌∙◌, ap, subst, refl, arith}
use Rattle.std.proofs.lemmas.List.{map-set, get_or-map, length-map}
use Rattle.std.specs.Vec.{with_item}
use Rattle.tile_handoff.specs.declared.queues.Tile.{Tile}
use Rattle.tile_handoff.specs.declared.queues.Queues.TheInside.{Inside}
use Rattle.tile_handoff.specs.KeptQueues.{queue_in, queues_state}
use Rattle.tile_handoff.specs.Queues.{Queue, QueuesState, empty_queue, queue_of, with_queue}

within_inside :
    (inside : Inside) (queues : QueuesState) (t : ℕ) → queues_state inside ≡ queues
    → t < length queues.tiles → t < length inside.tiles.items
within_inside inside queues t view_is within =
    subst (λ n. t < n) (ap (λ x. length x.tiles) (sym view_is) ∙ length-map inside.tiles.items queue_in) within

-- where one tile changes as its queue does, so do the queues
pub change_seen :
    (change : Queue → Queue) (inside : Inside) (queues : QueuesState) (t : ℕ) (tile new : Tile)
    → queues_state inside ≡ queues → t < length queues.tiles → tile ≡ get_or inside.tiles.items t tile
    → queue_in new ≡ change (queue_in tile)
    → queues_state (record { capacity = inside.capacity; tiles = with_item inside.tiles t new })
    ≡ with_queue queues t (change (queue_of queues t))
change_seen change inside queues t tile new view_is within is changes =
    let seen : queue_in tile ≡ queue_of (queues_state inside) t =
    ap queue_in is ∙ sym (get_or-map queue_in inside.tiles.items t tile empty_queue
    (within_inside inside queues t view_is within)) in
    ap (λ x. record { capacity = inside.capacity; tiles = x })
    (map-set queue_in inside.tiles.items t new
    ∙ ap (λ x. set (map queue_in inside.tiles.items) t x) (changes ∙ ap change seen))
    ∙ ap (λ x. with_queue x t (change (queue_of x t))) view_is

-- tiles with no notes are seen as empty queues
pub map-empty :
    (tiles : List Tile) (n : ℕ) → length tiles ≡ n
    → ((t : ℕ) (default : Tile) → t < n → queue_in (get_or tiles t default) ≡ empty_queue)
    → map queue_in tiles ≡ replicate n empty_queue
map-empty [] zero made empty = refl
map-empty [] (suc n) made empty = absurd (omega arith)
map-empty (tile ∷ tiles) zero made empty = absurd (omega arith)
map-empty (tile ∷ tiles) (suc n) made empty =
    ap (λ x. x ∷ map queue_in tiles) (empty zero tile (omega arith))
    ∙ ap (λ x. empty_queue ∷ x) (map-empty tiles n (omega arith)
    (λ t default within. empty (suc t) default (omega arith)))
