-- The ends of tiles, one after another.
use Rattle.std.proofs.Common.{◌≡◌, ◌≤◌, ◌<◌, le_refl, ◌+◌, ◌++◌, ℕ, All, List, [], ◌∷◌, Option, Some, None, length, take, get_or, filter_map, option_to_list, refl, sym, ap, subst, ◌∙◌, arith}
use Rattle.std.proofs.Math.Seq.{get_or-append_seam}
use Rattle.std.proofs.lemmas.List.Elements.{filter_map-append}
use Rattle.tile_merge.specs.declared.merging.ends.TileEnd.{TileEnd}
use Rattle.std.specs.List.{AllZip, cons_option}
use Rattle.tile_stream.proofs.GoneThrough.{is_longer}
use Rattle.tile_merge.proofs.Threes.{take_next}

-- what holds of all items holds of one after a front
pub all_at : {X : Type 0} (P : X → Type 0) (all front : List X) (x : X) (after : List X) → all ≡ front ++ x ∷ after
    → All P all → P x
all_at P all front x after whole holds =
    let found : get_or all (length front) x ≡ x =
    ap (λ xs. get_or xs (length front) x) whole ∙ get_or-append_seam front x after x in
    subst P found (holds (length front) x (is_longer all front x after whole))

module _ {X : Type 0} (last_of : X → Option TileEnd) where
  only_end : (item : X) (last : Option TileEnd) → last_of item ≡ last
      → filter_map last_of (item ∷ []) ≡ option_to_list last
  only_end item None is = rw is refl
  only_end item (Some end) is = rw is refl

  -- one end note more
  pub ends_more : (items : List X) (n : ℕ) (item : X) (last : Option TileEnd) → n < length items
      → item ≡ get_or items n item → last ≡ last_of item
      → filter_map last_of (take (n + 1) items) ≡ filter_map last_of (take n items) ++ option_to_list last
  ends_more items n item last within is_item is_last =
      ap (filter_map last_of) (take_next items n item within)
      ∙ filter_map-append last_of (take n items) (get_or items n item ∷ [])
      ∙ ap (λ xs. filter_map last_of (take n items) ++ xs)
      (only_end (get_or items n item) last (ap last_of (sym is_item) ∙ sym is_last))

  -- there are no more ends than tiles
  pub ends_few : (items : List X) → length (filter_map last_of items) ≤ length items
  ends_few [] = le_refl _
  ends_few (item ∷ items) = more (last_of item) (ends_few items)
    where
      more : (last : Option TileEnd) → length (filter_map last_of items) ≤ length items
          → length (cons_option last (filter_map last_of items)) ≤ length (item ∷ items)
      more None few = omega (arith, few)
      more (Some end) few = omega (arith, few)

  -- tiles that all are over have these ends
  pub all_ended : (items : List X) (ended : List TileEnd)
      → AllZip (λ (item : X) (end : TileEnd). last_of item ≡ Some end) items ended → filter_map last_of items ≡ ended
  all_ended [] [] all = refl
  all_ended [] (end ∷ ended) all = absurd all
  all_ended (item ∷ items) [] all = absurd all
  all_ended (item ∷ items) (end ∷ ended) all = rw all.0 (ap (λ ends. end ∷ ends) (all_ended items ended all.1))
