-- A row by its fields, and as contracts see it.
use Rattle.std.proofs.Common.{◌^◌, ◌&&◌, ◌||◌, ◌⊎◌, inl, inr, cond, add-zero, length-append, length-drop, ◌≡◌, ℕ, zero, suc, replicate, ◌+◌, ◌<◌, Bool, true, false, eqb, List, [], ◌∷◌, ◌++◌, length, map, drop, set, get_or, sym, ◌∙◌, ap, subst, refl, arith}
use Rattle.std.proofs.lemmas.List.{map-set, get_or-map, length-map, length-set, get_or-set_same, get_or-set_other}
use Rattle.std.proofs.lemmas.List.Folds.{list_any-append}
use Rattle.std.proofs.lemmas.List.Sums.{sum_by_push}
use Rattle.std.proofs.Math.Bool.{or-false, or-true}
use Rattle.std.proofs.lemmas.Bool.{eqb-true, eqb-false, eq-eqb, ne_eqb, cases_eq}
use Rattle.std.specs.Vec.{with_item}
use Rattle.tile_handoff.specs.declared.note.Note.{Note}
use Rattle.tile_handoff.specs.declared.note.Note.TheVariants.{Line, End}
use Rattle.tile_handoff.specs.declared.mark.Mark.{Mark}
use Rattle.tile_handoff.specs.declared.mark.Kind.TheVariants.{Take as TakeKind}
use Rattle.tile_handoff.specs.declared.row.Row.TheInside.{Inside}
use Rattle.tile_handoff.specs.Kept.{state_of, IsKept, IsWellKept}
use Rattle.tile_handoff.specs.Queues.{Queue, empty_queue, queue_of, longer, shorter, with_queue}
use Rattle.tile_handoff.specs.Row.{RowState, is_close, is_take, left_of, closed_in, taken_in, kind_of, with_note, without_first, IsClosed, IsFull, HasRoom}

-- what a tile's queue and count say of the row
module _ (inside : Inside) (row : RowState) (t : ℕ) (view_is : state_of inside ≡ row) (kept : IsWellKept inside)
    (within : t < length row.left) where
  pub within_queues : t < length inside.queues.tiles
  within_queues = subst (λ n. t < n) (ap (λ x. length x.left) (sym view_is)
      ∙ length-map inside.queues.tiles (λ queue. queue.left)) within

  here : (n : ℕ) → IsKept inside.queues.capacity inside.marks t (queue_of inside.queues t)
      (get_or inside.taken.items t n)
  here n = kept.tiles t n (subst (λ n. t < n) (sym kept.counts) within_queues)

  pub left_is : (queue_of inside.queues t).left ≡ left_of row t
  left_is = sym (get_or-map (λ queue. queue.left) inside.queues.tiles t empty_queue [] within_queues)
      ∙ ap (λ x. left_of x t) view_is

  pub closed_is : (queue_of inside.queues t).closed ≡ closed_in row.marks t
  closed_is = (here 0).closed ∙ ap (λ x. closed_in x.marks t) view_is

  pub count_is : (n : ℕ) → n ≡ get_or inside.taken.items t n → n ≡ taken_in row.marks t
  count_is n is = is ∙ (here n).count ∙ ap (λ x. taken_in x.marks t) view_is

  pub seen_closed : (queue_of inside.queues t).closed ≡ true → IsClosed row t
  seen_closed closed = sym closed_is ∙ closed

  pub seen_full :
      (queue_of inside.queues t).closed ≡ false
      → true ≡ eqb (length (queue_of inside.queues t).left) inside.queues.capacity → IsFull row t
  seen_full open_ full = (
    sym closed_is ∙ open_,
    ap length (sym left_is) ∙ eqb-true _ _ (sym full) ∙ ap (λ x. x.capacity) view_is,
  )

  pub queue_room :
      false ≡ eqb (length (queue_of inside.queues t).left) inside.queues.capacity
      → length (queue_of inside.queues t).left < inside.queues.capacity
  queue_room full =
      let differ : length (queue_of inside.queues t).left ≡ inside.queues.capacity → ⊥ = eqb-false _ _ (sym full) in
      omega (arith, (here 0).fits, differ)

  pub seen_room :
      (queue_of inside.queues t).closed ≡ false
      → false ≡ eqb (length (queue_of inside.queues t).left) inside.queues.capacity → HasRoom row t
  seen_room open_ full = (
    sym closed_is ∙ open_,
    omega (arith, queue_room full, ap length left_is, ap (λ x. x.capacity) view_is),
  )

-- the row after the queue of one tile and the marks were changed
change_is :
    (inside new : Inside) (row : RowState) (t : ℕ) (queue : Queue) (notes : List Note) (mark : Mark)
    → state_of inside ≡ row → new.queues ≡ with_queue inside.queues t queue → queue.left ≡ notes
    → new.marks ≡ inside.marks ++ mark ∷ []
    → state_of new ≡ record { capacity = row.capacity; marks = row.marks ++ mark ∷ []; left = set row.left t notes }
change_is inside new row t queue notes mark view_is queues left marked =
    ap (λ x. record { capacity = x.capacity; marks = new.marks; left = map (λ queue. queue.left) x.tiles }) queues
    ∙ ap (λ x. record {
      capacity = inside.queues.capacity;
      marks = x;
      left =
          map (λ queue. queue.left) (set inside.queues.tiles t queue);
    }) marked
    ∙ ap (λ x. record { capacity = inside.queues.capacity; marks = inside.marks ++ mark ∷ []; left = x })
    (map-set _ inside.queues.tiles t queue ∙ ap (λ x. set (map (λ queue. queue.left) inside.queues.tiles) t x) left)
    ∙ ap (λ x. record { capacity = x.capacity; marks = x.marks ++ mark ∷ []; left = set x.left t notes }) view_is

longer_left : (queue : Queue) (note : Note) → (longer queue note).left ≡ queue.left ++ note ∷ []
longer_left queue (Line line) = refl
longer_left queue (End end) = refl

pub with_note_is :
    (inside new : Inside) (row : RowState) (t : ℕ) (note : Note) (number : ℕ) → state_of inside ≡ row
    → (queue_of inside.queues t).left ≡ left_of row t
    → new.queues ≡ with_queue inside.queues t (longer (queue_of inside.queues t) note)
    → number ≡ taken_in row.marks t + length (left_of row t)
    → new.marks ≡ inside.marks ++ record { tile = t; kind = kind_of note; number = number } ∷ []
    → state_of new ≡ with_note row t note
with_note_is inside new row t note number view_is left queues numbered marked =
    change_is inside new row t _ (left_of row t ++ note ∷ [])
    (record { tile = t; kind = kind_of note; number = number }) view_is queues
    (longer_left (queue_of inside.queues t) note ∙ ap (λ x. x ++ note ∷ []) left) marked
    ∙ ap (λ n. record {
      capacity = row.capacity;
      marks =
          row.marks ++ record { tile = t; kind = kind_of note; number = n } ∷ [];
      left =
          set row.left t (left_of row t ++ note ∷ []);
    }) numbered

pub without_first_is :
    (inside new : Inside) (row : RowState) (t number : ℕ) → state_of inside ≡ row
    → (queue_of inside.queues t).left ≡ left_of row t
    → new.queues ≡ with_queue inside.queues t (shorter (queue_of inside.queues t))
    → number ≡ taken_in row.marks t
    → new.marks ≡ inside.marks ++ record { tile = t; kind = TakeKind; number = number } ∷ []
    → state_of new ≡ without_first row t
without_first_is inside new row t number view_is left queues numbered marked =
    change_is inside new row t _ (drop 1 (left_of row t)) (record { tile = t; kind = TakeKind; number = number })
    view_is queues (ap (drop 1) left) marked
    ∙ ap (λ n. record {
      capacity = row.capacity;
      marks =
          row.marks ++ record { tile = t; kind = TakeKind; number = n } ∷ [];
      left =
          set row.left t (drop 1 (left_of row t));
    }) numbered

-- empty queues are seen as empty lists
pub map-empty : (n : ℕ) → map (λ queue. queue.left) (replicate n empty_queue) ≡ replicate n []
map-empty zero = refl
map-empty (suc n) = ap (λ x. [] ∷ x) (map-empty n)

-- a mark of another tile, or none that counts, changes neither flag nor count
other_mark : (b : Bool) (t u : ℕ) → (t ≡ u → ⊥) → (b && eqb t u) ≡ false
other_mark true t u other = ne_eqb t u other
other_mark false t u other = refl

-- where one tile's queue and count and the marks change, the other tiles are kept as before
kept_by_change :
    (inside new : Inside) (t : ℕ) (queue : Queue) (mark : Mark) → IsWellKept inside
    → t < length inside.queues.tiles → new.queues ≡ with_queue inside.queues t queue
    → length new.taken.items ≡ length inside.taken.items
    → ((u default : ℕ) → (u ≡ t → ⊥) → get_or new.taken.items u default ≡ get_or inside.taken.items u default)
    → mark.tile ≡ t → new.marks ≡ inside.marks ++ mark ∷ [] → length new.marks < 2 ^ 64
    → ((default : ℕ) → IsKept inside.queues.capacity new.marks t queue (get_or new.taken.items t default))
    → IsWellKept new
kept_by_change inside new t queue mark kept within queues counts others own marked few here =
    record {
      counts = counts ∙ kept.counts ∙ sym (ap (λ x. length x.tiles) queues ∙ length-set inside.queues.tiles t queue);
      tiles = λ u default inner. subst (λ x. IsKept x.capacity new.marks u (queue_of x u)
          (get_or new.taken.items u default)) (sym queues)
          (each u default (subst (λ n. u < n) counts inner) (cases_eq u t));
      few = few;
    }
  where
    each :
        (u default : ℕ) → u < length inside.taken.items → (u ≡ t) ⊎ (u ≡ t → ⊥)
        → IsKept inside.queues.capacity new.marks u (get_or (set inside.queues.tiles t queue) u empty_queue)
        (get_or new.taken.items u default)
    each u default inner (inl same) =
        subst (λ x. IsKept inside.queues.capacity new.marks x (get_or (set inside.queues.tiles t queue) x empty_queue)
        (get_or new.taken.items x default)) (sym same)
        (subst (λ x. IsKept inside.queues.capacity new.marks t x (get_or new.taken.items t default))
        (sym (get_or-set_same inside.queues.tiles t queue empty_queue within)) (here default))
    each u default inner (inr other) =
        let was : IsKept inside.queues.capacity inside.marks u (queue_of inside.queues u)
        (get_or inside.taken.items u default) = kept.tiles u default inner in
        let differs : u ≡ mark.tile → ⊥ = λ e. other (e ∙ own) in
        subst (λ x. IsKept inside.queues.capacity new.marks u x (get_or new.taken.items u default))
        (sym (get_or-set_other inside.queues.tiles t u queue empty_queue other))
        (subst (IsKept inside.queues.capacity new.marks u (queue_of inside.queues u)) (sym (others u default other))
        (record {
          fits = was.fits;
          closed = was.closed ∙ sym (ap (λ x. closed_in x u) marked ∙ list_any-append _ inside.marks (mark ∷ [])
              ∙ ap (λ b. closed_in inside.marks u || (b || false)) (other_mark (is_close mark.kind) u mark.tile differs)
              ∙ or-false (closed_in inside.marks u));
          count = was.count ∙ sym (ap (λ x. taken_in x u) marked ∙ sum_by_push _ inside.marks mark
              ∙ ap (λ b. taken_in inside.marks u + cond b 1 0) (other_mark (is_take mark.kind) u mark.tile differs)
              ∙ add-zero (taken_in inside.marks u));
          within = omega (arith, was.within, ap length marked, length-append inside.marks (mark ∷ []));
        }))

-- a tile that took a note in is kept, with the note's mark
pub kept_by_note :
    (inside new : Inside) (t number : ℕ) (note : Note) → IsWellKept inside → t < length inside.queues.tiles
    → length (queue_of inside.queues t).left < inside.queues.capacity
    → new.queues ≡ with_queue inside.queues t (longer (queue_of inside.queues t) note)
    → new.taken ≡ inside.taken
    → new.marks ≡ inside.marks ++ record { tile = t; kind = kind_of note; number = number } ∷ []
    → length new.marks < 2 ^ 64 → IsWellKept new
kept_by_note inside new t number note kept within room queues same marked few =
    kept_by_change inside new t _ _ kept within queues (ap (λ x. length x.items) same)
    (λ u default other. ap (λ x. get_or x.items u default) same) refl marked few
    (λ default. subst (λ x. IsKept inside.queues.capacity x t (longer (queue_of inside.queues t) note)
    (get_or new.taken.items t default)) (sym marked)
    (subst (IsKept inside.queues.capacity _ t (longer (queue_of inside.queues t) note))
    (sym (ap (λ x. get_or x.items t default) same))
    (longer_kept note (kept.tiles t default (subst (λ n. t < n) (sym kept.counts) within)))))
  where
    longer_kept :
        (note : Note) → {count : ℕ} → IsKept inside.queues.capacity inside.marks t (queue_of inside.queues t) count
        → IsKept inside.queues.capacity (inside.marks ++ record { tile = t; kind = kind_of note; number = number } ∷ [])
        t (longer (queue_of inside.queues t) note) count
    longer_kept (Line line) was =
        record {
          fits = omega (arith, room, length-append (queue_of inside.queues t).left (Line line ∷ []));
          closed = was.closed ∙ sym (list_any-append _ inside.marks _ ∙ or-false (closed_in inside.marks t));
          count = was.count ∙ sym (sum_by_push _ inside.marks _ ∙ add-zero (taken_in inside.marks t));
          within = omega (
            arith,
            was.within,
            length-append (queue_of inside.queues t).left (Line line ∷ []),
            length-append inside.marks (record { tile = t; kind = kind_of (Line line); number = number } ∷ []),
          );
        }
    longer_kept (End end) was =
        record {
          fits = omega (arith, room, length-append (queue_of inside.queues t).left (End end ∷ []));
          closed = sym (list_any-append _ inside.marks _
              ∙ ap (λ b. closed_in inside.marks t || (b || false)) (eq-eqb t t refl)
              ∙ or-true (closed_in inside.marks t));
          count = was.count ∙ sym (sum_by_push _ inside.marks _ ∙ add-zero (taken_in inside.marks t));
          within = omega (
            arith,
            was.within,
            length-append (queue_of inside.queues t).left (End end ∷ []),
            length-append inside.marks (record { tile = t; kind = kind_of (End end); number = number } ∷ []),
          );
        }

-- a tile that gave its first note is kept, with the take's mark
pub kept_by_take :
    (inside new : Inside) (t number count : ℕ) → IsWellKept inside → t < length inside.queues.tiles
    → 0 < length (queue_of inside.queues t).left
    → new.queues ≡ with_queue inside.queues t (shorter (queue_of inside.queues t))
    → count ≡ get_or inside.taken.items t count → new.taken ≡ with_item inside.taken t (count + 1)
    → new.marks ≡ inside.marks ++ record { tile = t; kind = TakeKind; number = number } ∷ []
    → length new.marks < 2 ^ 64 → IsWellKept new
kept_by_take inside new t number count kept within some queues counted grown marked few =
    kept_by_change inside new t _ _ kept within queues
    (ap (λ x. length x.items) grown ∙ length-set inside.taken.items t (count + 1))
    (λ u default other. ap (λ x. get_or x.items u default) grown
    ∙ get_or-set_other inside.taken.items t u (count + 1) default other) refl marked few
    (λ default. subst (IsKept inside.queues.capacity new.marks t (shorter (queue_of inside.queues t)))
    (sym (ap (λ x. get_or x.items t default) grown
    ∙ get_or-set_same inside.taken.items t (count + 1) default inner)) shorter_kept)
  where
    inner : t < length inside.taken.items
    inner = subst (λ n. t < n) (sym kept.counts) within

    was : IsKept inside.queues.capacity inside.marks t (queue_of inside.queues t) count
    was = subst (IsKept inside.queues.capacity inside.marks t (queue_of inside.queues t)) (sym counted)
        (kept.tiles t count inner)

    shorter_kept : IsKept inside.queues.capacity new.marks t (shorter (queue_of inside.queues t)) (count + 1)
    shorter_kept =
        record {
          fits = omega (arith, was.fits, length-drop 1 (queue_of inside.queues t).left);
          closed = was.closed ∙ sym (ap (λ x. closed_in x t) marked ∙ list_any-append _ inside.marks _
              ∙ or-false (closed_in inside.marks t));
          count = ap (λ n. n + 1) was.count ∙ sym
              (ap (λ x. taken_in x t) marked ∙ sum_by_push _ inside.marks _
              ∙ ap (λ b. taken_in inside.marks t + cond b 1 0) (eq-eqb t t refl));
          within = omega (
            arith,
            some,
            was.within,
            length-drop 1 (queue_of inside.queues t).left,
            ap length marked,
            length-append inside.marks (record { tile = t; kind = TakeKind; number = number } ∷ []),
          );
        }
