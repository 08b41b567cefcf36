-- Texts that are written piece by piece.
use Rattle.std.proofs.Common.{◌≡◌, ◌<◌, ◌≤◌, ◌+◌, ◌++◌, ◌⊎◌, inl, inr, ℕ, zero, suc, true, false, List, [], ◌∷◌, Option, Result, Ok, Err, IfErr, OnErr, OnOk, length, get_or, flat_map, map, take, drop, take_all, sym, refl, ap, subst, ◌∙◌, arith, add-one, append_assoc, append-nil}
use Rattle.std.proofs.Math.ListN.{get_or-map}
use Rattle.std.proofs.Math.Seq.{drop-cons, take-append-add, take-append_seam}
use Rattle.std.proofs.KnownBytes.{Appends-nil, Appends-trans}
use Rattle.std.proofs.lemmas.Bool.{cases_lt}
use Rattle.std.proofs.lemmas.List.{drop_all, get_or_default, length-map, nil_from_length, take-append-le}
use Rattle.std.specs.Io.KnownBytes.{Appends}
use Rattle.std.specs.List.{slice_index, slice_range}
use Rattle.std.specs.Result.{is_err}
use Rattle.byte_streams.specs.Failures.{Wrote, after_call, one_more}
use Rattle.byte_streams.specs.declared.fault.Fault.{Fault}
use Rattle.byte_streams.specs.declared.fault.Fault.TheVariants.{Write}
use Rattle.city_json.specs.Bytes.{comma}
use Rattle.cut_on_text.specs.Made.{Makings, comma_before, family, feature_text, first_uses, listed, made_text, more_listed, vertex_at}
use Rattle.cut_on_text.specs.Rosters.{RosterState}
use Rattle.cut_on_text.specs.Skeletons.{LeafPlace, uses_at, woven}
use Rattle.cut_on_text.specs.Written.{Writes, WroteSince}

front_of : (count : ℕ) (front back : List ℕ) → (n : ℕ) × (take n (front ++ back) ≡ take count front)
front_of count front back = by (cases_lt (length front) count)
  where
    by : (length front < count) ⊎ (count ≤ length front) → (n : ℕ) × (take n (front ++ back) ≡ take count front)
    by (inl past) = (length front, take-append_seam front back ∙ sym (take_all count front (omega arith)))
    by (inr within) = (count, take-append-le count front back within)

module _ {W : Type 0} (taken : W → Option (List ℕ)) (failures : W → ℕ) where
  abbrev State : Type 0
  State = Result (Unit {0}) Fault

  -- a sink that has failed is left alone
  pub writes_no_more : (s : W) (before : State) (text : List ℕ) → is_err before ≡ true
      → Writes taken failures s before s before text
  writes_no_more s (Ok done) text failed = absurd (cc failed)
  writes_no_more s (Err e) text failed = λ start count front so_far.
      let n = front_of so_far.written.0 front text in record {
        written = (n.0, subst (Appends start (taken s)) (sym n.1) so_far.written.1);
        failed = so_far.failed;
        fault = so_far.fault;
      }

  -- one write, where none has failed
  pub writes_piece : (s : W) (before : State) (s₁ : W) (wrote : State) (text : List ℕ) → is_err before ≡ false
      → OnOk wrote (Appends (taken s) (taken s₁) text)
      → OnErr wrote ((count : ℕ) × Appends (taken s) (taken s₁) (take count text))
      → failures s₁ ≡ after_call wrote (failures s) → IfErr wrote (λ fault. fault ≡ Write)
      → Writes taken failures s before s₁ wrote text
  writes_piece s (Err e) s₁ wrote text none all some failed fault = absurd (cc none)
  writes_piece s (Ok done) s₁ (Ok also) text none all some failed fault = λ start count front so_far. record {
    written = Appends-trans start (taken s) (taken s₁) front text so_far.written all;
    failed = failed ∙ so_far.failed;
    fault = tt;
  }
  writes_piece s (Ok done) s₁ (Err e) text none all some failed fault = λ start count front so_far. record {
    written = (
      length front + some.0,
      subst (Appends start (taken s₁)) (sym (take-append-add front text some.0))
          (Appends-trans start (taken s) (taken s₁) front (take some.0 text) so_far.written some.1),
    );
    failed = failed ∙ ap one_more so_far.failed;
    fault = fault;
  }

  pub writes_none : (s : W) (wrote : State) → Writes taken failures s wrote s wrote []
  writes_none s wrote = λ start count front before.
      subst (WroteSince taken failures start count s wrote) (sym (append-nil front)) before

  pub writes_both : (s : W) (w : State) (s₁ : W) (w₁ : State) (s₂ : W) (w₂ : State) (first second : List ℕ)
      → Writes taken failures s w s₁ w₁ first → Writes taken failures s₁ w₁ s₂ w₂ second
      → Writes taken failures s w s₂ w₂ (first ++ second)
  writes_both s w s₁ w₁ s₂ w₂ first second one two = λ start count front before.
      subst (WroteSince taken failures start count s₂ w₂) (append_assoc front first second)
      (two start count (front ++ first) (one start count front before))

  -- all that was written of a text, where nothing was before
  pub wrote_since : (s s₁ : W) (wrote : State) (text : List ℕ) → Writes taken failures s (Ok tt) s₁ wrote text
      → WroteSince taken failures (taken s) (failures s) s₁ wrote text
  wrote_since s s₁ wrote text writes = writes (taken s) (failures s) []
      (record { written = Appends-nil (taken s); failed = refl; fault = tt })

  -- of a whole text so much was written that this is left
  pub record WritesUpTo (s : W) (w : State) (s₁ : W) (w₁ : State) (whole rest : List ℕ) : Type 0 where
    pub done : List ℕ
    pub writes : Writes taken failures s w s₁ w₁ done
    pub split : whole ≡ done ++ rest

  pub none_yet : (s : W) (w : State) (whole : List ℕ) → WritesUpTo s w s w whole whole
  none_yet s w whole = record { done = []; writes = writes_none s w; split = refl }

  module _ (s : W) (w : State) (s₁ : W) (w₁ : State) (s₂ : W) (w₂ : State) (whole : List ℕ) where
    pub writes_more : (piece rest : List ℕ) → WritesUpTo s w s₁ w₁ whole (piece ++ rest)
        → Writes taken failures s₁ w₁ s₂ w₂ piece → WritesUpTo s w s₂ w₂ whole rest
    writes_more piece rest so_far more = record {
      done = so_far.done ++ piece;
      writes = writes_both s w s₁ w₁ s₂ w₂ so_far.done piece so_far.writes more;
      split = so_far.split ∙ sym (append_assoc so_far.done piece rest);
    }

    pub writes_last : (rest : List ℕ) → WritesUpTo s w s₁ w₁ whole rest → Writes taken failures s₁ w₁ s₂ w₂ rest
        → Writes taken failures s w s₂ w₂ whole
    writes_last rest so_far more = subst (Writes taken failures s w s₂ w₂) (sym so_far.split)
        (writes_both s w s₁ w₁ s₂ w₂ so_far.done rest so_far.writes more)

pub wrote_ok : {A E : Type 0} (result : Result A E) (old new : Option (List ℕ)) (text : List ℕ)
    → Wrote result old new text → OnOk result (Appends old new text)
wrote_ok (Ok x) old new text all = all
wrote_ok (Err e) old new text some = tt

pub wrote_some : {A E : Type 0} (result : Result A E) (old new : Option (List ℕ)) (text : List ℕ)
    → Wrote result old new text → OnErr result ((count : ℕ) × Appends old new (take count text))
wrote_some (Ok x) old new text all = tt
wrote_some (Err e) old new text some = some

-- ---- lists
pub comma_there : (place : ℕ) → 0 < place → comma ∷ [] ≡ comma_before place
comma_there zero past = absurd (omega (arith, past))
comma_there (suc k) past = refl

pub no_comma : (place : ℕ) → place ≤ 0 → [] ≡ comma_before place
no_comma zero none = refl
no_comma (suc k) none = absurd (omega (arith, none))

-- what is left of a list before the text of this number
abbrev pub rest_listed : ℕ → List (List ℕ) → List ℕ
rest_listed zero texts = listed texts
rest_listed (suc k) texts = more_listed (drop (suc k) texts)

listed_step : (texts : List (List ℕ)) (k : ℕ) → k < length texts
    → rest_listed k texts ≡ (comma_before k ++ get_or texts k []) ++ rest_listed (k + 1) texts
listed_step [] k inside = absurd (omega (arith, inside))
listed_step (text ∷ texts) zero inside = refl
listed_step (text ∷ texts) (suc k) inside =
    rw add-one (ap more_listed (drop-cons (text ∷ texts) (suc k) [] inside))

listed_end : (texts : List (List ℕ)) (k : ℕ) → length texts ≤ k → rest_listed k texts ≡ []
listed_end texts zero past = ap listed (nil_from_length texts (omega (arith, past)))
listed_end texts (suc k) past = ap more_listed (drop_all (suc k) texts past)

pub text_there : (text : ℕ → List ℕ) (numbers : List ℕ) (k : ℕ) → k < length numbers
    → get_or (map text numbers) k [] ≡ text (slice_index numbers k)
text_there text numbers k inside =
    get_or_default (map text numbers) k [] (text 0) (omega (arith, inside, length-map numbers text))
    ∙ get_or-map text numbers k 0

module _ {W : Type 0} (taken : W → Option (List ℕ)) (failures : W → ℕ) (text : ℕ → List ℕ) (numbers : List ℕ) (k : ℕ)
    (s : W) (w : Result (Unit {0}) Fault) (s₁ : W) (w₁ : Result (Unit {0}) Fault)
    (so_far : WritesUpTo taken failures s w s₁ w₁ (listed (map text numbers)) (rest_listed k (map text numbers))) where
  pub listed_all : length numbers ≤ k → Writes taken failures s w s₁ w₁ (listed (map text numbers))
  listed_all past =
      let none = listed_end (map text numbers) k (omega (arith, past, length-map numbers text)) in
      subst (Writes taken failures s w s₁ w₁)
      (sym (so_far.split ∙ (ap (λ l. so_far.done ++ l) none ∙ append-nil so_far.done))) so_far.writes

  pub listed_more : k < length numbers → (s₂ : W) (w₂ : Result (Unit {0}) Fault) (s₃ : W) (w₃ : Result (Unit {0}) Fault)
      → Writes taken failures s₁ w₁ s₂ w₂ (comma_before k)
      → Writes taken failures s₂ w₂ s₃ w₃ (text (slice_index numbers k))
      → WritesUpTo taken failures s w s₃ w₃ (listed (map text numbers)) (rest_listed (k + 1) (map text numbers))
  listed_more inside s₂ w₂ s₃ w₃ comma own = writes_more taken failures s w s₁ w₁ s₃ w₃ (listed (map text numbers))
      (comma_before k ++ text (slice_index numbers k)) (rest_listed (k + 1) (map text numbers))
      (subst (WritesUpTo taken failures s w s₁ w₁ (listed (map text numbers)))
      (listed_step (map text numbers) k (omega (arith, inside, length-map numbers text))
      ∙ ap (λ l. (comma_before k ++ l) ++ rest_listed (k + 1) (map text numbers)) (text_there text numbers k inside))
      so_far) (writes_both taken failures s₁ w₁ s₂ w₂ s₃ w₃ (comma_before k) (text (slice_index numbers k)) comma own)

-- ---- a text with its leaves
pub woven_more : {W : Type 0} (taken : W → Option (List ℕ)) (failures : W → ℕ) (text : List ℕ) (from end i : ℕ)
    (leaves : List LeafPlace) (label : ℕ → List ℕ) (leaf : LeafPlace) (s : W) (w : Result (Unit {0}) Fault) (s₁ : W)
    (w₁ : Result (Unit {0}) Fault) (s₂ : W) (w₂ : Result (Unit {0}) Fault) (s₃ : W) (w₃ : Result (Unit {0}) Fault)
    (whole : List ℕ) → i < length leaves → get_or leaves i leaf ≡ leaf
    → WritesUpTo taken failures s w s₁ w₁ whole (woven text from end (drop i leaves) label)
    → Writes taken failures s₁ w₁ s₂ w₂ (slice_range text from leaf.at)
    → Writes taken failures s₂ w₂ s₃ w₃ (label leaf.vertex)
    → WritesUpTo taken failures s w s₃ w₃ whole (woven text leaf.at end (drop (i + 1) leaves) label)
woven_more taken failures text from end i leaves label leaf s w s₁ w₁ s₂ w₂ s₃ w₃ whole inside is so_far front number =
    let rest = woven text leaf.at end (drop (i + 1) leaves) label in
    let next : woven text from end (drop i leaves) label
    ≡ (slice_range text from leaf.at ++ label leaf.vertex) ++ rest = ap (λ l. woven text from end l label)
    (drop-cons leaves i leaf inside ∙ ap (λ l. l ∷ drop (suc i) leaves) is)
    ∙ (sym (append_assoc (slice_range text from leaf.at) (label leaf.vertex)
    (woven text leaf.at end (drop (suc i) leaves) label))
    ∙ ap (λ n. (slice_range text from leaf.at ++ label leaf.vertex) ++ woven text leaf.at end (drop n leaves) label)
    (sym (add-one i))) in
    writes_more taken failures s w s₁ w₁ s₃ w₃ whole (slice_range text from leaf.at ++ label leaf.vertex) rest
    (subst (WritesUpTo taken failures s w s₁ w₁ whole) next so_far)
    (writes_both taken failures s₁ w₁ s₂ w₂ s₃ w₃ (slice_range text from leaf.at) (label leaf.vertex) front number)

-- ---- a feature
-- its head, its objects and the rest of it were written
pub writes_feature : {W : Type 0} (taken : W → Option (List ℕ)) (failures : W → ℕ) (s : W) (w : Result (Unit {0}) Fault) (s₁ : W)
    (w₁ : Result (Unit {0}) Fault) (s₂ : W) (w₂ : Result (Unit {0}) Fault) (s₃ : W) (w₃ : Result (Unit {0}) Fault)
    (front id back objects rest : List ℕ) → Writes taken failures s w s₁ w₁ (front ++ (id ++ back))
    → Writes taken failures s₁ w₁ s₂ w₂ objects → Writes taken failures s₂ w₂ s₃ w₃ rest
    → Writes taken failures s w s₃ w₃ (front ++ (id ++ (back ++ (objects ++ rest))))
writes_feature taken failures s w s₁ w₁ s₂ w₂ s₃ w₃ front id back objects rest head middle last =
    subst (Writes taken failures s w s₃ w₃)
    (append_assoc front (id ++ back) (objects ++ rest) ∙ ap (λ l. front ++ l) (append_assoc id back (objects ++ rest)))
    (writes_both taken failures s w s₁ w₁ s₃ w₃ (front ++ (id ++ back)) (objects ++ rest) head
    (writes_both taken failures s₁ w₁ s₂ w₂ s₃ w₃ objects rest middle last))

-- what was written for the root at a place is the text at that place
pub made_there : (makings : Makings) (roots : List ℕ) (texts : List (List ℕ)) (at root : ℕ)
    (graph : List (List ℕ)) (places first : List ℕ) (found order : RosterState) (count : ℕ)
    → map (made_text makings) roots ≡ texts → at < length texts → root ≡ get_or roots at root → graph ≡ makings.graph
    → found ≡ record { count = length graph; order = family graph root } → first ≡ found.order → places ≡ found.order
    → order ≡ record { count = count; order = first_uses [] (flat_map (uses_at makings.skeletons) first) }
    → feature_text makings.skeletons (vertex_at makings) root places order.order ≡ get_or texts at []
made_there makings roots texts at root graph places first found order count all within here same reached before after
    used =
    let inside : at < length roots = omega (arith, within, ap length all, length-map roots (made_text makings)) in
    let text : List ℕ → List ℕ → List ℕ = feature_text makings.skeletons (vertex_at makings) root in
    let uses : List ℕ → List ℕ = λ l. first_uses [] (flat_map (uses_at makings.skeletons) l) in
    let own : found.order ≡ family makings.graph root =
    ap (λ (s : RosterState). s.order) reached ∙ ap (λ l. family l root) same in
    let numbered : order.order ≡ uses (family makings.graph root) =
    ap (λ (s : RosterState). s.order) used ∙ ap uses (before ∙ own) in
    ap (λ l. text l order.order) (after ∙ own) ∙ (ap (text (family makings.graph root)) numbered
    ∙ (ap (made_text makings) (here ∙ get_or_default roots at root 0 inside)
    ∙ (sym (text_there (made_text makings) roots at inside) ∙ ap (λ l. get_or l at []) all)))
