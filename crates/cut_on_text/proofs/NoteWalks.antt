-- Walks that note their leaves.
use Rattle.std.proofs.Common.{◌≡◌, ◌∙◌, ◌++◌, ◌≤◌, ◌+◌, ℕ, List, [], ◌∷◌, length, take, drop, slice_range, refl, sym, ap, subst, arith, append_assoc, append-nil, length-append}
use Rattle.std.proofs.Math.Seq.{drop-append_seam, take-append_seam}
use Rattle.std.proofs.lemmas.List.{drop-map, length-map, length-take-le, map-append, take-append-drop, take-map}
use Rattle.std.specs.Fmt.{decimal}
use Rattle.cut_on_text.specs.Skeletons.{LeafPlace, woven}
use Rattle.cut_on_text.specs.Sketches.{ArePlaced, IsNoted, LeafNoted, leaf_vertices}
use Rattle.cut_on_text.specs.Walks.{Labelling, Walks, walks_both, walks_leaf, walks_so, walks_text}
use Rattle.cut_on_text.proofs.Woven.{placed_both, slice_end, slice_middle, slice_none, woven_both, woven_front}

-- a text was written after a line, and these leaves were noted
pub record Notes (noted : List LeafPlace) (line : List ℕ) (noted' : List LeafPlace) (line' uses : List ℕ) (own : (List ℕ → List ℕ) → List ℕ) : Type 0 where
  pub text : List ℕ
  pub new : List LeafPlace
  pub written : line' ≡ line ++ text
  pub more : noted' ≡ noted ++ new
  pub placed : ArePlaced (length line) (length line') new
  pub named : uses ≡ leaf_vertices new
  pub is : (change : List ℕ → List ℕ) → own change
      ≡ woven line' (length line) (length line') new (λ vertex. change (decimal vertex))

notes_text : (noted : List LeafPlace) (line line' text : List ℕ) → line' ≡ line ++ text
    → Notes noted line noted line' [] (λ change. text)
notes_text noted line line' text is =
    let long : length line' ≡ length line + length text = ap length is ∙ length-append line text in
    record {
      text = text;
      new = [];
      written = is;
      more = sym (append-nil noted);
      placed = omega (arith, long);
      named = refl;
      is = λ change. sym (ap (λ l. slice_range l (length line) (length line')) is
          ∙ slice_end line text (length line') long);
    }

notes_leaf : (noted : List LeafPlace) (line : List ℕ) (noted' : List LeafPlace) (line' : List ℕ) (vertex : ℕ)
    → LeafNoted noted line noted' line' vertex
    → Notes noted line noted' line' (vertex ∷ []) (λ change. change (decimal vertex))
notes_leaf noted line noted' line' vertex (same, more) =
    let long : length line' ≡ length line = ap length same in
    record {
      text = [];
      new = record { at = length line; vertex = vertex } ∷ [];
      written = same ∙ sym (append-nil line);
      more = more;
      placed = (omega arith, omega (arith, long));
      named = refl;
      is = λ change.
          let own = change (decimal vertex) in
          sym (ap (λ l. l ++ (own ++ slice_range line' (length line) (length line')))
          (slice_none line' (length line) (length line) (omega arith))
          ∙ (ap (λ l. own ++ l) (slice_none line' (length line) (length line') (omega (arith, long)))
          ∙ append-nil own));
    }

notes_both : (n₀ : List LeafPlace) (line₀ : List ℕ) (n₁ : List LeafPlace) (line₁ : List ℕ) (n₂ : List LeafPlace)
    (line₂ uses uses₂ : List ℕ) (own own₂ : (List ℕ → List ℕ) → List ℕ) → Notes n₀ line₀ n₁ line₁ uses own
    → Notes n₁ line₁ n₂ line₂ uses₂ own₂
    → Notes n₀ line₀ n₂ line₂ (uses ++ uses₂) (λ change. own change ++ own₂ change)
notes_both n₀ line₀ n₁ line₁ n₂ line₂ uses uses₂ own own₂ a b = record {
  text = a.text ++ b.text;
  new = a.new ++ b.new;
  written = b.written ∙ (ap (λ l. l ++ b.text) a.written ∙ append_assoc line₀ a.text b.text);
  more = b.more ∙ (ap (λ l. l ++ b.new) a.more ∙ append_assoc n₀ a.new b.new);
  placed = placed_both (length line₀) (length line₁) (length line₂) a.new b.new a.placed b.placed;
  named = ap (λ l. l ++ uses₂) a.named ∙ (ap (λ l. leaf_vertices a.new ++ l) b.named
      ∙ sym (map-append (λ (leaf : LeafPlace). leaf.vertex) a.new b.new));
  is = λ change.
      let label : ℕ → List ℕ = λ vertex. change (decimal vertex) in
      let kept : woven line₂ (length line₀) (length line₁) a.new label
      ≡ woven line₁ (length line₀) (length line₁) a.new label =
      ap (λ l. woven l (length line₀) (length line₁) a.new label) b.written
      ∙ woven_front line₁ b.text (length line₀) (length line₁) a.new label a.placed (omega arith) in
      ap (λ l. l ++ own₂ change) (a.is change ∙ sym kept)
      ∙ (ap (λ l. woven line₂ (length line₀) (length line₁) a.new label ++ l) (b.is change)
      ∙ woven_both line₂ (length line₀) (length line₁) (length line₂) a.new b.new label a.placed b.placed);
}

pub walk_notes : {S : Type 0} {L : Labelling S} (noted_in : S → List LeafPlace)
    → ((s : S) (line : List ℕ) (s' : S) (line' : List ℕ) (vertex : ℕ) → L s line s' line' vertex
    → LeafNoted (noted_in s) line (noted_in s') line' vertex)
    → (s : S) (line : List ℕ) (s' : S) (line' uses : List ℕ) (own : (List ℕ → List ℕ) → List ℕ)
    → Walks L s line s' line' uses own → Notes (noted_in s) line (noted_in s') line' uses own
walk_notes noted_in leaf s line s' line' uses own (walks_text s₁ a b text is) = notes_text (noted_in s₁) a b text is
walk_notes noted_in leaf s line s' line' uses own (walks_leaf s₁ a s₂ b vertex labelled) =
    notes_leaf (noted_in s₁) a (noted_in s₂) b vertex (leaf s₁ a s₂ b vertex labelled)
walk_notes noted_in leaf s line s' line' uses own (walks_both s₁ a s₂ b s₃ c one two own₁ own₂ first more) =
    notes_both (noted_in s₁) a (noted_in s₂) b (noted_in s₃) c one two own₁ own₂
    (walk_notes noted_in leaf s₁ a s₂ b one own₁ first) (walk_notes noted_in leaf s₂ b s₃ c two own₂ more)
walk_notes noted_in leaf s line s' line' uses own (walks_so s₁ a s₂ b one two own₁ own₂ walk same same_own) =
    let notes = walk_notes noted_in leaf s₁ a s₂ b one own₁ walk in
    record {
      text = notes.text;
      new = notes.new;
      written = notes.written;
      more = notes.more;
      placed = notes.placed;
      named = sym same ∙ notes.named;
      is = λ change. sym (same_own change) ∙ notes.is change;
    }

-- ---- where leaves are named first that were noted last

pub noted_apart : (noted : List LeafPlace) (line : List ℕ) (split : ℕ) (noted' : List LeafPlace)
    (line' first second : List ℕ) (own : (List ℕ → List ℕ) → List ℕ)
    → Notes noted line noted' line' (first ++ second) own → split ≡ length noted + length first
    → IsNoted noted line split noted' line' (second ++ first) own
noted_apart noted line split noted' line' first second own notes is =
    let n = length first in
    let vertex : LeafPlace → ℕ = λ leaf. leaf.vertex in
    let both : length notes.new ≡ n + length second =
    sym (length-map notes.new vertex) ∙ (ap length (sym notes.named) ∙ length-append first second) in
    let whole = take-append-drop n notes.new in
    let some : length (take n notes.new) ≡ n = length-take-le n notes.new (omega (arith, both)) in
    record {
      text = notes.text;
      first = take n notes.new;
      second = drop n notes.new;
      written = notes.written;
      more = notes.more ∙ ap (λ l. noted ++ l) (sym whole);
      split_is = is ∙ ap (λ k. length noted + k) (sym some);
      placed = subst (ArePlaced (length line) (length line')) (sym whole) notes.placed;
      named =
          let last : second ≡ leaf_vertices (drop n notes.new) =
          sym (drop-append_seam first second) ∙ (ap (drop n) notes.named ∙ drop-map vertex n notes.new) in
          let front : first ≡ leaf_vertices (take n notes.new) =
          sym (take-append_seam first second) ∙ (ap (take n) notes.named ∙ take-map vertex n notes.new) in
          ap (λ l. l ++ first) last ∙ ap (λ l. leaf_vertices (drop n notes.new) ++ l) front;
      is = λ change. notes.is change ∙ ap (λ l. woven line' (length line) (length line') l
          (λ vertex. change (decimal vertex))) (sym whole);
    }

pub noted_in_order : (noted : List LeafPlace) (line : List ℕ) (split : ℕ) (noted' : List LeafPlace)
    (line' uses : List ℕ) (own : (List ℕ → List ℕ) → List ℕ) → Notes noted line noted' line' uses own
    → split ≡ length noted → IsNoted noted line split noted' line' uses own
noted_in_order noted line split noted' line' uses own notes is =
    subst (λ l. IsNoted noted line split noted' line' l own) (append-nil uses)
    (noted_apart noted line split noted' line' [] uses own notes (omega (arith, is)))

-- the same, of other words for the text
pub noted_so : (noted : List LeafPlace) (line : List ℕ) (split : ℕ) (noted' : List LeafPlace)
    (line' uses uses' : List ℕ) (own own' : (List ℕ → List ℕ) → List ℕ)
    → IsNoted noted line split noted' line' uses own → uses ≡ uses'
    → ((change : List ℕ → List ℕ) → own change ≡ own' change) → IsNoted noted line split noted' line' uses' own'
noted_so noted line split noted' line' uses uses' own own' notes same same_own = record {
  text = notes.text;
  first = notes.first;
  second = notes.second;
  written = notes.written;
  more = notes.more;
  split_is = notes.split_is;
  placed = notes.placed;
  named = sym same ∙ notes.named;
  is = λ change. sym (same_own change) ∙ notes.is change;
}

-- and after a text that has no leaves
pub noted_after : (noted : List LeafPlace) (line line₁ before : List ℕ) (split : ℕ) (noted' : List LeafPlace)
    (line' uses : List ℕ) (own : (List ℕ → List ℕ) → List ℕ) → line₁ ≡ line ++ before
    → IsNoted noted line₁ split noted' line' uses own
    → IsNoted noted line split noted' line' uses (λ change. before ++ own change)
noted_after noted line line₁ before split noted' line' uses own begins notes =
    let all = notes.first ++ notes.second in
    let long : length line₁ ≡ length line + length before = ap length begins ∙ length-append line before in
    let order : length line ≤ length line₁ = omega (arith, long) in
    record {
      text = before ++ notes.text;
      first = notes.first;
      second = notes.second;
      written = notes.written ∙ (ap (λ l. l ++ notes.text) begins ∙ append_assoc line before notes.text);
      more = notes.more;
      split_is = notes.split_is;
      placed = placed_both (length line) (length line₁) (length line') [] all order notes.placed;
      named = notes.named;
      is = λ change.
          let label : ℕ → List ℕ = λ vertex. change (decimal vertex) in
          let here : slice_range line' (length line) (length line₁) ≡ before =
          ap (λ l. slice_range l (length line) (length line₁)) (notes.written ∙ ap (λ l. l ++ notes.text) begins)
          ∙ slice_middle line before notes.text (length line₁) long in
          ap (λ l. before ++ l) (notes.is change)
          ∙ (ap (λ l. l ++ woven line' (length line₁) (length line') all label) (sym here)
          ∙ woven_both line' (length line) (length line₁) (length line') [] all label order notes.placed);
    }
