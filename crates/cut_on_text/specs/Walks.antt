-- Walks over boundaries: texts are copied, and at each leaf its label is put in its place.
use Rattle.std.specs.Prelude.{◌≡◌, ◌++◌, ◌∷◌, [], ℕ, List}
use Rattle.std.specs.Fmt.{decimal}

-- What is done at a leaf: a state and a line before, a state and a line after, and the vertex that it names.
abbrev pub Labelling : Type 0 → Type 1
Labelling S = S → List ℕ → S → List ℕ → ℕ → Type 0

-- From a state and a line to others: the vertices that were named, and the text that was copied, by what it has at its
-- leaves.
pub data Walks {S : Type 0} (Labelled : Labelling S) : S → List ℕ → S → List ℕ → List ℕ → ((List ℕ → List ℕ) → List ℕ) → Type 0 where
  walks_text : (s : S) (line line' text : List ℕ) → line' ≡ line ++ text → Walks Labelled s line s line' [] (λ change. text)
  walks_leaf : (s : S) (line : List ℕ) (s' : S) (line' : List ℕ) (vertex : ℕ) → Labelled s line s' line' vertex
      → Walks Labelled s line s' line' (vertex ∷ []) (λ change. change (decimal vertex))
  walks_both : (s : S) (line : List ℕ) (s₁ : S) (line₁ : List ℕ) (s₂ : S) (line₂ uses uses₂ : List ℕ)
      (own own₂ : (List ℕ → List ℕ) → List ℕ) → Walks Labelled s line s₁ line₁ uses own
      → Walks Labelled s₁ line₁ s₂ line₂ uses₂ own₂
      → Walks Labelled s line s₂ line₂ (uses ++ uses₂) (λ change. own change ++ own₂ change)
  walks_so : (s : S) (line : List ℕ) (s' : S) (line' uses uses' : List ℕ) (own own' : (List ℕ → List ℕ) → List ℕ)
      → Walks Labelled s line s' line' uses own → uses ≡ uses'
      → ((change : List ℕ → List ℕ) → own change ≡ own' change) → Walks Labelled s line s' line' uses' own'
