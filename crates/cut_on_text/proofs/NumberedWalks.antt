-- Walks by numbers, as copies by them.
use Rattle.std.proofs.Common.{ℕ, List}
use Rattle.city_families.specs.Copied.{Copies}
use Rattle.cut_on_text.specs.NumberWalks.{NumberLabelled}
use Rattle.cut_on_text.specs.Walks.{Walks, walks_both, walks_leaf, walks_so, walks_text}
use Rattle.city_families.specs.declared.numbering.Numbering.{Numbering}
use Rattle.city_families.proofs.CopiedTexts.{copies_both, copies_so, copies_text}

pub numbered_walk : (n : Numbering) (line : List ℕ) (n' : Numbering) (line' uses : List ℕ)
    (own : (List ℕ → List ℕ) → List ℕ) → Walks NumberLabelled n line n' line' uses own
    → Copies n.table.items n.order.items line n'.table.items n'.order.items line' uses own
numbered_walk n line n' line' uses own (walks_text s a b text is) =
    copies_text s.table.items s.order.items a b text is
numbered_walk n line n' line' uses own (walks_leaf s a s' b vertex labelled) = labelled
numbered_walk n line n' line' uses own (walks_both s a s₁ a₁ s₂ a₂ one two own₁ own₂ first more) =
    copies_both s.table.items s.order.items a s₁.table.items s₁.order.items a₁ s₂.table.items s₂.order.items a₂ one two
    own₁ own₂ (numbered_walk s a s₁ a₁ one own₁ first) (numbered_walk s₁ a₁ s₂ a₂ two own₂ more)
numbered_walk n line n' line' uses own (walks_so s a s' b one two own₁ own₂ walk same same_own) =
    copies_so s.table.items s.order.items a s'.table.items s'.order.items b one two own₁ own₂
    (numbered_walk s a s' b one own₁ walk) same same_own
