-- The first vertex that is at fault, found in the compact text of its array.
use Rattle.std.proofs.Common.{◌≡◌, ◌⊎◌, ◌∙◌, ◌++◌, ◌-◌, ℕ, zero, suc, All, List, [], ◌∷◌, Result, Ok, Err, IfOk, IfErr, length, slice_range, sym, subst, inl, inr, arith, append_assoc, append-nil}
use Rattle.std.proofs.lemmas.List.{take_all}
use Rattle.byte_streams.specs.declared.fault.Fault.{Fault}
use Rattle.byte_streams.specs.declared.fault.Fault.TheVariants.{Memory}
use Rattle.city_json.proofs.CompactLaws.{compact-tells}
use Rattle.city_json.proofs.PassedItems.{GoesOnWith, next_one, none_left, one_less}
use Rattle.city_json.specs.NextItems.{HasNoItem, IsNextItem}
use Rattle.city_json.specs.Tree.{Tree, array, ItemTrees, no_items, item}
use Rattle.city_grid.proofs.VertexLaws.{three_are_writable}
use Rattle.city_grid.specs.Axes.{Triple, IsInRange, three}
use Rattle.city_grid.specs.Vertex.{IsVertex, RefusesVertex, SpellsVertex}
use Rattle.city_feature.specs.Faults.{RefusesVertices}
use Rattle.city_feature.specs.Feature.{AreVertices, RefusesFirst}
use Rattle.city_json.specs.CompactTexts.{IsCompactOf}

-- what is known of an answer, where it is known which it is
pub ok_told : {A E : Type 0} (P : A → Type 0) (answer : Result A E) (value : A) → answer ≡ Ok value → IfOk answer P
    → P value
ok_told {A = A} {E = E} P answer value is holds = subst (λ (a : Result A E). IfOk a P) is holds

pub err_told : {A E : Type 0} (P : E → Type 0) (answer : Result A E) (fault : E) → answer ≡ Err fault → IfErr answer P
    → P fault
err_told {A = A} {E = E} P answer fault is holds = subst (λ (a : Result A E). IfErr a P) is holds

-- the whole text spells a vertex
pub vertex_there : (text : List ℕ) (end : ℕ) (p : Triple) → end ≡ length text → SpellsVertex (slice_range text 0 end) p
    → (value : Tree) → IsCompactOf text value → IsVertex value p
vertex_there text end p all (texts, written, each) value of =
    let whole : slice_range text 0 end ≡ text = take_all (end - 0) text (omega (arith, all)) in (
      texts,
      compact-tells value (three texts) of.writable (three_are_writable texts p each) (sym of.is ∙ (sym whole ∙ written)),
      each,
    )

-- of all items, those before these were taken, and a fault of these is the first one
pub record VerticesLeft (Has : List Triple → Type 0) (items left : ItemTrees) : Type 0 where
  pub refuses : (fault : Fault) → RefusesFirst fault left → RefusesFirst fault items
  pub taken : List Triple
  pub has : Has taken
  pub takes : (more : List Triple) → AreVertices left more → AreVertices items (taken ++ more)

-- the same of whatever array has this text
abbrev pub TakesOn : (List Triple → Type 0) → List ℕ → List ℕ → Type 0
TakesOn Has text left = GoesOnWith (VerticesLeft Has) text left

pub takes_begin : (Has : List Triple → Type 0) → Has [] → (items : ItemTrees) → VerticesLeft Has items items
takes_begin Has none items = record {
  refuses = λ fault refused. refused;
  taken = [];
  has = none;
  takes = λ more are. are;
}

-- all of them were taken
pub all_taken : (Has : List Triple → Type 0) (text left : List ℕ) → TakesOn Has text left → HasNoItem left
    → (items : ItemTrees) → IsCompactOf text (array items) → (taken : List Triple) × Has taken × AreVertices items taken
all_taken Has text left on none items of =
    let there = none_left (VerticesLeft Has) text left on none items of in
    (there.taken, there.has, subst (AreVertices items) (append-nil there.taken) (there.takes [] tt))

module _ (Has : List Triple → Type 0) (text left one after : List ℕ) (on : TakesOn Has text left)
    (next : IsNextItem left one after) where
  pub fault_found : (fault : Fault) → ((value : Tree) → IsCompactOf one value → (fault ≡ Memory) ⊎ RefusesVertex fault value)
      → RefusesVertices fault text
  fault_found fault refused items of =
      let (first, others, one_of, there) = next_one (VerticesLeft Has) text left one after on next items of in
      told first others there (refused first one_of)
    where
      told : (first : Tree) (others : ItemTrees) → VerticesLeft Has items (item first others)
          → (fault ≡ Memory) ⊎ RefusesVertex fault first → (fault ≡ Memory) ⊎ RefusesFirst fault items
      told first others there (inl memory) = inl memory
      told first others there (inr no_vertex) = inr (there.refuses fault (inl no_vertex))

  pub takes_go_on : (New : List Triple → Type 0) (p : Triple)
      → ((taken : List Triple) → Has taken → New (taken ++ p ∷ []))
      → ((value : Tree) → IsCompactOf one value → IsVertex value p) → IsInRange p → TakesOn New text after
  takes_go_on New p take vertex range =
      one_less (VerticesLeft Has) (VerticesLeft New) text left one after on next (λ items first others one_of there.
      let is = vertex first one_of in
      record {
        refuses = λ fault refused. there.refuses fault (inr (p, is, range, refused));
        taken = there.taken ++ p ∷ [];
        has = take there.taken there.has;
        takes = λ more are. subst (AreVertices items) (sym (append_assoc there.taken (p ∷ []) more))
            (there.takes (p ∷ more) (is, range, are));
      })

-- ---- vertices are in range
pub are_in_range : (items : ItemTrees) (ps : List Triple) → AreVertices items ps → All IsInRange ps
are_in_range no_items [] are k d within = absurd (omega arith)
are_in_range no_items (p ∷ ps) are k d within = absurd are
are_in_range (item value others) [] are k d within = absurd are
are_in_range (item value others) (p ∷ ps) are zero d within = are.1
are_in_range (item value others) (p ∷ ps) are (suc k) d within =
    are_in_range others ps are.2 k d (omega (arith, within))
