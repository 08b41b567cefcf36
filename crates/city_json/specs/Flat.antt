-- Arrays within arrays that are gone through in one loop: what is still to come where some of them are open.
use Rattle.std.specs.Prelude.{◌≡◌, ◌⊎◌, ◌++◌, ◌-◌, ℕ, zero, suc, List, [], ◌∷◌}
use Rattle.city_json.specs.Bytes.{comma, close_bracket}
use Rattle.city_json.specs.Compacting.{ItemsFrom}
use Rattle.city_json.specs.Reading.{after_white}

-- one or more items of an array, its closing bracket, and then what is to come outside it
pub record AreItems (levels : ℕ) (b before : List ℕ) (Outside : List ℕ → List ℕ → Type 0) : Type 0 where
  pub left : List ℕ
  pub mid : List ℕ
  pub items : ItemsFrom levels b left before mid
  pub outside : Outside left mid

-- So many arrays are open, and an item of the innermost one was taken: it is closed, or an item is next. With none open
-- all is taken. The items of the outermost array may nest `total` less one deep.
abbrev pub ItemWasTaken : ℕ → ℕ → List ℕ → List ℕ → List ℕ → List ℕ → Type 0
ItemWasTaken zero total b rest before after = (b ≡ rest) × (before ≡ after)
ItemWasTaken (suc others) total b rest before after = (next : List ℕ) × (
    ((after_white b ≡ close_bracket ∷ next) × ItemWasTaken others total next rest (before ++ close_bracket ∷ []) after)
    ⊎ ((after_white b ≡ comma ∷ next)
    × AreItems (total - suc others) (after_white next) (before ++ comma ∷ [])
    (λ left mid. ItemWasTaken others total left rest mid after)))

-- the same where an item of the innermost array is next
abbrev pub ItemIsNext : ℕ → ℕ → List ℕ → List ℕ → List ℕ → List ℕ → Type 0
ItemIsNext zero total b rest before after = (b ≡ rest) × (before ≡ after)
ItemIsNext (suc others) total b rest before after =
    AreItems (total - suc others) (after_white b) before (λ left mid. ItemWasTaken others total left rest mid after)
