-- Three lists, place by place.
use Rattle.std.proofs.Common.{◌≡◌, ◌<◌, ◌+◌, ◌++◌, ℕ, List, [], ◌∷◌, length, take, take_all, get_or, sym, ap, subst, ◌∙◌, arith}
use Rattle.std.proofs.lemmas.Grind.{common_steps}
use Rattle.tile_merge.specs.Opened.{AllThree}

-- one item more of the front of a list
pub take_next : {X : Type 0} (xs : List X) (n : ℕ) (default : X) → n < length xs
    → take (n + 1) xs ≡ take n xs ++ get_or xs n default ∷ []
take_next xs n default within = grind (arith, common_steps)

module _ {A B C : Type 0} (P : A → B → C → Type 0) where
  pub all_three_push : (xs : List A) (ys : List B) (zs : List C) (x : A) (y : B) (z : C) → AllThree P xs ys zs → P x y z
      → AllThree P (xs ++ x ∷ []) (ys ++ y ∷ []) (zs ++ z ∷ [])
  all_three_push [] [] [] x y z all one = (one, tt)
  all_three_push [] [] (c ∷ zs) x y z all one = absurd all
  all_three_push [] (b ∷ ys) zs x y z all one = absurd all
  all_three_push (a ∷ xs) [] zs x y z all one = absurd all
  all_three_push (a ∷ xs) (b ∷ ys) [] x y z all one = absurd all
  all_three_push (a ∷ xs) (b ∷ ys) (c ∷ zs) x y z all one = (all.0, all_three_push xs ys zs x y z all.1 one)

  -- all of the first list were gone through
  pub threes_all : (xs yielded : List A) (ys : List B) (zs : List C) → yielded ≡ xs → length ys ≡ length xs
      → AllThree P yielded (take (length yielded) ys) zs → AllThree P xs ys zs
  threes_all xs yielded ys zs same long all =
      let whole = take_all (length yielded) ys (omega (arith, long, ap length same)) in
      let Holds : List A → List B → Type 0 = λ front back. AllThree P front back zs in
      subst (λ front. Holds front ys) same (subst (Holds yielded) whole all)

  -- one place more
  pub threes_more : (xs : List A) (ys : List B) (zs newer : List C) (x : A) (y : B) (z : C)
      → AllThree P xs (take (length xs) ys) zs → length xs < length ys → y ≡ get_or ys (length xs) y → P x y z
      → newer ≡ zs ++ z ∷ []
      → AllThree P (xs ++ x ∷ []) (take (length (xs ++ x ∷ [])) ys) newer
  threes_more xs ys zs newer x y z all within is_y holds grown =
      let longer : take (length (xs ++ x ∷ [])) ys ≡ take (length xs) ys ++ y ∷ [] =
      ap (λ n. take n ys) (grind (arith, common_steps)) ∙ take_next ys (length xs) y within
      ∙ ap (λ b. take (length xs) ys ++ b ∷ []) (sym is_y) in
      rw (longer, grown) (all_three_push xs (take (length xs) ys) zs x y z all holds)
