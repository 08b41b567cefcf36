-- Two lists that were compared up to the end of the first are equal where the second ends there too.
use Rattle.std.proofs.Common.{◌≡◌, ◌↔◌, ◌==◌, ◌≤◌, ℕ, Bool, IsTrue, List, [], ◌∷◌, length, drop, refl, sym, ◌∙◌, ap, subst, arith}
use Rattle.std.proofs.lemmas.Bool.Decides.{nat_tests}
use Rattle.std.proofs.lemmas.List.{drop_all}

ended : {A T : Type 0} (view : List A → T) → ((y : A) (ys : List A) → ¬ (view [] ≡ view (y ∷ ys))) → (rest : List A)
    → IsTrue (length rest == 0) ↔ (view [] ≡ view rest)
ended view apart [] = (λ _. refl, λ _. refl)
ended view apart (y ∷ ys) = (λ is. absurd (grind (arith, nat_tests)), λ e. absurd (apart y ys e))

pub ends_as_compared : {A T : Type 0} (view : List A → T) → ((y : A) (ys : List A) → ¬ (view [] ≡ view (y ∷ ys)))
    → (a b rest : List A) (n : ℕ) (empty : Bool) →
    length a ≤ n → empty ≡ (length rest == 0) → ((view (drop n a) ≡ view rest) ↔ (view a ≡ view b)) → IsTrue empty
    ↔ (view a ≡ view b)
ends_as_compared view apart a b rest n empty past is compared =
    let none : drop n a ≡ [] = drop_all n a past in
    let whole = ended view apart rest in
    let same : view (drop n a) ≡ view [] = ap view none in (
      λ yes. compared.0 (same ∙ whole.0 (subst (λ t. IsTrue t) is yes)),
      λ e. subst (λ t. IsTrue t) (sym is) (whole.1 (sym same ∙ compared.1 e)),
    )
