-- Tiles that were all checked, and what comes of them.
use Rattle.std.proofs.Common.{◌≡◌, ◌⊎◌, ◌++◌, ◌∙◌, ◌<◌, ℕ, List, [], ◌∷◌, All, drop, length, slice_index_or, append-nil, inl, inr, ◌+◌, ap, sym, subst, arith}
use Rattle.city_json.specs.Compact.{compact}
use Rattle.city_json.specs.Tree.{MemberTrees, no_members}
use Rattle.byte_streams.specs.declared.fault.Fault.{Fault}
use Rattle.byte_streams.specs.declared.fault.Fault.TheVariants.{Memory}
use Rattle.city_grid.specs.Axes.{Triple, Texts}
use Rattle.city_grid.specs.Transform.{Grid, IsAboveZero}
use Rattle.city_feature.specs.Header.{HeaderValue}
use Rattle.city_feature.specs.Joined.{AllAgree, IsFirstMisfit, IsForward, IsJoined, IsMisfit, RefusesJoin, all_extensions, extensions_of, joined_value, union}
use Rattle.city_feature.specs.Origin.{IsOrigin}
use Rattle.city_feature.proofs.Forward.{shifts_are_forward}
use Rattle.city_feature.specs.declared.base.Base.{Base}
use Rattle.city_feature.specs.declared.base.Base.TheVariants.{First, Least}

-- ---- no tile is left ----

pub all_agree : (first : HeaderValue) (grid : Grid) (known after : MemberTrees) (headers rest : List HeaderValue)
    (shifts result : List Triple) → rest ≡ [] → result ≡ shifts
    → ((ks : List Triple) → AllAgree first grid after rest ks → AllAgree first grid known headers (shifts ++ ks))
    → AllAgree first grid known headers result
all_agree first grid known after headers rest shifts result none is agree =
    let ended = agree [] (subst (λ tiles. AllAgree first grid after tiles []) (sym none) tt) in
    subst (AllAgree first grid known headers) (append-nil shifts ∙ sym is) ended

pub all_known : (known after : MemberTrees) (headers rest : List HeaderValue) → rest ≡ []
    → all_extensions after rest ≡ all_extensions known headers → after ≡ all_extensions known headers
all_known known after headers rest none same = sym (ap (all_extensions after) none) ∙ same

-- ---- the origin ----

pub scale_of_origin : (base : Base) (first : HeaderValue) (others : List HeaderValue) (grid : Grid) (texts : Texts)
    → IsOrigin base first others grid texts → grid.scale ≡ first.grid.scale
scale_of_origin First first others grid texts origin = ap (λ (g : Grid). g.scale) origin.0
scale_of_origin Least first others grid texts origin = origin.0

-- ---- all tiles ----

pub first_and_others : {A : Type 0} (xs : List A) (x d : A) → 0 < length xs → x ≡ slice_index_or xs 0 d
    → xs ≡ x ∷ drop 1 xs
first_and_others [] x d some is = absurd (omega arith)
first_and_others (y ∷ ys) x d some is = ap (λ a. a ∷ ys) (sym is)

no_memory : (first : HeaderValue) (grid : Grid) (tile : ℕ) (headers : List HeaderValue) (known : MemberTrees) (next : ℕ)
    → ¬ IsFirstMisfit first grid known next headers tile Memory
no_memory first grid tile [] known next misfit = misfit
no_memory first grid tile (header ∷ others) known next (inl here) = here.1
no_memory first grid tile (header ∷ others) known next (inr later) =
    no_memory first grid tile others (union known (extensions_of header)) (next + 1) later.2

pub refused_misfit : (base : Base) (headers : List HeaderValue) (tile : ℕ) (fault : Fault)
    → IsMisfit base headers tile fault → RefusesJoin base headers tile fault
refused_misfit base headers tile Memory misfit = absurd (no_memory _ _ _ _ _ _ misfit.misfit)
refused_misfit base headers tile fault misfit = misfit

-- ---- what `join_headers` answers ----

module _ (base : Base) (headers : List HeaderValue) (first : HeaderValue) (others : List HeaderValue) (grid : Grid)
    (texts : Texts)
    (headers_are : headers ≡ first ∷ others) (origin : IsOrigin base first others grid texts) where
  pub joined : (known : MemberTrees) (shifts : List Triple) (line : List ℕ) → known ≡ no_members → (after : MemberTrees)
      → AllAgree first grid known headers shifts → after ≡ all_extensions known headers
      → line ≡ compact (joined_value first.value after texts) → IsJoined base headers line shifts
  joined known shifts line none after agree all line_is =
      record {
        first = first;
        others = others;
        headers_are = headers_are;
        grid = grid;
        texts = texts;
        origin = origin;
        agree = subst (λ members. AllAgree first grid members headers shifts) none agree;
        line_is = line_is ∙ ap (λ members. compact (joined_value first.value members texts)) (all
            ∙ ap (λ members. all_extensions members headers) none);
      }

  pub refused : (known : MemberTrees) (tile : ℕ) (fault : Fault) → known ≡ no_members → ((tile ≡ 0) × (fault ≡ Memory))
      ⊎ IsFirstMisfit first grid known 1 headers tile fault → RefusesJoin base headers tile fault
  refused known tile fault none (inl memory) = subst (RefusesJoin base headers tile) (sym memory.1) memory.0
  refused known tile fault none (inr misfit) = refused_misfit base headers tile fault (record {
    first = first;
    others = others;
    headers_are = headers_are;
    grid = grid;
    texts = texts;
    origin = origin;
    misfit = subst (λ members. IsFirstMisfit first grid members 1 headers tile fault) none misfit;
  })

  pub all_forward : (known : MemberTrees) (shifts : List Triple) → AllAgree first grid known headers shifts
      → IsAboveZero grid.scale → base ≡ Least → All IsForward shifts
  all_forward known shifts agree above_zero least =
      shifts_are_forward first others grid texts known shifts above_zero
      (subst (λ b. IsOrigin b first others grid texts) least origin)
      (subst (λ tiles. AllAgree first grid known tiles shifts) headers_are agree)
