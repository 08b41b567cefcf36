-- The first of several headers that has the least measure, as one header more comes at the end.
use Rattle.std.proofs.Common.{◌≡◌, ◌++◌, ◌∙◌, ◌≤ℤ◌, ◌<ℤ◌, ℤ, ℕ, List, [], ◌∷◌, All, Bool, true, false, if◌then◌else◌, refl, ap, sym, subst, append_assoc, arith}
use Rattle.std.proofs.lemmas.Int.{ints}
use Rattle.std.proofs.lemmas.List.Elements.{All-nil, All-cons, All-push, All-append, All-weaker}
use Rattle.std.specs.Int.{int_min}
use Rattle.std.specs.Int.Signed.{lt_z}
use Rattle.city_grid.specs.Axes.{Texts, Triple, least}
use Rattle.city_grid.specs.Transform.{Grid}
use Rattle.city_feature.specs.Header.{HeaderValue}
use Rattle.city_feature.specs.Origin.{HasTranslation, IsFirstLeast, IsLeast, IsOrigin}
use Rattle.city_feature.specs.declared.base.Base.TheVariants.{Least}

module _ (measure : HeaderValue → ℤ) (headers : List HeaderValue) (least : HeaderValue)
    (found : IsFirstLeast measure headers least) (header : HeaderValue) where
  still_least : measure least ≤ℤ measure header → IsFirstLeast measure (headers ++ header ∷ []) least
  still_least not_below =
      record {
        before = found.before;
        after = found.after ++ header ∷ [];
        headers_are = ap (λ hs. hs ++ header ∷ []) found.headers_are
            ∙ append_assoc found.before (least ∷ found.after) (header ∷ []);
        above = found.above;
        not_below = All-push (λ other. measure least ≤ℤ measure other) found.after header found.not_below not_below;
      }

  less_than_least : (below : measure header <ℤ measure least) (other : HeaderValue) → measure least ≤ℤ measure other
      → measure header <ℤ measure other
  less_than_least below other above = omega (arith, ints)

  less_than_above : (below : measure header <ℤ measure least) (other : HeaderValue) → measure least <ℤ measure other
      → measure header <ℤ measure other
  less_than_above below other above = omega (arith, ints)

  now_least : measure header <ℤ measure least → IsFirstLeast measure (headers ++ header ∷ []) header
  now_least below =
      let Above : HeaderValue → Type 0 = λ other. measure header <ℤ measure other in
      let before = All-weaker (λ other. measure least <ℤ measure other) Above
      (less_than_above below) found.before found.above in
      let after = All-weaker (λ other. measure least ≤ℤ measure other) Above
      (less_than_least below) found.after found.not_below in
      record {
        before = headers;
        after = [];
        headers_are = refl;
        above = subst (All Above) (sym found.headers_are)
            (All-append Above found.before (least ∷ found.after) before (All-cons Above least found.after below after));
        not_below = All-nil (λ other. measure header ≤ℤ measure other);
      }

lesser_is_new : (n m : ℤ) → lt_z m n ≡ true → int_min n m ≡ m
lesser_is_new n m less = grind (arith, ints)

lesser_is_known : (n m : ℤ) → lt_z m n ≡ false → int_min n m ≡ n
lesser_is_known n m not_less = grind (arith, ints)

below_from : (n m : ℤ) → lt_z m n ≡ true → m <ℤ n
below_from n m less = grind (arith, ints)

not_below_from : (n m : ℤ) → lt_z m n ≡ false → n ≤ℤ m
not_below_from n m not_less = grind (arith, ints)

-- the written text of the lesser component goes with the lesser component
pub least_more : (measure : HeaderValue → ℤ) (text : Texts → List ℕ) (headers : List HeaderValue) (n : ℤ)
    (written : List ℕ) → IsLeast measure text headers n written
    → (header : HeaderValue) (texts : Texts) → HasTranslation header texts
    → IsLeast measure text (headers ++ header ∷ []) (int_min n (measure header))
    (if lt_z (measure header) n then text texts else written)
least_more measure text headers n written (least, of_least, found, has, n_is, written_is) header texts own =
    by_test (lt_z (measure header) n) refl
  where
    by_test : (test : Bool) → lt_z (measure header) n ≡ test
        → IsLeast measure text (headers ++ header ∷ []) (int_min n (measure header))
        (if test then text texts else written)
    by_test true less = (
      header,
      texts,
      now_least measure headers least found header
          (subst (λ k. measure header <ℤ k) n_is (below_from n (measure header) less)),
      own,
      lesser_is_new n (measure header) less,
      refl,
    )
    by_test false not_less = (
      least,
      of_least,
      still_least measure headers least found header
          (subst (λ k. k ≤ℤ measure header) n_is (not_below_from n (measure header) not_less)),
      has,
      lesser_is_known n (measure header) not_less ∙ n_is,
      written_is,
    )

-- of one header it is that header's
pub least_of_one : (measure : HeaderValue → ℤ) (text : Texts → List ℕ) (header : HeaderValue) (texts : Texts)
    → HasTranslation header texts → IsLeast measure text (header ∷ []) (measure header) (text texts)
least_of_one measure text header texts own =
    let first : IsFirstLeast measure (header ∷ []) header = record {
      before = [];
      after = [];
      headers_are = refl;
      above = All-nil (λ other. measure header <ℤ measure other);
      not_below = All-nil (λ other. measure header ≤ℤ measure other);
    } in
    (header, texts, first, own, refl, refl)

-- one axis of an origin, lowered to one header more
least_lowered : (measure : HeaderValue → ℤ) (text : Texts → List ℕ) (headers : List HeaderValue) (n : ℤ)
    (written : List ℕ) → IsLeast measure text headers n written
    → (header : HeaderValue) (own : Texts) → HasTranslation header own
    → (known new lowest : ℤ) (result : List ℕ) → known ≡ n → new ≡ measure header → lowest ≡ int_min n (measure header)
    → result ≡ (if lt_z new known then text own else written)
    → IsLeast measure text (headers ++ header ∷ []) lowest result
least_lowered measure text headers n written before header own has known new lowest result known_is new_is lowest_is
    result_is =
    let more = least_more measure text headers n written before header own has in
    let same : (if lt_z new known then text own else written)
    ≡ (if lt_z (measure header) n then text own else written) =
    ap (λ k. if lt_z k known then text own else written) new_is
    ∙ ap (λ k. if lt_z (measure header) k then text own else written) known_is in
    (more.0, more.1, more.2, more.3, lowest_is ∙ more.4, result_is ∙ (same ∙ more.5))

module _ (first : HeaderValue) (others : List HeaderValue) (grid : Grid) (texts : Texts)
    (before : IsOrigin Least first others grid texts) (header : HeaderValue) (own : Texts)
    (has : HasTranslation header own) where
  pub lowered_origin : (known new : Triple) → known ≡ grid.translate → new ≡ header.grid.translate
      → (lowest : Grid) → lowest.scale ≡ grid.scale → lowest.translate ≡ least grid.translate header.grid.translate
      → (written : Texts) → written.x ≡ (if lt_z new.x known.x then own.x else texts.x)
      → written.y ≡ (if lt_z new.y known.y then own.y else texts.y)
      → written.z ≡ (if lt_z new.z known.z then own.z else texts.z)
      → IsOrigin Least first (others ++ header ∷ []) lowest written
  lowered_origin known new known_is new_is lowest scale_is translate_is written x_is y_is z_is = (
    scale_is ∙ before.0,
    least_lowered (λ each. each.grid.translate.x) (λ each. each.x)
        (first ∷ others) grid.translate.x texts.x before.1 header own has known.x new.x lowest.translate.x written.x
        (ap (λ p. p.x) known_is) (ap (λ p. p.x) new_is) (ap (λ p. p.x) translate_is) x_is,
    least_lowered (λ each. each.grid.translate.y) (λ each. each.y)
        (first ∷ others) grid.translate.y texts.y before.2 header own has known.y new.y lowest.translate.y written.y
        (ap (λ p. p.y) known_is) (ap (λ p. p.y) new_is) (ap (λ p. p.y) translate_is) y_is,
    least_lowered (λ each. each.grid.translate.z) (λ each. each.z)
        (first ∷ others) grid.translate.z texts.z before.3 header own has known.z new.z lowest.translate.z written.z
        (ap (λ p. p.z) known_is) (ap (λ p. p.z) new_is) (ap (λ p. p.z) translate_is) z_is,
  )

-- the origin of one header is its own
pub own_is_least : (header : HeaderValue) (grid : Grid) (texts : Texts) → grid ≡ header.grid
    → HasTranslation header texts → IsOrigin Least header [] grid texts
own_is_least header grid texts grid_is has =
    subst (λ g. IsOrigin Least header [] g texts) (sym grid_is) (
      refl,
      least_of_one (λ each. each.grid.translate.x) (λ each. each.x) header texts has,
      least_of_one (λ each. each.grid.translate.y) (λ each. each.y) header texts has,
      least_of_one (λ each. each.grid.translate.z) (λ each. each.z) header texts has,
    )
