use Rattle.std.proofs.Common.{◌≡◌, ◌∙◌, ◌+◌, ◌++◌, ◌<◌, [], ◌∷◌, ℕ, List, length, take, get_or, map, ap, sym, arith, take_all}
use Rattle.std.proofs.lemmas.List.{map_more}
use Rattle.city_json.specs.MemberName.{name_bytes}
use Rattle.city_json.specs.NamePrint.{print_of}
use Rattle.city_json.proofs.compacting.names.prints_of.Goals as goal

-- one more of what is made of each
one_more : {X Y : Type 0} (f : X → Y) (xs : List X) (i : ℕ) (d : X) (old new : List Y) (y : Y) → i < length xs
    → new ≡ old ++ y ∷ [] → old ≡ map f (take i xs) → y ≡ f (get_or xs i d) → new ≡ map f (take (i + 1) xs)
one_more f xs i d old new y inside pushed made is =
    pushed ∙ ap (λ ys. ys ++ y ∷ []) made ∙ ap (λ z. map f (take i xs) ++ z ∷ []) is ∙ sym (map_more f xs i d inside)

pub loop-name-preserved : goal.loop-name-preserved
loop-name-preserved c = (
  one_more _ _ _ _ _ _ _ c.loop-name-test.true c.push_reserved.ensures.items c.loop-name.invariant.0
      (c.print_of.ensures ∙ ap print_of c.bytes.ensures),
  omega arith,
  omega arith,
)

pub returns : goal.returns
returns c =
    c.loop-name.invariant.0
    ∙ ap (map (λ name. print_of (name_bytes c.args.text.now c.args.held.now name)))
    (take_all c.loop-name.name-index c.args.listed.now c.loop-name-test.false)

pub loop-name-init : goal.loop-name-init
loop-name-init c = (c.in-Ok.ensures.items, c.in-Ok.ensures.len, c.in-Ok.ensures.capacity)
