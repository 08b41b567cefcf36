use Rattle.std.proofs.Common.{◌≡◌, ◌∙◌, ◌-◌, ℕ, List, length, take, drop, ap, sym, subst, map, arith}
use Rattle.std.proofs.lemmas.List.{drop-map, take_rest}
use Rattle.std.proofs.lemmas.List.Elements.{All-drop, All-take}
use Rattle.std.specs.List.{All}
use Rattle.city_json.specs.ListedNames.{ListedName, names_in}
use Rattle.city_json.specs.MemberName.{AreListed, IsWithin, listed_name, name_bytes}
use Rattle.city_json.specs.declared.compacting.name.Name.{Name}
use Rattle.city_json.proofs.HeldNames.{all_within, listed_bytes}
use Rattle.city_json.proofs.Options.{on_some_more}
use Rattle.city_json.proofs.compacting.names.Names.several_are_apart_from.Goals as goal

-- the names from `base` on, as the slices of what is listed and held
from_base : (text : List ℕ) (names : List ListedName) (listed slice : List Name) (held all : List ℕ) (text_len base : ℕ)
    → length text ≡ text_len → names ≡ map (listed_name text_len held) listed → slice ≡ listed → all ≡ held
    → drop base (names_in text names) ≡ map (name_bytes text all) (take (length slice - base) (drop base slice))
from_base text names listed slice held all text_len base long seen same whole =
    ap (λ l. drop base (names_in text l)) seen
    ∙ (ap (drop base) (listed_bytes text held text_len listed long)
    ∙ (drop-map (name_bytes text held) base listed
    ∙ (ap (map (name_bytes text held)) (sym (take_rest listed base))
    ∙ (ap (λ l. map (name_bytes text held) (take (length l - base) (drop base l))) (sym same)
    ∙ ap (λ h. map (name_bytes text h) (take (length slice - base) (drop base slice))) (sym whole)))))

within_from : (listed slice : List Name) (held all : List ℕ) (text_len long n base : ℕ)
    → AreListed text_len listed (length held) → long ≡ text_len → slice ≡ listed → all ≡ held
    → All (IsWithin long (length all)) (take n (drop base slice))
within_from listed slice held all text_len long n base are same_len same whole =
    All-take (IsWithin long (length all)) n (drop base slice) (All-drop (IsWithin long (length all)) base slice
    (subst (λ t. All (IsWithin t (length all)) slice) (sym same_len)
    (subst (λ h. All (IsWithin text_len (length h)) slice) (sym whole)
    (subst (All (IsWithin text_len (length held))) (sym same) (all_within listed text_len (length held) are)))))

pub few_are_apart-requires : goal.few_are_apart-requires
few_are_apart-requires c = record {
  within = within_from c.self.inside.listed.items c.deref.result.now c.self.inside.held.items
      c.deref-then-listed-le-MAX_COMPARED_AT_ONCE.result.now c.self.inside.text_len (length c.args.text.now) _
      c.args.base
      c.self.invariant (omega (arith, c.if-text-self.false)) c.deref.ensures.value
      c.deref-then-listed-le-MAX_COMPARED_AT_ONCE.ensures.value;
}

pub many_are_apart-requires : goal.many_are_apart-requires
many_are_apart-requires c = record {
  within = within_from c.self.inside.listed.items c.deref.result.now c.self.inside.held.items
      c.deref-2.result.now c.self.inside.text_len (length c.args.text.now) _
      c.args.base
      c.self.invariant (omega (arith, c.if-text-self.false)) c.deref.ensures.value
      c.deref-2.ensures.value;
}

pub returns-then-listed-le-MAX_COMPARED_AT_ONCE : goal.returns-then-listed-le-MAX_COMPARED_AT_ONCE
returns-then-listed-le-MAX_COMPARED_AT_ONCE c = on_some_more c.few_are_apart.result (λ apart members is.
    apart members (is
    ∙ from_base c.args.text.now c.args.self.now c.self.inside.listed.items c.deref.result.now c.self.inside.held.items
    c.deref-then-listed-le-MAX_COMPARED_AT_ONCE.result.now c.self.inside.text_len c.args.base
    (omega (arith, c.if-text-self.false)) (sym c.self.view_is)
    c.deref.ensures.value c.deref-then-listed-le-MAX_COMPARED_AT_ONCE.ensures.value)) c.few_are_apart.ensures

pub returns : goal.returns
returns c = on_some_more c.many_are_apart.result (λ apart members is.
    apart members (is
    ∙ from_base c.args.text.now c.args.self.now c.self.inside.listed.items c.deref.result.now c.self.inside.held.items
    c.deref-2.result.now c.self.inside.text_len c.args.base
    (omega (arith, c.if-text-self.false)) (sym c.self.view_is)
    c.deref.ensures.value c.deref-2.ensures.value)) c.many_are_apart.ensures
