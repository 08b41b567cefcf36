-- Arrays of three whole numbers each, as values that were taken.
use Rattle.std.proofs.Common.{◌≡◌, ◌≢◌, ◌⊎◌, ◌∙◌, ◌++◌, ◌<◌, ◌≤◌, ℕ, List, [], ◌∷◌, drop, ap, sym, subst, arith, get_or, append-nil, inl, inr, slice_range}
use Rattle.std.proofs.lemmas.List.Folds.{drop_split}
use Rattle.city_json.proofs.CompactLaws.{spelled}
use Rattle.city_json.proofs.Places.{shown_more}
use Rattle.city_json.specs.Bytes.{digit_zero, minus}
use Rattle.city_json.specs.Compacting.{shown, Taken}
use Rattle.city_json.specs.Fits.{depth, items_depth, IsDistinct, AreDistinctItems}
use Rattle.city_json.specs.Grammar.{SpellsValue}
use Rattle.city_json.specs.Number.{IsMinus, IsNumber}
use Rattle.city_json.specs.Tree.{Tree, array, ItemTrees, no_items, item}
use Rattle.city_json.specs.Triples.{AreTriples, IsShortNumeral, IsTriple, IsTriplesText}
use Rattle.city_json.specs.Writable.{AreWritableItems, IsWritable}

pub number_is : (text : List ℕ) → IsShortNumeral text → IsNumber text
number_is text n = record {
  minus_sign = n.sign;
  whole = n.whole;
  fraction = [];
  exponent = [];
  spelled = n.splits ∙ ap (λ l. n.sign ++ l) (sym (append-nil n.whole));
  is_minus = sign n.is_sign;
  is_whole = n.is_whole;
  is_fraction = tt;
  is_exponent = tt;
}
  where
    sign : (n.sign ≡ []) ⊎ ((n.sign ≡ minus ∷ []) × (get_or n.whole 0 0 ≢ digit_zero)) → IsMinus n.sign
    sign (inl none) = inl none
    sign (inr some) = inr some.0

pub writable_triple : (value : Tree) → IsTriple value → IsWritable value
writable_triple value t = subst IsWritable (sym t.is)
    (number_is t.x t.short_x, (number_is t.y t.short_y, (number_is t.z t.short_z, tt)))

pub writable_triples : (items : ItemTrees) → AreTriples items → AreWritableItems items
writable_triples no_items are = tt
writable_triples (item value others) are = (writable_triple value are.0, writable_triples others are.1)

pub triple_distinct : (value : Tree) → IsTriple value → IsDistinct value
triple_distinct value t = subst IsDistinct (sym t.is) (tt, (tt, (tt, tt)))

pub triple_flat : (value : Tree) → IsTriple value → depth value ≡ 1
triple_flat value t = ap depth t.is

distinct_triples : (items : ItemTrees) → AreTriples items → AreDistinctItems items
distinct_triples no_items are = tt
distinct_triples (item value others) are = (triple_distinct value are.0, distinct_triples others are.1)

flat_triples : (items : ItemTrees) → AreTriples items → items_depth items ≤ 1
flat_triples no_items are = omega arith
flat_triples (item value others) are =
    let one : depth value ≡ 1 = triple_flat value are.0 in
    let rest = flat_triples others are.1 in
    omega (arith, one, rest)

pub triples_taken : (levels : ℕ) (line text : List ℕ) (from at end : ℕ) → 1 < levels → from ≤ at → at < end
    → IsTriplesText text at end
    → Taken levels (drop at text) (drop end text) (shown line text from at) (shown line text from end)
triples_taken levels line text from at end deep order onward is = record {
  value = array is.items;
  text = slice_range text at end;
  splits = drop_split text at end (omega arith);
  spells = subst (SpellsValue (array is.items)) (sym is.written)
      (spelled (array is.items) (writable_triples is.items is.triples));
  within = omega (arith, flat_triples is.items is.triples);
  distinct = distinct_triples is.items is.triples;
  is_shown = shown_more line text from at end order (omega arith) ∙ ap (λ l. shown line text from at ++ l) is.written;
}
