-- Arrays whose first items are triples, or whole numbers: what stands there, and what comes after it.
use Rattle.std.proofs.Common.{◌≡◌, ◌∙◌, ◌++◌, ◌+◌, ◌-◌, ◌<◌, ◌≤◌, ℕ, List, [], ◌∷◌, length, drop, get_or, refl, ap, sym, subst, arith, append_assoc, append-nil, slice_range}
use Rattle.std.proofs.lemmas.List.Folds.{drop_split}
use Rattle.city_json.specs.Bytes.{comma, open_bracket, close_bracket}
use Rattle.city_json.specs.Compact.{compact, compact_items, compact_more_items}
use Rattle.city_json.specs.Compacting.{shown, Taken, FoundItems, ItemsFrom}
use Rattle.city_json.specs.Fits.{depth, items_depth, AreDistinctItems}
use Rattle.city_json.specs.Grammar.{IsBlank, Spaced, SpellsValue}
use Rattle.city_json.specs.Reading.{after_white}
use Rattle.city_json.specs.Tree.{Tree, ItemTrees, no_items, item}
use Rattle.city_json.specs.Triples.{AreTriples}
use Rattle.city_json.specs.TriplesFound.{PassesTriples, with_commas}
use Rattle.city_json.specs.Whole.{Closes, IsLeft, after_comma}
use Rattle.city_json.specs.Writable.{AreWritableItems, IsWritable}
use Rattle.city_json.proofs.CompactLaws.{spelled, spelled-more_items}
use Rattle.city_json.proofs.CompleteParts.{begins, skips}
use Rattle.city_json.proofs.PassItems.{array_taken, items_begin, items_more}
use Rattle.city_json.proofs.Places.{drop_one, shown_more, shown_one}
use Rattle.city_json.proofs.TriplesTaken.{triple_distinct, triple_flat, writable_triple}

-- no white space stands before a value's compact text
clear : (value : Tree) (more : List ℕ) → IsWritable value
    → after_white (compact value ++ more) ≡ compact value ++ more
clear value more w = skips [] (compact value) more tt (begins value (compact value) (spelled value w))

-- ---- items in their compact text, and the bracket
spaced_after : (value : Tree) (w : List ℕ) → IsWritable value → IsBlank w → Spaced (SpellsValue value) (w ++ compact value)
spaced_after value w writable blank = (
  w,
  compact value,
  [],
  ap (λ l. w ++ l) (sym (append-nil (compact value))),
  blank,
  spelled value writable,
  tt,
)

compact_found : (levels : ℕ) (first : Tree) (others : ItemTrees) (rest : List ℕ) → AreWritableItems (item first others)
    → items_depth (item first others) ≤ levels
    → FoundItems levels (item first others) (compact_items (item first others) ++ close_bracket ∷ rest) rest
compact_found levels first others rest w within = record {
  inner = compact_items (item first others);
  splits = refl;
  spells = λ white blank. (
    white ++ compact first,
    compact_more_items others,
    sym (append_assoc white (compact first) (compact_more_items others)),
    spaced_after first white w.0 blank,
    spelled-more_items others w.1,
  );
  more = λ white blank. (
    white ++ compact first,
    compact_more_items others,
    ap (λ l. comma ∷ l) (sym (append_assoc white (compact first) (compact_more_items others))),
    spaced_after first white w.0 blank,
    spelled-more_items others w.1,
  );
  within = within;
}

compact_from : (levels : ℕ) (items : ItemTrees) (inner rest before : List ℕ) → IsLeft after_comma items inner
    → AreWritableItems items → AreDistinctItems items → items_depth items ≤ levels
    → ItemsFrom levels (after_white (inner ++ close_bracket ∷ rest)) rest before (before ++ (inner ++ close_bracket ∷ []))
compact_from levels no_items inner rest before left w distinct within = absurd left
compact_from levels (item first others) inner rest before left w distinct within =
    let all = compact_items (item first others) in
    let starts : after_white (inner ++ close_bracket ∷ rest) ≡ all ++ close_bracket ∷ rest =
    ap (λ l. after_white (l ++ close_bracket ∷ rest)) left
    ∙ ap after_white (append_assoc (compact first) (compact_more_items others) (close_bracket ∷ rest))
    ∙ clear first (compact_more_items others ++ close_bracket ∷ rest) w.0
    ∙ sym (append_assoc (compact first) (compact_more_items others) (close_bracket ∷ rest)) in
    subst (λ l. ItemsFrom levels l rest before (before ++ (inner ++ close_bracket ∷ []))) (sym starts) record {
      first = first;
      others = others;
      found = compact_found levels first others rest w within;
      distinct = distinct;
      is_shown = ap (λ l. before ++ (l ++ close_bracket ∷ [])) left;
    }

-- whole numbers, and arrays of them, after a comma
pub whole_more : (levels : ℕ) (line text : List ℕ) (from at end : ℕ) → from ≤ at → at < end
    → Closes 1 levels after_comma (slice_range text at end)
    → ItemsFrom levels (after_white (drop at text)) (drop end text) (shown line text from at) (shown line text from end)
whole_more levels line text from at end order onward closes =
    let written : slice_range text at end ≡ closes.inner ++ close_bracket ∷ [] =
    closes.splits ∙ ap (λ l. closes.inner ++ close_bracket ∷ l) closes.outer in
    let splits : drop at text ≡ closes.inner ++ close_bracket ∷ drop end text =
    drop_split text at end (omega arith) ∙ ap (λ l. l ++ drop end text) written
    ∙ append_assoc closes.inner (close_bracket ∷ []) (drop end text) in
    let shows : shown line text from end ≡ shown line text from at ++ (closes.inner ++ close_bracket ∷ []) =
    shown_more line text from at end order (omega arith) ∙ ap (λ l. shown line text from at ++ l) written in
    subst (λ l. ItemsFrom levels (after_white l) (drop end text) (shown line text from at) (shown line text from end))
    (sym splits)
    (subst (λ l. ItemsFrom levels (after_white (closes.inner ++ close_bracket ∷ drop end text)) (drop end text)
    (shown line text from at) l) (sym shows)
    (compact_from levels closes.items closes.inner (drop end text) (shown line text from at) closes.left closes.writable
    closes.distinct closes.within))

-- ---- triples, and whatever items come after them
items_pass : (levels : ℕ) (items : ItemTrees) (b rest before after : List ℕ) → 0 < levels → AreTriples items
    → ItemsFrom levels (after_white b) rest (before ++ with_commas items) after
    → ItemsFrom levels (after_white (with_commas items ++ b)) rest before after
items_pass levels no_items b rest before after deep are from =
    subst (λ l. ItemsFrom levels (after_white b) rest l after) (append-nil before) from
items_pass levels (item value others) b rest before after deep are from =
    let beyond = comma ∷ (with_commas others ++ b) in
    let joined : before ++ (compact value ++ comma ∷ with_commas others)
    ≡ ((before ++ compact value) ++ comma ∷ []) ++ with_commas others = simp append_assoc in
    let further = items_pass levels others b rest ((before ++ compact value) ++ comma ∷ []) after deep are.1
    (subst (λ l. ItemsFrom levels (after_white b) rest l after) joined from) in
    let flat : depth value ≡ 1 = triple_flat value are.0 in
    let taken : Taken levels (compact value ++ beyond) beyond before (before ++ compact value) = record {
      value = value;
      text = compact value;
      splits = refl;
      spells = spelled value (writable_triple value are.0);
      within = omega (arith, flat, deep);
      distinct = triple_distinct value are.0;
      is_shown = refl;
    } in
    let starts : after_white (with_commas (item value others) ++ b) ≡ compact value ++ beyond =
    ap after_white (append_assoc (compact value) (comma ∷ with_commas others) b)
    ∙ clear value beyond (writable_triple value are.0) in
    subst (λ l. ItemsFrom levels l rest before after) (sym starts)
    (items_more levels (compact value ++ beyond) beyond (with_commas others ++ b) rest before (before ++ compact value) after
    taken refl further)

-- an array that begins with triples, with a comma after each
pub triples_and_more : (levels : ℕ) (line text rest after : List ℕ) (from at i : ℕ) → 1 < levels → from ≤ at → at < i
    → at < length text → get_or text at 0 ≡ open_bracket → PassesTriples (slice_range text (at + 1) i)
    → ItemsFrom (levels - 1) (after_white (drop i text)) rest (shown line text from i) after
    → Taken levels (drop at text) rest (shown line text from at) after
triples_and_more levels line text rest after from at i deep order onward inside opened passed further =
    let splits : drop (at + 1) text ≡ with_commas passed.items ++ drop i text =
    drop_split text (at + 1) i (omega arith) ∙ ap (λ l. l ++ drop i text) passed.written in
    let shows : shown line text from i ≡ shown line text from (at + 1) ++ with_commas passed.items =
    shown_more line text from (at + 1) i (omega arith) (omega arith)
    ∙ ap (λ l. shown line text from (at + 1) ++ l) passed.written in
    let all : ItemsFrom (levels - 1) (after_white (drop (at + 1) text)) rest (shown line text from (at + 1)) after =
    subst (λ l. ItemsFrom (levels - 1) (after_white l) rest (shown line text from (at + 1)) after) (sym splits)
    (items_pass (levels - 1) passed.items (drop i text) rest (shown line text from (at + 1)) after (omega arith)
    passed.triples
    (subst (λ l. ItemsFrom (levels - 1) (after_white (drop i text)) rest l after) shows further)) in
    array_taken levels (drop at text) (drop (at + 1) text) rest (shown line text from at) (shown line text from (at + 1))
    after (λ none. omega (arith, none, deep)) (drop_one text at open_bracket inside opened)
    (shown_one line text from at open_bracket order inside opened)
    (items_begin (levels - 1) (drop (at + 1) text) rest (shown line text from (at + 1)) after all)
