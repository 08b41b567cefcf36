-- What the functions on lists read is spelled so: what was found, and items.
use Rattle.std.proofs.Common.{◌≡◌, ◌++◌, ◌==◌, ◌∙◌, ◌≤◌, ℕ, zero, suc, true, List, ◌∷◌, Option, Some, length, refl, ap, sym, subst, arith, append_assoc, []}
use Rattle.std.proofs.lemmas.List.{append-nil}
use Rattle.std.proofs.lemmas.Bool.{eqb-true}
use Rattle.std.proofs.lemmas.Option.{none-some, same_Some}
use Rattle.city_json.specs.Bytes.{comma, close_bracket, close_brace}
use Rattle.city_json.specs.Compacting.{FoundItems}
use Rattle.city_json.specs.Fits.{depth, members_depth}
use Rattle.city_json.specs.Grammar.{IsBlank, Spaced, SpellsValue, SpellsMoreItems, SpellsMembers, SpellsMoreMembers, SpellsMember}
use Rattle.city_json.specs.Reading.{after_white, mark_at, items_at, items_after}
use Rattle.city_json.specs.Strings.{SpellsString}
use Rattle.city_json.specs.Tree.{Tree, ItemTrees, no_items, item, MemberTrees, no_members, member}
use Rattle.city_json.specs.declared.reading.AfterItem.{AfterItem}
use Rattle.city_json.specs.declared.reading.AfterItem.TheVariants as mark
use Rattle.city_json.proofs.Scanning.{bind_some, after_white-splits, mark_at-comma, mark_at-close}

abbrev pub Reader : Type 0
Reader = List ℕ → Option (Tree × List ℕ)

-- The bytes up to the rest spell the value, which is no deeper than this.
pub record Found (levels : ℕ) (value : Tree) (b rest : List ℕ) : Type 0 where
  pub text : List ℕ
  pub splits : b ≡ text ++ rest
  pub spells : SpellsValue value text
  pub within : depth value ≤ levels

abbrev pub IsSound : ℕ → Reader → Type 0
IsSound levels read = (b rest : List ℕ) (value : Tree) → read b ≡ Some (value, rest) → Found levels value b rest

blank_append : (v w : List ℕ) → IsBlank v → IsBlank w → IsBlank (v ++ w)
blank_append [] w p q = q
blank_append (c ∷ v) w p q = (p.0, blank_append v w p.1 q)

-- more white space before and after
spaced_wider : (P : List ℕ → Type 0) (v w b : List ℕ) → IsBlank v → IsBlank w → Spaced P b → Spaced P (v ++ (b ++ w))
spaced_wider P v w b p q s = (
  v ++ s.0,
  s.1,
  s.2 ++ w,
  rw s.3 (simp append_assoc),
  blank_append v s.0 p s.4,
  s.5,
  blank_append s.2 w s.6 q,
)

member_wider : (name : List ℕ) (P : List ℕ → Type 0) (v w b : List ℕ) → IsBlank v → IsBlank w → SpellsMember name P b
    → SpellsMember name P (v ++ (b ++ w))
member_wider name P v w b p q s =
    let front : Spaced (SpellsString name) (v ++ (s.0 ++ [])) = spaced_wider (SpellsString name) v [] s.0 p tt s.3 in
    let back : Spaced P ([] ++ (s.1 ++ w)) = spaced_wider P [] w s.1 tt q s.4 in
    (v ++ (s.0 ++ []), s.1 ++ w, rw (s.2, append-nil) (simp append_assoc), front, back)

pub record FoundMembers (levels : ℕ) (members : MemberTrees) (b rest : List ℕ) : Type 0 where
  pub inner : List ℕ
  pub splits : b ≡ inner ++ close_brace ∷ rest
  pub spells : (w : List ℕ) → IsBlank w → SpellsMembers members (w ++ inner)
  pub more : (w : List ℕ) → IsBlank w → SpellsMoreMembers members (comma ∷ (w ++ inner))
  pub within : members_depth members ≤ levels

pub record FoundMember (levels : ℕ) (name : List ℕ) (value : Tree) (b rest : List ℕ) : Type 0 where
  pub text : List ℕ
  pub splits : b ≡ text ++ rest
  pub spells : SpellsMember name (SpellsValue value) text
  pub within : depth value ≤ levels

-- what stands after other white space, and a comma before that
module _ (One More : List ℕ → Type 0) (first more : List ℕ)
    (one : (w : List ℕ) → IsBlank w → One (w ++ first)) (others : More more) where
  inner_spells : (w : List ℕ) → IsBlank w → (a b : List ℕ) × (w ++ (first ++ more) ≡ a ++ b) × One a × More b
  inner_spells w blank = (w ++ first, more, sym (append_assoc w first more), one w blank, others)

  comma_spells : (w : List ℕ) → IsBlank w
      → (a b : List ℕ) × (comma ∷ (w ++ (first ++ more)) ≡ comma ∷ (a ++ b)) × One a × More b
  comma_spells w blank =
      (w ++ first, more, ap (λ l. comma ∷ l) (sym (append_assoc w first more)), one w blank, others)

-- white space after an item or a member, and then the mark that closes all, or a comma and what follows
module _ (text b beyond : List ℕ) (splits : b ≡ text ++ beyond) where
  abbrev white : List ℕ
  white = (after_white-splits beyond).white

  closed_splits : (mark : ℕ) (rest : List ℕ) → after_white beyond ≡ mark ∷ rest
      → b ≡ ((text ++ white) ++ []) ++ mark ∷ rest
  closed_splits mark rest closes = splits ∙ (ap (λ l. text ++ l) ((after_white-splits beyond).splits
      ∙ ap (λ l. white ++ l) closes) ∙ simp (append_assoc, append-nil))

  further_splits : (after inner rest : List ℕ) (mark : ℕ) → after_white beyond ≡ comma ∷ after
      → after_white after ≡ inner ++ mark ∷ rest
      → b ≡ ((text ++ white) ++ comma ∷ ((after_white-splits after).white ++ inner)) ++ mark ∷ rest
  further_splits after inner rest mark goes next = splits ∙ (ap (λ l. text ++ l) ((after_white-splits beyond).splits
      ∙ ap (λ l. white ++ l) (goes ∙ ap (λ l. comma ∷ l) ((after_white-splits after).splits
      ∙ ap (λ l. (after_white-splits after).white ++ l) next))) ∙ simp append_assoc)

-- the last item, white space, and the bracket
pub items-last : (levels : ℕ) (value : Tree) (b beyond rest : List ℕ) → Found levels value b beyond
    → after_white beyond ≡ close_bracket ∷ rest → FoundItems levels (item value no_items) b rest
items-last levels value b beyond rest found closes =
    let white = after_white-splits beyond in
    let spaced : (w : List ℕ) → IsBlank w → Spaced (SpellsValue value) (w ++ (found.text ++ white.white)) =
    λ w blank. (w, found.text, white.white, refl, blank, found.spells, white.blank) in
    record {
      inner = (found.text ++ white.white) ++ [];
      splits = closed_splits found.text b beyond found.splits close_bracket rest closes;
      spells = inner_spells (Spaced (SpellsValue value)) (SpellsMoreItems no_items) (found.text ++ white.white) [] spaced
          refl;
      more = comma_spells (Spaced (SpellsValue value)) (SpellsMoreItems no_items) (found.text ++ white.white) [] spaced
          refl;
      within = omega (arith, found.within);
    }

-- an item, white space, a comma, white space, and further items
pub items-next : (levels : ℕ) (value : Tree) (others : ItemTrees) (b beyond after rest : List ℕ)
    → Found levels value b beyond → after_white beyond ≡ comma ∷ after
    → FoundItems levels others (after_white after) rest → FoundItems levels (item value others) b rest
items-next levels value others b beyond after rest found goes next =
    let white = after_white-splits beyond in
    let then = after_white-splits after in
    let tail : List ℕ = comma ∷ (then.white ++ next.inner) in
    let spaced : (w : List ℕ) → IsBlank w → Spaced (SpellsValue value) (w ++ (found.text ++ white.white)) =
    λ w blank. (w, found.text, white.white, refl, blank, found.spells, white.blank) in
    let further : SpellsMoreItems others tail = next.more then.white then.blank in
    record {
      inner = (found.text ++ white.white) ++ tail;
      splits = further_splits found.text b beyond found.splits after next.inner rest close_bracket goes next.splits;
      spells = inner_spells (Spaced (SpellsValue value)) (SpellsMoreItems others) (found.text ++ white.white) tail spaced
          further;
      more = comma_spells (Spaced (SpellsValue value)) (SpellsMoreItems others) (found.text ++ white.white) tail spaced
          further;
      within = omega (arith, found.within, next.within);
    }

pub members-last : (levels : ℕ) (name : List ℕ) (value : Tree) (b beyond rest : List ℕ)
    → FoundMember levels name value b beyond → after_white beyond ≡ close_brace ∷ rest
    → FoundMembers levels (member name value no_members) b rest
members-last levels name value b beyond rest found closes =
    let white = after_white-splits beyond in
    let One : List ℕ → Type 0 = SpellsMember name (SpellsValue value) in
    let spaced : (w : List ℕ) → IsBlank w → One (w ++ (found.text ++ white.white)) =
    λ w blank. member_wider name (SpellsValue value) w white.white found.text blank white.blank found.spells in
    record {
      inner = (found.text ++ white.white) ++ [];
      splits = closed_splits found.text b beyond found.splits close_brace rest closes;
      spells = inner_spells One (SpellsMoreMembers no_members) (found.text ++ white.white) [] spaced refl;
      more = comma_spells One (SpellsMoreMembers no_members) (found.text ++ white.white) [] spaced refl;
      within = omega (arith, found.within);
    }

pub members-next : (levels : ℕ) (name : List ℕ) (value : Tree) (others : MemberTrees) (b beyond after rest : List ℕ)
    → FoundMember levels name value b beyond → after_white beyond ≡ comma ∷ after
    → FoundMembers levels others (after_white after) rest → FoundMembers levels (member name value others) b rest
members-next levels name value others b beyond after rest found goes next =
    let white = after_white-splits beyond in
    let then = after_white-splits after in
    let tail : List ℕ = comma ∷ (then.white ++ next.inner) in
    let One : List ℕ → Type 0 = SpellsMember name (SpellsValue value) in
    let spaced : (w : List ℕ) → IsBlank w → One (w ++ (found.text ++ white.white)) =
    λ w blank. member_wider name (SpellsValue value) w white.white found.text blank white.blank found.spells in
    let further : SpellsMoreMembers others tail = next.more then.white then.blank in
    record {
      inner = (found.text ++ white.white) ++ tail;
      splits = further_splits found.text b beyond found.splits after next.inner rest close_brace goes next.splits;
      spells = inner_spells One (SpellsMoreMembers others) (found.text ++ white.white) tail spaced further;
      more = comma_spells One (SpellsMoreMembers others) (found.text ++ white.white) tail spaced further;
      within = omega (arith, found.within, next.within);
    }

-- the items, by what stands after the first
items_after-sound : (levels : ℕ) (more : List ℕ → Option (ItemTrees × List ℕ))
    → ((b rest : List ℕ) (items : ItemTrees) → more b ≡ Some (items, rest) → FoundItems levels items b rest)
    → (value : Tree) (b beyond rest : List ℕ) (items : ItemTrees) (found : AfterItem) (after : List ℕ)
    → Found levels value b beyond → mark_at close_bracket (after_white beyond) ≡ (found, after)
    → items_after more value (found, after) ≡ Some (items, rest) → FoundItems levels items b rest
items_after-sound levels more is_sound value b beyond rest items mark.Comma after first marked read =
    let step = bind_some (more (after_white after)) (λ others. Some (item value others.0, others.1)) (
      items,
      rest,
    ) read in
    let same = same_Some _ _ step.2 in
    let next : FoundItems levels step.0.0 (after_white after) step.0.1 =
    is_sound (after_white after) step.0.1 step.0.0 step.1 in
    let all : FoundItems levels (item value step.0.0) b step.0.1 =
    items-next levels value step.0.0 b beyond after step.0.1 first
    (mark_at-comma close_bracket (after_white beyond) after marked) next in
    subst (λ (p : ItemTrees × List ℕ). FoundItems levels p.0 b p.1) same all
items_after-sound levels more is_sound value b beyond rest items mark.Close after first marked read =
    subst (λ (p : ItemTrees × List ℕ). FoundItems levels p.0 b p.1)
    (same_Some (item value no_items, after) (items, rest) read)
    (items-last levels value b beyond after first (mark_at-close close_bracket (after_white beyond) after marked))
items_after-sound levels more is_sound value b beyond rest items mark.Neither after first marked read =
    absurd (none-some (items, rest) read)

pub items_at-sound : (levels : ℕ) (read : Reader) → IsSound levels read → (n : ℕ) (b rest : List ℕ) (items : ItemTrees)
    → items_at read n b ≡ Some (items, rest) → FoundItems levels items b rest
unfolding items_at
items_at-sound levels read is_sound zero b rest items is = absurd (none-some (items, rest) is)
items_at-sound levels read is_sound (suc n) b rest items is =
    let step = bind_some (read b) (λ first.
    items_after (items_at read n) first.0 (mark_at close_bracket (after_white first.1))) (items, rest) is in
    items_after-sound levels (items_at read n) (items_at-sound levels read is_sound n) step.0.0 b step.0.1 rest items
    (mark_at close_bracket (after_white step.0.1)).0 (mark_at close_bracket (after_white step.0.1)).1
    (is_sound b step.0.1 step.0.0 step.1) refl step.2

pub regroup : (a v w c d : List ℕ) (mark : ℕ) → a ++ (v ++ mark ∷ (w ++ (c ++ d))) ≡ ((a ++ v) ++ mark ∷ (w ++ c)) ++ d
regroup a v w c d mark = simp append_assoc

pub no_bytes : (b : List ℕ) → (length b == 0) ≡ true → b ≡ []
no_bytes [] is = refl
no_bytes (c ∷ b) is = absurd (omega (arith, eqb-true (length (c ∷ b)) 0 is))
