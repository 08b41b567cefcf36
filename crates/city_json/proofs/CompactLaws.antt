-- The compact text of a value spells it, is UTF-8, and has no byte below a space.
use Rattle.std.proofs.Common.{◌≡◌, ◌≢◌, ℕ, zero, suc, ◌≤◌, true, false, List, [], ◌∷◌, ◌++◌, All, IsUtf8, refl, sym, subst, arith}
use Rattle.std.specs.List.{AllByRecursion}
use Rattle.std.proofs.lemmas.Bool.Decides.{nat_tests}
use Rattle.std.proofs.lemmas.List.{append-nil}
use Rattle.std.proofs.lemmas.Str.{IsUtf8-nil}
use Rattle.city_json.specs.Bytes.{open_bracket, close_bracket, open_brace, close_brace, comma, colon, space, newline}
use Rattle.city_json.specs.Compact.{compact, compact_items, compact_more_items, compact_members, compact_more_members, quoted}
use Rattle.city_json.specs.Grammar.{Spaced, SpellsValue, SpellsItems, SpellsMoreItems, SpellsMembers, SpellsMoreMembers, Spells}
use Rattle.city_json.specs.NumberAt.{is_number_byte}
use Rattle.city_json.specs.Tree.{Tree, null, boolean, number, string, array, object, ItemTrees, no_items, item, MemberTrees, no_members, member}
use Rattle.city_json.specs.Writable.{IsWritable, AreWritableItems, AreWritableMembers}
use Rattle.city_json.proofs.Complete.{one_meaning}
use Rattle.city_json.proofs.CompactText.{IsClean, IsGraphic, clean-append, clean-graphic, quoted-spells}
use Rattle.city_json.proofs.NumberLaws.{IsNumber-bytes}

spaced : (P : List ℕ → Type 0) (b : List ℕ) → P b → Spaced P b
spaced P b is = ([], b, [], sym (append-nil b), tt, is, tt)

mutual
  pub spelled : (value : Tree) → IsWritable value → SpellsValue value (compact value)
  spelled null w = refl
  spelled (boolean true) w = refl
  spelled (boolean false) w = refl
  spelled (number text) w = (refl, w)
  spelled (string text) w = (quoted-spells text w).0
  spelled (array items) w = (compact_items items, refl, spelled-items items w)
  spelled (object members) w = (compact_members members, refl, spelled-members members w)

  pub spelled-items : (items : ItemTrees) → AreWritableItems items → SpellsItems items (compact_items items)
  spelled-items no_items w = tt
  spelled-items (item value others) w = (
    compact value,
    compact_more_items others,
    refl,
    spaced (SpellsValue value) (compact value) (spelled value w.0),
    spelled-more_items others w.1,
  )

  pub spelled-more_items : (items : ItemTrees) → AreWritableItems items → SpellsMoreItems items (compact_more_items items)
  spelled-more_items no_items w = refl
  spelled-more_items (item value others) w = (
    compact value,
    compact_more_items others,
    refl,
    spaced (SpellsValue value) (compact value) (spelled value w.0),
    spelled-more_items others w.1,
  )

  spelled-members : (members : MemberTrees) → AreWritableMembers members
      → SpellsMembers members (compact_members members)
  spelled-members no_members w = tt
  spelled-members (member name value others) w = (
    quoted name ++ colon ∷ compact value,
    compact_more_members others,
    refl,
    (
      quoted name,
      compact value,
      refl,
      spaced _ (quoted name) (quoted-spells name w.0).0,
      spaced (SpellsValue value) (compact value) (spelled value w.1),
    ),
    spelled-more_members others w.2,
  )

  spelled-more_members : (members : MemberTrees) → AreWritableMembers members
      → SpellsMoreMembers members (compact_more_members members)
  spelled-more_members no_members w = refl
  spelled-more_members (member name value others) w = (
    quoted name ++ colon ∷ compact value,
    compact_more_members others,
    refl,
    (
      quoted name,
      compact value,
      refl,
      spaced _ (quoted name) (quoted-spells name w.0).0,
      spaced (SpellsValue value) (compact value) (spelled value w.1),
    ),
    spelled-more_members others w.2,
  )

graphic-number : (text : List ℕ) → AllByRecursion (λ c. is_number_byte c ≡ true) text → AllByRecursion IsGraphic text
graphic-number [] bytes = tt
graphic-number (c ∷ text) bytes = let first : is_number_byte c ≡ true = bytes.0 in
    ((grind (arith, nat_tests), grind (arith, nat_tests)), graphic-number text bytes.1)

clean-mark : (mark : ℕ) → IsGraphic mark → IsClean (mark ∷ [])
clean-mark mark graphic = clean-graphic (mark ∷ []) (graphic, tt)

clean-after : (mark : ℕ) (b : List ℕ) → IsGraphic mark → IsClean b → IsClean (mark ∷ b)
clean-after mark b graphic clean = clean-append (mark ∷ []) b (clean-mark mark graphic) clean

clean-between : (opening closing : ℕ) (b : List ℕ) → IsGraphic opening → IsGraphic closing → IsClean b
    → IsClean (opening ∷ b ++ closing ∷ [])
clean-between opening closing b first last clean =
    clean-after opening (b ++ closing ∷ []) first (clean-append b (closing ∷ []) clean (clean-mark closing last))

clean-member : (name : List ℕ) (value : Tree) → IsUtf8 name → IsClean (compact value)
    → IsClean (quoted name ++ colon ∷ compact value)
clean-member name value utf8 is =
    clean-append (quoted name) (colon ∷ compact value) (quoted-spells name utf8).1
    (clean-after colon (compact value) (omega arith, omega arith) is)

mutual
  clean : (value : Tree) → IsWritable value → IsClean (compact value)
  clean null w = clean-graphic _ (
    (omega arith, omega arith),
    ((omega arith, omega arith), ((omega arith, omega arith), ((omega arith, omega arith), tt))),
  )
  clean (boolean true) w = clean-graphic _ (
    (omega arith, omega arith),
    ((omega arith, omega arith), ((omega arith, omega arith), ((omega arith, omega arith), tt))),
  )
  clean (boolean false) w = clean-graphic _ (
    (omega arith, omega arith),
    (
      (omega arith, omega arith),
      (
        (omega arith, omega arith),
        ((omega arith, omega arith), ((omega arith, omega arith), tt)),
      ),
    ),
  )
  clean (number text) w = clean-graphic text (graphic-number text (IsNumber-bytes text w))
  clean (string text) w = (quoted-spells text w).1
  clean (array items) w = clean-between open_bracket close_bracket (compact_items items) (
    omega arith,
    omega arith,
  ) (omega arith, omega arith) (clean-items items w)
  clean (object members) w = clean-between open_brace close_brace (compact_members members) (
    omega arith,
    omega arith,
  ) (omega arith, omega arith) (clean-members members w)

  clean-items : (items : ItemTrees) → AreWritableItems items → IsClean (compact_items items)
  clean-items no_items w = (IsUtf8-nil, tt)
  clean-items (item value others) w =
      clean-append (compact value) (compact_more_items others) (clean value w.0) (clean-more_items others w.1)

  clean-more_items : (items : ItemTrees) → AreWritableItems items → IsClean (compact_more_items items)
  clean-more_items no_items w = (IsUtf8-nil, tt)
  clean-more_items (item value others) w =
      clean-append (comma ∷ compact value) (compact_more_items others)
      (clean-after comma (compact value) (omega arith, omega arith) (clean value w.0)) (clean-more_items others w.1)

  clean-members : (members : MemberTrees) → AreWritableMembers members → IsClean (compact_members members)
  clean-members no_members w = (IsUtf8-nil, tt)
  clean-members (member name value others) w =
      clean-append (quoted name ++ colon ∷ compact value) (compact_more_members others)
      (clean-member name value w.0 (clean value w.1)) (clean-more_members others w.2)

  clean-more_members : (members : MemberTrees) → AreWritableMembers members → IsClean (compact_more_members members)
  clean-more_members no_members w = (IsUtf8-nil, tt)
  clean-more_members (member name value others) w =
      clean-append (comma ∷ quoted name ++ colon ∷ compact value) (compact_more_members others)
      (clean-after comma (quoted name ++ colon ∷ compact value) (
        omega arith,
        omega arith,
      ) (clean-member name value w.0 (clean value w.1))) (clean-more_members others w.2)

pub compact-spells : (value : Tree) → IsWritable value → Spells (compact value) value
compact-spells value w = ((clean value w).0, spaced (SpellsValue value) (compact value) (spelled value w))

no-newline : (b : List ℕ) → AllByRecursion (λ c. space ≤ c) b → All (λ c. c ≢ newline) b
no-newline [] above k d within = absurd (omega arith)
no-newline (c ∷ b) above zero d within = omega (arith, above.0)
no-newline (c ∷ b) above (suc k) d within = no-newline b above.1 k d (omega arith)

pub compact-one_line : (value : Tree) → IsWritable value → All (λ c. c ≢ newline) (compact value)
compact-one_line value w = no-newline (compact value) (clean value w).1

pub compact-tells : (a b : Tree) → IsWritable a → IsWritable b → compact a ≡ compact b → a ≡ b
compact-tells a b wa wb e = one_meaning (compact a) a b (compact-spells a wa).1
    (subst (Spaced (SpellsValue b)) (sym e) (compact-spells b wb).1)
