-- The members of an object that are appended one after another.
use Rattle.std.proofs.Common.{◌≡◌, ◌++◌, ◌∙◌, ◌==◌, ℕ, Bool, true, false, List, [], ◌∷◌, length, map, refl, ap, sym, append_assoc, arith}
use Rattle.std.proofs.lemmas.Bool.Decides.{nat_tests}
use Rattle.city_json.specs.Bytes.{colon, comma, open_brace, close_brace}
use Rattle.city_json.specs.Compact.{compact, compact_members, compact_more_members, quoted}
use Rattle.city_json.specs.Tree.{Tree, MemberTrees, member, member_trees, object}
use Rattle.city_feature.specs.Pieces.{members_text, start_text}

as_first : (line name value more : List ℕ)
    → line ++ (name ++ colon ∷ []) ++ value ++ more ≡ line ++ (name ++ colon ∷ value ++ more)
as_first line name value more = simp append_assoc

as_later : (line name value more : List ℕ)
    → line ++ comma ∷ (name ++ colon ∷ []) ++ value ++ more ≡ line ++ comma ∷ (name ++ colon ∷ value ++ more)
as_later line name value more = simp append_assoc

-- a member and then others are the members
pub next_member : (first : Bool) (line after name : List ℕ) (value : Tree) (others : MemberTrees)
    → after ≡ line ++ start_text first name ++ compact value
    → after ++ compact_more_members others ≡ line ++ members_text first (member name value others)
next_member true line after name value others is =
    ap (λ l. l ++ compact_more_members others) is
    ∙ as_first line (quoted name) (compact value) (compact_more_members others)
next_member false line after name value others is =
    ap (λ l. l ++ compact_more_members others) is
    ∙ as_later line (quoted name) (compact value) (compact_more_members others)

-- ---- one list of members after another
pub more_of_both : (xs ys : List (List ℕ × Tree)) → compact_more_members (member_trees (xs ++ ys))
    ≡ compact_more_members (member_trees xs) ++ compact_more_members (member_trees ys)
more_of_both [] ys = refl
more_of_both (x ∷ xs) ys =
    ap (λ more. comma ∷ (quoted x.0 ++ colon ∷ compact x.1 ++ more)) (more_of_both xs ys)
    ∙ ap (λ l. comma ∷ l) (sym (append_assoc (quoted x.0 ++ colon ∷ compact x.1)
    (compact_more_members (member_trees xs)) (compact_more_members (member_trees ys))))

abbrev pub is_nil : {A : Type 0} → List A → Bool
is_nil [] = true
is_nil (x ∷ xs) = false

pub length_is_nil : {A : Type 0} (xs : List A) → (length xs == 0) ≡ is_nil xs
length_is_nil [] = refl
length_is_nil (x ∷ xs) = grind (arith, nat_tests)

pub nil_of_map : {X Y : Type 0} (f : X → Y) (xs : List X) → is_nil xs ≡ is_nil (map f xs)
nil_of_map f [] = refl
nil_of_map f (x ∷ xs) = refl

pub members_of_both : (xs ys : List (List ℕ × Tree)) → compact_members (member_trees (xs ++ ys))
    ≡ compact_members (member_trees xs) ++ members_text (is_nil xs) (member_trees ys)
members_of_both [] ys = refl
members_of_both (x ∷ xs) ys =
    ap (λ more. quoted x.0 ++ colon ∷ compact x.1 ++ more) (more_of_both xs ys)
    ∙ sym (append_assoc (quoted x.0 ++ colon ∷ compact x.1)
    (compact_more_members (member_trees xs)) (compact_more_members (member_trees ys)))

-- ---- an object from its brace to its brace
between_braces : (line inner : List ℕ)
    → line ++ open_brace ∷ [] ++ inner ++ close_brace ∷ [] ≡ line ++ open_brace ∷ (inner ++ close_brace ∷ [])
between_braces line inner = simp append_assoc

module _ (line opened front : List ℕ) (before : List (List ℕ × Tree)) (nil : Bool) (nil_is : nil ≡ is_nil before)
    (opens : opened ≡ line ++ open_brace ∷ []) (front_is : front ≡ opened ++ compact_members (member_trees before)) where
  -- an object of some members, and then of others
  pub object_of_both : (inside closed : List ℕ) (others : List (List ℕ × Tree)) (all : MemberTrees)
      → all ≡ member_trees (before ++ others) → inside ≡ front ++ members_text nil (member_trees others)
      → closed ≡ inside ++ close_brace ∷ [] → closed ≡ line ++ compact (object all)
  object_of_both inside closed others all are holds closes =
      let text : List ℕ = compact_members (member_trees before) ++ members_text nil (member_trees others) in
      let text_is : text ≡ compact_members all =
      ap (λ b. compact_members (member_trees before) ++ members_text b (member_trees others)) nil_is
      ∙ (sym (members_of_both before others) ∙ ap compact_members (sym are)) in
      let holds_text : inside ≡ line ++ open_brace ∷ [] ++ text = holds
      ∙ (ap (λ l. l ++ members_text nil (member_trees others)) front_is
      ∙ (append_assoc opened (compact_members (member_trees before)) (members_text nil (member_trees others))
      ∙ ap (λ l. l ++ text) opens)) in
      closes ∙ (ap (λ l. l ++ close_brace ∷ []) holds_text ∙ (between_braces line text
      ∙ ap (λ l. line ++ open_brace ∷ (l ++ close_brace ∷ [])) text_is))

  -- the same with one of them between
  pub object_around : (name begun valued inside closed : List ℕ) (value : Tree) (others : List (List ℕ × Tree))
      (all : MemberTrees) → all ≡ member_trees (before ++ (name, value) ∷ others)
      → begun ≡ front ++ start_text nil name → valued ≡ begun ++ compact value
      → inside ≡ valued ++ compact_more_members (member_trees others) → closed ≡ inside ++ close_brace ∷ []
      → closed ≡ line ++ compact (object all)
  object_around name begun valued inside closed value others all are begins holds ends closes =
      object_of_both inside closed ((name, value) ∷ others) all are
      (ends ∙ next_member nil front valued name value (member_trees others)
      (holds ∙ ap (λ l. l ++ compact value) begins))
      closes
