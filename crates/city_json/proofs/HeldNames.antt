-- Names of open objects, of which those with escapes are held in the order in which they are listed.
use Rattle.std.proofs.Common.{◌≡◌, ◌∙◌, ◌≤◌, ◌<◌, ◌+◌, ◌-◌, ℕ, zero, suc, Bool, true, false, List, [], ◌∷◌, ◌++◌, length, take, drop, map, refl, ap, sym, subst, arith, length-append, length-take-le, length-drop, nat_lt}
use Rattle.std.proofs.lemmas.Bool.Decides.{nat_tests}
use Rattle.std.proofs.Math.Seq.{drop-append_seam}
use Rattle.std.proofs.lemmas.List.{drop-append-le, map-append, take-append-drop, take-append-le, take-map, take_all, take_rest}
use Rattle.std.proofs.lemmas.Simd.{map-map}
use Rattle.std.specs.List.{All, slice_range}
use Rattle.std.specs.Prelude.{if◌then◌else◌}
use Rattle.city_json.specs.ListedNames.{as_decoded, as_written, bytes_in, names_in}
use Rattle.city_json.specs.MemberName.{AreListed, IsWithin, LieInOrder, after_name, first_held, listed_name, name_bytes}
use Rattle.city_json.specs.declared.compacting.name.Name.{Name}

-- ---- in which order they are held
after : (text_len from : ℕ) (name : Name) → name.from ≤ name.end → (text_len ≤ name.end → from ≡ name.from)
    → from ≤ after_name text_len from name
after text_len from name ordered apart = grind (arith, nat_tests)

none_fewer : (listed : List Name) (text_len from end : ℕ) → LieInOrder text_len from listed end → from ≤ end
none_fewer [] text_len from end are = omega (arith, are)
none_fewer (name ∷ others) text_len from end are =
    omega (
      arith,
      after text_len from name are.0 are.1,
      none_fewer others text_len (after_name text_len from name) end are.2,
    )

first_is : (listed : List Name) (text_len from end : ℕ) → LieInOrder text_len from listed end
    → from ≡ first_held text_len listed end
first_is [] text_len from end are = are
first_is (name ∷ others) text_len from end are =
    let further : after_name text_len from name ≡ first_held text_len others end =
    first_is others text_len (after_name text_len from name) end are.2 in
    let here = are.1 in
    grind (arith, nat_tests)

first_within : (listed : List Name) (text_len from end : ℕ) → LieInOrder text_len from listed end
    → first_held text_len listed end ≤ end
first_within [] text_len from end are = omega arith
first_within (name ∷ others) text_len from end are =
    let further : first_held text_len others end ≤ end =
    first_within others text_len (after_name text_len from name) end are.2 in
    let ordered = are.0 in
    let last : after_name text_len from name ≤ end =
    none_fewer others text_len (after_name text_len from name) end are.2 in
    grind (arith, nat_tests)

-- those at the front, where the others are left out
stay : (listed : List Name) (base text_len from end : ℕ) → LieInOrder text_len from listed end
    → LieInOrder text_len from (take base listed) (first_held text_len (drop base listed) end)
stay listed zero text_len from end are = first_is listed text_len from end are
stay [] (suc base) text_len from end are = are
stay (name ∷ others) (suc base) text_len from end are =
    (are.0, are.1, stay others base text_len (after_name text_len from name) end are.2)

rest_within : (listed : List Name) (base text_len from end : ℕ) → LieInOrder text_len from listed end
    → first_held text_len (drop base listed) end ≤ end
rest_within listed zero text_len from end are = first_within listed text_len from end are
rest_within [] (suc base) text_len from end are = omega arith
rest_within (name ∷ others) (suc base) text_len from end are =
    rest_within others base text_len (after_name text_len from name) end are.2

-- one more after them
one_written : (listed : List Name) (name : Name) (text_len from end : ℕ) → LieInOrder text_len from listed end
    → name.from ≤ name.end → name.end < text_len → LieInOrder text_len from (listed ++ name ∷ []) end
one_written [] name text_len from end are ordered inside =
    let same : after_name text_len from name ≡ from = grind (arith, nat_tests) in
    (ordered, λ held. absurd (omega (arith, held, inside)), omega (arith, are, same))
one_written (other ∷ others) name text_len from end are ordered inside =
    (are.0, are.1, one_written others name text_len (after_name text_len from other) end are.2 ordered inside)

one_held : (listed : List Name) (name : Name) (text_len from end : ℕ) → LieInOrder text_len from listed end
    → end ≡ name.from → name.from ≤ name.end → text_len ≤ name.end
    → LieInOrder text_len from (listed ++ name ∷ []) name.end
one_held [] name text_len from end are next ordered held =
    let last : after_name text_len from name ≡ name.end = grind (arith, nat_tests) in
    (ordered, λ _. are ∙ next, last)
one_held (other ∷ others) name text_len from end are next ordered held =
    (are.0, are.1, one_held others name text_len (after_name text_len from other) end are.2 next ordered held)

-- ---- each lies in the text or in what is held
within_here : (name : Name) (text_len from end held_len : ℕ) → text_len ≤ from → end ≤ text_len + held_len
    → name.from ≤ name.end → (text_len ≤ name.end → from ≡ name.from) → after_name text_len from name ≤ end
    → IsWithin text_len held_len name
within_here name text_len from end held_len beyond enough ordered apart last = record {
  ordered = ordered;
  inside = grind (arith, nat_tests);
  apart = λ held. omega (arith, beyond, apart held);
}

each_within : (listed : List Name) (text_len from end held_len : ℕ) → LieInOrder text_len from listed end
    → text_len ≤ from → end ≤ text_len + held_len → All (IsWithin text_len held_len) listed
each_within [] text_len from end held_len are beyond enough k d inside = absurd (omega (arith, inside))
each_within (name ∷ others) text_len from end held_len are beyond enough zero d inside =
    within_here name text_len from end held_len beyond enough are.0 are.1
    (none_fewer others text_len (after_name text_len from name) end are.2)
each_within (name ∷ others) text_len from end held_len are beyond enough (suc k) d inside =
    each_within others text_len (after_name text_len from name) end held_len are.2
    (omega (arith, beyond, after text_len from name are.0 are.1)) enough k d (omega (arith, inside))

pub all_within : (listed : List Name) (text_len held_len : ℕ) → AreListed text_len listed held_len
    → All (IsWithin text_len held_len) listed
all_within listed text_len held_len are =
    each_within listed text_len text_len (text_len + held_len) held_len are.in_order (omega arith) (omega arith)

-- ---- their bytes
front_range : (xs ys : List ℕ) (a b : ℕ) → a ≤ b → b ≤ length xs → slice_range xs a b ≡ slice_range (xs ++ ys) a b
front_range xs ys a b ordered inside =
    let left : length (drop a xs) ≡ length xs - a = length-drop a xs in
    sym (ap (take (b - a)) (drop-append-le a xs ys (omega (arith, ordered, inside)))
    ∙ take-append-le (b - a) (drop a xs) ys (omega (arith, ordered, inside, left)))

same_name : (name : Name) (text_len : ℕ) (held more : List ℕ) → name.from ≤ name.end
    → name.end ≤ text_len + length held → listed_name text_len held name ≡ listed_name text_len (held ++ more) name
same_name name text_len held more ordered inside = by (nat_lt name.end text_len)
  where
    by : (b : Bool) → (if b then as_written name.from name.end
        else as_decoded (slice_range held (name.from - text_len) (name.end - text_len)))
        ≡ (if b then as_written name.from name.end
        else as_decoded (slice_range (held ++ more) (name.from - text_len) (name.end - text_len)))
    by true = refl
    by false = ap as_decoded (front_range held more (name.from - text_len) (name.end - text_len)
        (omega (arith, ordered)) (omega (arith, inside)))

-- the same names, where more is held
same_names : (listed : List Name) (text_len from end : ℕ) (held more : List ℕ) → LieInOrder text_len from listed end
    → text_len ≤ from → end ≤ text_len + length held
    → map (listed_name text_len held) listed ≡ map (listed_name text_len (held ++ more)) listed
same_names [] text_len from end held more are beyond enough = refl
same_names (name ∷ others) text_len from end held more are beyond enough =
    let here : IsWithin text_len (length held) name =
    within_here name text_len from end (length held) beyond enough are.0 are.1
    (none_fewer others text_len (after_name text_len from name) end are.2) in
    ap (λ n. n ∷ map (listed_name text_len held) others) (same_name name text_len held more here.ordered here.inside)
    ∙ ap (λ l. listed_name text_len (held ++ more) name ∷ l)
    (same_names others text_len (after_name text_len from name) end held more are.2
    (omega (arith, beyond, after text_len from name are.0 are.1)) enough)

-- ---- after a push
pub pushed_written : (listed listed₂ : List Name) (name : Name) (text_len held_len : ℕ)
    → AreListed text_len listed held_len → listed₂ ≡ listed ++ name ∷ [] → name.from ≤ name.end → name.end < text_len
    → AreListed text_len listed₂ held_len
pushed_written listed listed₂ name text_len held_len are now ordered inside = record {
  short = are.short;
  in_order = subst (λ l. LieInOrder text_len text_len l (text_len + held_len)) (sym now)
      (one_written listed name text_len text_len (text_len + held_len) are.in_order ordered inside);
}

pub pushed_held : (listed listed₁ listed₂ : List Name) (name : Name) (held held₂ bytes : List ℕ) (text_len : ℕ)
    → AreListed text_len listed (length held) → listed₁ ≡ listed → listed₂ ≡ listed₁ ++ name ∷ []
    → held₂ ≡ held ++ bytes
    → name.from ≡ text_len + length held → name.end ≡ text_len + length held + length bytes
    → AreListed text_len listed₂ (length held₂)
pushed_held listed listed₁ listed₂ name held held₂ bytes text_len are same now kept from end =
    let long : length held₂ ≡ length held + length bytes = ap length kept ∙ length-append held bytes in
    record {
      short = are.short;
      in_order = subst (λ l. LieInOrder text_len text_len l (text_len + length held₂))
          (sym (now ∙ ap (λ l. l ++ name ∷ []) same))
          (subst (LieInOrder text_len text_len (listed ++ name ∷ [])) (omega (arith, end, long))
          (one_held listed name text_len text_len (text_len + length held) are.in_order (sym from)
          (omega (arith, from, end)) (omega (arith, end))));
    }

last_range : (held bytes : List ℕ) (from end : ℕ) → from ≡ length held → end ≡ length held + length bytes
    → slice_range (held ++ bytes) from end ≡ bytes
last_range held bytes from end first last =
    ap (λ a. slice_range (held ++ bytes) a end) first
    ∙ (ap (take (end - length held)) (drop-append_seam held bytes)
    ∙ take_all (end - length held) bytes (omega (arith, last)))

last_name : (name : Name) (held bytes : List ℕ) (text_len : ℕ) → name.from ≡ text_len + length held
    → name.end ≡ text_len + length held + length bytes
    → listed_name text_len (held ++ bytes) name ≡ as_decoded bytes
last_name name held bytes text_len from end =
    let tells : nat_lt name.end text_len ≡ false = grind (arith, nat_tests) in
    ap (λ b. if b then as_written name.from name.end
    else as_decoded (slice_range (held ++ bytes) (name.from - text_len) (name.end - text_len))) tells
    ∙ ap as_decoded (last_range held bytes (name.from - text_len) (name.end - text_len) (omega (arith, from))
    (omega (arith, end)))

pub pushed_names : (listed listed₁ listed₂ : List Name) (name : Name) (held held₂ bytes : List ℕ) (text_len : ℕ)
    → AreListed text_len listed (length held) → listed₁ ≡ listed → listed₂ ≡ listed₁ ++ name ∷ []
    → held₂ ≡ held ++ bytes
    → name.from ≡ text_len + length held → name.end ≡ text_len + length held + length bytes
    → map (listed_name text_len held₂) listed₂ ≡ map (listed_name text_len held) listed ++ as_decoded bytes ∷ []
pushed_names listed listed₁ listed₂ name held held₂ bytes text_len are same now kept from end =
    ap (λ h. map (listed_name text_len h) listed₂) kept
    ∙ (ap (map (listed_name text_len (held ++ bytes))) (now ∙ ap (λ l. l ++ name ∷ []) same)
    ∙ (map-append (listed_name text_len (held ++ bytes)) listed (name ∷ [])
    ∙ (ap (λ n. map (listed_name text_len (held ++ bytes)) listed ++ n ∷ [])
    (last_name name held bytes text_len from end)
    ∙ ap (λ l. l ++ as_decoded bytes ∷ []) (sym (same_names listed text_len text_len (text_len + length held) held bytes
    are.in_order (omega arith) (omega arith))))))

-- ---- after a truncate
pub left_written : (listed listed₂ : List Name) (base text_len held_len : ℕ) → AreListed text_len listed held_len
    → held_len ≡ 0 → listed₂ ≡ take base listed → AreListed text_len listed₂ held_len
left_written listed listed₂ base text_len held_len are none now =
    let end = text_len + held_len in
    let stays : LieInOrder text_len text_len (take base listed) (first_held text_len (drop base listed) end) =
    stay listed base text_len text_len end are.in_order in
    let last : first_held text_len (drop base listed) end ≡ end = omega (
      arith,
      none,
      none_fewer (take base listed) text_len text_len (first_held text_len (drop base listed) end) stays,
      rest_within listed base text_len text_len end are.in_order,
    ) in
    record {
      short = are.short;
      in_order = subst (λ l. LieInOrder text_len text_len l end) (sym now)
          (subst (LieInOrder text_len text_len (take base listed)) last stays);
    }

-- where what stays ends, as the slice of what is listed says
stay_is : (listed slice : List Name) (base text_len all end stays : ℕ) → slice ≡ listed → end ≡ all
    → stays ≡ first_held text_len (take (length slice - base) (drop base slice)) end
    → stays ≡ first_held text_len (drop base listed) all
stay_is listed slice base text_len all end stays same counted is =
    is ∙ (ap (λ l. first_held text_len (take (length l - base) (drop base l)) end) same
    ∙ (ap (λ l. first_held text_len l end) (take_rest listed base) ∙ ap (first_held text_len (drop base listed))
    counted))

-- where what stays ends lies in what is held
pub stay_within : (listed slice : List Name) (base text_len held_len end stays : ℕ) → AreListed text_len listed held_len
    → slice ≡ listed → end ≡ text_len + held_len
    → stays ≡ first_held text_len (take (length slice - base) (drop base slice)) end
    → (text_len ≤ stays) × (stays ≤ text_len + held_len)
stay_within listed slice base text_len held_len end stays are same counted is =
    let all = text_len + held_len in
    let stays_at : stays ≡ first_held text_len (drop base listed) all =
    stay_is listed slice base text_len all end stays same counted is in (
      omega (
        arith,
        stays_at,
        none_fewer (take base listed) text_len text_len (first_held text_len (drop base listed) all)
            (stay listed base text_len text_len all are.in_order),
      ),
      omega (arith, stays_at, rest_within listed base text_len text_len all are.in_order),
    )

pub left : (listed slice listed₂ : List Name) (held held₂ : List ℕ) (base text_len end stays size : ℕ)
    → AreListed text_len listed (length held) → slice ≡ listed → end ≡ text_len + length held
    → stays ≡ first_held text_len (take (length slice - base) (drop base slice)) end → listed₂ ≡ take base listed
    → held₂ ≡ take size held → size ≡ stays - text_len → AreListed text_len listed₂ (length held₂)
left listed slice listed₂ held held₂ base text_len end stays size are same counted is now cut few =
    let all = text_len + length held in
    let within = stay_within listed slice base text_len (length held) end stays are same counted is in
    let stays_at : stays ≡ first_held text_len (drop base listed) all =
    stay_is listed slice base text_len all end stays same counted is in
    let long : length held₂ ≡ size = ap length cut ∙ length-take-le size held (omega (arith, few, within.0, within.1))
    in
    let last : first_held text_len (drop base listed) all ≡ text_len + length held₂ =
    omega (arith, stays_at, long, few, within.0) in
    record {
      short = are.short;
      in_order = subst (λ l. LieInOrder text_len text_len l (text_len + length held₂)) (sym now)
          (subst (LieInOrder text_len text_len (take base listed)) last
          (stay listed base text_len text_len all are.in_order));
    }

pub left_names : (listed slice listed₂ : List Name) (held held₂ : List ℕ) (base text_len end stays size : ℕ)
    → AreListed text_len listed (length held) → slice ≡ listed → end ≡ text_len + length held
    → stays ≡ first_held text_len (take (length slice - base) (drop base slice)) end → listed₂ ≡ take base listed
    → held₂ ≡ take size held → size ≡ stays - text_len
    → map (listed_name text_len held₂) listed₂ ≡ take base (map (listed_name text_len held) listed)
left_names listed slice listed₂ held held₂ base text_len end stays size are same counted is now cut few =
    let left_are : AreListed text_len listed₂ (length held₂) =
    left listed slice listed₂ held held₂ base text_len end stays size are same counted is now cut few in
    let whole : held₂ ++ drop size held ≡ held = ap (λ h. h ++ drop size held) cut ∙ take-append-drop size held in
    same_names listed₂ text_len text_len (text_len + length held₂) held₂ (drop size held) left_are.in_order
    (omega arith)
    (omega arith)
    ∙ (ap (λ h. map (listed_name text_len h) listed₂) whole
    ∙ (ap (map (listed_name text_len held)) now ∙ sym (take-map (listed_name text_len held) base listed)))

-- ---- what is listed of a text of this length is what lies in it and in what is held
pub listed_bytes : (text held : List ℕ) (text_len : ℕ) (listed : List Name) → length text ≡ text_len
    → names_in text (map (listed_name text_len held) listed) ≡ map (name_bytes text held) listed
listed_bytes text held text_len listed long =
    map-map (bytes_in text) (listed_name text_len held) listed ∙ each listed
  where
    one : (b : Bool) (from end from₂ end₂ : ℕ) → bytes_in text (if b then as_written from end
        else as_decoded (slice_range held from₂ end₂))
        ≡ (if b then slice_range text from end else slice_range held from₂ end₂)
    one true from end from₂ end₂ = refl
    one false from end from₂ end₂ = refl

    here : (name : Name) → bytes_in text (listed_name text_len held name) ≡ name_bytes text held name
    here name = one (nat_lt name.end text_len) name.from name.end (name.from - text_len) (name.end - text_len)
        ∙ ap (λ n. if nat_lt name.end n then slice_range text name.from name.end
        else slice_range held (name.from - n) (name.end - n)) (sym long)

    each : (names : List Name) → map (λ name. bytes_in text (listed_name text_len held name)) names
        ≡ map (name_bytes text held) names
    each [] = refl
    each (name ∷ others) =
        ap (λ n. n ∷ map (λ other. bytes_in text (listed_name text_len held other)) others) (here name)
        ∙ ap (λ l. name_bytes text held name ∷ l) (each others)
