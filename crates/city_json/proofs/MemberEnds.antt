-- Where objects end in a compact text.
use Rattle.std.proofs.Common.{◌≡◌, ◌≢◌, ◌++◌, ◌∙◌, ◌≤◌, ◌<◌, ◌+◌, ℕ, List, ◌∷◌, length, drop, get_or, inl, inr, refl, ap, sym, arith, append_assoc, length-append, length-drop}
use Rattle.std.specs.List.{flat_map}
use Rattle.city_json.specs.Bytes.{quotation_mark, comma, colon, close_brace}
use Rattle.city_json.specs.Compact.{written, quoted, compact, compact_members, compact_more_members}
use Rattle.city_json.specs.CompactEnds.{IsStopped, LeavesString, LeavesValue}
use Rattle.city_json.specs.Fits.{members_depth}
use Rattle.city_json.specs.Tree.{Tree, MemberTrees, no_members, member}
use Rattle.city_json.specs.Writable.{AreWritableMembers}
use Rattle.city_json.proofs.Places.{drop_one}
use Rattle.city_json.proofs.StringEnds.{first_same, others_same}
use Rattle.city_json.proofs.CompactEnds.{other_head}

-- members

pub record MembersLeft (levels : ℕ) (b rest : List ℕ) : Type 0 where
  pub name : List ℕ
  pub first : Tree
  pub others : MemberTrees
  pub writable : AreWritableMembers (member name first others)
  pub within : members_depth (member name first others) ≤ levels
  pub is : b ≡ compact_members (member name first others) ++ close_brace ∷ rest

pub members_begin : (levels : ℕ) (text rest : List ℕ) (at : ℕ) (members : MemberTrees) → at < length text
    → get_or text at 0 ≢ close_brace
    → AreWritableMembers members → members_depth members ≤ levels
    → drop at text ≡ compact_members members ++ close_brace ∷ rest → MembersLeft levels (drop at text) rest
members_begin levels text rest at no_members inside other w within is =
    absurd (other (first_same _ _ _ _ (sym (drop_one text at (get_or text at 0) inside refl) ∙ is)))
members_begin levels text rest at (member name first others) inside other w within is =
    record { name = name; first = first; others = others; writable = w; within = within; is = is }

pub members_none : (text rest : List ℕ) (at : ℕ) (members : MemberTrees) → at < length text
    → get_or text at 0 ≡ close_brace
    → drop at text ≡ compact_members members ++ close_brace ∷ rest → drop (at + 1) text ≡ rest
members_none text rest at no_members inside here is =
    others_same _ _ _ _ (sym (drop_one text at close_brace inside here) ∙ is)
members_none text rest at (member name first others) inside here is =
    absurd (other_head quotation_mark close_brace _ _ (omega arith) (sym is ∙ drop_one text at close_brace inside here))

split_name : (name value others back : List ℕ)
    → ((quoted name ++ colon ∷ value) ++ others) ++ back
    ≡ quotation_mark ∷ (flat_map written name ++ quotation_mark ∷ (colon ∷ (value ++ (others ++ back))))
split_name name value others back = simp append_assoc

-- after its name stands a colon, and then its value
pub name_left : (levels : ℕ) (text rest : List ℕ) (i colon_at : ℕ) → i < length text
    → (left : MembersLeft levels (drop i text) rest) → LeavesString (drop (i + 1) text) (drop colon_at text)
    → drop colon_at text ≡ colon ∷ (compact left.first ++ (compact_more_members left.others ++ close_brace ∷ rest))
name_left levels text rest i colon_at inside left leaves =
    leaves left.name (colon ∷ (compact left.first ++ (compact_more_members left.others ++ close_brace ∷ rest)))
    (others_same _ _ _ _ (sym (drop_one text i (get_or text i 0) inside refl)
    ∙ (left.is ∙ split_name left.name (compact left.first) (compact_more_members left.others)
    (close_brace ∷ rest))))

pub more_members_stopped : (others : MemberTrees) (rest : List ℕ)
    → IsStopped (compact_more_members others ++ close_brace ∷ rest)
more_members_stopped no_members rest = inr (inr refl)
more_members_stopped (member name first others) rest = inl refl

pub member_left : (levels : ℕ) (text after rest : List ℕ) (i colon_at : ℕ) → i < length text → colon_at < length text
    → (left : MembersLeft levels (drop i text) rest) → LeavesString (drop (i + 1) text) (drop colon_at text)
    → LeavesValue levels (drop (colon_at + 1) text) after
    → after ≡ compact_more_members left.others ++ close_brace ∷ rest
member_left levels text after rest i colon_at inside inside₂ left named_so leaves =
    let named = name_left levels text rest i colon_at inside left named_so in
    leaves left.first (compact_more_members left.others ++ close_brace ∷ rest) left.writable.1
    (omega (arith, left.within)) (more_members_stopped left.others rest)
    (others_same _ _ _ _ (sym (drop_one text colon_at (get_or text colon_at 0) inside₂ refl) ∙ named))

pub name_past : (text tail : List ℕ) (c at : ℕ) → length text ≤ at → drop at text ≡ c ∷ tail → ⊥
name_past text tail c at past is = omega (arith, ap length is, length-drop at text)

pub members_past : (text rest : List ℕ) (end : ℕ) (others : MemberTrees) → length text ≤ end
    → drop end text ≡ compact_more_members others ++ close_brace ∷ rest → ⊥
members_past text rest end others past is =
    omega (arith, ap length is, length-append (compact_more_members others) (close_brace ∷ rest), length-drop end text)

pub members_stop : (text rest : List ℕ) (end : ℕ) (others : MemberTrees) → end < length text
    → get_or text end 0 ≡ close_brace → drop end text ≡ compact_more_members others ++ close_brace ∷ rest
    → drop (end + 1) text ≡ rest
members_stop text rest end no_members inside here is =
    others_same _ _ _ _ (sym (drop_one text end close_brace inside here) ∙ is)
members_stop text rest end (member name first others) inside here is =
    absurd (other_head comma close_brace _ _ (omega arith) (sym is ∙ drop_one text end close_brace inside here))

pub members_more : (levels : ℕ) (text rest name : List ℕ) (end : ℕ) (first : Tree) (others : MemberTrees)
    → end < length text → get_or text end 0 ≢ close_brace → AreWritableMembers (member name first others)
    → members_depth (member name first others) ≤ levels
    → drop end text ≡ compact_more_members others ++ close_brace ∷ rest → MembersLeft levels (drop (end + 1) text) rest
members_more levels text rest name end first no_members inside other w within is =
    absurd (other (first_same _ _ _ _ (sym (drop_one text end (get_or text end 0) inside refl) ∙ is)))
members_more levels text rest name end first (member name₂ next others) inside other w within is = record {
  name = name₂;
  first = next;
  others = others;
  writable = w.2;
  within = omega (arith, within);
  is = others_same _ _ _ _ (sym (drop_one text end (get_or text end 0) inside refl) ∙ is);
}
