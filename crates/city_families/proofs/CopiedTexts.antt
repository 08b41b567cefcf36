-- Texts that are copied with numbers of their own, one after another.
use Rattle.std.proofs.Common.{◌≡◌, ◌⊎◌, ◌++◌, ◌∙◌, ◌≤◌, ◌<◌, ◌+◌, ℕ, List, [], ◌∷◌, Bool, true, false, length, drop, get_or, inl, inr, refl, ap, sym, subst, arith, append_assoc, append-nil, length-append, length-set, take, ◌-◌}
use Rattle.std.proofs.lemmas.List.{get_or_append_left, get_or_push, get_or-set_same, get_or-set_other}
use Rattle.std.specs.List.{slice_index, slice_set}
use Rattle.city_json.specs.Bytes.{comma, close_bracket}
use Rattle.city_json.specs.CompactEnds.{IsStopped}
use Rattle.city_json.specs.Compacting.{shown}
use Rattle.city_json.proofs.Places.{drop_one, shown_one}
use Rattle.city_families.specs.Copied.{Copies, Extends}
use Rattle.city_families.specs.Numbered.{AreNumbered, HasNumber}
use Rattle.city_families.specs.Relabelling.{own_text}

-- numbers that are given

pub extends_same : (table order : List ℕ) → Extends table order table order
extends_same table order = record { long = refl; has = λ k h. h; kept = λ k h. refl }

pub extends_trans : (t o t₁ o₁ t₂ o₂ : List ℕ) → Extends t o t₁ o₁ → Extends t₁ o₁ t₂ o₂ → Extends t o t₂ o₂
extends_trans t o t₁ o₁ t₂ o₂ a b = record {
  long = b.long ∙ a.long;
  has = λ k h. b.has k (a.has k h);
  kept = λ k h. b.kept k (a.has k h) ∙ a.kept k h;
}

pub extends_new : (table order : List ℕ) (v : ℕ) → v < length table → (HasNumber table order v → ⊥)
    → Extends table order (slice_set table v (length order)) (order ++ v ∷ [])
extends_new table order v within hasnt = record {
  long = length-set {A = ℕ} table v (length order);
  has = λ k h. (
    omega (arith, other k h, h.0, length-append order (v ∷ [])),
    ap (slice_index (order ++ v ∷ [])) (other k h)
        ∙ (get_or_append_left order (v ∷ []) 0 (slice_index table k) h.0 ∙ h.1),
  );
  kept = other;
}
  where
    other : (k : ℕ) → HasNumber table order k → slice_index (slice_set table v (length order)) k ≡ slice_index table k
    other k h = get_or-set_other table v k (length order) 0 (λ e. hasnt (subst (HasNumber table order) e h))

pub has_new : (table order : List ℕ) (v : ℕ) → v < length table
    → HasNumber (slice_set table v (length order)) (order ++ v ∷ []) v
has_new table order v within =
    let here : slice_index (slice_set table v (length order)) v ≡ length order =
    get_or-set_same table v (length order) 0 within in (
      omega (arith, here, length-append order (v ∷ [])),
      ap (slice_index (order ++ v ∷ [])) here ∙ get_or_push order v 0 (length order) refl,
    )

-- texts, one after another

pub copies_text : (t o line line' text : List ℕ) → line' ≡ line ++ text → Copies t o line t o line' [] (λ change. text)
copies_text t o line line' text is = record {
  extends = extends_same t o;
  numbered = λ before a. subst (λ l. AreNumbered l t o) (sym (append-nil before)) a;
  written = λ final last e. is;
}

pub copies_both : (t o line t₁ o₁ line₁ t₂ o₂ line₂ uses uses₂ : List ℕ) (own own₂ : (List ℕ → List ℕ) → List ℕ)
    → Copies t o line t₁ o₁ line₁ uses own → Copies t₁ o₁ line₁ t₂ o₂ line₂ uses₂ own₂
    → Copies t o line t₂ o₂ line₂ (uses ++ uses₂) (λ change. own change ++ own₂ change)
copies_both t o line t₁ o₁ line₁ t₂ o₂ line₂ uses uses₂ own own₂ a b = record {
  extends = extends_trans t o t₁ o₁ t₂ o₂ a.extends b.extends;
  numbered = λ before n. subst (λ l. AreNumbered l t₂ o₂) (append_assoc before uses uses₂)
      (b.numbered (before ++ uses) (a.numbered before n));
  written = λ final last e. b.written final last e
      ∙ (ap (λ l. l ++ own₂ (own_text final)) (a.written final last (extends_trans t₁ o₁ t₂ o₂ final last b.extends e))
      ∙ append_assoc line (own (own_text final)) (own₂ (own_text final)));
}

pub copies_so : (t o line t' o' line' uses uses' : List ℕ) (own own' : (List ℕ → List ℕ) → List ℕ)
    → Copies t o line t' o' line' uses own → uses ≡ uses' → ((change : List ℕ → List ℕ) → own change ≡ own' change)
    → Copies t o line t' o' line' uses' own'
copies_so t o line t' o' line' uses uses' own own' a same same_own = record {
  extends = a.extends;
  numbered = λ before n. subst (λ l. AreNumbered (before ++ l) t' o') same (a.numbered before n);
  written = λ final last e. a.written final last e ∙ ap (λ l. line ++ l) (same_own (own_text final));
}

-- in a text

pub stopped_at : (text : List ℕ) (end : ℕ) → end < length text → (get_or text end 0 ≡ comma)
    ⊎ (get_or text end 0 ≡ close_bracket) → IsStopped (drop end text)
stopped_at text end inside (inl here) = subst IsStopped (sym (drop_one text end comma inside here)) (inl refl)
stopped_at text end inside (inr here) = subst IsStopped (sym (drop_one text end close_bracket inside here))
    (inr (inl refl))

pub shown_here : (line text : List ℕ) (from end : ℕ) → from ≡ end → shown line text from end ≡ line
shown_here line text from end is =
    let none : end - from ≡ 0 = omega (arith, is) in
    ap (λ n. line ++ take n (drop from text)) none ∙ append-nil line

pub byte_shown : (line text digits : List ℕ) (from at : ℕ) → from < at → at ≤ length text
    → shown line text from (at - 1) ++ (get_or text (at - 1) 0 ∷ digits) ≡ shown line text from at ++ digits
byte_shown line text digits from at some within =
    let last : at - 1 + 1 ≡ at = omega (arith, some) in
    let one = shown_one line text from (at - 1) (get_or text (at - 1) 0) (omega (arith, some))
    (omega (arith, some, within)) refl in
    sym (append_assoc (shown line text from (at - 1)) (get_or text (at - 1) 0 ∷ []) digits)
    ∙ ap (λ l. l ++ digits) (sym one ∙ ap (shown line text from) last)

pub not_both : (b : Bool) → b ≡ true → b ≡ false → ⊥
not_both true same other = cc
not_both false same other = cc
