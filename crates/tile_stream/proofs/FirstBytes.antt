-- Lists of bytes of which the first ones were written: two parts, or texts one after another, each with its newline.
use Rattle.std.proofs.Common.{◌≡◌, ◌∙◌, ◌++◌, ◌+◌, ◌<◌, ◌≤◌, ℕ, List, [], ◌∷◌, Option, Result, Ok, Err, OnErr, OnOk, length, take, drop, get_or, flat_map, sym, ap, subst, arith, take_all, append_assoc, append-nil}
use Rattle.std.proofs.Math.Seq.{take-append-add}
use Rattle.std.proofs.lemmas.Grind.{flat_map-append}
use Rattle.std.proofs.lemmas.List.{take_more, take-append-drop}
use Rattle.std.proofs.KnownBytes.{Appends-trans}
use Rattle.std.specs.Io.KnownBytes.{Appends, Keeps}
use Rattle.city_json.specs.Bytes.{newline}
use Rattle.tile_stream.proofs.Steps.{Appends-kept, first_of_longer}
use Rattle.tile_stream.specs.Coming.{GivesTexts, SomethingComes}
use Rattle.tile_stream.specs.Progress.{SoFar, WroteFront}
use Rattle.tile_stream.specs.Stream.{with_newline}
use Rattle.tile_stream.specs.Texts.{Outcome}

pub on_err : {A B P : Type 0} (answer : Result A B) → P → OnErr answer P
on_err (Ok x) holds = tt
on_err (Err e) holds = holds

pub on_err_more : {A B P Q : Type 0} (answer : Result A B) → (P → Q) → OnErr answer P → OnErr answer Q
on_err_more (Ok x) on holds = tt
on_err_more (Err e) on holds = on holds

pub on_ok_more : {A B P Q : Type 0} (answer : Result A B) → (P → Q) → OnOk answer P → OnOk answer Q
on_ok_more (Ok x) on holds = on holds
on_ok_more (Err e) on holds = tt

module _ (header features : List ℕ) (old : Option (List ℕ)) where
  abbrev pub FirstBytes : Option (List ℕ) → Type 0
  FirstBytes new = (first : ℕ) × Appends old new (take first (header ++ features))

  pub of_header : (new : Option (List ℕ)) → (first : ℕ) × Appends old new (take first header) → FirstBytes new
  of_header new some =
      let longer = first_of_longer some.0 header features in
      (longer.0, subst (Appends old new) (sym longer.1) some.1)

  module _ (mid : Option (List ℕ)) (wrote : Appends old mid header) where
    pub of_features : (new : Option (List ℕ)) → (first : ℕ) × Appends mid new (take first features) → FirstBytes new
    of_features new some = (
      length header + some.0,
      subst (Appends old new) (sym (take-append-add header features some.0))
          (Appends-trans old mid new _ _ wrote some.1),
    )

    pub all_of_it : (last new : Option (List ℕ)) → Appends mid last features → Keeps last new → FirstBytes new
    all_of_it last new more kept =
        let all = take_all (length (header ++ features)) (header ++ features) (omega arith) in (
          length (header ++ features),
          subst (Appends old new) (sym all)
              (Appends-kept old last new _ (Appends-trans old mid last _ _ wrote more) kept),
        )

-- ---- texts, one after another
module _ (texts : List (List ℕ)) (i : ℕ) (within : i < length texts) where
  one_more : flat_map with_newline (take i texts) ++ with_newline (get_or texts i [])
      ≡ flat_map with_newline (take (i + 1) texts)
  one_more = sym (ap (flat_map with_newline) (take_more texts i [] within)
      ∙ (flat_map-append with_newline (take i texts) (get_or texts i [] ∷ [])
      ∙ ap (λ l. flat_map with_newline (take i texts) ++ l) (append-nil (with_newline (get_or texts i [])))))

  pub next_written : (old mid new : Option (List ℕ)) → Appends old mid (flat_map with_newline (take i texts))
      → Appends mid new (with_newline (get_or texts i []))
      → Appends old new (flat_map with_newline (take (i + 1) texts))
  next_written old mid new before wrote = subst (Appends old new) one_more (Appends-trans old mid new _ _ before wrote)

  whole : flat_map with_newline (take (i + 1) texts) ++ flat_map with_newline (drop (i + 1) texts)
      ≡ flat_map with_newline texts
  whole = sym (flat_map-append with_newline (take (i + 1) texts) (drop (i + 1) texts))
      ∙ ap (flat_map with_newline) (take-append-drop (i + 1) texts)

  pub next_failed : (old mid new : Option (List ℕ)) → Appends old mid (flat_map with_newline (take i texts))
      → (count : ℕ) × Appends mid new (take count (with_newline (get_or texts i []))) → (count : ℕ)
      × Appends old new (take count (flat_map with_newline texts))
  next_failed old mid new before some =
      let front = of_features (flat_map with_newline (take i texts)) (with_newline (get_or texts i []))
      old mid before new some in
      let longer = first_of_longer front.0 (flat_map with_newline (take (i + 1) texts))
      (flat_map with_newline (drop (i + 1) texts)) in (
        longer.0,
        subst (Appends old new) (sym longer.1 ∙ ap (take longer.0) whole)
            (subst (λ l. Appends old new (take front.0 l)) one_more front.1),
      )

pub all_texts : (texts : List (List ℕ)) (i : ℕ) (old new : Option (List ℕ)) → length texts ≤ i
    → Appends old new (flat_map with_newline (take i texts)) → Appends old new (flat_map with_newline texts)
all_texts texts i old new past wrote = subst (λ l. Appends old new (flat_map with_newline l))
    (take_all i texts past) wrote

-- ---- texts that come first of a tile
module _ (before after : List (List ℕ) → Outcome → Type 0) (old : Option (List ℕ)) (given : List (List ℕ))
    (gives : GivesTexts before after given) where
  pub all_given : (count : ℕ) → count ≡ length given → (new : Option (List ℕ))
      → Appends old new (flat_map with_newline given) → SoFar before after count old new
  all_given count is new wrote = record { texts = given; back = gives; counted = is; written = wrote }

  pub some_given : SomethingComes after → (new : Option (List ℕ)) → (count : ℕ)
      × Appends old new (take count (flat_map with_newline given)) → WroteFront before old new
  some_given some new wrote =
      let first = first_of_longer wrote.0 (flat_map with_newline given) (flat_map with_newline some.0) in (
        given ++ some.0,
        some.1.0,
        first.0,
        gives some.0 some.1.0 some.1.1,
        subst (Appends old new) (sym (ap (take first.0) (flat_map-append with_newline given some.0) ∙ first.1)) wrote.1,
      )

-- ---- a text in two parts
module _ (own common : List ℕ) (old : Option (List ℕ)) where
  joined : own ++ with_newline common ≡ with_newline (own ++ common)
  joined = sym (append_assoc own common (newline ∷ []))

  pub own_failed : (new : Option (List ℕ)) → (count : ℕ) × Appends old new (take count own) → (count : ℕ)
      × Appends old new (take count (with_newline (own ++ common)))
  own_failed new some =
      let longer = of_header own (with_newline common) old new some in
      (longer.0, subst (λ l. Appends old new (take longer.0 l)) joined longer.1)

  module _ (mid : Option (List ℕ)) (wrote : Appends old mid own) where
    pub common_failed : (new : Option (List ℕ)) → (count : ℕ) × Appends mid new (take count (with_newline common))
        → (count : ℕ) × Appends old new (take count (with_newline (own ++ common)))
    common_failed new some =
        let longer = of_features own (with_newline common) old mid wrote new some in
        (longer.0, subst (λ l. Appends old new (take longer.0 l)) joined longer.1)

    pub both_written : (new : Option (List ℕ)) → Appends mid new (with_newline common)
        → Appends old new (with_newline (own ++ common))
    both_written new more = subst (Appends old new) joined (Appends-trans old mid new _ _ wrote more)
