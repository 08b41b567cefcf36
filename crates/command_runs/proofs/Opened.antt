-- Tiles that were opened, one after another.
use Rattle.std.proofs.Common.{◌≡◌, ◌<◌, ◌≤◌, ◌+◌, ◌++◌, ℕ, List, [], ◌∷◌, suc, length, take, drop, drop-cons, get_or, refl, sym, ap, subst, ◌∙◌, arith}
use Rattle.std.specs.List.{AllZip}
use Rattle.std.proofs.lemmas.List.{length-take-le, take-append-drop, take_more, take_all}
use Rattle.std.proofs.lemmas.Slice.Zip.{AllZip-long}
use Rattle.command_runs.specs.Opening.{IsNotOpened}
use Rattle.byte_streams.specs.declared.fault.Fault.TheVariants.{Read}
use Rattle.byte_streams.specs.declared.places.MergeFault.{MergeFault}

all_zip_push : {A B : Type 0} (P : A → B → Type 0) (xs : List A) (ys : List B) (x : A) (y : B) → AllZip P xs ys → P x y
    → AllZip P (xs ++ x ∷ []) (ys ++ y ∷ [])
all_zip_push P [] [] x y all one = (one, tt)
all_zip_push P [] (b ∷ ys) x y all one = absurd all
all_zip_push P (a ∷ xs) [] x y all one = absurd all
all_zip_push P (a ∷ xs) (b ∷ ys) x y all one = (all.0, all_zip_push P xs ys x y all.1 one)

module _ {R : Type 0} (Gives : List ℕ → R → Type 0) (paths : List (List ℕ)) (readers : List R) (index : ℕ)
    (default : List ℕ) (within : index < length paths) (opened : AllZip Gives (take index paths) readers) where
  abbrev path : List ℕ
  path = get_or paths index default

  pub so_many_opened : length readers ≡ index
  so_many_opened = AllZip-long Gives (take index paths) readers opened
      ∙ length-take-le index paths (omega (arith, within))

  pub one_more_opened : (reader : R) → Gives path reader → (newer : List R) → newer ≡ readers ++ reader ∷ []
      → AllZip Gives (take (index + 1) paths) newer
  one_more_opened reader gives newer is =
      rw (is, take_more paths index default within)
      (all_zip_push Gives (take index paths) readers path reader opened gives)

  pub first_not_opened : (Fails : List ℕ → Type 0) → Fails path → (count : ℕ) → count ≡ length readers
      → (refusal : MergeFault) → refusal ≡ record { tile = count + 1; line = 0; fault = Read }
      → IsNotOpened Gives Fails paths refusal
  first_not_opened Fails fails count counted refusal is =
      let before = take index paths in
      let long = AllZip-long Gives before readers opened in
      let split = drop-cons paths index default within in
      let are = sym (take-append-drop index paths) ∙ ap (λ l. before ++ l) split in
      subst (IsNotOpened Gives Fails paths) (sym is) (record {
        before = before;
        path = path;
        others = drop (suc index) paths;
        paths_are = are;
        readers = readers;
        opened = opened;
        failed = fails;
        tile = ap (λ n. n + 1) (counted ∙ long);
        line = refl;
        fault = refl;
      })

pub all_opened : {R : Type 0} (Gives : List ℕ → R → Type 0) (paths : List (List ℕ)) (readers : List R) (index : ℕ)
    → length paths ≤ index → AllZip Gives (take index paths) readers → AllZip Gives paths readers
all_opened Gives paths readers index over opened =
    subst (λ (ps : List (List ℕ)). AllZip Gives ps readers) (take_all index paths over) opened
