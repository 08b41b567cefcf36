-- What is known of one answer.
use Rattle.std.proofs.Common.{◌≡◌, ◌∙◌, sym, refl, ℕ, List, Result, Ok, Err, OnOk, IfErr, IfOk, IsOkAnd}
use Rattle.city_json.specs.Gives.{RefusesNumber}
use Rattle.city_json.specs.Number.{IsNumber}
use Rattle.byte_streams.specs.declared.fault.Fault.{Fault}
use Rattle.byte_streams.specs.declared.fault.Fault.TheVariants.{Memory, Syntax}

pub no_fault : {A B : Type 0} (answer : Result A B) {fault : B} {value : A} → answer ≡ Err fault → answer ≡ Ok value → ⊥
no_fault answer refused found = let clash = sym refused ∙ found in cc

pub same_value : {A B : Type 0} (answer : Result A B) {first second : A} → answer ≡ Ok first → answer ≡ Ok second
    → first ≡ second
same_value answer one other = let same = sym one ∙ other in cc

-- a number is not refused as none
only_memory : (fault : Fault) (text : List ℕ) → RefusesNumber fault text → IsNumber text → fault ≡ Memory
only_memory Memory text refused number = refl
only_memory Syntax text refused number = absurd (refused number)
only_memory other text refused number = absurd refused

pub number_memory : {A : Type 0} (answer : Result A Fault) (text : List ℕ) → IsNumber text
    → IfErr answer (λ fault. RefusesNumber fault text) → IfErr answer (λ fault. fault ≡ Memory)
number_memory (Ok value) text number refused = tt
number_memory (Err fault) text number refused = only_memory fault text refused number

pub if_ok : {A B : Type 0} {P Q : A → Type 0} (answer : Result A B) → ((x : A) → P x → Q x) → IfOk answer P
    → IfOk answer Q
if_ok (Ok x) on holds = on x holds
if_ok (Err e) on holds = tt

pub if_err : {A B : Type 0} {P Q : B → Type 0} (answer : Result A B) → ((x : B) → P x → Q x) → IfErr answer P
    → IfErr answer Q
if_err (Ok x) on holds = tt
if_err (Err e) on holds = on e holds

pub on_ok : {A B P : Type 0} (answer : Result A B) → P → OnOk answer P
on_ok (Ok x) holds = holds
on_ok (Err e) holds = tt

-- an answer that is Ok is no fault
pub only_ok : {A B : Type 0} (P : A → Type 0) (Q : B → Type 0) (answer : Result A B) → IsOkAnd answer P → IfErr answer Q
only_ok P Q (Ok x) is = tt
only_ok P Q (Err e) is = absurd is

pub on_ok_more : {A B P Q : Type 0} (answer : Result A B) → (P → Q) → OnOk answer P → OnOk answer Q
on_ok_more (Ok x) on holds = on holds
on_ok_more (Err e) on holds = tt
