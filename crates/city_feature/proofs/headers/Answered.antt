-- What two things that are known of one answer say of each other.
use Rattle.std.proofs.Common.{◌≡◌, ◌∙◌, sym, Result, Ok, Err}

pub no_fault : {A B : Type 0} (answer : Result A B) {fault : B} {value : A} → answer ≡ Err fault → answer ≡ Ok value → ⊥
no_fault answer refused found = let clash = sym refused ∙ found in cc

pub same_value : {A B : Type 0} (answer : Result A B) {first second : A} → answer ≡ Ok first → answer ≡ Ok second
    → first ≡ second
same_value answer one other = let same = sym one ∙ other in cc
