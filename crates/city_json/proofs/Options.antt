-- What an answer that may be none says, and what follows from it.
use Rattle.std.proofs.Common.{Option, Some, None, IfSome, IfNone, OnSome}
use Rattle.std.proofs.lemmas.Option.{IfSome_then}

-- `IfSome_then`, with what follows in front of what is known
pub if_some_more : {A : Type 0} {P Q : A → Type 0} (answer : Option A) → ((x : A) → P x → Q x) → IfSome answer P
    → IfSome answer Q
if_some_more answer on holds = IfSome_then answer holds on

pub if_some_both : {A : Type 0} {P R Q : A → Type 0} (answer : Option A) → ((x : A) → P x → R x → Q x)
    → IfSome answer P → IfSome answer R → IfSome answer Q
if_some_both (Some x) on holds too = on x holds too
if_some_both None on holds too = tt

pub on_some_more : {A P Q : Type 0} (answer : Option A) → (P → Q) → OnSome answer P → OnSome answer Q
on_some_more (Some x) on holds = on holds
on_some_more None on holds = tt

pub none_more : {A P Q : Type 0} (answer : Option A) → (P → Q) → IfNone answer P → IfNone answer Q
none_more (Some x) on holds = tt
none_more None on holds = on holds

pub if_none : {A P : Type 0} (answer : Option A) → P → IfNone answer P
if_none (Some x) holds = tt
if_none None holds = holds
