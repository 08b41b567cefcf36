-- How what a reader of the code makes of a text stands to what a function on lists gives of it.
use Rattle.std.specs.Prelude.{◌≡◌, ◌&&◌, ℕ, Bool, List, Option, Some, Result, Ok, Err}
use Rattle.std.specs.Borrow.{Bor}
use Rattle.byte_streams.specs.declared.fault.Fault.{Fault}
use Rattle.city_json.specs.Gives.{Refuses}
use Rattle.city_json.specs.Tree.{ItemTrees, no_items, item, MemberTrees, no_members, member}

-- What was returned is made of what reading gives, beside what is left, unless memory was out.
abbrev pub Makes : {X Y : Type 0} → (X → Y → Type 0) → Result (X × Bor (List ℕ)) Fault → Option (Y × List ℕ) → Type 0
Makes {Y = Y} is (Ok made) read = (value : Y) × (read ≡ Some (value, made.1.now)) × is made.0 value
Makes is (Err fault) read = Refuses fault read

-- It is made of this value, and what is told after it is whether names differed before it and do in it.
abbrev pub IsToldOf : {X Y : Type 0} → (X → Y → Type 0) → (Y → Bool) → Bool → Bool → X → Y → Type 0
IsToldOf is is_distinct before after made value = is made value × (after ≡ (before && is_distinct value))

-- the items, and others after them
abbrev pub onto_items : ItemTrees → ItemTrees → ItemTrees
onto_items no_items others = others
onto_items (item value items) others = item value (onto_items items others)

-- the members, and others after them
abbrev pub onto_members : MemberTrees → MemberTrees → MemberTrees
onto_members no_members others = others
onto_members (member name value members) others = member name value (onto_members members others)
