-- Three of a kind, one for each axis.
use Rattle.std.specs.Prelude.{◌≤◌, ℕ, ℤ, ◌+ℤ◌, List, unsigned_abs}
use Rattle.std.specs.Borrow.{Bor}
use Rattle.std.specs.Int.{int_min}
use Rattle.byte_streams.specs.Limits.{max_steps}
use Rattle.city_json.specs.Tree.{Tree, number, array, no_items, item}
use Rattle.city_grid.specs.declared.axes.Axes.{Axes}

-- three whole numbers
abbrev pub Triple : Type 0
Triple = Axes ℤ

abbrev pub triple : ℤ → ℤ → ℤ → Triple
triple x y z = record { x = x; y = y; z = z }

-- three numbers as they are written
abbrev pub Texts : Type 0
Texts = Axes (List ℕ)

-- what three numbers of the code have written
abbrev pub number_texts : Axes (Bor (List ℕ)) → Texts
number_texts numbers = record { x = numbers.x.now; y = numbers.y.now; z = numbers.z.now }

-- the array of three numbers
abbrev pub three : Texts → Tree
three texts = array (item (number texts.x) (item (number texts.y) (item (number texts.z) no_items)))

-- each number is what is written on its axis
abbrev pub Each : (List ℕ → ℤ → Type 0) → Texts → Triple → Type 0
Each Reads texts numbers =
    Reads texts.x numbers.x × Reads texts.y numbers.y × Reads texts.z numbers.z

abbrev pub sum : Triple → Triple → Triple
sum p q = record { x = p.x +ℤ q.x; y = p.y +ℤ q.y; z = p.z +ℤ q.z }

-- in each component the lesser of the two
abbrev pub least : Triple → Triple → Triple
least p q = record { x = int_min p.x q.x; y = int_min p.y q.y; z = int_min p.z q.z }

abbrev pub IsInRange : Triple → Type 0
IsInRange p =
    (unsigned_abs p.x ≤ max_steps)
    × (unsigned_abs p.y ≤ max_steps)
    × (unsigned_abs p.z ≤ max_steps)
