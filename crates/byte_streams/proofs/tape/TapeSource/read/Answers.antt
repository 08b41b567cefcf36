-- The bytes that a read gave, and then those that are left, are those that were left before.
use Rattle.std.proofs.Common.{◌≡◌, ◌≤◌, ◌++◌, ◌∙◌, sym, ℕ, List, length, take, drop, arith}
use Rattle.std.proofs.lemmas.Grind.{common_steps}
use Rattle.std.proofs.lemmas.List.{take-append-drop, drop-drop}
use Rattle.byte_streams.proofs.tape.TapeSource.read.Goals as goal

-- the front of a list, written over the start of another, and the rest of it
front_and_rest : (n : ℕ) (left tail others : List ℕ) → n ≤ length left → others ≡ drop n left
    → take n (take n left ++ tail) ++ others ≡ left
front_and_rest n left tail others fits is_rest =
    let front : take n (take n left ++ tail) ≡ take n left = grind (arith, common_steps) in
    rw (front, is_rest) (take-append-drop n left)

pub returns-clause-bytes : goal.returns-clause-bytes
returns-clause-bytes c = λ others fails told.
    let left = drop c.self.inside.at c.self.inside.bytes in
    let written : c.copy_from_slice.new.self ≡ take c.min-count.result left = grind (arith, common_steps) in
    let fits : c.min-count.result ≤ length left = grind (arith, common_steps) in
    let is_rest : others ≡ drop c.min-count.result left = told.0
    ∙ sym (drop-drop c.min-count.result c.self.inside.at c.self.inside.bytes) in
    rw (written, ← c.self.view_is) (front_and_rest c.min-count.result left _ others fits is_rest, told.1)
