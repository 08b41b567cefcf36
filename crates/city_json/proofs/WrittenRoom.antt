-- Bytes that are put into the room after what is written.
use Rattle.std.proofs.Common.{◌≡◌, ◌≤◌, ◌+◌, ◌-◌, ◌∙◌, ◌++◌, ℕ, List, ap, arith, sym, take, drop, length}
use Rattle.std.proofs.Math.Seq.{take-append-add}
use Rattle.std.proofs.lemmas.List.{length-take-le, take-append-le, take-take}
use Rattle.city_json.specs.Compacting.{shown}

-- of bytes that are put there, the first belong to what is written then
pub put_short : (old text room bytes beyond : List ℕ) (len from at most : ℕ) → len ≤ length room → old ≡ take len room
    → bytes ≡ take most (drop from text) → at - from ≤ most → most ≤ length (drop from text)
    → take (len + (at - from)) (take len room ++ (bytes ++ beyond)) ≡ shown old text from at
put_short old text room bytes beyond len from at most inside was copied few within =
    let front = take len room in
    let count = at - from in
    let enough : count ≤ length bytes =
    omega (arith, few, ap length copied, length-take-le most (drop from text) within) in
    ap (λ n. take (n + count) (front ++ (bytes ++ beyond))) (sym (length-take-le len room inside))
    ∙ take-append-add front (bytes ++ beyond) count
    ∙ ap (λ l. front ++ l) (take-append-le count bytes beyond enough ∙ ap (take count) copied
    ∙ take-take count most (drop from text) few)
    ∙ ap (λ l. l ++ take count (drop from text)) (sym was)
