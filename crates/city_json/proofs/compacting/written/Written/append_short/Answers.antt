use borrow.Rule.Slice.PartMut.{post_of, put_mid, same_len_mid}
use lib.LanesLaws.{put_is}
use Rattle.std.proofs.Common.{◌∙◌, ◌++◌, ◌+◌, ◌-◌, ◌≡◌, ◌≤◌, ap, arith, refl, sym, drop, length, take}
use Rattle.std.proofs.lemmas.List.{append_assoc, length-drop, length-take-le, with_items_is}
use Rattle.std.proofs.lemmas.Simd.{length-put_chunk}
use Rattle.std.specs.Simd.Lanes.{chunk, put_chunk}
use Rattle.city_json.proofs.WrittenRoom.{put_short}
use Rattle.city_json.proofs.compacting.written.Written.append_short.Goals as goal

pub returns-clause-appended : goal.returns-clause-appended
returns-clause-appended c _ =
    let room = c.as_mut_slice.result.now in
    let len = c.self.inside.len in
    let text = c.args.text.now in
    let from = c.args.from in
    let bytes = chunk from 16 text in
    let most = length room - len in
    let part = take most (drop len room) in
    let beyond = post_of len most room in
    let next = len + (c.args.at - from) in
    let within : 16 ≤ length (drop from text) = omega (arith, c.requires.within, length-drop from text) in
    let bytes_are : length bytes ≡ 16 = length-take-le 16 (drop from text) within in
    let part_is : length part ≡ most = length-take-le most (drop len room) (omega (arith, length-drop len room)) in
    let long : 16 ≤ most =
    omega (arith, c.if-len-lt-SHORT.false, c.len.ensures, c.as_mut_slice.ensures.len) in
    ap (take next) (with_items_is c.self.inside.room (put_mid len most room (put_chunk 0 part bytes))
    (same_len_mid len most room (put_chunk 0 part bytes) (length-put_chunk 0 part bytes) ∙ c.as_mut_slice.ensures.len))
    ∙ ap (λ l. take next (take len room ++ (l ++ beyond))) (put_is 0 part bytes (omega (arith, bytes_are, part_is, long)))
    ∙ ap (λ l. take next (take len room ++ l)) (append_assoc bytes (drop (length bytes) part) beyond)
    ∙ put_short c.args.self.now text room bytes (drop (length bytes) part ++ beyond) len from c.args.at 16
    (omega (arith, c.self.invariant, ap length c.as_mut_slice.ensures.value))
    (sym c.self.view_is ∙ ap (take len) (sym c.as_mut_slice.ensures.value)) refl (omega (arith, c.requires.few)) within
