use Rattle.std.proofs.Common.{◌≡◌, ◌≤◌, ◌-◌, ◌∙◌, ◌++◌, ◌∷◌, ap, arith, refl, drop, take, length, length-drop, to_z, of_z, w64, []}
use Rattle.std.proofs.lemmas.Int.{ints}
use Rattle.std.proofs.lemmas.List.{take_all}
use Rattle.std.proofs.lemmas.Result.{IfOk-weaker}
use Rattle.city_grid.proofs.vertices.VertexTexts.{put_text}
use Rattle.city_grid.proofs.vertices.texts.append_vertex.Goals as goal

pub returns : goal.returns
returns c =
    let p = c.args.vertex.now in
    let steps = c.steps-steps.result in
    let same = c.steps-steps.ensures.value in
    let kept_x : to_z w64 (of_z w64 steps.x) ≡ steps.x = omega (arith, ints) in
    let kept_y : to_z w64 (of_z w64 steps.y) ≡ steps.y = omega (arith, ints) in
    let kept_z : to_z w64 (of_z w64 steps.z) ≡ steps.z = omega (arith, ints) in
    let x = kept_x ∙ ap (λ q. q.x) same in
    let y = kept_y ∙ ap (λ q. q.y) same in
    let z = kept_z ∙ ap (λ q. q.z) same in
    let text = c.put_byte-start.new.to in
    let start = c.put_byte-start.result in
    let vertex = put_text [] _ _ _ _ _ _ _ p _ _ _ x y z c.put_byte-opened.ensures.put c.put_integer-x.ensures.put
    c.put_byte-first.ensures.put c.put_integer-y.ensures.put c.put_byte-second.ensures.put
    c.put_integer-z.ensures.put c.put_byte-closed.ensures.put refl in
    let put = c.put_byte-start.ensures.put ∙ ap (λ l. c.args.before ∷ l) vertex in
    let short : length (drop start text) ≤ 64 - start = omega (arith, length-drop start text) in
    let all : take (64 - start) (drop start text) ≡ drop start text = take_all (64 - start) (drop start text) short in
    IfOk-weaker c.append.result _ _ (λ _ is. is ∙ ap (λ l. c.args.to.now ++ l) (all ∙ put)) c.append.ensures.ok
