-- What went through a ring, in the tests.
use Rattle.std.proofs.Common.{◌≡◌, ℕ, true, List, [], ◌∷◌, ◌++◌, map, refl, ap, sym, ◌∙◌}
use Rattle.tile_handoff.specs.Notes.{has_end}
use Rattle.tile_handoff.specs.declared.note.End.{End}
use Rattle.tile_handoff.specs.declared.note.Note.{Note}
use Rattle.tile_handoff.specs.declared.note.Note.TheVariants.{Line as LineNote, End as EndNote}

-- notes, then lines, and after them an end note
abbrev pub with_lines : List Note → List (List ℕ) → End → List Note
with_lines before lines end = (before ++ map (λ line. LineNote line) lines) ++ EndNote end ∷ []

-- lines, and after them an end note
abbrev pub notes_of : List (List ℕ) → End → List Note
notes_of lines end = map (λ line. LineNote line) lines ++ EndNote end ∷ []

notes_of-ended : (lines : List (List ℕ)) (end : End) → has_end (notes_of lines end) ≡ true
notes_of-ended [] end = refl
notes_of-ended (line ∷ lines) end = notes_of-ended lines end

same_lines : (lines others : List (List ℕ)) (end last : End) → notes_of lines end ≡ notes_of others last
    → lines ≡ others
same_lines [] [] end last e = refl
same_lines [] (line ∷ others) end last e = absurd cc
same_lines (line ∷ lines) [] end last e = absurd cc
same_lines (line ∷ lines) (next ∷ others) end last e =
    let first : line ≡ next = cc in
    let rest : notes_of lines end ≡ notes_of others last = cc in
    let same = same_lines lines others end last rest in
    cc

-- where nothing was taken before, the end note was taken
pub end_taken :
    (before taken : List Note) (lines : List (List ℕ)) (end : End) → taken ≡ with_lines before lines end → before ≡ []
    → has_end taken ≡ true
end_taken before taken lines end is none =
    ap has_end (is ∙ ap (λ x. with_lines x lines end) none) ∙ notes_of-ended lines end

-- where all that was put was taken, and nothing before, the lines are the same
pub passed_are :
    (passed fed given : List (List ℕ)) (before put taken carried : List Note) (end last : End)
    → taken ≡ with_lines before passed end → before ≡ []
    → carried ≡ with_lines put fed last → put ≡ []
    → fed ≡ given → taken ≡ carried → passed ≡ given
passed_are passed fed given before put taken carried end last is none has unput same all =
    let took : taken ≡ notes_of passed end = is ∙ ap (λ x. with_lines x passed end) none in
    let gave : carried ≡ notes_of fed last = has ∙ ap (λ x. with_lines x fed last) unput in
    same_lines passed fed end last (sym took ∙ all ∙ gave) ∙ same
