use Rattle.std.proofs.Common.{◌≡◌, take}
use Rattle.cut_on_text.specs.Made.{first_uses}
use Rattle.cut_on_text.proofs.rosters.Roster.note_all.Given as goal

-- those so far were noted
abbrev pub invariant-loop-one : goal.invariant-loop-one
invariant-loop-one l =
    l.self ≡ record { count = l.fn.self.count; order = first_uses l.fn.self.order (take l.one-index l.those) }
