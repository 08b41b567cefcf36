use Rattle.cut_on_text.proofs.Noted.{few}
use Rattle.cut_on_text.proofs.rosters.Roster.order.Goals as goal

pub returns-clause-few : goal.returns-clause-few
returns-clause-few c =
    rw (← c.self.view_is) (few c.self.inside.table.items c.self.inside.order.items c.self.invariant.0)
