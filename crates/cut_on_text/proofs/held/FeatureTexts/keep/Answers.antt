use Rattle.cut_on_text.proofs.held.FeatureTexts.keep.Goals as goal

pub invariant_of-self : goal.invariant_of-self
invariant_of-self c = c.keep.ensures.end c.self.inside.common c.self.invariant
