-- What can be come to, step by step.

-- the least set that has `from` and, with each member, all that comes after it
pub data Reached {A : Type 0} (After : A → A → Type 0) (from : A) : A → Type 0 where
  itself : Reached After from from
  onward : (a b : A) → Reached After from a → After a b → Reached After from b
