-- The targets that a session may learn of.
use Rattle.std.specs.Prelude.{ℕ, List}

pub record KnownTargets : Type 0 where
  -- the name of each target, in order
  pub names : List (List ℕ)
  -- RFC 7143 §13.8: the portal's address as text
  pub portal : List ℕ
