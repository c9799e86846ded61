-- What is done for a target stays within it, from one call to the next.
use Rattle.std.proofs.Common.{◌≡◌, ℕ, Option, None, subst}
use Rattle.iscsi_world.specs.Machine.{Machine}
use Rattle.iscsi_world.specs.Serving.{StaysWithin, first_of}
use Rattle.iscsi_world.proofs.Apart.{apart_none, apart_then}
use Rattle.iscsi_world.proofs.Moving.{moves_none, moves_then}

pub within_none : (target : Option ℕ) (machine : Machine) → StaysWithin target None machine machine
within_none target machine = record { apart = λ t same. apart_none t machine; moves = λ c. moves_none c machine }

pub within_then : (target a b : Option ℕ) (given now after : Machine) → StaysWithin target a given now → StaysWithin target b now after
    → StaysWithin target (first_of a b) given after
within_then target a b given now after first second = record {
  apart = λ t same. apart_then t given now after (first.apart t same) (second.apart t same);
  moves = λ c. moves_then c a b given now after (first.moves c) (second.moves c);
}

-- however the machine, or the first starved, is written
pub within_as : (target starved : Option ℕ) (given now after : Machine) → now ≡ after → StaysWithin target starved given now
    → StaysWithin target starved given after
within_as target starved given now after e w = let P : Machine → Type 0 = λ m. StaysWithin target starved given m in subst P e w

pub within_starved : (target a b : Option ℕ) (given after : Machine) → a ≡ b → StaysWithin target a given after → StaysWithin target b given after
within_starved target a b given after e w = let P : Option ℕ → Type 0 = λ o. StaysWithin target o given after in subst P e w
