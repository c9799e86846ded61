use Rattle.std.proofs.Common.{ℕ, eqb, ap}
use Rattle.std.proofs.lemmas.Nat.Bits.{bit_at_ones}
use Rattle.iscsi_connection.specs.NumberSet.{is_in}
use Rattle.iscsi_connection.proofs.number_set.NumberSet.all.Goals as goal

pub returns : goal.returns
unfolding is_in
returns c = λ k lt. ap (λ (b : ℕ). eqb b 1) (bit_at_ones 64 k lt)
