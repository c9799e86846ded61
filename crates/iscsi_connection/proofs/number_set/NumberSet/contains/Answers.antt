use Rattle.std.proofs.Common.{ℕ, eqb, ap, ◌∙◌}
use Rattle.std.proofs.lemmas.Nat.Bits.{shr_and_one}
use Rattle.iscsi_connection.specs.NumberSet.{is_in}
use Rattle.iscsi_connection.proofs.number_set.NumberSet.contains.Goals as goal

pub returns : goal.returns
unfolding is_in
returns c =
    ap (λ (b : ℕ). eqb b 1) (shr_and_one c.self.inside.bits c.args.c) ∙ ap (λ (n : ℕ). is_in n c.args.c) c.self.view_is
