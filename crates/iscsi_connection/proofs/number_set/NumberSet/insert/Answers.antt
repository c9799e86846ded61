use Rattle.std.proofs.Common.{ℕ, eqb, w64, ap, ◌∙◌}
use Rattle.std.proofs.lemmas.Nat.Bits.{bit_at_set_same, bit_at_set_other}
use Rattle.iscsi_connection.specs.NumberSet.{is_in}
use Rattle.iscsi_connection.proofs.number_set.NumberSet.insert.Goals as goal

pub returns : goal.returns
unfolding is_in
returns c = record {
  own = ap (λ (b : ℕ). eqb b 1) (bit_at_set_same w64 c.self.inside.bits c.args.c c.requires);
  others = λ d differ. ap (λ (b : ℕ). eqb b 1) (bit_at_set_other w64 c.self.inside.bits c.args.c c.requires d differ)
      ∙ ap (λ (n : ℕ). is_in n d) c.self.view_is;
}
