use Rattle.std.proofs.Common.{ℕ, eqb, w64, ap, ◌∙◌}
use Rattle.std.proofs.lemmas.Nat.Bits.{bit_at_clear_same, bit_at_clear_other}
use Rattle.iscsi_connection.specs.NumberSet.{is_in}
use Rattle.iscsi_connection.proofs.number_set.NumberSet.remove.Goals as goal

pub returns : goal.returns
unfolding is_in
returns c = record {
  own = ap (λ (b : ℕ). eqb b 1) (bit_at_clear_same w64 c.self.inside.bits c.args.c c.requires);
  others = λ d lt differ. ap (λ (b : ℕ). eqb b 1) (bit_at_clear_other w64 c.self.inside.bits c.args.c c.requires d lt differ)
      ∙ ap (λ (n : ℕ). is_in n d) c.self.view_is;
}
