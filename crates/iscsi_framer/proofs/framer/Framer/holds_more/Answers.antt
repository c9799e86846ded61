use Rattle.std.proofs.Common.{inl, inr, arith}
use Rattle.iscsi_framer.proofs.Whole.{part_no_more}
use Rattle.iscsi_framer.proofs.framer.Framer.holds_more.Goals as goal

pub returns-in-Part : goal.returns-in-Part
returns-in-Part c = record {
  no = λ e. elim c.in-Part.is [
    | inl part ↦ part_no_more c.args.self.now (c.front.ensures.part part).0
    | inr (inl alone) ↦ λ short. (let all = (c.front.ensures.alone alone).1 in omega (arith, all))
    | inr (inr long) ↦ λ short. absurd (cc (short, c.front.ensures.long.0 long))
  ];
  yes = λ e. absurd cc;
}
