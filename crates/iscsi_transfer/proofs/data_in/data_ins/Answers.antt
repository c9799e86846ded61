use Rattle.std.proofs.Common.{◌∙◌, arith}
use Rattle.std.proofs.lemmas.List.{take_all}
use Rattle.iscsi_transfer.specs.DataIn.{pieces_of}
use Rattle.iscsi_transfer.proofs.Counts.{pieces_are_counted}
use Rattle.iscsi_transfer.proofs.Numbered.{front_grows}
use Rattle.iscsi_transfer.proofs.data_in.data_ins.Goals as goal

pub loop-number-preserved : goal.loop-number-preserved
loop-number-preserved c = record {
  front =
      c.push_reserved.ensures.items ∙ front_grows _ (pieces_of c.args.length c.args.burst c.args.segment) c.loop-number.number _
      c.loop-number.invariant.front c.piece_at.ensures;
  len = omega (arith, c.push_reserved.ensures.len, c.loop-number.invariant.len);
  room = omega (arith, c.push_reserved.ensures.capacity, c.loop-number.invariant.room);
  count = c.loop-number.invariant.count;
}

pub returns : goal.returns
returns c =
    let long = pieces_are_counted c.args.length c.args.burst c.args.segment c.requires.burst c.requires.segment in
    c.loop-number.invariant.front ∙ take_all c.loop-number.number (pieces_of c.args.length c.args.burst c.args.segment) (omega (arith, long))
