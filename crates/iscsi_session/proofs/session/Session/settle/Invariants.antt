use Rattle.std.proofs.Common.{◌≡◌, ◌++◌, ℕ, List, [], length, false}
use Rattle.iscsi_pdu.specs.Frames.{Frame}
use Rattle.iscsi_requests.specs.Unread.{takes_in}
use Rattle.scsi_unit.specs.Units.{AreSound, AreSure}
use Rattle.iscsi_session.specs.Comings.{CameAs}
use Rattle.iscsi_session.specs.Runs.{output}
use Rattle.iscsi_session.specs.Weight.{IsAtRest, Eases}
use Rattle.iscsi_session.proofs.Settled.{RanDone}
use Rattle.iscsi_session.proofs.session.Session.settle.Given as goal

-- so many commands were done
abbrev pub invariant-loop : goal.invariant-loop
invariant-loop g l = record {
  turns : ℕ;
  ran : CameAs l.initial.self.params.target (λ given after. RanDone turns l.initial.self l.self
      (output l.initial.out.items []) (output l.out.items []) given after) l.initial.units l.units;
  back : AreSound l.units → AreSound l.initial.units;
  sure : AreSure l.initial.units → AreSure l.units;
  grows : (more : List ℕ) × (l.out.items ≡ l.initial.out.items ++ more);
  eases : IsAtRest l.initial.self → Eases l.initial.self l.self l.initial.out.items l.out.items;
  params : l.self.params ≡ l.initial.self.params;
  takes : (frame : Frame) → takes_in l.initial.self.transfers frame ≡ false → takes_in l.self.transfers frame ≡ false;
}

-- each that is done is out of the queue
abbrev pub decreases-loop : goal.decreases-loop
decreases-loop g l = length l.self.tasks.queue
