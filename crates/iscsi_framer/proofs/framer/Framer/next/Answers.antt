use Rattle.std.proofs.Common.{rules}
use Rattle.iscsi_pdu.proofs.Frames.{frames_taken, rest_taken}
use Rattle.iscsi_framer.proofs.framer.Framer.next.Goals as goal

pub returns-in_ok-take_first-in-Alone-clause-frames : goal.returns-in_ok-take_first-in-Alone-clause-frames
returns-in_ok-take_first-in-Alone-clause-frames c = frames_taken _ _ _ (search rules) (search rules) (search rules)

pub returns-in_ok-take_first-in-Alone-clause-rest : goal.returns-in_ok-take_first-in-Alone-clause-rest
returns-in_ok-take_first-in-Alone-clause-rest c = rest_taken _ _ (search rules) (search rules)
