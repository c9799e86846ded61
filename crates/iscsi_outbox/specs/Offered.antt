-- What is offered to be sent.
use Rattle.std.specs.Prelude.{◌≡◌, ℕ, List, ◌++◌}
use Rattle.std.specs.List.{flat_map}
use Rattle.iscsi_pdu.specs.Answer.{spelling}
use Rattle.iscsi_pdu.specs.declared.answer.Answer.{Answer}

-- these bytes are whole PDUs
pub record AreWhole (bytes : List ℕ) : Type 0 where
  pub pdus : List Answer
  pub spelled : bytes ≡ flat_map spelling pdus

-- What is offered ends where a PDU ends: it is a front of what waits, and after it whole PDUs wait. So it has all that is
-- left of the first PDU.
pub record EndsPdu (waiting offered : List ℕ) : Type 0 where
  pub after : List ℕ
  pub front : waiting ≡ offered ++ after
  pub whole : AreWhole after
