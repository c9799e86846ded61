-- The outcome of a command.
use Rattle.std.specs.Prelude.{ℕ, List, [], length, Option, Some, None}
use Rattle.scsi_sense.specs.declared.sense.Sense.{Sense}
use Rattle.scsi_sense.specs.declared.done.Status.{Status}
use Rattle.scsi_sense.specs.declared.done.Status.TheVariants.{Good, CheckCondition, ReservationConflict}

-- profile: its status (SAM-5 "Status codes"), its sense data (SPC-4 "Sense data"), and its data
pub record Outcome : Type 0 where
  pub status : Status
  pub sense : Option Sense
  -- the data returned, before it is truncated to the expected length
  pub given : List ℕ
  -- the number of bytes from which the residual is computed
  pub moved : ℕ

-- GOOD, with nothing moved
abbrev pub good : Outcome
good = record { status = Good; sense = None; given = []; moved = 0 }

-- GOOD with data
abbrev pub good_with : List ℕ → Outcome
good_with bytes = record { status = Good; sense = None; given = bytes; moved = length bytes }

-- GOOD for a command that needed `count` bytes of what came with it
abbrev pub good_taking : ℕ → Outcome
good_taking count = record { status = Good; sense = None; given = []; moved = count }

-- CHECK CONDITION with this sense data, and nothing moved
abbrev pub check_condition : Sense → Outcome
check_condition sense = record { status = CheckCondition; sense = Some sense; given = []; moved = 0 }

-- RESERVATION CONFLICT, with nothing moved (SAM-5 "Status codes")
abbrev pub reservation_conflict : Outcome
reservation_conflict = record { status = ReservationConflict; sense = None; given = []; moved = 0 }
