-- The bytes of a connection that have come and are not taken.
use Rattle.std.specs.Prelude.{◌≡◌, ◌<◌, ℕ, List, length, take, Bool, true, false, ⊤}
use Rattle.iscsi_pdu.specs.Header.{header_length, data_length, opcode_number}
use Rattle.iscsi_pdu.specs.Frames.{Frame}
use Rattle.iscsi_session.specs.Unread.{takes_in}
use Rattle.iscsi_transfer.specs.Counted.{brought}
use Rattle.iscsi_world.specs.declared.phase.Phase.{Phase}
use Rattle.iscsi_world.specs.declared.phase.Phase.TheVariants.{Free, Login, FullFeature, Closing}
use Rattle.iscsi_connection.specs.declared.arriving.Arrived.{Arrived}
use Rattle.iscsi_connection.specs.declared.arriving.Arrived.TheVariants.{Whole, Passed}

pub record ArrivingState : Type 0 where
  pub bytes : List ℕ
  -- of a Data-Out in front only the header and the number of bytes are kept
  pub is_counted : Bool

abbrev pub frame_of : Arrived → Frame
frame_of (Whole frame) = frame
frame_of (Passed out) = out

-- the Data-Out whose header is in front of the bytes, with zeros as its data
abbrev pub out_in : List ℕ → Frame
out_in bytes = brought (take header_length bytes) (data_length bytes)

-- no command that is not finished takes this Data-Out
abbrev pub IsUntaken : Phase → Frame → Type 0
IsUntaken Free out = ⊤
IsUntaken (Login login) out = ⊤
IsUntaken (FullFeature session) out = takes_in session.transfers out ≡ false
IsUntaken Closing out = ⊤

-- if a Data-Out is only counted, its header is there, and no command takes it
abbrev pub CanPass : Phase → ArrivingState → Type 0
CanPass phase arriving = arriving.is_counted ≡ true → (header_length < length arriving.bytes) × IsUntaken phase (out_in arriving.bytes)

-- a Data-Out that was only counted is that one
abbrev pub IsOfCounted : Arrived → ArrivingState → Type 0
IsOfCounted (Whole frame) arriving = ⊤
IsOfCounted (Passed out) arriving =
    (arriving.is_counted ≡ true) × (opcode_number out.header ≡ 0x05) × (out.header ≡ take header_length arriving.bytes)

-- what was taken may be served: no command takes a Data-Out that was only counted
abbrev pub MayServe : Phase → Arrived → Type 0
MayServe phase (Whole frame) = ⊤
MayServe phase (Passed out) = (opcode_number out.header ≡ 0x05) × IsUntaken phase (brought out.header (data_length out.header))
