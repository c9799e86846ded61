-- The data that a SCSI Command takes from its initiator (RFC 7143 §4.2.4.2): the frames that brought it, and what is
-- computed from them.
use Rattle.std.specs.Prelude.{ℕ, List, [], ◌∷◌, ◌++◌, length, reverse, Bool, ◌&&◌, not, if◌then◌else◌}
use Rattle.std.specs.List.{flat_map, list_any, take_while}
use Rattle.iscsi_pdu.specs.Frames.{Frame}
use Rattle.iscsi_pdu.specs.ScsiCommand.{is_final, is_write, expected_transfer_length}
use Rattle.iscsi_login.specs.declared.values.Values.{Values}

-- what has happened to the data of a command
pub record Past : Type 0 where
  -- the values that the login agreed on
  pub values : Values
  -- the SCSI Command
  pub command : Frame
  -- the Data-Outs that were accepted for it, in the order in which they came
  pub outs : List Frame
  -- the Target Transfer Tags of the R2Ts for it, in the order in which they were sent
  pub tags : List ℕ

-- only the command has come
abbrev pub begun : Values → Frame → Past
begun values command = record { values = values; command = command; outs = []; tags = [] }

-- a Data-Out is accepted
abbrev pub accepted : Frame → Past → Past
accepted out past = record past { outs = past.outs ++ out ∷ [] }

-- R2Ts with these tags are sent
abbrev pub asked : List ℕ → Past → Past
asked tags past = record past { tags = past.tags ++ tags }

-- ---- what is computed from it

abbrev pub is_last : Frame → Bool
is_last frame = is_final frame.header

-- RFC 7143 §11.3.1: unsolicited Data-Outs follow a command that takes data and has no F
abbrev pub announces : Frame → Bool
announces command = is_write command.header && not (is_last command)

-- RFC 7143 §11.7.1: the Data-Outs up to the first with F, or all if none has it
abbrev pub up_to_last : List Frame → List Frame
up_to_last [] = []
up_to_last (out ∷ outs) = out ∷ (if is_last out then [] else up_to_last outs)

-- the unsolicited Data-Outs
abbrev pub unsolicited : Past → List Frame
unsolicited past = if announces past.command then up_to_last past.outs else []

-- whether more unsolicited Data-Outs are to come
abbrev pub is_open : Past → Bool
is_open past = announces past.command && not (list_any is_last past.outs)

abbrev pub data_of : List Frame → List ℕ
data_of outs = flat_map (λ out. out.body) outs

-- the immediate data, then that of the Data-Outs
abbrev pub payload : Past → List ℕ
payload past = past.command.body ++ data_of past.outs

-- how many bytes of it came unsolicited
abbrev pub u : Past → ℕ
u past = length (past.command.body ++ data_of (unsolicited past))

-- RFC 7143 §11.7.1 and §11.7.5: how many Data-Outs of the open sequence have come: those after the last with F
abbrev pub sequence_length : Past → ℕ
sequence_length past = length (take_while (λ out. not (is_last out)) (reverse past.outs))

-- RFC 7143 §11.3.4: the Expected Data Transfer Length; a command without W takes no data
abbrev pub expected : Frame → ℕ
expected command = if is_write command.header then expected_transfer_length command.header else 0
