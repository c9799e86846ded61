-- Room for the answers to a READ of 1 MiB, computed.
use Rattle.std.specs.Prelude.{◌≡◌, ℕ, ◌+◌, ◌*◌, [], ◌∷◌, ◌++◌, replicate, true, false, refl}
use Rattle.iscsi_pdu.specs.Frames.{Frame}
use Rattle.iscsi_login.specs.Values.{default_values}
use Rattle.iscsi_login.specs.declared.values.Values.{Values}
use Rattle.iscsi_answers.specs.Room.{room_for, lies_in_pieces}

-- F and R, and the Expected Data Transfer Length
abbrev read : Frame
read = record { header = 0x01 ∷ 0xc0 ∷ replicate 18 0 ++ 0x00 ∷ 0x10 ∷ 0x00 ∷ 0x00 ∷ replicate 24 0; body = [] }

-- the default values, except for MaxRecvDataSegmentLength
abbrev cut_at : ℕ → Values
cut_at segment = record default_values { max_recv_data_segment_length = segment }

-- its data is sent from where it lies: room for 2,048 bytes in one Data-In, and for the SCSI Response
from_where_it_lies : room_for (cut_at 262144) read ≡ 51 + 2048 + 68
from_where_it_lies = refl

-- 128 pieces of 8,192 bytes are copied
short_pieces : room_for (cut_at 8192) read ≡ 128 * 51 + 1048576 + 68
short_pieces = refl

-- so are pieces with padding, four in each of four bursts
padded_pieces : room_for (cut_at 65537) read ≡ 16 * 51 + 1048576 + 68
padded_pieces = refl

-- of these three, the first is to lie in pieces
laid_out : (lies_in_pieces (cut_at 262144) read ≡ true) × (lies_in_pieces (cut_at 8192) read ≡ false) × (lies_in_pieces (cut_at 65537) read ≡ false)
laid_out = (refl, refl, refl)
