-- The buffer of a half-read PDU, lent to a reader who fills the rest of it.
use Rattle.std.specs.Prelude.{◌≡◌, ◌≤◌, ◌+◌, ℕ, List, ◌++◌, length, take, drop, true}
use Rattle.iscsi_pdu.specs.Header.{header_length}
use Rattle.iscsi_framer.specs.declared.frame_buffer.FrameRoom.{FrameRoom}
use Rattle.iscsi_world.specs.Machine.{LinkState, is_reading}

-- own: as many bytes as the reader has filled
abbrev pub filled_in : FrameRoom → ℕ → List ℕ
filled_in lent count = take count (drop lent.from lent.buffer.items)

-- own: until the buffer is taken back, only the header is kept
pub record LendsRoom (lent : FrameRoom) (room : ℕ) (old new : LinkState) : Type 0 where
  pub reading : is_reading old.phase ≡ true
  pub same : new ≡ record old { half = new.half }
  pub header : length new.half ≡ header_length
  pub bytes : old.half ≡ new.half ++ take lent.from lent.buffer.items
  pub ends : lent.to ≡ lent.from + room
  pub within : lent.to ≤ length lent.buffer.items
