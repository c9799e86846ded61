-- How much room the answers to other requests take.
use Rattle.std.specs.Prelude.{ℕ, ◌+◌, length, Option, Some, None}
use Rattle.iscsi_pdu.specs.Frames.{Frame}
use Rattle.iscsi_exchange.specs.Exchange.{TextPiece}

-- RFC 7143 §11.19, §11.17: a NOP-In takes 48 bytes and at most 3 of padding, besides the ping data, and a Reject 96
abbrev pub room_to_act : Frame → ℕ
room_to_act frame = length frame.body + 99

-- RFC 7143 §11.11, §11.17: a Text Response takes 48 bytes and at most 3 of padding, besides its text, and a Reject 96
abbrev pub room_to_tell : Option TextPiece → ℕ
room_to_tell None = 99
room_to_tell (Some piece) = length piece.text + 99
