-- The fields of a Logout Request (RFC 7143 §11.14); CID is where a Login Request has it.
use Rattle.std.specs.Prelude.{ℕ, List, slice_index, bit_and}

-- RFC 7143 §11.14.1: the reason code, bits 1 to 7 of byte 1
abbrev pub logout_reason : List ℕ → ℕ
logout_reason header = bit_and (slice_index header 1) 0x7F
