-- The fields of a SCSI Command (RFC 7143 §11.3).
use Rattle.std.specs.Prelude.{ℕ, List, take, drop, Bool}
use Rattle.byteorder.specs.Endian.{big_from}
use Rattle.iscsi_pdu.specs.Header.{bit}

-- RFC 7143 §11.3.1: F, bit 0 of byte 1
abbrev pub is_final : List ℕ → Bool
is_final header = bit header 1 0x80

-- RFC 7143 §11.3.1: R, bit 1 of byte 1
abbrev pub is_read : List ℕ → Bool
is_read header = bit header 1 0x40

-- RFC 7143 §11.3.1: W, bit 2 of byte 1
abbrev pub is_write : List ℕ → Bool
is_write header = bit header 1 0x20

-- RFC 7143 §11.3.4: in bytes
abbrev pub expected_transfer_length : List ℕ → ℕ
expected_transfer_length header = big_from 20 4 header

-- RFC 7143 §11.3.5: the command descriptor block, 16 bytes
abbrev pub cdb : List ℕ → List ℕ
cdb header = take 16 (drop 32 header)
