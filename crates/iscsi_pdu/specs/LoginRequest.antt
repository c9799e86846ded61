-- The fields of a Login Request (RFC 7143 §11.12).
use Rattle.std.specs.Prelude.{ℕ, ◌/◌, ◌%◌, List, take, drop, Bool, Option, slice_index}
use Rattle.byteorder.specs.Endian.{big_from}
use Rattle.iscsi_pdu.specs.Header.{bit}
use Rattle.iscsi_pdu.specs.Stage.{stage_of}
use Rattle.iscsi_pdu.specs.declared.stage.Stage.{Stage}

-- RFC 7143 §11.12.1 and §11.13.6: T, bit 0 of byte 1
abbrev pub transit : ℕ
transit = 0x80

-- RFC 7143 §11.12.2 and §11.13.7: C, bit 1 of byte 1
abbrev pub continued : ℕ
continued = 0x40

abbrev pub is_transit : List ℕ → Bool
is_transit header = bit header 1 transit

abbrev pub is_continued : List ℕ → Bool
is_continued header = bit header 1 continued

-- RFC 7143 §11.12.3: CSG, bits 4 and 5 of byte 1
abbrev pub current_stage : List ℕ → Option Stage
current_stage header = stage_of (slice_index header 1 / 4 % 4)

-- RFC 7143 §11.12.3: NSG, bits 6 and 7 of byte 1
abbrev pub next_stage : List ℕ → Option Stage
next_stage header = stage_of (slice_index header 1 % 4)

-- RFC 7143 §11.12.4.2
abbrev pub version_min : List ℕ → ℕ
version_min header = slice_index header 3

-- RFC 7143 §11.12.5
abbrev pub isid : List ℕ → List ℕ
isid header = take 6 (drop 8 header)

-- RFC 7143 §11.12.6
abbrev pub tsih : List ℕ → ℕ
tsih header = big_from 14 2 header

-- RFC 7143 §11.12.7 and §11.14.3: CID, in a Login Request and in a Logout Request
abbrev pub connection_id : List ℕ → ℕ
connection_id header = big_from 20 2 header
