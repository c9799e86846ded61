-- The 48 header bytes of a PDU (RFC 7143 §11.2.1), and the fields that every PDU of an initiator has.
-- RFC 7143 numbers the bits of a byte from the most significant, which is bit 0. The masks here are by value: bit 0 is 0x80.
use Rattle.std.specs.Prelude.{ℕ, ◌*◌, List, take, drop, Bool, nat_eq, ◌==◌, if◌then◌else◌, slice_index, bit_and}
use Rattle.byteorder.specs.Endian.{big_from}
use Rattle.iscsi_pdu.specs.declared.header.Opcode.{Opcode}
use Rattle.iscsi_pdu.specs.declared.header.Opcode.TheVariants.{NopOut, ScsiCommand, TaskManagement, Login, Text, DataOut, Logout, Snack, Other}

-- RFC 7143 §11.2.1: the length of a header in bytes
abbrev pub header_length : ℕ
header_length = 48

-- whether the bits of the mask are set in byte i
abbrev pub bit : List ℕ → ℕ → ℕ → Bool
bit header i mask = nat_eq (bit_and (slice_index header i) mask) mask

-- RFC 7143 §11.2.1.2: bits 2 to 7 of byte 0
abbrev pub opcode_number : List ℕ → ℕ
opcode_number header = bit_and (slice_index header 0) 0x3F

-- RFC 7143 §11.2.1.2: the opcodes of an initiator
abbrev pub opcode_of : ℕ → Opcode
opcode_of n =
    if n == 0x00 then NopOut
    else if n == 0x01 then ScsiCommand
    else if n == 0x02 then TaskManagement
    else if n == 0x03 then Login
    else if n == 0x04 then Text
    else if n == 0x05 then DataOut
    else if n == 0x06 then Logout
    else if n == 0x10 then Snack
    else Other n

-- RFC 7143 §11.2.1.1: I, bit 1 of byte 0
abbrev pub is_immediate : List ℕ → Bool
is_immediate header = bit header 0 0x40

-- RFC 7143 §11.2.1.5: TotalAHSLength counts words of four bytes
abbrev pub additional_length : List ℕ → ℕ
additional_length header = 4 * slice_index header 4

-- RFC 7143 §11.2.1.6: DataSegmentLength, in bytes
abbrev pub data_length : List ℕ → ℕ
data_length header = big_from 5 3 header

-- RFC 7143 §11.2.1.7: the eight bytes of the LUN
abbrev pub lun_field : List ℕ → List ℕ
lun_field header = take 8 (drop 8 header)

-- RFC 7143 §11.2.1.8
abbrev pub initiator_task_tag : List ℕ → ℕ
initiator_task_tag header = big_from 16 4 header

-- RFC 7143 §11.3.2, §11.12.8 and the like: the same place in every numbered request
abbrev pub cmd_sn : List ℕ → ℕ
cmd_sn header = big_from 24 4 header
