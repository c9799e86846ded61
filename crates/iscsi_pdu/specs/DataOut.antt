-- The fields of a SCSI Data-Out (RFC 7143 §11.7); F is where a SCSI Command has it.
use Rattle.std.specs.Prelude.{ℕ, List}
use Rattle.byteorder.specs.Endian.{big_from}

-- RFC 7143 §11.7.4: the Target Transfer Tag of unsolicited data
abbrev pub no_transfer_tag : ℕ
no_transfer_tag = 0xffffffff

-- RFC 7143 §11.7.4: the tag of the R2T that asked for the data
abbrev pub target_transfer_tag : List ℕ → ℕ
target_transfer_tag header = big_from 20 4 header

-- RFC 7143 §11.7.5: the number of the Data-Out in its sequence
abbrev pub data_sn : List ℕ → ℕ
data_sn header = big_from 36 4 header

-- RFC 7143 §11.7.6: the place in the command's data where this data begins, in bytes
abbrev pub buffer_offset : List ℕ → ℕ
buffer_offset header = big_from 40 4 header
