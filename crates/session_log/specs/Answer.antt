-- Which answer of the target a header is of, as far as the log wants it.
use Rattle.std.specs.Prelude.{ℕ, List, ◌==◌, slice_index, bit_and, if◌then◌else◌}
use Rattle.byteorder.specs.Endian.{big_from}
use Rattle.session_log.specs.declared.answer.Answer.{Answer}
use Rattle.session_log.specs.declared.answer.Answer.TheVariants.{LoggedIn, LoginGoesOn, Refused, LoggedOut, Function, CheckCondition, Ended, Asked, Other}

-- RFC 7143 §11.13: Status-Class and Status-Detail, bytes 36 and 37; T, and the full feature phase as NSG, in byte 1
abbrev pub login_answer : List ℕ → Answer
login_answer header =
    if big_from 36 2 header == 0
    then (if bit_and (slice_index header 1) 0x83 == 0x83 then LoggedIn (big_from 14 2 header) else LoginGoesOn)
    else Refused (big_from 36 2 header)

-- RFC 7143 §11.4: status CHECK CONDITION, byte 3
abbrev pub scsi_answer : List ℕ → Answer
scsi_answer header = if slice_index header 3 == 0x02 then CheckCondition (big_from 16 4 header) else Ended (big_from 16 4 header)

-- RFC 7143 §11.8: the Target Transfer Tag, the Buffer Offset and the Desired Data Transfer Length, bytes 20, 40 and 44
abbrev pub r2t_answer : List ℕ → Answer
r2t_answer header = Asked (big_from 16 4 header) (big_from 20 4 header) (big_from 40 4 header) (big_from 44 4 header)

-- RFC 7143 §11.15: response 0, byte 2
abbrev pub logout_answer : List ℕ → Answer
logout_answer header = if slice_index header 2 == 0x00 then LoggedOut else Other

-- RFC 7143 §11.2.1.2: by the opcode
abbrev pub answer_of : List ℕ → Answer
answer_of header =
    if slice_index header 0 == 0x21 then scsi_answer header
    else if slice_index header 0 == 0x22 then Function (slice_index header 2) (big_from 16 4 header)
    else if slice_index header 0 == 0x23 then login_answer header
    else if slice_index header 0 == 0x26 then logout_answer header
    else if slice_index header 0 == 0x31 then r2t_answer header
    else Other
