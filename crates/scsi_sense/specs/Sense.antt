-- Sense data in the fixed format (SPC-4 "Fixed format sense data").
use Rattle.std.specs.Prelude.{ℕ, ◌+◌, List, [], ◌∷◌, ◌++◌, false, None, is_some, unwrap_or, replicate, if◌then◌else◌}
use Rattle.std.specs.Int.{w16, w32, to_be_bytes}
use Rattle.scsi_sense.specs.Codes.{key_of, code_of}
use Rattle.scsi_sense.specs.declared.condition.Condition.{Condition}
use Rattle.scsi_sense.specs.declared.sense.Sense.{Sense}

-- a condition, with no bit set and no information
abbrev pub plain_sense : Condition → Sense
plain_sense condition = record { condition = condition; filemark = false; end_of_medium = false; incorrect_length = false; information = None }

-- SPC-4 "Fixed format sense data": byte 0, VALID if there is information, and 70h
abbrev pub response_code : Sense → ℕ
response_code sense = if is_some sense.information then 0xf0 else 0x70

-- SPC-4 "Fixed format sense data": byte 2, FILEMARK, EOM, ILI and the sense key
abbrev pub flags : Sense → ℕ
flags sense = (if sense.filemark then 0x80 else 0) + (if sense.end_of_medium then 0x40 else 0) + (if sense.incorrect_length then 0x20
    else 0) + key_of sense.condition

-- SPC-4 "Fixed format sense data"
abbrev pub sense_bytes : Sense → List ℕ
sense_bytes sense =
    (response_code sense ∷ 0 ∷ flags sense ∷ [])
    ++ to_be_bytes w32 (unwrap_or sense.information 0) ++ (0x0a ∷ replicate 4 0)
    ++ to_be_bytes w16 (code_of sense.condition) ++ replicate 4 0
