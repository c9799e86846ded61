-- The answer to a Login Request (RFC 7143 §11.13).
use Rattle.std.specs.Prelude.{ℕ, ◌+◌, ◌*◌, List, [], ◌∷◌, ◌++◌, length, replicate}
use Rattle.byteorder.specs.Endian.{big_bytes}
use Rattle.iscsi_pdu.specs.LoginRequest.{transit, continued}
use Rattle.iscsi_pdu.specs.Segment.{segment}
use Rattle.iscsi_pdu.specs.Stage.{stage_number}
use Rattle.iscsi_pdu.specs.Stamp.{stamp_bytes}
use Rattle.iscsi_pdu.specs.declared.login_response.LoginRefusal.{LoginRefusal}
use Rattle.iscsi_pdu.specs.declared.login_response.LoginRefusal.TheVariants as refusals
use Rattle.iscsi_pdu.specs.declared.login_response.LoginStep.{LoginStep}
use Rattle.iscsi_pdu.specs.declared.login_response.LoginStep.TheVariants as steps
use Rattle.iscsi_pdu.specs.declared.login_response.LoginReply.{LoginReply}
use Rattle.iscsi_pdu.specs.declared.login_response.LoginReply.TheVariants as replies
use Rattle.iscsi_pdu.specs.declared.login_response.LoginResponse.{LoginResponse}

-- RFC 7143 §11.13.5: the status class, then the status detail
abbrev pub refusal_code : LoginRefusal → ℕ
refusal_code refusals.InitiatorError = 0x0200
refusal_code refusals.TargetNotFound = 0x0203
refusal_code refusals.UnsupportedVersion = 0x0205
refusal_code refusals.TooManyConnections = 0x0206
refusal_code refusals.MissingParameter = 0x0207
refusal_code refusals.SessionDoesNotExist = 0x020A

-- RFC 7143 §11.13.5: a login that goes on has status 0000h
abbrev pub login_status : LoginReply → ℕ
login_status (replies.Refused refusal) = refusal_code refusal
login_status (replies.Accepted accepted) = 0x0000

-- RFC 7143 §11.13.6 and §11.13.7: T and NSG, or C; NSG is sent only with T
abbrev pub step_flags : LoginStep → ℕ
step_flags steps.Continued = continued
step_flags steps.Stays = 0
step_flags (steps.Enters next) = transit + stage_number next

-- RFC 7143 §11.13: T, C, CSG and NSG, byte 1; 0 in a refusal
abbrev pub login_flags : LoginReply → ℕ
login_flags (replies.Refused refusal) = 0
login_flags (replies.Accepted accepted) = step_flags accepted.step + 4 * stage_number accepted.stage

-- RFC 7143 §11.13.8: the data segment; a refusal has none
abbrev pub login_text : LoginReply → List ℕ
login_text (replies.Refused refusal) = []
login_text (replies.Accepted accepted) = accepted.text

-- RFC 7143 §11.13: both versions, bytes 2 and 3, are 0
abbrev pub login_response_header : LoginResponse → List ℕ
login_response_header r =
    (0x23 ∷ login_flags r.reply ∷ 0 ∷ 0 ∷ 0 ∷ [])
    ++ big_bytes 3 (length (login_text r.reply)) ++ r.isid ++ big_bytes 2 r.tsih ++ big_bytes 4 r.initiator_task_tag ++ replicate 4 0
    ++ stamp_bytes r.stamp ++ big_bytes 2 (login_status r.reply) ++ replicate 10 0

-- RFC 7143 §11.13: the header, and the text as its data segment
abbrev pub login_response_bytes : LoginResponse → List ℕ
login_response_bytes r = login_response_header r ++ segment (login_text r.reply)
