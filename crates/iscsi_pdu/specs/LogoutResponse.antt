-- The answer to a Logout Request (RFC 7143 §11.15).
use Rattle.std.specs.Prelude.{ℕ, List, [], ◌∷◌, ◌++◌, replicate}
use Rattle.byteorder.specs.Endian.{big_bytes}
use Rattle.iscsi_pdu.specs.Stamp.{stamp_bytes}
use Rattle.iscsi_pdu.specs.declared.logout_response.LogoutResult.{LogoutResult}
use Rattle.iscsi_pdu.specs.declared.logout_response.LogoutResult.TheVariants as results
use Rattle.iscsi_pdu.specs.declared.logout_response.LogoutResponse.{LogoutResponse}

-- RFC 7143 §11.15.1: the response, byte 2
abbrev pub logout_code : LogoutResult → ℕ
logout_code results.Closed = 0
logout_code results.CidNotFound = 1
logout_code results.NoRecovery = 2

-- RFC 7143 §11.15: bit 0 of byte 1 is set; Time2Wait and Time2Retain, bytes 40 to 43, are 0
abbrev pub logout_response_header : LogoutResponse → List ℕ
logout_response_header r =
    (0x26 ∷ 0x80 ∷ logout_code r.response ∷ 0 ∷ []) ++ replicate 4 0
    ++ replicate 8 0 ++ big_bytes 4 r.initiator_task_tag ++ replicate 4 0
    ++ stamp_bytes r.stamp ++ replicate 12 0

-- RFC 7143 §11.15: the header; no data segment
abbrev pub logout_response_bytes : LogoutResponse → List ℕ
logout_response_bytes r = logout_response_header r
