-- The answer to a Text Request (RFC 7143 §11.11).
use Rattle.std.specs.Prelude.{ℕ, List, [], ◌∷◌, ◌++◌, length, replicate}
use Rattle.byteorder.specs.Endian.{big_bytes}
use Rattle.iscsi_pdu.specs.LoginRequest.{continued}
use Rattle.iscsi_pdu.specs.Segment.{segment}
use Rattle.iscsi_pdu.specs.Stamp.{stamp_bytes}
use Rattle.iscsi_pdu.specs.declared.stamp.Stamp.{Stamp}
use Rattle.iscsi_pdu.specs.declared.text_response.TextStep.{TextStep}
use Rattle.iscsi_pdu.specs.declared.text_response.TextStep.TheVariants as steps

-- the fields of a Text Response
pub record TextResponseFields : Type 0 where
  pub initiator_task_tag : ℕ
  pub stamp : Stamp
  pub step : TextStep
  pub text : List ℕ

-- RFC 7143 §11.11.1, §11.11.2: F, bit 0 of byte 1, and C, bit 1
abbrev pub text_flags : TextStep → ℕ
text_flags steps.Continued = continued
text_flags steps.GoesOn = 0
text_flags steps.Ends = 0x80

-- RFC 7143 §11.11.4: FFFFFFFFh ends the exchange; own: each exchange that goes on has this tag
abbrev pub exchange_tag : TextStep → ℕ
exchange_tag steps.Continued = 0xfffffffe
exchange_tag steps.GoesOn = 0xfffffffe
exchange_tag steps.Ends = 0xffffffff

-- RFC 7143 §11.11: the LUN is 0
abbrev pub text_response_header : TextResponseFields → List ℕ
text_response_header r =
    (0x24 ∷ text_flags r.step ∷ 0 ∷ 0 ∷ 0 ∷ []) ++ big_bytes 3 (length r.text)
    ++ replicate 8 0 ++ big_bytes 4 r.initiator_task_tag ++ big_bytes 4 (exchange_tag r.step)
    ++ stamp_bytes r.stamp ++ replicate 12 0

-- RFC 7143 §11.11: the header, and the text as its data segment
abbrev pub text_response_bytes : TextResponseFields → List ℕ
text_response_bytes r = text_response_header r ++ segment r.text
