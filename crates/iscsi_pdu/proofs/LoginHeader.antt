-- The header of a Login Response.
use Rattle.std.proofs.Common.{◌≡◌, ℕ, List, [], ◌∷◌, ◌++◌, length, replicate, append_assoc}
use Rattle.byteorder.specs.Endian.{big_bytes}
use Rattle.iscsi_pdu.specs.declared.login_response.LoginResponse.{LoginResponse}
use Rattle.iscsi_pdu.specs.Stamp.{stamp_bytes}
use Rattle.iscsi_pdu.specs.LoginResponse.{login_status, login_flags, login_text, login_response_header}

between : (front isid a b c d e f : List ℕ) → front ++ isid ++ a ++ b ++ c ++ d ++ e ++ f ≡ front ++ (isid ++ (a ++ b ++ c ++ d ++ e ++ f))
between front isid a b c d e f = simp append_assoc

-- what stands before the ISID, bytes 0 to 7
abbrev pub front : LoginResponse → List ℕ
front r = (0x23 ∷ login_flags r.reply ∷ 0 ∷ 0 ∷ 0 ∷ []) ++ big_bytes 3 (length (login_text r.reply))

-- what stands after it, bytes 14 to 47
abbrev pub behind : LoginResponse → List ℕ
behind r =
    big_bytes 2 r.tsih ++ big_bytes 4 r.initiator_task_tag ++ replicate 4 0 ++ stamp_bytes r.stamp ++ big_bytes 2 (login_status r.reply) ++ replicate 10 0

pub login_response_header-isid : (r : LoginResponse) → login_response_header r ≡ front r ++ (r.isid ++ behind r)
login_response_header-isid r =
    between (front r) r.isid (big_bytes 2 r.tsih) (big_bytes 4 r.initiator_task_tag) (replicate 4 0) (stamp_bytes r.stamp)
    (big_bytes 2 (login_status r.reply)) (replicate 10 0)
