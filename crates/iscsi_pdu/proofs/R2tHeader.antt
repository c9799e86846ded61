-- The header of an R2T.
use Rattle.std.proofs.Common.{◌≡◌, ℕ, List, [], ◌∷◌, ◌++◌, replicate, append_assoc}
use Rattle.byteorder.specs.Endian.{big_bytes}
use Rattle.iscsi_pdu.specs.declared.r2t.R2t.{R2t}
use Rattle.iscsi_pdu.specs.Stamp.{stamp_bytes}
use Rattle.iscsi_pdu.specs.R2t.{r2t_header}

between : (front lun a b c d e f : List ℕ) → front ++ lun ++ a ++ b ++ c ++ d ++ e ++ f ≡ front ++ (lun ++ (a ++ b ++ c ++ d ++ e ++ f))
between front lun a b c d e f = simp append_assoc

-- what stands after the LUN, bytes 16 to 47
abbrev pub behind : R2t → List ℕ
behind r =
    big_bytes 4 r.initiator_task_tag ++ big_bytes 4 r.target_transfer_tag ++ stamp_bytes r.stamp ++ big_bytes 4 r.r2t_sn
    ++ big_bytes 4 r.buffer_offset ++ big_bytes 4 r.desired_length

pub r2t_header-lun : (r : R2t) → r2t_header r ≡ ((0x31 ∷ 0x80 ∷ []) ++ replicate 6 0) ++ (r.lun ++ behind r)
r2t_header-lun r =
    between ((0x31 ∷ 0x80 ∷ []) ++ replicate 6 0) r.lun (big_bytes 4 r.initiator_task_tag) (big_bytes 4 r.target_transfer_tag) (stamp_bytes r.stamp)
    (big_bytes 4 r.r2t_sn) (big_bytes 4 r.buffer_offset) (big_bytes 4 r.desired_length)
