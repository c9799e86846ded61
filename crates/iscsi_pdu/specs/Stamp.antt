-- The sequence numbers of an answer (RFC 7143 §4.2.2.1 and §4.2.2.2).
use Rattle.std.specs.Prelude.{ℕ, List, ◌++◌}
use Rattle.byteorder.specs.Endian.{big_bytes}
use Rattle.iscsi_pdu.specs.declared.stamp.Stamp.{Stamp}

-- RFC 7143 §11.4, §11.13 and the like: StatSN, ExpCmdSN and MaxCmdSN, bytes 24 to 35 of each answer
abbrev pub stamp_bytes : Stamp → List ℕ
stamp_bytes stamp = big_bytes 4 stamp.stat_sn ++ big_bytes 4 stamp.exp_cmd_sn ++ big_bytes 4 stamp.max_cmd_sn
