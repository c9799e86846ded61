-- The nexus that sends a command: an I_T nexus (RFC 7143 §4.4.2).
use Rattle.std.specs.Prelude.{ℕ, List, Bool, ◌&&◌, bytes_eq}

-- the name of the initiator port: an initiator's name and an ISID
pub record NexusName : Type 0 where
  pub initiator_name : List ℕ
  pub isid : List ℕ

-- RFC 7143 §4.2.7.2: names are compared byte by byte
abbrev pub same_nexus : NexusName → NexusName → Bool
same_nexus a b = bytes_eq a.initiator_name b.initiator_name && bytes_eq a.isid b.isid
