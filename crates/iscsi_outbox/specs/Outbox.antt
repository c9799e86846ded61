-- What waits to be sent on a connection.
use Rattle.std.specs.Prelude.{◌<◌, ℕ, List, [], ◌∷◌, ◌++◌, length}
use Rattle.iscsi_outbox.specs.declared.run.Run.{Run}
use Rattle.iscsi_outbox.specs.Offered.{AreWhole}

-- the bytes that wait, how many runs are among them, how many bytes there is room for after them, and how many runs
pub record Waits : Type 0 where
  pub items : List ℕ
  pub runs : ℕ
  pub spare : ℕ
  pub slots : ℕ

-- the bytes of a run
abbrev pub run_bytes : Run → List ℕ
run_bytes run = run.before.items ++ run.data_ins

-- no run is spent
abbrev pub AreRunning : List Run → Type 0
AreRunning [] = Unit {0}
AreRunning (run ∷ runs) = (0 < length run.data_ins) × AreRunning runs

-- no byte of these runs was sent
abbrev pub AreUnsent : List Run → Type 0
AreUnsent [] = Unit {0}
AreUnsent (run ∷ runs) = AreWhole run.before.items × AreWhole run.data_ins × AreUnsent runs

-- no data of this run was sent before the answers in front of it
abbrev pub IsInOrder : Run → Type 0
IsInOrder run = 0 < length run.before.items → AreWhole run.data_ins

-- only at the front, which is the first run or all that waits, may a PDU be sent in part
abbrev pub AreInOrder : List Run → List ℕ → Type 0
AreInOrder [] tail = Unit {0}
AreInOrder (run ∷ runs) tail = IsInOrder run × AreUnsent runs × AreWhole tail
