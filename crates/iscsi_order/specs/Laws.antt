-- Laws of command numbering.
use Rattle.std.specs.Prelude.{◌≡◌, ℕ, ◌+◌, ◌-◌, ◌^◌, ◌%◌, ◌<◌, ◌≤◌, length, true, false, nat_lt}
use Rattle.std.specs.List.{range_with_len}
use Rattle.iscsi_order.specs.Serial.{distance}
use Rattle.iscsi_order.specs.Window.{window, Past, taken, exp_cmd_sn, in_window, index_of, has_come}
use Rattle.iscsi_order.specs.WindowState.{IsLawful}

-- those taken are 0, 1 and so on, up to the first that has not come
pub record IsFront (past : Past) (count : ℕ) : Type 0 where
  pub order : taken past ≡ range_with_len 0 count
  pub come : (k : ℕ) → k < count → has_come past.came k ≡ true
  pub missing : has_come past.came count ≡ false

abbrev pub TakenIsTheFront : Type 0
TakenIsTheFront = (past : Past) → IsFront past (length (taken past))

-- the window is the numbers from ExpCmdSN on, 32 less those that are taken and unfinished
abbrev pub WindowIsARange : Type 0
WindowIsARange = (past : Past) (number : ℕ) → IsLawful past → number < 2 ^ 32
    → in_window past number ≡ nat_lt (distance (exp_cmd_sn past) number) (window + past.finished - length (taken past))

-- the index of a CmdSN is equal to it modulo 2^32, and the only such one among the 32 after those taken
pub record IsIndex (past : Past) (number index : ℕ) : Type 0 where
  pub number_is : (past.first + index) % 2 ^ 32 ≡ number
  pub behind : length (taken past) ≤ index
  pub near : index < length (taken past) + window

abbrev pub IndexIsThePlace : Type 0
IndexIsThePlace = (past : Past) (number : ℕ) → IsLawful past → number < 2 ^ 32 → in_window past number ≡ true → IsIndex past number (index_of past number)
