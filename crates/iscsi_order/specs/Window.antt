-- Command numbering in a session (RFC 7143 §4.2.2.1): plain lists of what came and what was finished,
-- and what is read from them.
use Rattle.std.specs.Prelude.{ℕ, zero, suc, ◌+◌, ◌-◌, ◌^◌, ◌%◌, List, [], ◌∷◌, ◌++◌, length, find, Bool, ◌&&◌, not, ◌==◌, nat_lt, Option, Some, None, option_map, unwrap_or, if◌then◌else◌}
use Rattle.std.specs.List.{list_any}
use Rattle.iscsi_order.specs.Serial.{distance, is_at_most}
use Rattle.iscsi_order.specs.declared.window.Arrival.{Arrival}
use Rattle.iscsi_order.specs.declared.window.Arrival.TheVariants.{New, Ignored}
use Rattle.iscsi_order.specs.declared.window.CommandNumbers.{CommandNumbers}

-- profile: how many requests may be unfinished
abbrev pub window : ℕ
window = 32

-- what has happened to the numbers of a session
pub record Past : Type 0 where
  -- the CmdSN of the first Login request (RFC 7143 §11.12.8)
  pub first : ℕ
  -- the numbers that came and were new, each counted from the first, in the order in which they came
  pub came : List ℕ
  -- how many of those taken were handed over
  pub handed : ℕ
  -- how many requests are finished
  pub finished : ℕ

-- nothing has come
abbrev pub begun : ℕ → Past
begun first = record { first = first; came = []; handed = 0; finished = 0 }

-- ---- what is read from it

-- of at most n items, those numbered from k on, up to the first number that has not come
abbrev pub taken_from : {A : Type 0} → (A → ℕ) → ℕ → ℕ → List A → List A
taken_from index zero k came = []
taken_from index (suc n) k came = unwrap_or (option_map (λ a. a ∷ taken_from index n (suc k) came) (find (λ a. index a == k) came)) []

-- a number is taken once it and all before it have come
unfoldable pub taken : Past → List ℕ
taken past = taken_from (λ k. k) (length past.came) 0 past.came

-- RFC 7143 §4.2.2.1: ExpCmdSN counts the numbers taken
abbrev pub exp_cmd_sn : Past → ℕ
exp_cmd_sn past = (past.first + length (taken past)) % 2 ^ 32

-- RFC 7143 §4.2.2.1: MaxCmdSN counts those finished
abbrev pub max_cmd_sn : Past → ℕ
max_cmd_sn past = (past.first + (window - 1) + past.finished) % 2 ^ 32

-- RFC 7143 §4.2.2.1: a number outside ExpCmdSN to MaxCmdSN is ignored
abbrev pub in_window : Past → ℕ → Bool
in_window past number = is_at_most (exp_cmd_sn past) number && is_at_most number (max_cmd_sn past)

-- the index of a CmdSN, counted from the first number: modulo 2^32, the least from the count of those taken on
abbrev pub index_of : Past → ℕ → ℕ
index_of past number = length (taken past) + distance (exp_cmd_sn past) number

abbrev pub has_come : List ℕ → ℕ → Bool
has_come came k = list_any (λ a. a == k) came

-- RFC 7143 §4.2.2.1: inside the window, and not a duplicate
abbrev pub is_new : Past → ℕ → Bool
is_new past number = in_window past number && not (has_come past.came (index_of past number))

-- those taken are handed over in order, each once
abbrev pub next_of : Past → Option ℕ
next_of past = if nat_lt past.handed (length (taken past)) then Some ((past.first + past.handed) % 2 ^ 32) else None

abbrev pub numbers_of : Past → CommandNumbers
numbers_of past = record { exp_cmd_sn = exp_cmd_sn past; max_cmd_sn = max_cmd_sn past }

-- ---- what happens

-- a numbered request arrives
abbrev pub arrived : Past → ℕ → Past
arrived past number = if is_new past number then record past { came = past.came ++ index_of past number ∷ [] } else past

abbrev pub arrival_of : Past → ℕ → Arrival
arrival_of past number = if is_new past number then New else Ignored

-- the next one is handed over, if there is one
abbrev pub handed_over : Past → Past
handed_over past = if nat_lt past.handed (length (taken past)) then record past { handed = suc past.handed } else past

-- one more request is finished
abbrev pub finished_one : Past → Past
finished_one past = record past { finished = suc past.finished }
