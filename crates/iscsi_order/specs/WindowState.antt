-- What a window remembers of its past.
use Rattle.std.specs.Prelude.{◌≡◌, ◌≤◌, ◌<◌, ℕ, ◌+◌, ◌-◌, ◌^◌, ◌%◌, List, [], ◌∷◌, ◌++◌, length, map, drop, replicate, Bool, true, false, ◌&&◌, not, nat_lt, Option, Some, None, is_some, slice_index_or, slice_set, if◌then◌else◌}
use Rattle.std.specs.List.{range_with_len}
use Rattle.iscsi_order.specs.Serial.{distance}
use Rattle.iscsi_order.specs.Window.{window, Past, taken, has_come}

pub record WindowState : Type 0 where
  -- the CmdSN that is handed over next
  pub next : ℕ
  -- how many were handed over and are not finished
  pub unfinished : ℕ
  -- for each number from the next one on, as many as the window has: whether it has come
  pub held : List Bool

-- the same, with a key that the caller chose for each number that has come
pub record WindowKeys : Type 0 where
  pub next : ℕ
  pub unfinished : ℕ
  pub keys : List (Option ℕ)

-- which of them have a key
abbrev pub marked : WindowKeys → WindowState
marked w = record { next = w.next; unfinished = w.unfinished; held = map is_some w.keys }

-- the key of the number n, if it is within the window
abbrev pub key_at : WindowKeys → ℕ → Option ℕ
key_at w n = slice_index_or w.keys (distance w.next n) None

-- the number n is within the window, and has not come
abbrev pub is_vacant : WindowKeys → ℕ → Bool
is_vacant w n = nat_lt (distance w.next n) (window - w.unfinished) && not (is_some (key_at w n))

-- the number n has this key
abbrev pub with_key : ℕ → ℕ → WindowKeys → WindowKeys
with_key n key w = if is_vacant w n then record w { keys = slice_set w.keys (distance w.next n) (Some key) } else w

-- the next number is handed over, if it has come
abbrev pub turned : WindowKeys → WindowKeys
turned w = if is_some (slice_index_or w.keys 0 None) then record {
  next = (w.next + 1) % 2 ^ 32;
  unfinished = w.unfinished + 1;
  keys = drop 1 w.keys
      ++ None ∷ [];
} else w

-- the last numbers, as many as are unfinished, are outside the window, and none of them is held
pub record IsWithin (unfinished : ℕ) (held : List Bool) : Type 0 where
  pub few : unfinished ≤ window
  pub outside : drop (window - unfinished) held ≡ replicate unfinished false

unfoldable pub remembered : Past → WindowState
remembered past = record {
  next = (past.first + past.handed) % 2 ^ 32;
  unfinished = past.handed - past.finished;
  held = map (has_come past.came) (range_with_len past.handed window);
}

-- a possible past: no more finished than handed over, no more handed over than taken, and none from beyond the window
pub record IsLawful (past : Past) : Type 0 where
  pub finished : past.finished ≤ past.handed
  pub handed : past.handed ≤ length (taken past)
  pub within : (k : ℕ) → has_come past.came k ≡ true → k < past.finished + window

-- the window remembers this past
pub record Stands (past : Past) (state : WindowState) : Type 0 where
  pub lawful : IsLawful past
  pub remembered : state ≡ remembered past
