-- Buffers that are kept for the next reads: for how long a poll waits beside them, and after which one they are dropped.
use Rattle.std.specs.Prelude.{ℕ, nat_lt, Bool, false, ◌&&◌, not, Option}
use Rattle.iscsi_ports.specs.Polls.{wait_for}
use Rattle.iscsi_ports.specs.Lingering.{is_at_once}

-- own: a poll waits no longer than a second while a buffer is kept
abbrev pub wait_beside : ℕ → Option ℕ → Option ℕ
wait_beside kept wait = wait_for false (nat_lt 0 kept) wait

-- own: a poll was idle if it waited and met no event
abbrev pub is_idle : Option ℕ → Bool → Bool
is_idle waited met_event = not met_event && not (is_at_once waited)
