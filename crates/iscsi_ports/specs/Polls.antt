-- For how long a poll waits, and how many polls ask nothing.
use Rattle.std.specs.Prelude.{◌≤◌, ℕ, ◌+◌, min, List, [], ◌∷◌, Bool, true, false, Option, Some, None, ⊤}
use Rattle.iscsi_ports.specs.Calls.{Call, Polling, Naming}

-- own: for how many nanoseconds a poll waits that asks, or without limit: not at all where there may be more, and a second
-- at most where an accept is to be tried again
abbrev pub wait_for : Bool → Bool → Option ℕ → Option ℕ
wait_for true refused wait = Some 0
wait_for false true None = Some 1000000000
wait_for false true (Some limit) = Some (min limit 1000000000)
wait_for false false wait = wait

-- own: it waits for no longer than this
abbrev pub IsNoLonger : Option ℕ → Option ℕ → Type 0
IsNoLonger wait None = ⊤
IsNoLonger None (Some limit) = ⊥
IsNoLonger (Some time) (Some limit) = time ≤ limit

-- for how long the last poll waited that asked
abbrev pub waited_in : List Call → Option ℕ
waited_in [] = None
waited_in (Polling wait answer ∷ earlier) = wait
waited_in (call ∷ earlier) = waited_in earlier

-- own: the number of polls in a row that were last answered without asking
abbrev pub unasked_in : List Call → ℕ
unasked_in [] = 0
unasked_in (Naming named ∷ earlier) = unasked_in earlier + 1
unasked_in (Polling wait answer ∷ earlier) = 0
unasked_in (call ∷ earlier) = unasked_in earlier
