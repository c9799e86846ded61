-- What the system gave on a connection, what was handed on of it, and what is ahead. The newest call stands first.
use Rattle.std.specs.Prelude.{◌≡◌, ◌≤◌, ◌==◌, ℕ, List, [], ◌∷◌, ◌++◌, take, Option, Some, None, Ok, slice_index_or, if◌then◌else◌}
use Rattle.target_limits.specs.Numbers.{connection_limit}
use Rattle.iscsi_ports.specs.Calls.{Call, Accepting, Reading, Handing, Closing}

-- own: what the system gave on the connection that is open under this number
abbrev pub given : ℕ → List Call → List ℕ
given c [] = []
given c (Reading d room (Ok piece) ∷ earlier) = if d == c then given c earlier ++ piece else given c earlier
given c (Accepting d token (Ok is_kept) ∷ earlier) = if d == c then [] else given c earlier
given c (Closing d dropped ∷ earlier) = if d == c then [] else given c earlier
given c (call ∷ earlier) = given c earlier

-- own: what was handed on of it
abbrev pub handed : ℕ → List Call → List ℕ
handed c [] = []
handed c (Reading d room (Ok piece) ∷ earlier) = if d == c then handed c earlier ++ take room piece else handed c earlier
handed c (Handing d room piece ∷ earlier) = if d == c then handed c earlier ++ piece else handed c earlier
handed c (Accepting d token (Ok is_kept) ∷ earlier) = if d == c then [] else handed c earlier
handed c (Closing d dropped ∷ earlier) = if d == c then [] else handed c earlier
handed c (call ∷ earlier) = handed c earlier

-- what a place has that may have a buffer
abbrev pub bytes_in : Option (List ℕ) → List ℕ
bytes_in None = []
bytes_in (Some bytes) = bytes

abbrev pub ahead_on : ℕ → List (Option (List ℕ)) → List ℕ
ahead_on c places = bytes_in (slice_index_or places c None)

-- own: each byte that the system gave was handed on or is ahead, in the order in which they were given
abbrev pub IsAccounted : List Call → List (Option (List ℕ)) → Type 0
IsAccounted calls places = (c : ℕ) → c ≤ connection_limit → given c calls ≡ handed c calls ++ ahead_on c places

-- own: what was given on each connection that was closed, and what was handed on of it, and then dropped
abbrev pub given_at_closes : List Call → List (List ℕ)
given_at_closes [] = []
given_at_closes (Closing c dropped ∷ earlier) = given c earlier ∷ given_at_closes earlier
given_at_closes (call ∷ earlier) = given_at_closes earlier

abbrev pub handed_at_closes : List Call → List (List ℕ)
handed_at_closes [] = []
handed_at_closes (Closing c dropped ∷ earlier) = (handed c earlier ++ dropped) ∷ handed_at_closes earlier
handed_at_closes (call ∷ earlier) = handed_at_closes earlier

-- own: at each close they are the same
abbrev pub AreDropped : List Call → Type 0
AreDropped calls = given_at_closes calls ≡ handed_at_closes calls
