-- Results of earlier looks at connections are kept as the set of those that have to be looked at again.
use Rattle.std.specs.Prelude.{◌≡◌, ◌<◌, ℕ, List, Bool, true, false, ◌&&◌, not, nat_lt, length, slice_index_or}
use Rattle.iscsi_world.specs.Machine.{LinkState, free_link, is_free, most_waiting}
use Rattle.iscsi_connection.specs.NumberSet.{is_in}

-- own: true of each connection that is not in the set
abbrev pub IsTrueOfOthers : (LinkState → Bool) → ℕ → List LinkState → Type 0
IsTrueOfOthers is_so set links = (c : ℕ) → c < 64 → is_in set c ≡ false → is_so (slice_index_or links c free_link) ≡ true

-- own: it is open, and bytes wait to be sent
abbrev pub has_to_send : LinkState → Bool
has_to_send link = not (is_free link.phase) && nat_lt 0 (length link.waiting)

-- own: more bytes wait than may on a connection that is read
abbrev pub is_full : LinkState → Bool
is_full link = nat_lt most_waiting (length link.waiting)

-- own: of each connection that is not in the set of those not looked at, the other set says whether it is so
abbrev pub IsKnownOfOthers : (LinkState → Bool) → ℕ → ℕ → List LinkState → Type 0
IsKnownOfOthers is_so unknown known links = (c : ℕ) → c < 64 → is_in unknown c ≡ false → is_in known c ≡ is_so (slice_index_or links c free_link)
