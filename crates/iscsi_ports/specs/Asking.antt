-- When ports over sockets ask the system, when they put off a write, and what they remember of it.
use Rattle.std.specs.Prelude.{◌≡◌, ◌≤◌, ℕ, ◌+◌, ◌*◌, min, nat_lt, nat_le, List, Bool, true, false, ◌&&◌, ◌||◌, not, Option, option_map, Result, Ok, Err}
use Rattle.std.specs.Duration.{as_nanos}
use Rattle.iscsi_ports.specs.Calls.{Call}
use Rattle.iscsi_ports.specs.Polls.{wait_for, unasked_in}
use Rattle.iscsi_ports.specs.Flags.{flag_of, flags_with, none_of}
use Rattle.iscsi_ports.specs.Turns.{after_offer, after_carrying}
use Rattle.iscsi_ports.specs.Readiness.{goes_on, accept_goes_on, after_accept, after_write}
use Rattle.iscsi_ports.specs.declared.readiness.Readiness.{Readiness}
use Rattle.iscsi_ports.specs.declared.socket_ports.SocketPorts.{SocketPorts}
use Rattle.iscsi_ports.specs.declared.stopwatch.Stopwatch.{Stopwatch}
use Rattle.iscsi_ports.specs.declared.socket_failure.SocketFailure.{SocketFailure}
use Rattle.iscsi_ports.specs.declared.socket_failure.SocketFailure.TheVariants.{WouldWait, Refused}

-- own: a poll is due to ask the system once as many polls were answered as may be, or 262144 bytes carried, without asking it
abbrev pub is_due : ℕ → ℕ → ℕ → Bool
is_due unasked most_unasked carried = nat_le most_unasked unasked || nat_le 262144 carried

-- own: bytes that are ahead were just read, or something was done right after a poll that asked
abbrev pub is_to_go_on : Bool → Bool → ℕ → Bool
is_to_go_on holding busy unasked = holding || (busy && nat_lt unasked 1)

-- own: after a read or a write of this number of bytes; no more than 262144 are counted
abbrev pub carried_after : Result ℕ SocketFailure → ℕ → ℕ
carried_after (Ok count) carried = min (carried + count) 262144
carried_after (Err failure) carried = carried

-- own: once the system was asked, twice as many polls and one may be answered without asking it, up to 63
abbrev pub longer : ℕ → ℕ
longer most_unasked = min (2 * most_unasked + 1) 63

-- own: a write of fewer than 262144 bytes is put off on a connection of which bytes were read since the last poll, as long
-- as what is ahead of it may hold a whole header, of 48 bytes (RFC 7143 §11.2.1)
abbrev pub is_put_off : Bool → ℕ → ℕ → Bool
is_put_off has_read ahead offered = has_read && nat_le 48 ahead && nat_lt offered 262144

-- own: after a write that would have waited the next poll asks
abbrev pub most_after : {T : Type 0} → Result T SocketFailure → ℕ → ℕ
most_after (Err WouldWait) most_unasked = 0
most_after answer most_unasked = most_unasked

-- own: a read gave bytes
abbrev pub gave : Result ℕ SocketFailure → Bool
gave (Ok count) = nat_lt 0 count
gave (Err failure) = false

-- own: whether an accept is to be tried again, though no event will tell of those who wait
abbrev pub is_refused : {T : Type 0} → Result T SocketFailure → Bool
is_refused (Err Refused) = true
is_refused answer = false

-- ---- the ports after a call, but for the sockets: how it changes these, and what they answer, the clauses say

module _ {K : Type 0} where
  -- own: a poll asks the system where it is due, where it cannot go on, or where a millisecond has passed since it was asked
  abbrev pub asks_now : Bool → SocketPorts K → Bool
  asks_now has_passed ports =
      is_due ports.unasked ports.most_unasked ports.carried || not (is_to_go_on ports.holding ports.busy ports.unasked) || has_passed

  abbrev pub wait_now : SocketPorts K → Option ℕ
  wait_now ports = wait_for (ports.busy || ports.readiness.turns.left_out) ports.refused (option_map as_nanos ports.wait)

  -- who was ready before a poll, and whether nothing was carried since one was left out
  abbrev pub rested : SocketPorts K → Readiness
  rested ports = record ports.readiness { turns = after_carrying ports.busy ports.readiness.turns }

  -- own: by these calls it counts the polls that were answered without asking, of which 63 may stand in a row
  pub record AsksInTime (calls : List Call) (ports : SocketPorts K) : Type 0 where
    pub counts : unasked_in calls ≡ ports.unasked
    pub few : ports.unasked ≤ 63
    pub limit : ports.most_unasked ≤ 63

  -- own: the connection takes none now, or its answers are put off
  abbrev pub has_to_wait : ℕ → ℕ → ℕ → SocketPorts K → Bool
  has_to_wait c ahead offered ports = flag_of c ports.readiness.full || is_put_off (flag_of c ports.has_read) ahead offered

  abbrev pub after_asking : K → Readiness → Stopwatch → SocketPorts K → SocketPorts K
  after_asking sockets readiness stopwatch ports = record ports {
    sockets = sockets;
    readiness = readiness;
    busy = false;
    holding = false;
    has_read = none_of;
    unasked = 0;
    most_unasked = longer ports.most_unasked;
    carried = 0;
    stopwatch = stopwatch;
    refused = false;
  }

  abbrev pub after_naming : K → Readiness → Stopwatch → SocketPorts K → SocketPorts K
  after_naming sockets readiness stopwatch ports = record ports {
    sockets = sockets;
    readiness = readiness;
    busy = false;
    holding = false;
    has_read = none_of;
    unasked = ports.unasked + 1;
    stopwatch = stopwatch;
  }

  abbrev pub after_accepting : ℕ → Result Bool SocketFailure → K → SocketPorts K → SocketPorts K
  after_accepting c answer sockets ports = record ports {
    sockets = sockets;
    readiness = after_accept c answer ports.readiness;
    busy = ports.busy || accept_goes_on answer;
    refused = is_refused answer;
  }

  abbrev pub after_reading : ℕ → Result ℕ SocketFailure → ℕ → K → Readiness → SocketPorts K → SocketPorts K
  after_reading c answer ahead sockets readiness ports = record ports {
    sockets = sockets;
    readiness = readiness;
    busy = ports.busy || goes_on answer;
    carried = carried_after answer ports.carried;
    holding = ports.holding || (gave answer && nat_lt 0 ahead);
    has_read = flags_with (gave answer) c true ports.has_read;
  }

  -- own: of a write it is remembered how much was offered, also where `write` puts it off
  abbrev pub after_offering : ℕ → ℕ → SocketPorts K → Readiness
  after_offering c offered ports =
      record ports.readiness { turns = after_offer c offered (flag_of c ports.has_read) ports.readiness.turns }

  abbrev pub after_writing : ℕ → ℕ → Result ℕ SocketFailure → K → SocketPorts K → SocketPorts K
  after_writing c offered answer sockets ports = record ports {
    sockets = sockets;
    readiness = after_write c answer (after_offering c offered ports);
    busy = ports.busy || goes_on answer;
    carried = carried_after answer ports.carried;
    most_unasked = most_after answer ports.most_unasked;
  }
