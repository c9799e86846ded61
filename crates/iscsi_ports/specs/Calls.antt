-- The calls of the system on sockets, how they are noted, and what they tell.
use Rattle.std.specs.Prelude.{ℕ, ◌+◌, ◌*◌, ℤ, zero, suc, pos, List, [], ◌∷◌, ◌++◌, map, take, Bool, true, false, ◌==◌, nat_lt, ◌||◌, Option, Some, None, Result, Ok, Err, slice_index, slice_index_or, if◌then◌else◌}
use Rattle.std.specs.Ordering.{int_eq}
use Rattle.std.specs.declared.io.ErrorKind.{ErrorKind}
use Rattle.std.specs.declared.io.ErrorKind.TheVariants as kinds
use Rattle.std.specs.declared.net.ip_addr.IpAddr.{IpAddr}
use Rattle.std.specs.declared.net.ip_addr.IpAddr.TheVariants as ip
use Rattle.std.specs.Net.Addr.{ipv4_octets, ipv6_octets}
use Rattle.call_record.specs.Noted.{Noted}
use Rattle.target_limits.specs.Numbers.{connection_limit}
use Rattle.iscsi_ports.specs.Log as log
use Rattle.iscsi_ports.specs.Log.{Entry, Carried, Bytes, End, Fault, Polled, Open, NobodyCame, AcceptFailed, Read, Wrote, Close}
use Rattle.iscsi_ports.specs.declared.call_notes.CallKind.{CallKind}
use Rattle.iscsi_ports.specs.declared.call_notes.CallKind.TheVariants as kind
use Rattle.iscsi_ports.specs.declared.results.Named.{Named}
use Rattle.iscsi_ports.specs.declared.socket_failure.SocketFailure.{SocketFailure}
use Rattle.iscsi_ports.specs.declared.socket_failure.SocketFailure.TheVariants.{WouldWait, Interrupted, Passing, Refused, Broken}

-- errno(3), by the numbers of Linux: EBADF (9), EINVAL (22) and ENOTSOCK (88) say that what was called is no socket that
-- can do it; an error that is not the system's says nothing of the socket
abbrev pub is_broken : Option ℤ → Bool
is_broken None = false
is_broken (Some code) = int_eq code (pos 9) || int_eq code (pos 22) || int_eq code (pos 88)

-- what an error of the system means, by its kind and its number
abbrev pub failure_of : ErrorKind → Option ℤ → SocketFailure
failure_of kinds.WouldBlock code = WouldWait
failure_of kinds.Interrupted code = Interrupted
failure_of kinds.ConnectionAborted code = Passing
failure_of kinds.ConnectionReset code = Passing
failure_of kinds.HostUnreachable code = Passing
failure_of kinds.NetworkUnreachable code = Passing
failure_of kinds.NetworkDown code = Passing
failure_of _ code = if is_broken code then Broken else Refused

-- ---- a call, and what the system answered

pub data Call : Type 0 where
  -- a listener was made at the address that this text spells
  Listening : (text : List ℕ) → Call
  -- a poll, for how many nanoseconds it waits, or without limit, and who may be ready after it
  Polling : (wait : Option ℕ) (answer : Result Named SocketFailure) → Call
  -- none was made of the system: this is who is known to be ready
  Naming : (named : Named) → Call
  -- an accept under this number, the token by which the system watches the connection, if it does, and whether it is kept
  Accepting : (c : ℕ) (token : Option ℕ) (answer : Result Bool SocketFailure) → Call
  -- a read, for one who has this room, and the bytes that came: those that have no room are ahead
  Reading : (c room : ℕ) (answer : Result (List ℕ) SocketFailure) → Call
  -- none was made: these bytes were ahead, and are handed on to one who has this room
  Handing : (c room : ℕ) (piece : List ℕ) → Call
  -- a write of this number of bytes, and those that were taken
  Writing : (c offered : ℕ) (answer : Result (List ℕ) SocketFailure) → Call
  -- none was made: a write of this number of bytes is put off
  PuttingOff : (c offered : ℕ) → Call
  -- a close, and the bytes that were ahead, which are dropped
  Closing : (c : ℕ) (dropped : List ℕ) → Call
  -- the address that is listened on was asked for, and this is what the system told
  Located : (octets : List ℕ) (port : ℕ) → Call

-- who may be ready, where the poll succeeded
abbrev pub named_by : Result (Unit {0}) SocketFailure → Named → Result Named SocketFailure
named_by (Ok end) named = Ok named
named_by (Err failure) named = Err failure

-- own: what is kept is watched by its number, but for one that has none and is closed at once
abbrev pub token_after : ℕ → Result Bool SocketFailure → Option ℕ
token_after c (Ok true) = if nat_lt c connection_limit then Some c else None
token_after c answer = None

-- the bytes that a count counts
abbrev pub moved : Result ℕ SocketFailure → List ℕ → Result (List ℕ) SocketFailure
moved (Ok count) buffer = Ok (take count buffer)
moved (Err failure) buffer = Err failure

abbrev pub ip_octets : IpAddr → List ℕ
ip_octets (ip.V4 a) = ipv4_octets a
ip_octets (ip.V6 a) = ipv6_octets a

-- ---- what it tells

-- the bytes that have room
abbrev pub in_room : ℕ → Result (List ℕ) SocketFailure → Result (List ℕ) SocketFailure
in_room room (Ok piece) = Ok (take room piece)
in_room room (Err failure) = Err failure

-- a read of no bytes is the end; one that would wait, or that a signal ended, gave none
abbrev pub read_carried : Result (List ℕ) SocketFailure → Carried
read_carried (Ok []) = End
read_carried (Ok (byte ∷ piece)) = Bytes (byte ∷ piece)
read_carried (Err WouldWait) = Bytes []
read_carried (Err Interrupted) = Bytes []
read_carried (Err _) = Fault

abbrev pub write_carried : Result (List ℕ) SocketFailure → Carried
write_carried (Ok piece) = Bytes piece
write_carried (Err WouldWait) = Bytes []
write_carried (Err Interrupted) = Bytes []
write_carried (Err _) = Fault

abbrev pub polled : Result Named SocketFailure → Option Named
polled (Ok named) = Some named
polled (Err failure) = None

-- nobody came where none waits, or one who was gone before, or whom the system cannot take now or does not watch
abbrev pub accepted : ℕ → Result Bool SocketFailure → Entry
accepted c (Ok true) = Open c
accepted c (Ok false) = NobodyCame
accepted c (Err Broken) = AcceptFailed
accepted c (Err _) = NobodyCame

abbrev pub told_by : Call → List Entry
told_by (Listening text) = log.Listened text ∷ []
told_by (Polling wait answer) = Polled (polled answer) ∷ []
told_by (Naming named) = Polled (Some named) ∷ []
told_by (Accepting c token answer) = accepted c answer ∷ []
told_by (Reading c room answer) = Read c room (read_carried (in_room room answer)) ∷ []
told_by (Handing c room piece) = Read c room (Bytes piece) ∷ []
told_by (Writing c offered answer) = Wrote c offered (write_carried answer) ∷ []
told_by (PuttingOff c offered) = Wrote c offered (Bytes []) ∷ []
told_by (Closing c dropped) = Close c ∷ []
told_by (Located octets port) = log.Located octets port ∷ []

-- the newest call stands first, and what it told last
abbrev pub log_by : List Call → List Entry
log_by [] = []
log_by (call ∷ earlier) = log_by earlier ++ told_by call

-- ---- how it is noted: which call, its numbers, and 0 or the number of the failure

abbrev pub failure_number : SocketFailure → ℕ
failure_number WouldWait = 1
failure_number Interrupted = 2
failure_number Passing = 3
failure_number Refused = 4
failure_number Broken = 5

-- what was answered, by that number
abbrev pub answered : {X : Type 0} → ℕ → X → Result X SocketFailure
answered zero x = Ok x
answered (suc zero) x = Err WouldWait
answered (suc (suc zero)) x = Err Interrupted
answered (suc (suc (suc zero))) x = Err Passing
answered (suc (suc (suc (suc zero)))) x = Err Refused
answered _ x = Err Broken

-- the listener's flag stands among the numbers
abbrev pub named_in : List ℕ → List Bool → Named
named_in numbers flags = record { listener = slice_index numbers 2 == 1; connections = flags }

-- a time in nanoseconds, by whether there is one, its seconds and what is more
abbrev pub time_of : ℕ → ℕ → ℕ → Option ℕ
time_of is_limited seconds nanoseconds = if is_limited == 1 then Some (seconds * 1000000000 + nanoseconds) else None

abbrev pub wait_in : List ℕ → Option ℕ
wait_in numbers = time_of (slice_index numbers 3) (slice_index numbers 4) (slice_index numbers 5)

-- a token, by whether there is one
abbrev pub token_of : Bool → ℕ → Option ℕ
token_of is_watched token = if is_watched then Some token else None

abbrev pub token_in : List ℕ → List Bool → Option ℕ
token_in numbers flags = token_of (slice_index_or flags 1 false) (slice_index numbers 3)

-- of each kind
abbrev pub kind_number : CallKind → ℕ
kind_number kind.Listening = 0
kind_number kind.Polling = 1
kind_number kind.Naming = 2
kind_number kind.Accepting = 3
kind_number kind.Reading = 4
kind_number kind.Handing = 5
kind_number kind.Writing = 6
kind_number kind.PuttingOff = 7
kind_number kind.Closing = 8
kind_number kind.Located = 9

-- by its kind, and the number of a connection where it is of one
abbrev pub call_by : ℕ → ℕ → List ℕ → List ℕ → List Bool → Call
call_by number c numbers bytes flags =
    let failure = slice_index numbers 1 in
    let count = slice_index numbers 3 in
    if number == kind_number kind.Listening then Listening bytes
    else if number == kind_number kind.Polling then Polling (wait_in numbers) (answered failure (named_in numbers flags))
    else if number == kind_number kind.Naming then Naming (named_in numbers flags)
    else if number == kind_number kind.Accepting then Accepting c (token_in numbers flags) (answered failure (slice_index_or flags 0 false))
    else if number == kind_number kind.Reading then Reading c count (answered failure bytes)
    else if number == kind_number kind.Handing then Handing c count bytes
    else if number == kind_number kind.Writing then Writing c count (answered failure bytes)
    else if number == kind_number kind.PuttingOff then PuttingOff c count
    else if number == kind_number kind.Closing then Closing c bytes
    else Located bytes c

abbrev pub calls_of : List Noted → List Call
calls_of noted = map (λ n. call_by (slice_index n.numbers 0) (slice_index n.numbers 2) n.numbers n.bytes n.flags) noted
