-- Which ports may be ready, as far as it is known: after an event of the system, and after each call.
use Rattle.std.specs.Prelude.{◌≡◌, ◌≤◌, ◌+◌, ℕ, ◌==◌, nat_lt, Bool, true, false, ◌&&◌, ◌||◌, not, slice_set, Result, Ok, Err, if◌then◌else◌}
use Rattle.mio.specs.declared.event.event.Event.{Event}
use Rattle.mio.specs.Event.{event_token, is_readable, is_writable, is_error, is_read_closed, is_priority}
use Rattle.target_limits.specs.Numbers.{connection_limit}
use Rattle.iscsi_ports.specs.Flags.{flag_of, flags_with, none_of}
use Rattle.iscsi_ports.specs.Turns.{no_turns}
use Rattle.iscsi_ports.specs.declared.readiness.Readiness.{Readiness}
use Rattle.iscsi_ports.specs.declared.readiness.ReadyEvent.{ReadyEvent}
use Rattle.iscsi_ports.specs.declared.socket_failure.SocketFailure.{SocketFailure}
use Rattle.iscsi_ports.specs.declared.socket_failure.SocketFailure.TheVariants.{WouldWait, Interrupted, Passing}

abbrev pub nothing_ready : Readiness
nothing_ready = record {
  named = record { listener = false; connections = none_of };
  ready = record { listener = false; connections = none_of };
  readable = none_of;
  ended = none_of;
  urgent = none_of;
  full = none_of;
  turns = no_turns;
}

-- ---- events

-- own: the system may give bytes, or the end, or the failure; a write may be taken, or tell the failure
abbrev pub may_give : ReadyEvent → Bool
may_give event = event.is_readable || event.has_ended

abbrev pub may_take : ReadyEvent → Bool
may_take event = event.is_writable || event.has_ended

-- epoll(7): EPOLLRDHUP and EPOLLERR tell of a peer that has ended, and of a failure, and EPOLLPRI of urgent data
abbrev pub ready_event : Event → ReadyEvent
ready_event event = record {
  is_readable = is_readable event;
  is_writable = is_writable event;
  has_ended = is_read_closed event || is_error event;
  is_urgent = is_priority event;
}

abbrev pub with_event : ℕ → ReadyEvent → Readiness → Readiness
with_event c event readiness = record readiness {
  ready = record readiness.ready { connections = flags_with (may_give event) c true readiness.ready.connections };
  readable = flags_with (may_give event) c true readiness.readable;
  ended = flags_with event.has_ended c true readiness.ended;
  urgent = flags_with event.is_urgent c true readiness.urgent;
  full = flags_with (may_take event) c false readiness.full;
}

abbrev pub listener_ready : Bool → Readiness → Readiness
listener_ready flag readiness = record readiness { ready = record readiness.ready { listener = flag } }

-- own: a connection's token is its number, that of the listener the next one
abbrev pub after_event : Readiness → Event → Readiness
after_event readiness event =
    let token = (event_token event).0 in
    if token == connection_limit then listener_ready true readiness
    else if nat_lt token connection_limit then with_event token (ready_event event) readiness
    else readiness

-- ---- calls

-- epoll(7), EPOLLET: a read that took all leaves nothing, but an end is told by no further event
abbrev pub still_readable : Bool → Bool → Bool → Bool
still_readable is_readable took_all has_ended = is_readable && (not took_all || has_ended)

-- own: a read or a write would have waited
abbrev pub would_wait : {T : Type 0} → Result T SocketFailure → Bool
would_wait (Err WouldWait) = true
would_wait answer = false

-- own: a read into this room took all that the system had. It ends at the mark of urgent data, which more may follow
-- (tcp(7)).
abbrev pub took_all : Result ℕ SocketFailure → ℕ → Bool → Bool
took_all (Ok count) room is_urgent = nat_lt count room && not is_urgent
took_all (Err WouldWait) room is_urgent = true
took_all (Err failure) room is_urgent = false

-- own: one that would wait comes after all urgent data
abbrev pub after_taking : ℕ → Result ℕ SocketFailure → ℕ → Readiness → Readiness
after_taking c answer room readiness = record readiness {
  readable = slice_set readiness.readable c
      (still_readable (flag_of c readiness.readable) (took_all answer room (flag_of c readiness.urgent)) (flag_of c readiness.ended));
  urgent = flags_with (would_wait answer) c false readiness.urgent;
}

-- own: ready as long as the system or what is ahead may give bytes
abbrev pub ready_again : ℕ → Bool → Readiness → Readiness
ready_again c is_ahead readiness = record readiness {
  ready = record readiness.ready {
    connections = slice_set readiness.ready.connections c (flag_of c readiness.readable || is_ahead);
  };
}

-- own: a write of it would have waited
abbrev pub filled : ℕ → Readiness → Readiness
filled c readiness = record readiness { full = slice_set readiness.full c true }

-- own: of a connection that has come or was closed nothing is known; 64 is the number of none that is watched
abbrev pub forgotten : ℕ → Readiness → Readiness
forgotten c readiness =
    if nat_lt c connection_limit then record readiness {
      ready = record readiness.ready { connections = slice_set readiness.ready.connections c false };
      readable = slice_set readiness.readable c false;
      ended = slice_set readiness.ended c false;
      urgent = slice_set readiness.urgent c false;
      full = slice_set readiness.full c false;
      turns = record readiness.turns { long = slice_set readiness.turns.long c false };
    } else readiness

-- own: a write that would have waited
abbrev pub after_write : {T : Type 0} → ℕ → Result T SocketFailure → Readiness → Readiness
after_write c (Err WouldWait) readiness = filled c readiness
after_write c answer readiness = readiness

-- own: an accept that would have waited leaves nobody at the listener
abbrev pub after_accept : ℕ → Result Bool SocketFailure → Readiness → Readiness
after_accept c (Ok true) readiness = forgotten c readiness
after_accept c (Err WouldWait) readiness = listener_ready false readiness
after_accept c answer readiness = readiness

-- own: somebody came, or the accept is to be tried again at once
abbrev pub accept_goes_on : Result Bool SocketFailure → Bool
accept_goes_on (Ok is_watched) = true
accept_goes_on (Err Interrupted) = true
accept_goes_on (Err Passing) = true
accept_goes_on (Err failure) = false

-- own: something was read or written, or is to be tried again at once
abbrev pub goes_on : {T : Type 0} → Result T SocketFailure → Bool
goes_on (Ok count) = true
goes_on (Err Interrupted) = true
goes_on (Err failure) = false

-- own: what a read of the system gave: what was handed on of it, and what is ahead of the connection then
abbrev pub given_in_all : Result ℕ SocketFailure → ℕ → Result ℕ SocketFailure
given_in_all (Ok count) ahead = Ok (count + ahead)
given_in_all (Err failure) ahead = Err failure

-- own: the system is asked where there is room and nothing is ahead
abbrev pub asks_for : ℕ → ℕ → Bool
asks_for room ahead = nat_lt 0 room && not (nat_lt 0 ahead)

-- own: after a read with this room, by what was ahead before it and what is ahead after it, by a buffer of this capacity
abbrev pub read_by : ℕ → ℕ → ℕ → ℕ → ℕ → Result ℕ SocketFailure → Readiness → Readiness
read_by capacity c room was_ahead ahead answer readiness =
    if asks_for room was_ahead then after_taking c (given_in_all answer ahead) capacity readiness else readiness

-- own: by a buffer that is no smaller than the room
abbrev pub IsReadBy : ℕ → ℕ → ℕ → ℕ → Result ℕ SocketFailure → Readiness → Readiness → Type 0
IsReadBy c room was_ahead ahead answer before after =
    (capacity : ℕ) × (room ≤ capacity) × (after ≡ ready_again c (nat_lt 0 ahead) (read_by capacity c room was_ahead ahead answer before))
