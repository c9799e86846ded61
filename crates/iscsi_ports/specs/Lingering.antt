-- Connections that are closed and whose peers may still send: what is read of them, and for how many turns they stay.
use Rattle.std.specs.Prelude.{◌≡◌, ◌≤◌, ◌<◌, ℕ, zero, suc, ◌-◌, ◌==◌, nat_lt, Bool, true, false, ◌&&◌, not, List, [], ◌∷◌, ◌++◌, map, find, is_none, Option, Some, None, option_map, unwrap_or, Result, Ok, Err, slice_index, slice_index_or, if◌then◌else◌}
use Rattle.call_record.specs.Noted.{Noted}
use Rattle.target_limits.specs.Numbers.{connection_limit, connections}
use Rattle.iscsi_ports.specs.Calls.{answered}
use Rattle.iscsi_ports.specs.Asking.{gave}
use Rattle.iscsi_ports.specs.declared.lingering.LingeringSocket.{LingeringSocket}
use Rattle.iscsi_ports.specs.declared.socket_failure.SocketFailure.{SocketFailure}
use Rattle.iscsi_ports.specs.declared.socket_failure.SocketFailure.TheVariants.{WouldWait, Interrupted}

abbrev pub place_of : ℕ → List (Option LingeringSocket) → Option LingeringSocket
place_of d places = slice_index_or places d None

-- own: a place that is free is taken, and the last one where none is
abbrev pub place_to_take : List (Option LingeringSocket) → ℕ
place_to_take places = unwrap_or (find (λ d. is_none (place_of d places)) connections) connection_limit

-- ---- a call, and what the system answered

-- a read of the one in a place: the number of bytes that came, which are thrown away
pub record DrainingRead : Type 0 where
  pub place : ℕ
  pub answer : Result ℕ SocketFailure

pub data LingeringCall : Type 0 where
  -- a connection was to be shut for writing, and then watched: whether both was done, so that it is kept in this place
  Shutting : (place : ℕ) (is_kept : Bool) → LingeringCall
  Draining : (read : DrainingRead) → LingeringCall

-- how it is noted: which call, 0 or the number of the failure, the place, and the number of bytes
abbrev pub lingering_call_by : List ℕ → List Bool → LingeringCall
lingering_call_by numbers flags =
    let place = slice_index numbers 2 in
    if slice_index numbers 0 == 0 then Shutting place (slice_index_or flags 0 false)
    else Draining (record { place = place; answer = answered (slice_index numbers 1) (slice_index numbers 3) })

abbrev pub lingering_calls_of : List Noted → List LingeringCall
lingering_calls_of noted = map (λ n. lingering_call_by n.numbers n.flags) noted

-- ---- for how long one stays

-- the number of bytes that are still read of it, and of turns for which it stays
pub record Left : Type 0 where
  pub bytes : ℕ
  pub turns : ℕ

abbrev pub left_of : LingeringSocket → Left
left_of socket = record { bytes = socket.bytes; turns = socket.turns }

abbrev pub left_in : Option LingeringSocket → Option Left
left_in place = option_map left_of place

-- own: of one that has just come
abbrev pub left_at_first : Left
left_at_first = record { bytes = 16777216; turns = 1048576 }

-- own: after a read of one of which this number of bytes is still read: none where its peer has ended (no byte), or
-- failed, or these were the last. It stays where nothing has come, or a signal came between.
abbrev pub bytes_after : Result ℕ SocketFailure → ℕ → Option ℕ
bytes_after (Ok count) bytes = if nat_lt 0 count && nat_lt count bytes then Some (bytes - count) else None
bytes_after (Err WouldWait) bytes = Some bytes
bytes_after (Err Interrupted) bytes = Some bytes
bytes_after (Err failure) bytes = None

abbrev pub left_after : Result ℕ SocketFailure → Left → Option Left
left_after answer left = option_map (λ bytes. record left { bytes = bytes }) (bytes_after answer left.bytes)

-- own: one that has no turns left is closed
abbrev pub turns_later : ℕ → Option LingeringSocket → Option LingeringSocket
turns_later count None = None
turns_later count (Some socket) =
    if nat_lt 0 (socket.turns - count) then Some (record socket { turns = socket.turns - count }) else None

-- own: for this number of turns it stays at most
abbrev pub turns_left : Option LingeringSocket → ℕ
turns_left None = 0
turns_left (Some socket) = socket.turns

-- own: a turn that waited and met no event counts as 32,768, so that one whose peer is silent stays for 32 such turns
abbrev pub turns_for : Option ℕ → Bool → ℕ
turns_for wait true = 1
turns_for None false = 32768
turns_for (Some time) false = if time == 0 then 1 else 32768

-- a poll that waits so long does not wait
abbrev pub is_at_once : Option ℕ → Bool
is_at_once None = false
is_at_once (Some time) = time == 0

-- ---- what the calls do to the places

-- own: what is kept of a connection that is shut for writing
abbrev pub Begins : (before after : List (Option LingeringSocket)) (calls_before calls_after : List LingeringCall) → Type 0
Begins before after calls_before calls_after =
    let place = place_to_take before in
    (is_kept : Bool) × (calls_after ≡ Shutting place is_kept ∷ calls_before)
    × (left_in (place_of place after) ≡ (if is_kept then Some left_at_first else None))

-- own: the one in a place is read once, and stays as the answer says
abbrev pub IsDrained : ℕ → (before after : Option LingeringSocket) (calls_before calls_after : List LingeringCall) (has_more : Bool) → Type 0
IsDrained place None after calls_before calls_after has_more =
    (after ≡ None) × (calls_after ≡ calls_before) × (has_more ≡ false)
IsDrained place (Some before) after calls_before calls_after has_more =
    (answer : Result ℕ SocketFailure)
    × (calls_after ≡ Draining (record { place = place; answer = answer }) ∷ calls_before)
    × (left_in after ≡ left_after answer (left_of before))
    × (has_more ≡ (gave answer && not (is_none after)))

-- those of the first places in which there is one, the last one first
abbrev pub taken_below : ℕ → List (Option LingeringSocket) → List ℕ
taken_below zero places = []
taken_below (suc d) places = if is_none (place_of d places) then taken_below d places else d ∷ taken_below d places

-- what the read of this place answered
abbrev pub answer_in : ℕ → List DrainingRead → Result ℕ SocketFailure
answer_in place [] = Ok 0
answer_in place (read ∷ earlier) = if read.place == place then read.answer else answer_in place earlier

-- own: so it is with each of the first places, one after another. Where one that stays gave bytes, there may be more.
pub record AreDrained (count : ℕ) (before after : List (Option LingeringSocket)) (calls_before calls_after : List LingeringCall)
    (has_more : Bool) : Type 0 where
  pub reads : List DrainingRead
  pub noted : calls_after ≡ map Draining reads ++ calls_before
  pub each : map (λ read. read.place) reads ≡ taken_below count before
  pub free : (d : ℕ) → d < count → place_of d before ≡ None → place_of d after ≡ None
  pub taken : (d : ℕ) (socket : LingeringSocket) → d < count → place_of d before ≡ Some socket
      → left_in (place_of d after) ≡ left_after (answer_in d reads) (left_of socket)
  pub more : (d : ℕ) → d < count → gave (answer_in d reads) ≡ true → is_none (place_of d after) ≡ false → has_more ≡ true
  pub ahead : (d : ℕ) → count ≤ d → place_of d after ≡ place_of d before

-- own: in a turn each is drained, and then stays for fewer turns, by how long the poll waited and whether it met an event
pub record Lingers (waited : Option ℕ) (met_event : Bool) (before after : List (Option LingeringSocket))
    (calls_before calls_after : List LingeringCall) : Type 0 where
  pub drained : List (Option LingeringSocket)
  pub reads : AreDrained 65 before drained calls_before calls_after (is_at_once waited)
  pub counted : (d : ℕ) → place_of d after ≡ turns_later (turns_for waited met_event) (place_of d drained)
