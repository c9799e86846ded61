-- A turn of the loop, for every target, sound or not: a poll, an accept, and then the reads, writes and closes.
use Rattle.std.specs.Prelude.{◌≡◌, ◌⊎◌, ◌<◌, ◌≤◌, ℕ, zero, suc, ◌∷◌, [], ◌++◌, List, length, min, find, Bool, true, false, ◌&&◌, ◌||◌, not, ◌==◌, nat_lt, None, Some, unwrap_or, slice_index_or, Result, Ok, Err, if◌then◌else◌}
use Rattle.std.specs.List.{list_any}
use Rattle.iscsi_target.specs.History.{connection_limit, connections}
use Rattle.iscsi_target.specs.Machine.{Machine, LinkState, Feeds, link_at, with_link, is_open_at, is_free, is_closing, want_of, opened_link, sent_link, closed, free_link}
use Rattle.target_limits.specs.Numbers.{is_number}
use Rattle.iscsi_outbox.specs.Offered.{AreWhole}
use Rattle.iscsi_ports.specs.Log.{Entry, Carried, Bytes, End, Fault, Polled, Open, NobodyCame, AcceptFailed, Read, Wrote, Close}
use Rattle.iscsi_serve.specs.Served.{IsFed}
use Rattle.iscsi_ports.specs.declared.results.Named.{Named}
use Rattle.iscsi_serve.specs.declared.fault.ServeFault.{ServeFault}
use Rattle.iscsi_serve.specs.declared.fault.ServeFault.TheVariants as faults

-- the state of the loop: the target, and the log before this turn and in it
pub record Moment : Type 0 where
  pub target : Machine
  pub before : List Entry
  pub turn : List Entry

abbrev pub moment : Machine → List Entry → List Entry → Moment
moment target before turn = record { target = target; before = before; turn = turn }

abbrev pub log_of : Moment → List Entry
log_of m = m.before ++ m.turn

abbrev pub beginning : Machine → List Entry → Moment
beginning target log = moment target log []

-- the log has one more entry, and the target becomes this one
abbrev pub changed : Entry → Machine → Moment → Moment
changed entry target m = moment target m.before (m.turn ++ entry ∷ [])

-- the log has one more entry, and the target stays the same
abbrev pub told : Entry → Moment → Moment
told entry m = changed entry m.target m

abbrev pub is_open : LinkState → Bool
is_open link = not (is_free link.phase)

abbrev pub IfElse : Bool → Type 0 → Type 0 → Type 0
IfElse true A B = A
IfElse false A B = B

-- ---- a connection comes

-- the lowest free number, or 64
unfoldable pub free_number : Machine → ℕ
free_number target = unwrap_or (find (λ c. not (is_open_at target c)) connections) connection_limit

-- a connection that comes; if no number is free it is closed at once
abbrev pub opened : ℕ → Moment → Moment
opened c m = if is_number c then changed (Open c) (with_link m.target c (opened_link c)) m else told (Close c) (told (Open c) m)

-- an accept gave a connection or none
abbrev pub HasAccepted : Moment → Moment → Type 0
HasAccepted m n = (n ≡ opened (free_number m.target) m) ⊎ (n ≡ told NobodyCame m)

-- ---- reads

-- profile: a poll named it, it is open and wants bytes
abbrev pub is_read : Named → ℕ → LinkState → Bool
is_read named c link = slice_index_or named.connections c false && is_open link && nat_lt 0 (want_of link)

-- profile: a read has room for as many bytes as are wanted, up to 65536
abbrev pub room_for : LinkState → ℕ
room_for link = min (want_of link) 65536

-- the bytes of a read are fed: the target stands after this piece
abbrev pub HasFed : ℕ → Entry → Carried → Moment → Moment → Type 0
HasFed c entry (Bytes (byte ∷ piece)) m n =
    (after : Machine) × Feeds c m.target after × IsFed c (byte ∷ piece) m.target after × (n ≡ changed entry after m)
HasFed c entry _ m n = n ≡ told entry m

abbrev pub piece_in : Carried → List ℕ
piece_in (Bytes piece) = piece
piece_in _ = []

abbrev pub HasRead : ℕ → ℕ → Moment → Moment → Type 0
HasRead c room m n = (carried : Carried) × (length (piece_in carried) ≤ room) × HasFed c (Read c room carried) carried m n

-- one read if it is due, otherwise none
abbrev pub Reads : Named → ℕ → Moment → Moment → Type 0
Reads named c m n = IfElse (is_read named c (link_at m.target c)) (HasRead c (room_for (link_at m.target c)) m n) (n ≡ m)

-- ---- writes

-- profile: it is open, and bytes wait on it
abbrev pub is_written : LinkState → Bool
is_written link = is_open link && nat_lt 0 (length link.waiting)

-- what was written waits no longer
abbrev pub after_write : ℕ → Carried → Machine → Machine
after_write c (Bytes piece) target = with_link target c (sent_link (link_at target c) (length piece))
after_write c _ target = target

-- a nonempty front of what waits was offered, up to the end of a PDU, and a front of that was written
abbrev pub HasWritten : ℕ → List ℕ → Moment → Moment → Type 0
HasWritten c waiting m n =
    (offered : List ℕ) × (unoffered : List ℕ) × (waiting ≡ offered ++ unoffered) × (0 < length offered) × AreWhole unoffered
    × ((carried : Carried) × (unwritten : List ℕ) × (offered ≡ piece_in carried ++ unwritten)
    × (n ≡ changed (Wrote c (length offered) carried) (after_write c carried m.target) m))

-- one write if it is due, otherwise none
abbrev pub Writes : ℕ → Moment → Moment → Type 0
Writes c m n = IfElse (is_written (link_at m.target c)) (HasWritten c (link_at m.target c).waiting m n) (n ≡ m)

-- ---- closes

abbrev pub is_end : Carried → Bool
is_end (Bytes piece) = false
is_end End = true
is_end Fault = true

-- a read or a write of it reported an end or a fault
abbrev pub ends : ℕ → Entry → Bool
ends c (Read d room carried) = d == c && is_end carried
ends c (Wrote d offered carried) = d == c && is_end carried
ends c _ = false

-- profile: it ended in this turn, or the target has closed it and nothing waits on it
abbrev pub is_closed : ℕ → List Entry → LinkState → Bool
is_closed c turn link = is_open link && (list_any (ends c) turn || is_closing link.phase && length link.waiting == 0)

-- one close if it is due, otherwise none
abbrev pub Closes : ℕ → Moment → Moment → Type 0
Closes c m n =
    IfElse (is_closed c m.turn (link_at m.target c)) (n ≡ changed (Close c) (with_link (closed m.target c) c free_link) m) (n ≡ m)

-- ---- a turn

-- R for each of these, in order
abbrev pub InOrder : (ℕ → Moment → Moment → Type 0) → List ℕ → Moment → Moment → Type 0
InOrder R [] m n = n ≡ m
InOrder R (c ∷ cs) m n = (after : Moment) × R c m after × InOrder R cs after n

-- one accept if the listener was named
abbrev pub Accepts : Named → Moment → Moment → Type 0
Accepts named m n = IfElse named.listener (HasAccepted m n) (n ≡ m)

-- profile: the reads, the writes and the closes that are due, each in rising number
pub record Carries (named : Named) (m n : Moment) : Type 0 where
  pub read : Moment
  pub written : Moment
  pub reads : InOrder (Reads named) connections m read
  pub writes : InOrder Writes connections read written
  pub closes : InOrder Closes connections written n

-- A turn: one poll, one accept if the listener was named, and then what is due.
pub record IsTurn (m n : Moment) : Type 0 where
  pub named : Named
  pub accepted : Moment
  pub accepts : Accepts named (told (Polled (Some named)) m) accepted
  pub carries : Carries named accepted n

-- the end of a turn: a fault only if the call failed
abbrev pub EndsTurn : Moment → Result (Unit {0}) ServeFault → Moment → Type 0
EndsTurn m (Ok end) n = IsTurn m n
EndsTurn m (Err faults.Poll) n = n ≡ told (Polled None) m
EndsTurn m (Err faults.Accept) n = (named : Named) × (named.listener ≡ true) × (n ≡ told AcceptFailed (told (Polled (Some named)) m))

-- the next turn begins as the last one ended
abbrev pub next : Moment → Moment
next m = beginning m.target (log_of m)

-- this many turns
abbrev pub Turns : ℕ → Moment → Moment → Type 0
Turns zero m n = n ≡ m
Turns (suc k) m n = (after : Moment) × Turns k m after × IsTurn (next after) n

-- the end of `count` turns: the first fault ends them
abbrev pub EndsTurns : ℕ → Moment → Result (Unit {0}) ServeFault → Moment → Type 0
EndsTurns count m (Ok end) n = Turns count m n
EndsTurns count m (Err fault) n = (k : ℕ) × (k < count) × ((after : Moment) × Turns k m after × EndsTurn (next after) (Err fault) n)
