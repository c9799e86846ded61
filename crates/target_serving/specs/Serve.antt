-- What serving prints, and what its loop did.
use Rattle.std.specs.Prelude.{◌≡◌, ◌⊎◌, ℕ, List, ◌++◌, codes, Bool, true, Option, Result, Ok, Err, IsErrAnd}
use Rattle.std.specs.Io.KnownBytes.{Appends, Keeps}
use Rattle.std.specs.Net.Text.{socket_text}
use Rattle.std.specs.declared.net.socket_addr.SocketAddr.{SocketAddr}
use Rattle.iscsi_target.specs.Bounded.{Bounded}
use Rattle.iscsi_target.specs.Machine.{Machine, IsSound, IsSure}
use Rattle.iscsi_ports.specs.Log.{Entry}
use Rattle.iscsi_serve.specs.Served.{StaysServed, ComesOutServed}
use Rattle.iscsi_serve.specs.Turn.{Moment, log_of, beginning, EndsTurns}
use Rattle.iscsi_serve.specs.declared.fault.ServeFault.{ServeFault}
use Rattle.target_serving.specs.declared.fault.Fault.{Fault}
use Rattle.target_serving.specs.declared.fault.Fault.TheVariants as faults

-- profile: the line that says where the target listens
abbrev pub listening_line : SocketAddr → List ℕ
listening_line address = codes "listening on " ++ socket_text address ++ codes "\n"

-- profile: a fault of the loop ends the program as a fault of the sockets
abbrev pub ended_by : Result (Unit {0}) ServeFault → Result (Unit {0}) Fault
ended_by (Ok end) = Ok end
ended_by (Err fault) = Err faults.Socket

module _ (line : List ℕ) (count : ℕ) (tells : Bool) (log log_then : List Entry) (target target_then : Machine) (printed printed_then : Option (List ℕ)) where
  -- the line was not printed completely: an allocation or the output failed
  abbrev pub FailsToPrint : Fault → Type 0
  FailsToPrint fault = ((fault ≡ faults.OutOfMemory) × Keeps printed printed_then)
      ⊎ ((fault ≡ faults.Output) × ((front : List ℕ) × (unprinted : List ℕ) × (line ≡ front ++ unprinted) × Appends printed printed_then front))

  -- The line was printed, and the loop made `count` turns, or those up to its first fault. Of every target it is stated
  -- what it did turn by turn, and that it stays within its bound. What was written stays what the World answers,
  -- depending on how the commands came out; for a sound target, as they are defined.
  pub record HasServed (ended : Result (Unit {0}) ServeFault) : Type 0 where
    pub announced : Appends printed printed_then line
    pub turned : tells ≡ true → (m : Moment) × (log_then ≡ log_of m) × (target_then ≡ m.target) × EndsTurns count (beginning target log) ended m
    pub served : tells ≡ true → IsSound target_then → StaysServed log log_then target target_then
    pub came : tells ≡ true → ComesOutServed log log_then target target_then
    pub bounded : Bounded target → Bounded target_then
    pub sure : IsSure target → IsSure target_then

  -- nothing was served if the line was not printed; otherwise the program ends as the loop did
  abbrev pub Serves : Result (Unit {0}) Fault → Type 0
  Serves result = (IsErrAnd result FailsToPrint × (log_then ≡ log) × (target_then ≡ target))
      ⊎ ((ended : Result (Unit {0}) ServeFault) × (result ≡ ended_by ended) × HasServed ended)
