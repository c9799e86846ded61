-- How a run of the program ends.
use Rattle.std.specs.Prelude.{◌≡◌, ◌⊎◌, ℕ, Bool, true, List, [], ◌∷◌, IsErrAnd, Option, None, Some, Result, Ok, Err}
use Rattle.std.specs.Io.KnownBytes.{Keeps}
use Rattle.std.specs.Net.Socket.{socket_ip, socket_port}
use Rattle.std.specs.declared.net.socket_addr.SocketAddr.{SocketAddr}
use Rattle.call_record.specs.Noted.{Noted}
use Rattle.standard_streams.specs.Streams.{StreamsState, AreTaken, AreLacking}
use Rattle.command_line.specs.Words.{Command, Replay, Serve}
use Rattle.scsi_unit.specs.Units.{UnitStates}
use Rattle.iscsi_login.specs.Directory.{KnownTargets}
use Rattle.iscsi_target.specs.World.{Setting}
use Rattle.iscsi_target.specs.Machine.{Machine, WhereSound, IsSound, new_machine}
use Rattle.iscsi_target.specs.Bounded.{Bounded}
use Rattle.iscsi_ports.specs.Binding.{IsUnbound, not_located}
use Rattle.iscsi_ports.specs.Log.{Entry, Listened, Located}
use Rattle.iscsi_ports.specs.Calls.{ip_octets}
use Rattle.iscsi_serve.specs.Served.{MayHappen, MayComeOut, HasBeenServed}
use Rattle.target_config.specs.Configuration.{Document, names_of, keeps_in_memory}
use Rattle.target_config.specs.Config.{file_config_of}
use Rattle.target_config.specs.declared.fault.ConfigFault.{ConfigFault}
use Rattle.target_config.specs.declared.fault.ConfigFault.TheVariants.{Unreadable}
use Rattle.target_replay.specs.Replay.{Ends, EndsBy, EndsAsCame, EndsAsCameBy}
use Rattle.target_replay.specs.declared.fault.ReplayFault.{ReplayFault}
use Rattle.target_serving.specs.declared.fault.Fault.{Fault}
use Rattle.target_serving.specs.declared.fault.Fault.TheVariants.{Socket, Streams, OutOfMemory}
use Rattle.target_serving.specs.Fault.{config_fault, replay_fault}
use Rattle.target_config.specs.Loading.{told_of}
use Rattle.target_units.specs.Opened.{Held, AreUnitsOf}
use Rattle.target_units.specs.Refusal.{Refusal}
use Rattle.targetd.specs.Unopened.{IsUnopened}
use Rattle.target_serving.specs.Logging.{OpensLog}
use Rattle.targetd.specs.Help.{RefusesWords}
use Rattle.target_serving.specs.Serve.{listening_line, Serves}

-- the targets of a configuration, and their portal
abbrev pub known_of : Document → KnownTargets
known_of document = record { names = names_of document.targets; portal = document.listen }

-- what the target of a configuration is made from, if these are its units
abbrev pub setting_of : Document → List UnitStates → Setting
setting_of document units = record { directory = known_of document; units = units }

-- the configuration that the contents of a file describe, or a fault; a file that cannot be read has no contents
abbrev pub configured_by : Option (List ℕ) → Result Document ConfigFault
configured_by None = Err Unreadable
configured_by (Some contents) = file_config_of contents

-- what ports report before they are served: the address that was requested, and where they listen
abbrev pub listening : List ℕ → SocketAddr → List Entry
listening text address = Listened text ∷ Located (ip_octets (socket_ip address)) (socket_port address) ∷ []

-- what remains after serving: what its ports reported, and its target
pub record ServedState : Type 0 where
  pub log : List Entry
  pub target : Machine

-- what remains after a run: what stands in for standard streams, and what was reported about the configuration's file.
-- Then what is left of a unit's file that was not opened, what was reported about an address that is not listened on and
-- about the log, a replay's target, and what serving left
pub record LeftState : Type 0 where
  pub streams : StreamsState
  pub told : List Noted
  pub refused : Refusal
  pub unbound : List Noted
  pub logged : List Noted
  pub replayed : Option Machine
  pub served : Option ServedState

-- why a run ends before it has made a target: its configuration, the file of a unit that was refused, or an allocation
-- that failed
abbrev pub FailsEarly : Held → Refusal → Result Document ConfigFault → Fault → Type 0
FailsEarly held refused (Ok document) fault = IsUnopened held document.targets refused fault
FailsEarly held refused (Err why) fault = (fault ≡ OutOfMemory) ⊎ (fault ≡ config_fault why)

-- why nothing is listened on at the configured address: the text spells none, or a call of the system failed, which
-- is noted: one that makes the listener, or the one that tells where it listens
abbrev pub FailsToListen : Result Document ConfigFault → List Noted → Type 0
FailsToListen (Ok document) unbound = IsUnbound document.listen [] unbound ⊎ ((earlier : List Noted) × (unbound ≡ not_located ∷ earlier))
FailsToListen (Err why) unbound = ⊥

module _ (held : Held) (left : LeftState) (printed printed_then : Option (List ℕ)) where
  -- Serving these units from a new target. Its ports were asked for the configured address, and reported where they
  -- listen. Ports and target remain; a target of which no unit is in a file is sound.
  pub record IsServing (document : Document) (count : ℕ) (result : Result (Unit {0}) Fault) : Type 0 where
    pub units : List UnitStates
    pub opened : AreUnitsOf held document.targets units
    pub served : ServedState
    pub is_left : left.served ≡ Some served
    pub sure : keeps_in_memory document ≡ true → IsSound served.target
    -- where they listen
    pub address : SocketAddr
    pub serves : Serves (listening_line address) count true (listening document.listen address) served.log
        (new_machine (known_of document) units) served.target printed printed_then result
    -- the log that is configured was opened before
    pub logged : OpensLog document.log [] left.logged (listening document.listen address) served.log printed printed_then
    -- In all, of a sound target: what was written on an open connection, and then what waits, is what the World of the
    -- log's events answers. On a connection that is over, what was written is a prefix of them.
    pub whole : IsSound served.target → HasBeenServed MayHappen (setting_of document units) served.log served.target
    -- and of every target, depending on how its commands came out: as defined in each target whose units are sound
    pub came : HasBeenServed (MayComeOut served.target) (setting_of document units) served.log served.target
    -- no connection made the target hold more than it may
    pub bounded : Bounded served.target

  abbrev pub IsServingAt : ℕ → Result Document ConfigFault → Result (Unit {0}) Fault → Type 0
  IsServingAt count (Ok document) result = IsServing document count result
  IsServingAt count (Err why) result = ⊥

  -- why serving ends before it listens
  abbrev pub FailsBefore : Result Document ConfigFault → Fault → Type 0
  FailsBefore configured fault = ((fault ≡ Socket) × FailsToListen configured left.unbound) ⊎ FailsEarly held left.refused configured fault

  -- how serving this configuration ends: before it listens, or as its turns end
  abbrev pub ServesAt : ℕ → Result Document ConfigFault → Result (Unit {0}) Fault → Type 0
  ServesAt count configured result =
      (Keeps printed printed_then × IsErrAnd result (FailsBefore configured)) ⊎ IsServingAt count configured result

module _ (held : Held) (left : LeftState) (unread unread_then printed printed_then : Option (List ℕ)) where
  -- nothing was read or printed
  abbrev pub IsUntouched : Type 0
  IsUntouched = Keeps unread unread_then × Keeps printed printed_then

  -- how the lines of a replay end if the target is sound
  abbrev pub CarriesOut : Setting → Result (Unit {0}) Fault → Type 0
  CarriesOut s (Ok end) = Ends unread unread_then printed printed_then s
  CarriesOut s (Err fault) = (why : ReplayFault) × (fault ≡ replay_fault why) × EndsBy unread unread_then printed printed_then s why

  -- how they end with every target, as it is left, depending on how the commands of the lines came out
  abbrev pub CarriesOutAsCame : Setting → Machine → Result (Unit {0}) Fault → Type 0
  CarriesOutAsCame s target (Ok end) = EndsAsCame unread unread_then printed printed_then s target
  CarriesOutAsCame s target (Err fault) =
      (why : ReplayFault) × (fault ≡ replay_fault why) × EndsAsCameBy unread unread_then printed printed_then s target why

  -- A replay with these units, which leaves a target. The lines were carried out, whatever its stores did. If the
  -- target is sound, they came out as the definitions say; it is sound if no unit is in a file.
  pub record IsReplay (document : Document) (result : Result (Unit {0}) Fault) : Type 0 where
    pub units : List UnitStates
    pub opened : AreUnitsOf held document.targets units
    pub target : Machine
    pub is_left : left.replayed ≡ Some target
    pub sure : keeps_in_memory document ≡ true → IsSound target
    pub carried : WhereSound target (CarriesOut (setting_of document units) result)
    pub came : CarriesOutAsCame (setting_of document units) target result

  abbrev pub IsReplayAt : Result Document ConfigFault → Result (Unit {0}) Fault → Type 0
  IsReplayAt (Ok document) result = IsReplay document result
  IsReplayAt (Err why) result = ⊥

  -- how a replay with this configuration ends: before its first line, or as its lines end
  abbrev pub Replays : Result Document ConfigFault → Result (Unit {0}) Fault → Type 0
  Replays configured result = (IsUntouched × IsErrAnd result (FailsEarly held left.refused configured)) ⊎ IsReplayAt configured result

  -- an allocation failed before anything was read or printed
  abbrev pub IsStarved : Result (Unit {0}) Fault → Type 0
  IsStarved result = (result ≡ Err OutOfMemory) × IsUntouched

  -- how a run ends if its words are no command, whether they call for help or not
  abbrev pub Refuses : Bool → Result (Unit {0}) Fault → Type 0
  Refuses help result = Keeps unread unread_then
      × IsErrAnd result (λ fault. RefusesWords printed printed_then help fault ⊎ ((fault ≡ OutOfMemory) × Keeps printed printed_then))

  -- nothing can stand in for a standard stream that was closed, and nothing was read or printed
  abbrev pub LacksStreams : Result (Unit {0}) Fault → Type 0
  LacksStreams result = (result ≡ Err Streams) × AreLacking left.streams × IsUntouched

  -- a replay with the configuration file at a path, whose contents are those that were reported
  abbrev pub ReplaysFile : List Noted → List ℕ → Result (Unit {0}) Fault → Type 0
  ReplaysFile told path result = (file : Option (List ℕ)) × (left.told ≡ told_of path file told) × Replays (configured_by file) result

  -- serving with the configuration file at a path, whose contents are those that were reported
  abbrev pub ServesFile : List Noted → List ℕ → ℕ → Result (Unit {0}) Fault → Type 0
  ServesFile told path turns result = Keeps unread unread_then × ((file : Option (List ℕ)) × (left.told ≡ told_of path file told)
      × ServesAt held left printed printed_then turns (configured_by file) result)

  -- How a run with these words ends. The descriptors of the standard streams are taken before it opens a file.
  abbrev pub Runs : List Noted → Bool → Option Command → Result (Unit {0}) Fault → Type 0
  Runs told help None result = Refuses help result
  Runs told help (Some (Replay path)) result = IsStarved result ⊎ (LacksStreams result ⊎ (AreTaken left.streams × ReplaysFile told path result))
  Runs told help (Some (Serve path turns)) result = IsStarved result ⊎ (LacksStreams result ⊎ (AreTaken left.streams × ServesFile told path turns result))
