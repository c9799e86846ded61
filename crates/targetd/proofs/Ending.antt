-- How a run ends.
use Rattle.std.proofs.Common.{arith, ◌≡◌, ◌≢◌, ◌⊎◌, inl, inr, ℕ, List, [], ◌∷◌, true, Bool, Option, Some, None, Result, Ok, Err, refl, sym, ap, subst, ◌∙◌}
use Rattle.std.specs.Prelude.{IsErrAnd, All}
use Rattle.std.specs.List.{list_all}
use Rattle.std.specs.declared.net.socket_addr.SocketAddr.{SocketAddr}
use Rattle.std.proofs.KnownBytes.{Keeps-refl}
use Rattle.std.proofs.lemmas.List.Elements.{All-cons}
use Rattle.std.proofs.lemmas.Bool.{and_parts, le-leb}
use Rattle.call_record.specs.Noted.{Noted}
use Rattle.standard_streams.specs.Streams.{AreTaken, AreLacking}
use Rattle.command_line.specs.Words.{Command, Replay, Serve}
use Rattle.command_line.specs.declared.fault.WordsFault.{WordsFault}
use Rattle.command_line.specs.declared.fault.WordsFault.TheVariants as words
use Rattle.scsi_unit.specs.Device.{DeviceState}
use Rattle.scsi_unit.specs.State.{UnitState}
use Rattle.scsi_unit.specs.Units.{UnitStates, IsSureDevice, AreSure}
use Rattle.iscsi_target.specs.World.{Setting, present, world}
use Rattle.iscsi_target.specs.Stands.{Stands}
use Rattle.iscsi_target.proofs.Standing.{stands_sent}
use Rattle.iscsi_target.specs.Machine.{Machine, IsSound, IsSure, new_machine}
use Rattle.iscsi_target.specs.Bounded.{Bounded}
use Rattle.iscsi_ports.specs.Binding.{IsUnbound, ExplainsFault}
use Rattle.iscsi_ports.specs.declared.bind_fault.BindFault.{BindFault}
use Rattle.iscsi_ports.specs.declared.bind_fault.BindFault.TheVariants as binds
use Rattle.iscsi_ports.specs.Log.{Entry, written}
use Rattle.iscsi_serve.specs.Served.{MayHappen, MayComeOut, StaysServed, ComesOutServed}
use Rattle.iscsi_serve.proofs.Keeping.{stays_same, been_served}
use Rattle.target_config.specs.Configuration.{Document, MediumEntry, MemoryDisk, FileDisk, MemoryTape, FileTape, UnitEntry, TargetEntry, is_in_memory}
use Rattle.target_config.specs.declared.fault.ConfigFault.{ConfigFault}
use Rattle.target_config.specs.declared.fault.ConfigFault.TheVariants as why
use Rattle.target_replay.specs.Printed.{all_sent, HasSentAll}
use Rattle.target_replay.specs.Replay.{Ends, EndsBy, EndsAsCame, EndsAsCameBy}
use Rattle.target_replay.specs.declared.fault.ReplayFault.{ReplayFault}
use Rattle.target_replay.specs.declared.fault.ReplayFault.TheVariants as replays
use Rattle.target_serving.specs.declared.fault.Fault.{Fault}
use Rattle.target_serving.specs.declared.fault.Fault.TheVariants as faults
use Rattle.target_serving.specs.Fault.{config_fault, replay_fault, bind_fault}
use Rattle.target_config.specs.Loading.{Loads, told_of}
use Rattle.target_units.specs.Opened.{Held, IsMediumOf, IsUnitOf, AreEach, AreUnitsOf}
use Rattle.target_units.specs.Refusal.{Refusal}
use Rattle.targetd.specs.Help.{RefusesWords}
use Rattle.target_serving.specs.Logging.{OpensLog}
use Rattle.target_serving.specs.Serve.{listening_line, Serves}
use Rattle.targetd.specs.Unopened.{IsUnopened}
use Rattle.targetd.specs.Run.{FailsToListen, FailsEarly, LeftState, ServedState, listening, known_of, setting_of, IsReplay, IsServing, Replays, ServesAt, Runs}

-- ---- before a target is made

pub early_memory : (held : Held) (refused : Refusal) (configured : Result Document ConfigFault) → FailsEarly held refused configured faults.OutOfMemory
early_memory held refused (Ok document) = tt
early_memory held refused (Err fault) = inl refl

early_by : (held : Held) (refused : Refusal) (configured : Result Document ConfigFault) (fault : ConfigFault) → configured ≡ Err fault
    → FailsEarly held refused configured (config_fault fault)
early_by held refused configured fault e = rw e (inr refl)

pub early_fault : (held : Held) (refused : Refusal) (configured : Result Document ConfigFault) (fault : ConfigFault)
    → (fault ≢ why.OutOfMemory → configured ≡ Err fault)
    → FailsEarly held refused configured (config_fault fault)
early_fault held refused configured why.OutOfMemory e = early_memory held refused configured
early_fault held refused configured why.Unreadable e = early_by held refused configured why.Unreadable (e (λ x. cc))
early_fault held refused configured why.NotToml e = early_by held refused configured why.NotToml (e (λ x. cc))
early_fault held refused configured why.Field e = early_by held refused configured why.Field (e (λ x. cc))
early_fault held refused configured why.Limit e = early_by held refused configured why.Limit (e (λ x. cc))
early_fault held refused configured why.Twice e = early_by held refused configured why.Twice (e (λ x. cc))
early_fault held refused configured why.NoLunZero e = early_by held refused configured why.NoLunZero (e (λ x. cc))

-- the file of a unit was refused, or an allocation failed
pub early_unopened : (held : Held) (refused : Refusal) (configured : Result Document ConfigFault) (document : Document) (fault : Fault)
    → configured ≡ Ok document → IsUnopened held document.targets refused fault → FailsEarly held refused configured fault
early_unopened held refused configured document fault read is = rw read is

-- ---- units in memory cannot fail

medium_sure : (held : Held) (entry : MediumEntry) (medium : DeviceState) → IsMediumOf held entry medium → is_in_memory entry ≡ true → IsSureDevice medium
medium_sure held (MemoryDisk blocks) medium is in_memory =
    subst IsSureDevice (sym is) (record { sound = record { honest = refl; unfailed = refl }; steady = refl })
medium_sure held (FileDisk path) medium is in_memory = absurd cc
medium_sure held (MemoryTape capacity early) medium is in_memory =
    subst IsSureDevice (sym is) (record { sound = record { honest = refl; unfailed = refl }; steady = le-leb capacity capacity (omega arith) })
medium_sure held (FileTape path capacity early) medium is in_memory = absurd cc

all_none : {X : Type 0} (P : X → Type 0) → All P []
all_none P i d below = absurd (omega arith)

units_sure : (held : Held) (entries : List UnitEntry) (units : UnitStates) → AreEach (IsUnitOf held) entries units
    → list_all (λ unit. is_in_memory unit.medium) entries ≡ true → AreSure units
units_sure held [] [] each all = all_none (λ (unit : UnitState). IsSureDevice unit.device)
units_sure held [] (unit ∷ units) each all = absurd each
units_sure held (entry ∷ entries) [] each all = absurd each
units_sure held (entry ∷ entries) (unit ∷ units) each all =
    let both = and_parts (is_in_memory entry.medium) (list_all (λ (unit : UnitEntry). is_in_memory unit.medium) entries) all in
    All-cons (λ (unit : UnitState). IsSureDevice unit.device) unit units (medium_sure held entry.medium unit.device each.0.medium both.0)
    (units_sure held entries units each.1 both.1)

targets_sure : (held : Held) (targets : List TargetEntry) (units : List UnitStates) → AreUnitsOf held targets units
    → list_all (λ target. list_all (λ unit. is_in_memory unit.medium) target.units) targets ≡ true → All AreSure units
targets_sure held [] [] each all = all_none AreSure
targets_sure held [] (unit ∷ units) each all = absurd each
targets_sure held (target ∷ targets) [] each all = absurd each
targets_sure held (target ∷ targets) (unit ∷ units) each all =
    let both = and_parts (list_all (λ (unit : UnitEntry). is_in_memory unit.medium) target.units)
    (list_all (λ (target : TargetEntry). list_all (λ (unit : UnitEntry). is_in_memory unit.medium) target.units) targets) all in
    All-cons AreSure unit units (units_sure held target.units unit each.0 both.0) (targets_sure held targets units each.1 both.1)

sound_if_sure : (machine : Machine) → IsSure machine → IsSound machine
sound_if_sure machine sure = λ i d lt j e below. (sure i d lt j e below).sound

-- ---- a replay

-- nothing was answered before the first event
nothing_answered : (s : Setting) (c : ℕ) → all_sent (world s []) c ≡ 0
unfolding world present
nothing_answered s c = refl

pub made_stands : (s : Setting) (target : Machine) → Stands s (λ c. 0) target [] → HasSentAll s [] target
made_stands s target h = stands_sent s (λ c. 0) (all_sent (world s [])) target [] (λ c lt. sym (nothing_answered s c)) h

pub replay_ends : (held : Held) (left : LeftState) (r0 r1 w0 w1 : Option (List ℕ)) (document : Document) (units : List UnitStates) (first last target : Machine)
    → AreUnitsOf held document.targets units → left.replayed ≡ Some target → target ≡ last → HasSentAll (setting_of document units) [] first
    → first.units ≡ units
    → (IsSure first → IsSure last) → (IsSound last → (s : Setting) → HasSentAll s [] first → Ends r0 r1 w0 w1 s)
    → ((s : Setting) → HasSentAll s [] first → EndsAsCame r0 r1 w0 w1 s last)
    → IsReplay held left r0 r1 w0 w1 document (Ok tt)
replay_ends held left r0 r1 w0 w1 document units first last target opened is same stands made sure done came =
    record {
      units = units;
      opened = opened;
      target = target;
      is_left = is;
      sure = λ in_memory. subst IsSound (sym same) (sound_if_sure last
          (sure (subst (λ (us : List UnitStates). All AreSure us) (sym made) (targets_sure held document.targets units opened in_memory))));
      carried = λ sound. done (subst IsSound same sound) (setting_of document units) stands;
      came = subst (EndsAsCame r0 r1 w0 w1 (setting_of document units)) (sym same) (came (setting_of document units) stands);
    }

pub replay_fails : (held : Held) (left : LeftState) (r0 r1 w0 w1 : Option (List ℕ)) (document : Document) (units : List UnitStates)
    (first last target : Machine)
    (result : Result (Unit {0}) Fault) (fault : ReplayFault) → IsErrAnd result (λ seen. seen ≡ replay_fault fault)
    → AreUnitsOf held document.targets units → left.replayed ≡ Some target → target ≡ last → HasSentAll (setting_of document units) [] first
    → first.units ≡ units
    → (IsSure first → IsSure last) → (IsSound last → (s : Setting) → HasSentAll s [] first → EndsBy r0 r1 w0 w1 s fault)
    → ((s : Setting) → HasSentAll s [] first → EndsAsCameBy r0 r1 w0 w1 s last fault)
    → IsReplay held left r0 r1 w0 w1 document result
replay_fails held left r0 r1 w0 w1 document units first last target (Ok end) fault told opened is same stands made sure fails stops = absurd told
replay_fails held left r0 r1 w0 w1 document units first last target (Err seen) fault told opened is same stands made sure fails stops =
    record {
      units = units;
      opened = opened;
      target = target;
      is_left = is;
      sure = λ in_memory. subst IsSound (sym same) (sound_if_sure last
          (sure (subst (λ (us : List UnitStates). All AreSure us) (sym made) (targets_sure held document.targets units opened in_memory))));
      carried = λ sound. (fault, told, fails (subst IsSound same sound) (setting_of document units) stands);
      came = (
        fault,
        told,
        subst (λ (target : Machine). EndsAsCameBy r0 r1 w0 w1 (setting_of document units) target fault) (sym same) (stops (setting_of document units) stands),
      );
    }

-- it ended before its first line
pub replay_early : (held : Held) (left : LeftState) (r w : Option (List ℕ)) (configured : Result Document ConfigFault)
    (result : Result (Unit {0}) Fault) (fault : Fault) → IsErrAnd result (λ seen. seen ≡ fault) → FailsEarly held left.refused configured fault
    → Replays held left r r w w configured result
replay_early held left r w configured (Ok end) fault is early = absurd is
replay_early held left r w configured (Err seen) fault is early =
    inl ((Keeps-refl r, Keeps-refl w), subst (FailsEarly held left.refused configured) (sym is) early)

-- ---- serving

-- it ended before it had made a target
pub serving_early : (held : Held) (left : LeftState) (w : Option (List ℕ)) (count : ℕ) (configured : Result Document ConfigFault)
    (result : Result (Unit {0}) Fault) (fault : Fault) → IsErrAnd result (λ seen. seen ≡ fault) → FailsEarly held left.refused configured fault
    → ServesAt held left w w count configured result
serving_early held left w count configured (Ok end) fault is early = absurd is
serving_early held left w count configured (Err seen) fault is early =
    inl (Keeps-refl w, inr (subst (FailsEarly held left.refused configured) (sym is) early))

-- why there are no ports, as the program tells it
pub unbound_told : (text : List ℕ) (old new : List Noted) (why : BindFault) → ExplainsFault text old new why
    → ((bind_fault why ≡ faults.Socket) × IsUnbound text old new) ⊎ (bind_fault why ≡ faults.OutOfMemory)
unbound_told text old new (binds.Socket code) is = inl (refl, is)
unbound_told text old new binds.Memory is = inr refl

-- the address was not listened on, or the system did not tell where the program listens
pub serving_unbound : (held : Held) (left : LeftState) (w : Option (List ℕ)) (count : ℕ) (document : Document) (result : Result (Unit {0}) Fault)
    (fault : Fault) → IsErrAnd result (λ seen. seen ≡ fault)
    → ((fault ≡ faults.Socket) × FailsToListen (Ok document) left.unbound) ⊎ (fault ≡ faults.OutOfMemory)
    → ServesAt held left w w count (Ok document) result
serving_unbound held left w count document (Ok end) fault is why = absurd is
serving_unbound held left w count document (Err seen) fault is (inl unbound) = inl (Keeps-refl w, inl (is ∙ unbound.0, unbound.1))
serving_unbound held left w count document (Err seen) fault is (inr starved) =
    inl (Keeps-refl w, inr (subst (FailsEarly held left.refused (Ok document)) (sym (is ∙ starved)) (early_memory held left.refused (Ok document))))

sure_behind : (line : List ℕ) (count : ℕ) (tells : Bool) (log log_then : List Entry) (target target_then : Machine) (w0 w1 : Option (List ℕ))
    (result : Result (Unit {0}) Fault)
    → Serves line count tells log log_then target target_then w0 w1 result → IsSure target → IsSure target_then
sure_behind line count tells log log_then target target_then w0 w1 result (inl unserved) sure = subst IsSure (sym unserved.2) sure
sure_behind line count tells log log_then target target_then w0 w1 result (inr served) sure = served.2.sure sure

-- nothing was served, or what was served stays so, within the bound
stays_behind : (line : List ℕ) (count : ℕ) (log log_then : List Entry) (target target_then : Machine) (w0 w1 : Option (List ℕ))
    (result : Result (Unit {0}) Fault) → Serves line count true log log_then target target_then w0 w1 result → IsSound target_then
    → StaysServed log log_then target target_then
stays_behind line count log log_then target target_then w0 w1 result (inl unserved) sound = rw (unserved.1, unserved.2) (stays_same MayHappen log target)
stays_behind line count log log_then target target_then w0 w1 result (inr served) sound = served.2.served refl sound

came_behind : (line : List ℕ) (count : ℕ) (log log_then : List Entry) (target target_then : Machine) (w0 w1 : Option (List ℕ))
    (result : Result (Unit {0}) Fault) → Serves line count true log log_then target target_then w0 w1 result → ComesOutServed log log_then target target_then
came_behind line count log log_then target target_then w0 w1 result (inl unserved) = rw (unserved.1, unserved.2) (stays_same (MayComeOut target) log target)
came_behind line count log log_then target target_then w0 w1 result (inr served) = served.2.came refl

bounded_behind : (line : List ℕ) (count : ℕ) (tells : Bool) (log log_then : List Entry) (target target_then : Machine) (w0 w1 : Option (List ℕ))
    (result : Result (Unit {0}) Fault) → Serves line count tells log log_then target target_then w0 w1 result → Bounded target → Bounded target_then
bounded_behind line count tells log log_then target target_then w0 w1 result (inl unserved) bounded = subst Bounded (sym unserved.2) bounded
bounded_behind line count tells log log_then target target_then w0 w1 result (inr served) bounded = served.2.bounded bounded

nothing_told : (text : List ℕ) (address : SocketAddr) → written (listening text address) ≡ []
unfolding written
nothing_told text address = refl

pub serving : (held : Held) (left : LeftState) (w0 w1 : Option (List ℕ)) (document : Document) (count : ℕ) (units : List UnitStates)
    (address : SocketAddr) (log : List Entry) (first : Machine) (served : ServedState)
    (result : Result (Unit {0}) Fault) → AreUnitsOf held document.targets units → left.served ≡ Some served → log ≡ listening document.listen address
    → first ≡ new_machine (known_of document) units → Bounded first
    → OpensLog document.log [] left.logged log served.log w0 w1
    → Serves (listening_line address) count true log served.log first served.target w0 w1 result → IsServing held left w0 w1 document count result
serving held left w0 w1 document count units address log first served result opened is asked made bounded logged serves =
    let told = listening document.listen address in
    let target = new_machine (known_of document) units in
    let s = setting_of document units in
    let from_listening : Serves (listening_line address) count true told served.log target served.target w0 w1 result =
    subst (λ (m : Machine). Serves (listening_line address) count true told served.log m served.target w0 w1 result) made
    (subst (λ (es : List Entry). Serves (listening_line address) count true es served.log first served.target w0 w1 result) asked serves) in
    let nothing = nothing_told document.listen address in
    record {
      units = units;
      opened = opened;
      served = served;
      is_left = is;
      sure = λ in_memory. sound_if_sure served.target (sure_behind _ _ _ _ _ _ _ _ _ result from_listening
          (targets_sure held document.targets units opened in_memory));
      address = address;
      serves = from_listening;
      logged = subst (λ (es : List Entry). OpensLog document.log [] left.logged es served.log w0 w1) asked logged;
      whole = λ sound. been_served MayHappen s told served.log served.target refl nothing (stays_behind _ _ _ _ _ _ _ _ result from_listening sound);
      came = been_served (MayComeOut served.target) s told served.log served.target refl nothing (came_behind _ _ _ _ _ _ _ _ result from_listening);
      bounded = bounded_behind _ _ _ _ _ _ _ _ _ result from_listening (subst Bounded made bounded);
    }

-- ---- a run

pub run_starves : (held : Held) (left : LeftState) (r w : Option (List ℕ)) (told : List Noted) (help : Bool) (command : Option Command)
    (result : Result (Unit {0}) Fault)
    → IsErrAnd result (λ seen. seen ≡ faults.OutOfMemory) → Runs held left r r w w told help command result
run_starves held left r w told help command (Ok end) is = absurd is
run_starves held left r w told help None (Err seen) is = (Keeps-refl r, inr (is, Keeps-refl w))
run_starves held left r w told help (Some (Replay path)) (Err seen) is = inl (ap (λ (f : Fault). Err f) is, (Keeps-refl r, Keeps-refl w))
run_starves held left r w told help (Some (Serve path turns)) (Err seen) is = inl (ap (λ (f : Fault). Err f) is, (Keeps-refl r, Keeps-refl w))

-- the words are no command, or an allocation failed
pub none_named : (fault : WordsFault) (command : Option Command)
    → ((fault ≡ words.Usage) × (command ≡ None)) ⊎ (fault ≡ words.Memory) → fault ≡ words.Usage → command ≡ None
none_named fault command (inl usage) is = usage.1
none_named fault command (inr memory) is = absurd (cc (sym memory ∙ is))

pub run_refused : (held : Held) (left : LeftState) (r w w_then : Option (List ℕ)) (told : List Noted) (help : Bool) (command : Option Command) (fault : Fault)
    → command ≡ None → RefusesWords w w_then help fault → Runs held left r r w w_then told help command (Err fault)
run_refused held left r w w_then told help command fault none refused = rw none (Keeps-refl r, inl refused)

-- nothing can stand in for a standard stream
pub run_lacks_streams : (held : Held) (left : LeftState) (r w : Option (List ℕ)) (told : List Noted) (help : Bool) (command : Command)
    (result : Result (Unit {0}) Fault) (fault : Fault)
    → IsErrAnd result (λ seen. seen ≡ fault) → fault ≡ faults.Streams → AreLacking left.streams
    → Runs held left r r w w told help (Some command) result
run_lacks_streams held left r w told help command (Ok end) fault is e lacking = absurd is
run_lacks_streams held left r w told help (Replay path) (Err seen) fault is e lacking =
    inr (inl (ap (λ (f : Fault). Err f) (is ∙ e), lacking, (Keeps-refl r, Keeps-refl w)))
run_lacks_streams held left r w told help (Serve path turns) (Err seen) fault is e lacking =
    inr (inl (ap (λ (f : Fault). Err f) (is ∙ e), lacking, (Keeps-refl r, Keeps-refl w)))

-- the configuration's file could not be read
pub replay_unread : (held : Held) (left : LeftState) (r w : Option (List ℕ)) (told earlier : List Noted) (help : Bool) (path : List ℕ)
    (result : Result (Unit {0}) Fault) (fault : ConfigFault)
    → IsErrAnd result (λ seen. seen ≡ config_fault fault) → earlier ≡ told → Loads path earlier left.told (Err fault) → AreTaken left.streams
    → Runs held left r r w w told help (Some (Replay path)) result
replay_unread held left r w told earlier help path (Ok end) fault is same loads taken = absurd is
replay_unread held left r w told earlier help path (Err seen) why.OutOfMemory is same loads taken =
    inl (ap (λ (f : Fault). Err f) is, (Keeps-refl r, Keeps-refl w))
replay_unread held left r w told earlier help path (Err seen) why.Unreadable is same loads taken =
    inr (inr (taken, (None, loads ∙ ap (λ (notes : List Noted). told_of path None notes) same, inl ((Keeps-refl r, Keeps-refl w), inr is))))
replay_unread held left r w told earlier help path (Err seen) _ is same loads taken = absurd loads

pub serve_unread : (held : Held) (left : LeftState) (r w : Option (List ℕ)) (told earlier : List Noted) (help : Bool) (path : List ℕ) (turns : ℕ)
    (result : Result (Unit {0}) Fault) (fault : ConfigFault)
    → IsErrAnd result (λ seen. seen ≡ config_fault fault) → earlier ≡ told → Loads path earlier left.told (Err fault) → AreTaken left.streams
    → Runs held left r r w w told help (Some (Serve path turns)) result
serve_unread held left r w told earlier help path turns (Ok end) fault is same loads taken = absurd is
serve_unread held left r w told earlier help path turns (Err seen) why.OutOfMemory is same loads taken =
    inl (ap (λ (f : Fault). Err f) is, (Keeps-refl r, Keeps-refl w))
serve_unread held left r w told earlier help path turns (Err seen) why.Unreadable is same loads taken =
    inr (inr (taken, (Keeps-refl r, (None, loads ∙ ap (λ (notes : List Noted). told_of path None notes) same, inl (Keeps-refl w, inr (inr is))))))
serve_unread held left r w told earlier help path turns (Err seen) why.NotToml is same loads taken = absurd loads
serve_unread held left r w told earlier help path turns (Err seen) why.Field is same loads taken = absurd loads
serve_unread held left r w told earlier help path turns (Err seen) why.Limit is same loads taken = absurd loads
serve_unread held left r w told earlier help path turns (Err seen) why.Twice is same loads taken = absurd loads
serve_unread held left r w told earlier help path turns (Err seen) why.NoLunZero is same loads taken = absurd loads
