-- The exit statuses, and the program's faults for the faults of its parts.
use Rattle.std.specs.Prelude.{ℕ, Option, Some, None, Result, Ok, Err}
use Rattle.command_line.specs.declared.fault.WordsFault.{WordsFault}
use Rattle.command_line.specs.declared.fault.WordsFault.TheVariants as words
use Rattle.iscsi_ports.specs.declared.bind_fault.BindFault.{BindFault}
use Rattle.iscsi_ports.specs.declared.bind_fault.BindFault.TheVariants as binds
use Rattle.target_config.specs.Fault.{number_of}
use Rattle.target_config.specs.declared.fault.ConfigFault.{ConfigFault}
use Rattle.target_replay.specs.declared.fault.ReplayFault.{ReplayFault}
use Rattle.target_replay.specs.declared.fault.ReplayFault.TheVariants as replays
use Rattle.target_units.specs.declared.fault.OpenFault.{OpenFault}
use Rattle.target_units.specs.declared.fault.OpenFault.TheVariants as opens
use Rattle.target_serving.specs.declared.fault.Fault.{Fault}
use Rattle.target_serving.specs.declared.fault.Fault.TheVariants as faults

-- profile: 0 means the end of the input or of the turns, 1 a fault of the configuration. 2 means a fault in what the
-- caller wrote, 3 a failure around the program
abbrev pub status_of : Result (Unit {0}) Fault → ℕ
status_of (Ok end) = 0
status_of (Err (faults.Configuration number)) = 1
status_of (Err faults.Usage) = 2
status_of (Err (faults.Refused line)) = 2
status_of (Err (faults.Device target lun)) = 3
status_of (Err faults.Socket) = 3
status_of (Err faults.Input) = 3
status_of (Err faults.Output) = 3
status_of (Err faults.Streams) = 3
status_of (Err faults.OutOfMemory) = 3

-- why the words are no command
abbrev pub words_fault : WordsFault → Fault
words_fault words.Usage = faults.Usage
words_fault words.Memory = faults.OutOfMemory

abbrev pub numbered : Option ℕ → Fault
numbered (Some number) = faults.Configuration number
numbered None = faults.OutOfMemory

-- why the configuration cannot be used
abbrev pub config_fault : ConfigFault → Fault
config_fault fault = numbered (number_of fault)

-- why units are not opened
abbrev pub opening_fault : OpenFault → Fault
opening_fault (opens.Device target lun cause) = faults.Device target lun
opening_fault opens.Memory = faults.OutOfMemory

-- why a replay ended
abbrev pub replay_fault : ReplayFault → Fault
replay_fault (replays.Refused line) = faults.Refused line
replay_fault replays.Input = faults.Input
replay_fault replays.Output = faults.Output
replay_fault replays.OutOfMemory = faults.OutOfMemory

-- why the address is not listened on
abbrev pub bind_fault : BindFault → Fault
bind_fault (binds.Socket code) = faults.Socket
bind_fault binds.Memory = faults.OutOfMemory
