-- A call of the ports as an entry of their log.
use Rattle.std.specs.Prelude.{ℕ, ◌<◌, List, length, take, Some, None, Result, Ok, Err, ⊤}
use Rattle.iscsi_ports.specs.Log as log
use Rattle.iscsi_ports.specs.Log.{Entry, Carried, Polled, Open, NobodyCame, AcceptFailed}
use Rattle.iscsi_ports.specs.declared.results.Named.{Named}
use Rattle.iscsi_ports.specs.declared.results.PortFault.{PortFault}
use Rattle.iscsi_ports.specs.declared.results.IoResult.{IoResult}
use Rattle.iscsi_ports.specs.declared.results.IoResult.TheVariants as told
use Rattle.iscsi_ports.specs.declared.results.ReadResult.{ReadResult}
use Rattle.iscsi_ports.specs.declared.results.ReadResult.TheVariants as read
use Rattle.iscsi_ports.specs.declared.results.Accepted.{Accepted}
use Rattle.iscsi_ports.specs.declared.results.Accepted.TheVariants as accepted

-- what a call with this buffer told
abbrev pub carried_by : IoResult → List ℕ → Carried
carried_by (told.Bytes n) buffer = log.Bytes (take n buffer)
carried_by told.End buffer = log.End
carried_by told.Fault buffer = log.Fault

-- what a read told with this buffer, or in one that is lent
abbrev pub carried_read : ReadResult → List ℕ → Carried
carried_read (read.Bytes n) buffer = log.Bytes (take n buffer)
carried_read (read.Lent piece) buffer = log.Bytes piece
carried_read read.End buffer = log.End
carried_read read.Fault buffer = log.Fault

-- the buffer in which it gave bytes
abbrev pub buffer_of : ReadResult → List ℕ → List ℕ
buffer_of (read.Lent piece) buffer = piece
buffer_of _ buffer = buffer

abbrev pub poll_entry : Result Named PortFault → Entry
poll_entry (Ok named) = Polled (Some named)
poll_entry (Err fault) = Polled None

abbrev pub accept_entry : ℕ → Result Accepted PortFault → Entry
accept_entry c (Ok accepted.Connection) = Open c
accept_entry c (Ok accepted.Nobody) = NobodyCame
accept_entry c (Err fault) = AcceptFailed

-- how many bytes a call gave or took
abbrev pub count_of : IoResult → ℕ
count_of (told.Bytes n) = n
count_of told.End = 0
count_of told.Fault = 0

abbrev pub read_count : ReadResult → ℕ
read_count (read.Bytes n) = n
read_count (read.Lent piece) = length piece
read_count read.End = 0
read_count read.Fault = 0

-- own: no empty buffer is lent
abbrev pub LendsSome : ReadResult → Type 0
LendsSome (read.Lent piece) = 0 < length piece
LendsSome _ = ⊤
