-- A log that is kept in memory, without where its bytes lie.
use Rattle.std.specs.Prelude.{List, map}
use Rattle.iscsi_ports.specs.Log as log
use Rattle.iscsi_ports.specs.declared.entry.Carried.{Carried}
use Rattle.iscsi_ports.specs.declared.entry.Carried.TheVariants as carried
use Rattle.iscsi_ports.specs.declared.entry.Entry.{Entry}
use Rattle.iscsi_ports.specs.declared.entry.Entry.TheVariants as entries

abbrev pub carried_view : Carried → log.Carried
carried_view (carried.Bytes piece) = log.Bytes piece.items
carried_view carried.End = log.End
carried_view carried.Fault = log.Fault

abbrev pub entry_view : Entry → log.Entry
entry_view (entries.Polled named) = log.Polled named
entry_view (entries.Open c) = log.Open c
entry_view entries.NobodyCame = log.NobodyCame
entry_view entries.AcceptFailed = log.AcceptFailed
entry_view (entries.Read c room carried) = log.Read c room (carried_view carried)
entry_view (entries.Wrote c offered carried) = log.Wrote c offered (carried_view carried)
entry_view (entries.Close c) = log.Close c

abbrev pub log_view : List Entry → List log.Entry
log_view entries = map entry_view entries
