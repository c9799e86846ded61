-- What a reservation forbids (SPC-4 "SPC-4 commands that are allowed in the presence of various reservations", and the
-- same tables of SBC-3 and SSC-4).
use Rattle.std.specs.Prelude.{Bool, true, false}
use Rattle.scsi_cdb.specs.declared.operation.ReservationClass.{ReservationClass}
use Rattle.scsi_cdb.specs.declared.operation.ReservationClass.TheVariants as class
use Rattle.scsi_conflict.specs.declared.reservation_type.ReservationType.{ReservationType}
use Rattle.scsi_conflict.specs.declared.reservation_type.ReservationType.TheVariants.{WriteExclusive, ExclusiveAccess, WriteExclusiveRegistrantsOnly}
use Rattle.scsi_conflict.specs.declared.reservation_type.ReservationType.TheVariants.{ExclusiveAccessRegistrantsOnly, WriteExclusiveAllRegistrants}
use Rattle.scsi_conflict.specs.declared.reservation_type.ReservationType.TheVariants.{ExclusiveAccessAllRegistrants}
use Rattle.scsi_conflict.specs.declared.conflict.Who.{Who}
use Rattle.scsi_conflict.specs.declared.conflict.Who.TheVariants.{Holder, Registrant, Neither}
use Rattle.scsi_conflict.specs.declared.conflict.Refused.{Refused}
use Rattle.scsi_conflict.specs.declared.conflict.Refused.TheVariants.{Nothing, Writing, ReadingAndWriting}

-- of the holder, another registrant, and a nexus that is neither
abbrev pub by_who : Refused → Refused → Refused → Who → Refused
by_who holder registrant neither Holder = holder
by_who holder registrant neither Registrant = registrant
by_who holder registrant neither Neither = neither

-- the table: by type, what it forbids its holder, another registrant, and a nexus that is neither
abbrev pub refused_to : ReservationType → Who → Refused
refused_to WriteExclusive = by_who Nothing Writing Writing
refused_to ExclusiveAccess = by_who Nothing ReadingAndWriting ReadingAndWriting
refused_to WriteExclusiveRegistrantsOnly = by_who Nothing Nothing Writing
refused_to ExclusiveAccessRegistrantsOnly = by_who Nothing Nothing ReadingAndWriting
refused_to WriteExclusiveAllRegistrants = by_who Nothing Nothing Writing
refused_to ExclusiveAccessAllRegistrants = by_who Nothing Nothing ReadingAndWriting

-- own: whether what is forbidden includes commands of a class
abbrev pub is_refused : Refused → ReservationClass → Bool
is_refused refused class.Always = false
is_refused Nothing class.Reading = false
is_refused Nothing class.Writing = false
is_refused Writing class.Reading = false
is_refused Writing class.Writing = true
is_refused ReadingAndWriting class.Reading = true
is_refused ReadingAndWriting class.Writing = true

-- whether a command of a class is a RESERVATION CONFLICT
abbrev pub conflict : ReservationType → Who → ReservationClass → Bool
conflict kind who class = is_refused (refused_to kind who) class
