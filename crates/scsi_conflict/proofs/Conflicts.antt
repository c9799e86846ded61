-- What a nexus may that is neither the holder nor a registrant, all may.
use Rattle.std.proofs.Common.{◌≡◌, true, false, refl}
use Rattle.scsi_cdb.specs.declared.operation.ReservationClass.{ReservationClass}
use Rattle.scsi_cdb.specs.declared.operation.ReservationClass.TheVariants as class
use Rattle.scsi_conflict.specs.declared.reservation_type.ReservationType.{ReservationType}
use Rattle.scsi_conflict.specs.declared.reservation_type.ReservationType.TheVariants.{WriteExclusive, ExclusiveAccess, WriteExclusiveRegistrantsOnly}
use Rattle.scsi_conflict.specs.declared.reservation_type.ReservationType.TheVariants.{ExclusiveAccessRegistrantsOnly, WriteExclusiveAllRegistrants}
use Rattle.scsi_conflict.specs.declared.reservation_type.ReservationType.TheVariants.{ExclusiveAccessAllRegistrants}
use Rattle.scsi_conflict.specs.declared.conflict.Who.{Who}
use Rattle.scsi_conflict.specs.declared.conflict.Who.TheVariants.{Holder, Registrant, Neither}
use Rattle.scsi_conflict.specs.declared.conflict.Refused.TheVariants.{Nothing}
use Rattle.scsi_conflict.specs.Conflict.{is_refused, conflict}

nothing_refused : (c : ReservationClass) → is_refused Nothing c ≡ false
nothing_refused class.Always = refl
nothing_refused class.Reading = refl
nothing_refused class.Writing = refl

pub allowed_all : (kind : ReservationType) (who : Who) (c : ReservationClass) → conflict kind Neither c ≡ false → conflict kind who c ≡ false
allowed_all WriteExclusive Holder c e = nothing_refused c
allowed_all WriteExclusive Registrant c e = e
allowed_all WriteExclusive Neither c e = e
allowed_all ExclusiveAccess Holder c e = nothing_refused c
allowed_all ExclusiveAccess Registrant c e = e
allowed_all ExclusiveAccess Neither c e = e
allowed_all WriteExclusiveRegistrantsOnly Holder c e = nothing_refused c
allowed_all WriteExclusiveRegistrantsOnly Registrant c e = nothing_refused c
allowed_all WriteExclusiveRegistrantsOnly Neither c e = e
allowed_all ExclusiveAccessRegistrantsOnly Holder c e = nothing_refused c
allowed_all ExclusiveAccessRegistrantsOnly Registrant c e = nothing_refused c
allowed_all ExclusiveAccessRegistrantsOnly Neither c e = e
allowed_all WriteExclusiveAllRegistrants Holder c e = nothing_refused c
allowed_all WriteExclusiveAllRegistrants Registrant c e = nothing_refused c
allowed_all WriteExclusiveAllRegistrants Neither c e = e
allowed_all ExclusiveAccessAllRegistrants Holder c e = nothing_refused c
allowed_all ExclusiveAccessAllRegistrants Registrant c e = nothing_refused c
allowed_all ExclusiveAccessAllRegistrants Neither c e = e
