-- Who may do what under a reservation.
use Rattle.std.proofs.Common.{◌≡◌, ℕ, List, [], ◌∷◌, Bool, true, false, Option, Some, None, if◌then◌else◌, refl, ap, subst, ◌∙◌}
use Rattle.std.specs.Prelude.{not, ◌==◌, ◌&&◌}
use Rattle.std.proofs.lemmas.Bool.{false≢true}
use Rattle.scsi_sense.specs.Nexus.{NexusName, same_nexus}
use Rattle.scsi_cdb.specs.declared.operation.ReservationClass.{ReservationClass}
use Rattle.scsi_cdb.specs.declared.operation.ReservationClass.TheVariants.{Always, Reading, Writing}
use Rattle.scsi_conflict.specs.ReservationType.{is_of_all}
use Rattle.scsi_conflict.specs.Conflict.{conflict}
use Rattle.scsi_conflict.specs.Registration.{is_key, own_key, is_held_by, is_held_with}
use Rattle.scsi_reserve.specs.News.{is_chosen, without}
use Rattle.scsi_reserve.specs.Table.{TableState, is_allowed}
use Rattle.scsi_conflict.specs.Allowed.{is_allowed_by}
use Rattle.scsi_reserve.specs.Out.{taken_over, preempted, is_held_by_one}
use Rattle.scsi_reserve.specs.Laws.{AreOnce}
use Rattle.scsi_reserve.proofs.Names.{same_nexus-sym, same_nexus-true}
use Rattle.scsi_reserve.proofs.Once.{own_key-kept, own_key-filter}
use Rattle.scsi_conflict.specs.declared.conflict.Who.TheVariants.{Holder, Neither}
use Rattle.scsi_reserve.specs.declared.news.Others.TheVariants.{WithKey}
use Rattle.scsi_conflict.specs.declared.registration.Row.{Row}
use Rattle.scsi_conflict.specs.declared.registration.Reservation.{Reservation}
use Rattle.scsi_conflict.specs.declared.reservation_type.ReservationType.{ReservationType}
use Rattle.scsi_conflict.specs.declared.reservation_type.ReservationType.TheVariants.{WriteExclusive, ExclusiveAccess, WriteExclusiveRegistrantsOnly}
use Rattle.scsi_conflict.specs.declared.reservation_type.ReservationType.TheVariants.{ExclusiveAccessRegistrantsOnly, WriteExclusiveAllRegistrants}
use Rattle.scsi_conflict.specs.declared.reservation_type.ReservationType.TheVariants.{ExclusiveAccessAllRegistrants}

conflict-holder : (kind : ReservationType) (class : ReservationClass) → conflict kind Holder class ≡ false
conflict-holder WriteExclusive Always = refl
conflict-holder WriteExclusive Reading = refl
conflict-holder WriteExclusive Writing = refl
conflict-holder ExclusiveAccess Always = refl
conflict-holder ExclusiveAccess Reading = refl
conflict-holder ExclusiveAccess Writing = refl
conflict-holder WriteExclusiveRegistrantsOnly Always = refl
conflict-holder WriteExclusiveRegistrantsOnly Reading = refl
conflict-holder WriteExclusiveRegistrantsOnly Writing = refl
conflict-holder ExclusiveAccessRegistrantsOnly Always = refl
conflict-holder ExclusiveAccessRegistrantsOnly Reading = refl
conflict-holder ExclusiveAccessRegistrantsOnly Writing = refl
conflict-holder WriteExclusiveAllRegistrants Always = refl
conflict-holder WriteExclusiveAllRegistrants Reading = refl
conflict-holder WriteExclusiveAllRegistrants Writing = refl
conflict-holder ExclusiveAccessAllRegistrants Always = refl
conflict-holder ExclusiveAccessAllRegistrants Reading = refl
conflict-holder ExclusiveAccessAllRegistrants Writing = refl

conflict-neither : (kind : ReservationType) → conflict kind Neither Writing ≡ true
conflict-neither WriteExclusive = refl
conflict-neither ExclusiveAccess = refl
conflict-neither WriteExclusiveRegistrantsOnly = refl
conflict-neither ExclusiveAccessRegistrantsOnly = refl
conflict-neither WriteExclusiveAllRegistrants = refl
conflict-neither ExclusiveAccessAllRegistrants = refl

-- a holder is refused nothing
pub holder_allowed : (nexus : NexusName) (class : ReservationClass) (table : TableState) (reservation : Reservation)
    → table.reservation ≡ Some reservation → is_held_by nexus table.rows reservation ≡ true → is_allowed nexus class table ≡ true
holder_allowed nexus class table reservation is held =
    ap (λ (r : Option Reservation). is_allowed_by r table.rows nexus class) is
    ∙ rw held (ap not (conflict-holder reservation.kind class))

-- the first registration is that of the nexus, with this key, or another's
own_key-first : (mine : Bool) (x nexus : NexusName) (key : ℕ) (row : Row) (rows : List Row) → same_nexus row.nexus x ≡ mine
    → own_key row.nexus rows ≡ None
    → is_key key (if mine then Some row.key else own_key x rows) ≡ true → same_nexus x nexus ≡ false
    → (is_key key (own_key x rows) ≡ true → own_key x (without (WithKey key) nexus rows) ≡ None)
    → own_key x (if not (is_chosen (WithKey key) nexus row) then row ∷ without (WithKey key) nexus rows else without (WithKey key) nexus rows) ≡ None
own_key-first true x nexus key row rows mine none is other rest =
    let name : row.nexus ≡ x = same_nexus-true row.nexus x mine in
    let another : same_nexus row.nexus nexus ≡ false = ap (λ (n : NexusName). same_nexus n nexus) name ∙ other in
    let gone : own_key x rows ≡ None = subst (λ (n : NexusName). own_key n rows ≡ None) name none in
    rw (another, is) (own_key-filter x (λ left. not (is_chosen (WithKey key) nexus left)) rows gone)
own_key-first false x nexus key row rows mine none is other rest =
    own_key-kept (not (is_chosen (WithKey key) nexus row)) x row (without (WithKey key) nexus rows) mine (rest is)

-- a nexus goes with the registrations of its key
own_key-without : (x nexus : NexusName) (key : ℕ) (rows : List Row) → AreOnce rows → is_key key (own_key x rows) ≡ true
    → same_nexus x nexus ≡ false → own_key x (without (WithKey key) nexus rows) ≡ None
own_key-without x nexus key [] once is other = absurd (false≢true is)
own_key-without x nexus key (row ∷ rows) once is other =
    own_key-first (same_nexus row.nexus x) x nexus key row rows refl (once.0) is other (λ later. own_key-without x nexus key rows (once.1) later other)

-- one that is not registered does not hold what another made, so it may not write
neither_writes : (all : Bool) (kind : ReservationType) (x nexus : NexusName) (left : List Row) → is_of_all kind ≡ all
    → own_key x left ≡ None → same_nexus nexus x ≡ false
    → is_allowed_by (Some (record { kind = kind; holder = nexus })) left x Writing ≡ false
neither_writes true kind x nexus left of gone other = rw (of, gone) (ap not (conflict-neither kind))
neither_writes false kind x nexus left of gone other = rw (of, other, gone) (ap not (conflict-neither kind))

held_alone : (all : Bool) (key : ℕ) (own : Option ℕ) → (not all && is_key key own) ≡ true → is_key key own ≡ true
held_alone true key own is = absurd (false≢true is)
held_alone false key own is = is

-- the holder of a reservation that another nexus preempts by its key may write no more
pub holder_fenced : (kind : ReservationType) (key : ℕ) (nexus : NexusName) (table : TableState) (reservation : Reservation)
    → table.reservation ≡ Some reservation → AreOnce table.rows
    → is_held_with key table.rows reservation ≡ true → (key == 0) ≡ false → same_nexus reservation.holder nexus ≡ false
    → is_allowed reservation.holder Writing (preempted (Some kind) key nexus table).0 ≡ false
unfolding preempted taken_over
holder_fenced kind key nexus table reservation is once held given other =
    let x = reservation.holder in
    let alone : is_held_by_one key table.rows table.reservation ≡ true =
    ap (is_held_by_one key table.rows) is ∙ held in
    let own = held_alone (is_of_all reservation.kind) key (own_key x table.rows) held in
    let gone = own_key-without x nexus key table.rows once own other in
    rw (given, alone) (neither_writes (is_of_all kind) kind x nexus (without (WithKey key) nexus table.rows) refl gone (same_nexus-sym nexus x ∙ other))
