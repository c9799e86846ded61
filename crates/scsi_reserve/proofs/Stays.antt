-- What PERSISTENT RESERVE OUT leaves of the registrations: each nexus once.
use Rattle.std.proofs.Common.{◌≡◌, ℕ, Bool, true, false, Option, Some, None, is_some, Result, Ok, Err, if◌then◌else◌, refl}
use Rattle.std.specs.Prelude.{nat_lt, length, not, ◌==◌, ◌&&◌}
use Rattle.scsi_sense.specs.Nexus.{NexusName, same_nexus}
use Rattle.scsi_sense.specs.declared.condition.Condition.{Condition}
use Rattle.scsi_conflict.specs.Registration.{own_key, has_key, is_held_by}
use Rattle.scsi_conflict.specs.ReservationType.{is_same_type}
use Rattle.scsi_reserve.specs.News.{is_chosen}
use Rattle.scsi_reserve.specs.Request.{may_ask}
use Rattle.scsi_reserve.specs.Ending.{Ending}
use Rattle.scsi_reserve.specs.Table.{TableState, most_rows}
use Rattle.scsi_reserve.specs.Out.{registered, unregistered, reserved, reserved_beside, released, released_from, cleared, taken_over, removed}
use Rattle.scsi_reserve.specs.Out.{preempted, is_held_by_all, is_held_by_one, acted, asked}
use Rattle.scsi_reserve.specs.Laws.{AreOnce}
use Rattle.scsi_reserve.proofs.Once.{AreOnce-filter, AreOnce-set, AreOnce-append}
use Rattle.scsi_reserve.specs.declared.news.Others.{Others}
use Rattle.scsi_reserve.specs.declared.news.Others.TheVariants.{All, WithKey}
use Rattle.scsi_conflict.specs.declared.registration.Reservation.{Reservation}
use Rattle.scsi_conflict.specs.declared.reservation_type.ReservationType.{ReservationType}
use Rattle.scsi_reserve.specs.declared.request.Request.{Request}
use Rattle.scsi_reserve.specs.declared.request.Request.TheVariants.{Register, Reserve, Release, Clear, Preempt, RegisterAndIgnoreExistingKey}
use Rattle.scsi_reserve.specs.declared.parameter_list.ParameterList.{ParameterList}

abbrev Left : TableState × Ending → Type 0
Left done = AreOnce done.0.rows

either : (b : Bool) (x y : TableState × Ending) → (b ≡ true → Left x) → (b ≡ false → Left y) → Left (if b then x else y)
either true x y first second = first refl
either false x y first second = second refl

is_none : (own : Option ℕ) → is_some own ≡ false → own ≡ None
is_none None none = refl
is_none (Some key) none = cc

registered_once : (key : ℕ) (nexus : NexusName) (table : TableState) → AreOnce table.rows → Left (registered key nexus table)
unfolding registered
registered_once key nexus table once =
    either (is_some (own_key nexus table.rows)) _ _ (λ some. AreOnce-set nexus key table.rows once) (λ none.
    either (nat_lt (length table.rows) most_rows) _ _ (λ few. AreOnce-append table.rows _ once (is_none (own_key nexus table.rows) none)) (λ many. once))

unregistered_once : (nexus : NexusName) (table : TableState) → AreOnce table.rows → Left (unregistered nexus table)
unfolding unregistered
unregistered_once nexus table once = AreOnce-filter (λ row. not (same_nexus row.nexus nexus)) table.rows once

reserved_beside_once : (reservation : Option Reservation) (kind : ReservationType) (nexus : NexusName) (table : TableState) → AreOnce table.rows
    → Left (reserved_beside reservation kind nexus table)
reserved_beside_once None kind nexus table once = once
reserved_beside_once (Some reservation) kind nexus table once =
    either (is_held_by nexus table.rows reservation && is_same_type reservation.kind kind) _ _ (λ held. once) (λ other. once)

released_from_once : (reservation : Option Reservation) (kind : ReservationType) (nexus : NexusName) (table : TableState) → AreOnce table.rows
    → Left (released_from reservation kind nexus table)
released_from_once None kind nexus table once = once
released_from_once (Some reservation) kind nexus table once =
    either (not (is_held_by nexus table.rows reservation)) _ _ (λ other. once) (λ held.
    either (not (is_same_type reservation.kind kind)) _ _ (λ other. once) (λ same. once))

taken_over_once : (kind : Option ReservationType) (others : Others) (nexus : NexusName) (table : TableState) → AreOnce table.rows
    → Left (taken_over kind others nexus table)
unfolding taken_over
taken_over_once None others nexus table once = once
taken_over_once (Some kind) others nexus table once = AreOnce-filter (λ row. not (is_chosen others nexus row)) table.rows once

removed_once : (others : Others) (nexus : NexusName) (table : TableState) → AreOnce table.rows → Left (removed others nexus table)
unfolding removed
removed_once others nexus table once = AreOnce-filter (λ row. not (is_chosen others nexus row)) table.rows once

preempted_once : (kind : Option ReservationType) (key : ℕ) (nexus : NexusName) (table : TableState) → AreOnce table.rows
    → Left (preempted kind key nexus table)
unfolding preempted
preempted_once kind key nexus table once =
    either (key == 0) _ _
    (λ zero. either (is_held_by_all table.reservation) _ _ (λ all. taken_over_once kind All nexus table once) (λ one. once))
    (λ given. either (is_held_by_one key table.rows table.reservation) _ _ (λ held. taken_over_once kind (WithKey key) nexus table once)
    (λ other. either (has_key key table.rows) _ _ (λ some. removed_once (WithKey key) nexus table once) (λ none. once)))

acted_once : (request : Request) (key : ℕ) (nexus : NexusName) (table : TableState) → AreOnce table.rows → Left (acted request key nexus table)
unfolding reserved released cleared
acted_once Register key nexus table once =
    either (key == 0) _ _ (λ zero. unregistered_once nexus table once) (λ given. registered_once key nexus table once)
acted_once RegisterAndIgnoreExistingKey key nexus table once =
    either (key == 0) _ _ (λ zero. unregistered_once nexus table once) (λ given. registered_once key nexus table once)
acted_once (Reserve kind) key nexus table once = reserved_beside_once table.reservation kind nexus table once
acted_once (Release kind) key nexus table once = released_from_once table.reservation kind nexus table once
acted_once Clear key nexus table once = tt
acted_once (Preempt kind) key nexus table once = preempted_once kind key nexus table once

pub asked_once : (request : Result Request Condition) (list : Result ParameterList Condition) (nexus : NexusName) (table : TableState)
    → AreOnce table.rows → AreOnce (asked request list nexus table).0.rows
asked_once (Err condition) list nexus table once = once
asked_once (Ok request) (Err condition) nexus table once = once
asked_once (Ok request) (Ok list) nexus table once =
    either (may_ask request (own_key nexus table.rows) list.key) _ _ (λ may. acted_once request list.action_key nexus table once) (λ conflict. once)
