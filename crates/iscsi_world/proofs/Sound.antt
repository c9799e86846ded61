-- A target that is sound after a step was so before it, and one that is sure stays so.
use Rattle.std.proofs.Common.{◌≡◌, ℕ, zero, suc, ◌<◌, List, [], ◌∷◌, length, map, set, get_or, Bool, cond, Option, Some, refl, sym, ap, ◌∙◌, subst, arith}
use Rattle.std.specs.Prelude.{All, slice_index_or, slice_set}
use Rattle.std.proofs.Math.Seq.{map-set_same}
use Rattle.std.proofs.lemmas.List.{length-set, length-map, get_or-map, get_or-set_same, get_or-set_other}
use Rattle.std.proofs.lemmas.List.Elements.{All-map}
use Rattle.scsi_sense.specs.Nexus.{NexusName}
use Rattle.scsi_sense.specs.declared.condition.Attention.{Attention}
use Rattle.iscsi_pdu.specs.Header.{lun_field}
use Rattle.iscsi_pdu.specs.declared.task_management.TaskFunction.{TaskFunction}
use Rattle.scsi_unit.specs.Device.{DeviceState}
use Rattle.scsi_unit.specs.State.{UnitState}
use Rattle.scsi_unit.specs.Unit.{names_unit, where_named}
use Rattle.scsi_unit.specs.Units.{UnitStates, AreSound, AreSure, IsSoundDevice, IsSureDevice, join, leave, raised_at, raised_for_all_at, raised_everywhere}
use Rattle.iscsi_pdu.specs.declared.answer.Answer.{Answer}
use Rattle.iscsi_pdu.specs.declared.answer.Answer.TheVariants as answers
use Rattle.iscsi_pdu.specs.Frames.{Frame}
use Rattle.iscsi_login.specs.LoginState.{LoginState}
use Rattle.iscsi_login.specs.Login.{advanced, reply_of}
use Rattle.iscsi_login.specs.declared.session_params.SessionParams.{SessionParams}
use Rattle.iscsi_login.specs.declared.reply.Reply.{Reply}
use Rattle.iscsi_login.specs.declared.reply.Reply.TheVariants.{Full}
use Rattle.iscsi_session.specs.AbortScope.{attention_of}
use Rattle.iscsi_world.specs.World.{left, changed_units, lookup_for, function_of, told, told_by, reset_by}
use Rattle.iscsi_world.specs.Machine.{Machine, IsSound, IsSoundAt, ReflectsSoundness, IsSure, link_at, closed, session_in_phase, sessions, begun, replied, logged_in}

-- ---- one target

-- one target's units are set to others, which are sound only where they were
pub set_back : (all : List UnitStates) (at : ℕ) (units : UnitStates) → at < length all → (AreSound units → AreSound (slice_index_or all at []))
    → (target : ℕ) → AreSound (slice_index_or (slice_set all at units) target []) → AreSound (slice_index_or all target [])
set_back all at units lt back target sound = grind (arith, get_or-set_same, get_or-set_other)

-- ---- the media stay as they are when a nexus joins or leaves

abbrev media : UnitStates → List DeviceState
media units = map (λ (unit : UnitState). unit.device) units

media_map : (f : UnitState → UnitState) (units : UnitStates) → ((unit : UnitState) → (f unit).device ≡ unit.device) → media (map f units) ≡ media units
media_map f [] same = refl
media_map f (unit ∷ units) same = cc (same unit, media_map f units same)

media_changed : (f : UnitStates → UnitStates) (target : Option ℕ) (all : List UnitStates) → ((units : UnitStates) → media (f units) ≡ media units)
    → map media (changed_units f target all) ≡ map media all
unfolding changed_units
media_changed f target all same = grind (arith, map-set_same)

media_left : (o : Option SessionParams) (all : List UnitStates) → map media (left o all) ≡ map media all
unfolding leave
media_left o all = grind (arith, media_changed, media_map)

media_begun : (session : SessionParams) (answer : Answer) (c : ℕ) (machine : Machine)
    → map media (begun session answer c machine).units ≡ map media machine.units
unfolding join
media_begun session answer c machine = grind (arith, media_changed, media_map)

media_replied : (reply : Reply) (login : LoginState) (c : ℕ) (machine : Machine) → map media (replied reply login c machine).units ≡ map media machine.units
media_replied (Full response session) login c machine = media_begun session (answers.LoginResponse response) c machine
media_replied _ login c machine = refl

media_logged_in : (machine : Machine) (c : ℕ) (login : LoginState) (request : Frame)
    → map media (logged_in machine c login request).units ≡ map media machine.units
unfolding logged_in
media_logged_in machine c login request =
    media_replied (reply_of login (lookup_for machine.directory (sessions machine.links) request) request) (advanced machine.directory login request) c machine

media_closed : (machine : Machine) (c : ℕ) → map media (closed machine c).units ≡ map media machine.units
unfolding closed
media_closed machine c = media_left (session_in_phase (link_at machine c).phase) machine.units

as_many : (a b : List UnitStates) → map media a ≡ map media b → length a ≡ length b
as_many a b e = sym (length-map a media) ∙ ap length e ∙ length-map b media

pub closed_units : (machine : Machine) (c : ℕ) → length (closed machine c).units ≡ length machine.units
closed_units machine c = as_many (closed machine c).units machine.units (media_closed machine c)

pub logged_in_units : (machine : Machine) (c : ℕ) (login : LoginState) (request : Frame)
    → length (logged_in machine c login request).units ≡ length machine.units
logged_in_units machine c login request = as_many (logged_in machine c login request).units machine.units (media_logged_in machine c login request)

-- ---- and when it is told of an attention

media_named : (b : Bool) (f : UnitState → UnitState) (unit : UnitState) → (f unit).device ≡ unit.device → (cond b (f unit) unit).device ≡ unit.device
media_named b f unit same = grind arith

media_where : (lun : List ℕ) (f : UnitState → UnitState) (units : UnitStates) → ((unit : UnitState) → (f unit).device ≡ unit.device)
    → media (map (where_named lun f) units) ≡ media units
media_where lun f units same = media_map (where_named lun f) units (λ unit. media_named (names_unit lun unit) f unit (same unit))

media_told : (o : Option Attention) (lun : List ℕ) (nexus : NexusName) (units : UnitStates) → media (told o lun nexus units) ≡ media units
unfolding raised_at
media_told o lun nexus units = grind (arith, media_where)

media_reset : (kind : TaskFunction) (lun : List ℕ) (units : UnitStates) → media (reset_by kind lun units) ≡ media units
unfolding raised_for_all_at raised_everywhere
media_reset kind lun units = grind (arith, media_map)

-- ---- so what holds of each medium stays

of_media : (P : DeviceState → Type 0) (units : UnitStates) → All P (media units) → All (λ unit. P unit.device) units
of_media P units all i d lt = subst P (get_or-map (λ (unit : UnitState). unit.device) units i d d.device lt) (all i d.device (simp length-map lt))

of_all_media : (P : DeviceState → Type 0) (all : List UnitStates) → All (All P) (map media all) → All (All (λ unit. P unit.device)) all
of_all_media P all h i d lt = of_media P (get_or all i d) (subst (All P) (get_or-map media all i d (media d) lt) (h i (media d) (simp length-map lt)))

to_all_media : (P : DeviceState → Type 0) (all : List UnitStates) → All (All (λ unit. P unit.device)) all → All (All P) (map media all)
to_all_media P all h = All-map (All P) media all (λ i d lt. All-map P (λ (unit : UnitState). unit.device) (get_or all i d) (h i d lt))

over_media : (P : DeviceState → Type 0) (a b : List UnitStates) → map media a ≡ map media b → All (All (λ unit. P unit.device)) a
    → All (All (λ unit. P unit.device)) b
over_media P a b e h = of_all_media P b (subst (All (All P)) e (to_all_media P a h))

media_at : (all : List UnitStates) (target : ℕ) → media (slice_index_or all target []) ≡ slice_index_or (map media all) target []
media_at [] target = refl
media_at (units ∷ all) zero = refl
media_at (units ∷ all) (suc target) = media_at all target

-- a target is as sound as its media are
pub media_back : (a b : List UnitStates) → map media a ≡ map media b → (target : ℕ) → AreSound (slice_index_or a target [])
    → AreSound (slice_index_or b target [])
media_back a b e target sound =
    let same = media_at a target ∙ ap (λ (l : List (List DeviceState)). slice_index_or l target []) e ∙ sym (media_at b target) in
    of_media IsSoundDevice (slice_index_or b target []) (subst (All IsSoundDevice) same
    (All-map IsSoundDevice (λ (unit : UnitState). unit.device) (slice_index_or a target []) sound))

media_target : (header : List ℕ) (target : ℕ) (all : List UnitStates)
    → map media (changed_units (reset_by (function_of header) (lun_field header)) (Some target) all) ≡ map media all
media_target header target all = media_changed (reset_by (function_of header) (lun_field header)) (Some target) all
    (λ units. media_reset (function_of header) (lun_field header) units)

pub reset_back : (header : List ℕ) (target : ℕ) (machine : Machine) (at : ℕ)
    → AreSound (slice_index_or (changed_units (reset_by (function_of header) (lun_field header)) (Some target) machine.units) at []) → IsSoundAt at machine
reset_back header target machine at sound = media_back _ machine.units (media_target header target machine.units) at sound

pub reset_sure : (header : List ℕ) (target : ℕ) (machine : Machine) → IsSure machine
    → All AreSure (changed_units (reset_by (function_of header) (lun_field header)) (Some target) machine.units)
reset_sure header target machine sure = over_media IsSureDevice machine.units _ (sym (media_target header target machine.units)) sure

pub reset_units : (header : List ℕ) (target : ℕ) (machine : Machine)
    → length (changed_units (reset_by (function_of header) (lun_field header)) (Some target) machine.units) ≡ length machine.units
reset_units header target machine = as_many _ machine.units (media_target header target machine.units)

over_units : (P : DeviceState → Type 0) (a b : UnitStates) → media a ≡ media b → All (λ unit. P unit.device) a → All (λ unit. P unit.device) b
over_units P a b e h = of_media P b (subst (All P) e (All-map P (λ (unit : UnitState). unit.device) a h))

pub told_sound : (header : List ℕ) (nexus : NexusName) (units : UnitStates)
    → AreSound (told_by (function_of header) (lun_field header) nexus units) → AreSound units
told_sound header nexus units sound = over_units IsSoundDevice _ units (media_told (attention_of (function_of header)) (lun_field header) nexus units) sound

pub told_sure : (header : List ℕ) (nexus : NexusName) (units : UnitStates)
    → AreSure units → AreSure (told_by (function_of header) (lun_field header) nexus units)
told_sure header nexus units sure = over_units IsSureDevice units _ (sym (media_told (attention_of (function_of header)) (lun_field header) nexus units)) sure

pub closed_back : (machine : Machine) (c : ℕ) → ReflectsSoundness machine (closed machine c)
closed_back machine c target sound = media_back (closed machine c).units machine.units (media_closed machine c) target sound

pub closed_sure : (machine : Machine) (c : ℕ) → IsSure machine → IsSure (closed machine c)
closed_sure machine c sure = over_media IsSureDevice machine.units (closed machine c).units (sym (media_closed machine c)) sure

pub logged_in_back : (machine : Machine) (c : ℕ) (login : LoginState) (request : Frame) → ReflectsSoundness machine (logged_in machine c login request)
logged_in_back machine c login request target sound =
    media_back (logged_in machine c login request).units machine.units (media_logged_in machine c login request) target sound

pub logged_in_sure : (machine : Machine) (c : ℕ) (login : LoginState) (request : Frame) → IsSure machine → IsSure (logged_in machine c login request)
logged_in_sure machine c login request sure =
    over_media IsSureDevice machine.units (logged_in machine c login request).units (sym (media_logged_in machine c login request)) sure

pub sure_set : (all : List UnitStates) (at : ℕ) (d units : UnitStates) → (AreSure (get_or all at d) → AreSure units) → All AreSure all
    → All AreSure (set all at units)
sure_set all at d units forth sure k e lt = grind (arith, length-set, get_or-set_same, get_or-set_other)

pub sound_of_sure : (machine : Machine) → IsSure machine → IsSound machine
sound_of_sure machine sure = λ i d lt j e below. (sure i d lt j e below).sound

-- however the machine is written
pub at_as : (a b : Machine) (target : ℕ) → a ≡ b → IsSoundAt target a → IsSoundAt target b
at_as a b target e sound = let P : Machine → Type 0 = λ m. IsSoundAt target m in subst P e sound

pub at_units : (units : List UnitStates) (machine : Machine) (target : ℕ) → units ≡ machine.units → AreSound (slice_index_or units target [])
    → IsSoundAt target machine
at_units units machine target e sound = subst (λ (us : List UnitStates). AreSound (slice_index_or us target [])) e sound

pub sure_as : (a b : Machine) → a ≡ b → IsSure a → IsSure b
sure_as a b e sure = let P : Machine → Type 0 = λ m. IsSure m in subst P e sure
