-- The World, the machine that the target is: plain lists of what came and what was answered, and the units.
use Rattle.std.specs.Prelude.{ℕ, ◌+◌, List, [], ◌∷◌, ◌++◌, fold, length, map, find, Bool, false, ◌&&◌, not, ◌==◌, Option, Some, None, slice_index_or, slice_set, if◌then◌else◌}
use Rattle.std.specs.List.{list_any}
use Rattle.iscsi_pdu.specs.Frames.{Frame}
use Rattle.iscsi_pdu.specs.Header.{opcode_number}
use Rattle.iscsi_pdu.specs.declared.answer.Answer.{Answer}
use Rattle.iscsi_pdu.specs.declared.answer.Answer.TheVariants as answers
use Rattle.iscsi_pdu.specs.LoginRequest.{tsih}
use Rattle.iscsi_pdu.specs.Header.{lun_field}
use Rattle.iscsi_pdu.specs.TaskManagement.{task_function, function_code}
use Rattle.iscsi_pdu.specs.declared.task_management.TaskFunction.{TaskFunction}
use Rattle.iscsi_pdu.specs.declared.task_management.TaskFunction.TheVariants as functions
use Rattle.scsi_sense.specs.Nexus.{NexusName}
use Rattle.scsi_sense.specs.declared.condition.Attention.{Attention}
use Rattle.scsi_sense.specs.declared.condition.Attention.TheVariants.{BusDeviceResetFunctionOccurred, CommandsClearedByAnotherInitiator}
use Rattle.scsi_unit.specs.Units.{UnitStates, join, leave, numbers_of, raised_at, raised_for_all_at, raised_everywhere}
use Rattle.iscsi_login.specs.Directory.{KnownTargets}
use Rattle.iscsi_login.specs.Session.{Live, is_same_target, named_by, older}
use Rattle.iscsi_login.specs.Lookup.{Lookup}
use Rattle.iscsi_login.specs.Login.{login}
use Rattle.iscsi_login.specs.declared.session_params.SessionParams.{SessionParams}
use Rattle.iscsi_login.specs.declared.reply.Reply.{Reply}
use Rattle.iscsi_login.specs.declared.reply.Reply.TheVariants.{GoOn, Full, Refused}
use Rattle.iscsi_session.specs.Requests.{Past, begun as begun_past, removing}
use Rattle.iscsi_session.specs.AbortScope.{scope_of, is_for_all, attention_of}
use Rattle.iscsi_session.specs.Functions.{FunctionReach, reached}
use Rattle.iscsi_session.specs.Comings.{Coming, lend}
use Rattle.iscsi_session.specs.Steps.{Step, Work, begun_work, served, settled}
use Rattle.iscsi_world.specs.History.{Event, Open, Bytes, Gone, Point, Arriving, Before, AtEnd, Mark, is_same, Happening, History, Arrival, Whole, TooLong, new_arrivals, connections}
use Rattle.iscsi_world.specs.Life.{Life, Phase, LoggingIn, FullFeature, Closing, Over, born, reads, is_over, past_in, session_in, ended_in}

-- the configuration of the target: the targets' names and their portal, and the units of each, in order
pub record Setting : Type 0 where
  pub directory : KnownTargets
  pub units : List UnitStates

pub record World : Type 0 where
  -- in the order in which they began
  pub lives : List Life
  -- of each target
  pub units : List UnitStates
  -- the points that the last event reached, in order
  pub reached : List Mark
  -- how the commands that are still to be done in this event come out, in order
  pub comings : List Coming

-- ---- lives

-- the life that is not over
abbrev pub is_present : ℕ → Life → Bool
is_present c life = life.connection == c && not (is_over life.phase)

unfoldable pub present : ℕ → World → Option Life
present c w = find (is_present c) w.lives

-- the list with f applied to the first life that passes p
abbrev pub changed_first : (Life → Bool) → (Life → Life) → List Life → List Life
changed_first p f [] = []
changed_first p f (life ∷ lives) = if p life then f life ∷ lives else life ∷ changed_first p f lives

-- the World with f applied to a connection's present life
unfoldable pub changed : (Life → Life) → ℕ → World → World
changed f c w = record w { lives = changed_first (is_present c) f w.lives }

abbrev pub reads_life : Option Life → Bool
reads_life None = false
reads_life (Some life) = reads life.phase

abbrev pub session_of : Option Life → Option SessionParams
session_of None = None
session_of (Some life) = session_in life.phase

abbrev pub past_of : Option Life → Option Past
past_of None = None
past_of (Some life) = past_in life.phase

-- the sessions in full feature phase, by the number of their connection
unfoldable pub live : World → Live
live w = map (λ c. session_of (present c w)) connections

-- the units of a session's target; a discovery session has no target, and no units
abbrev pub units_at : Option ℕ → List UnitStates → UnitStates
units_at None all = []
units_at (Some target) all = slice_index_or all target []

abbrev pub with_units : Option ℕ → UnitStates → List UnitStates → List UnitStates
with_units None units all = all
with_units (Some target) units all = slice_set all target units

-- the units of all targets, with f applied to those of one
unfoldable pub changed_units : (UnitStates → UnitStates) → Option ℕ → List UnitStates → List UnitStates
changed_units f target all = with_units target (f (units_at target all)) all

-- a session that ends leaves its target's units
abbrev pub left : Option SessionParams → List UnitStates → List UnitStates
left None all = all
left (Some session) all = changed_units (leave session.nexus) session.target all

-- ---- the end of a session

-- Closes a connection, after a violation, a refused login, a Logout that closes, or an allocation that failed. Later
-- frames of the connection do nothing, and its session ends (profile; RFC 7143 §4.2.6).
unfoldable pub close : ℕ → World → World
close c w = record (changed (ended_in Closing) c w) { units = left (session_of (present c w)) w.units }

-- the Gone of a connection
abbrev pub over : ℕ → Life → Life
over c life = if is_present c life then ended_in Over life else life

unfoldable pub end : ℕ → World → World
end c w = record w { lives = map (over c) w.lives; units = left (session_of (present c w)) w.units }

-- ---- marks

unfoldable pub is_marked : List Mark → ℕ → Point → Bool
is_marked marks c point = list_any (λ mark. is_same mark (record { connection = c; point = point })) marks

-- the World after these points were reached
abbrev pub reaching : ℕ → List Point → World → World
reaching c points w = record w { reached = w.reached ++ map (λ point. record { connection = c; point = point }) points }

-- a step of a connection at a point: done unless the connection is closed, or an allocation failed there
unfoldable pub take_step : List Mark → ℕ → Point → (World → World) → World → World
take_step marks c point act w =
    if not (reads_life (present c w)) then w
    else if is_marked marks c point then close c (reaching c (point ∷ []) w)
    else act (reaching c (point ∷ []) w)

-- ---- login (RFC 7143 §6.3)

-- one more answer
abbrev pub answered : Answer → Life → Life
answered answer life = record life { answers = life.answers ++ answer ∷ [] }

abbrev pub asked : Frame → Life → Life
asked request life = record life { requests = life.requests ++ request ∷ [] }

-- full feature phase begins
abbrev pub begun : SessionParams → Answer → Life → Life
begun session answer life = record (answered answer life) { phase = FullFeature (begun_past session) }

-- the older connection closes, and what waits on it is still sent
abbrev pub end_older : Option ℕ → World → World
end_older None w = w
end_older (Some d) w = changed (ended_in Closing) d w

-- full feature phase begins on a connection, and its nexus joins the target's units anew
abbrev pub begins : SessionParams → Answer → ℕ → World → World
begins session answer c w = record (changed (begun session answer) c w) { units = changed_units (join session.nexus) session.target w.units }

-- When a session begins, an older one of the same nexus with the same target ends (RFC 7143 §6.3.5).
abbrev pub replied : Reply → ℕ → World → World
replied (GoOn response) c w = changed (answered (answers.LoginResponse response)) c w
replied (Refused response) c w = close c (changed (answered (answers.LoginResponse response)) c w)
replied (Full response session) c w = end_older (older session (live w)) (begins session (answers.LoginResponse response) c w)

abbrev pub requests_of : Option Life → List Frame
requests_of None = []
requests_of (Some life) = life.requests

-- what else a Login request is judged by: the targets, and the session whose TSIH it bears
abbrev pub lookup_for : KnownTargets → Live → Frame → Lookup
lookup_for directory live request = record { directory = directory; named = named_by (tsih request.header) live }

-- The reply to a request is a function of all Login requests of the life. The session of connection c has TSIH c + 1.
unfoldable pub log_in : Setting → ℕ → Frame → World → World
log_in s c request w = replied (login (c + 1) (requests_of (present c w)) (lookup_for s.directory (live w) request) request) c (changed (asked request) c w)

-- ---- full feature phase

-- a session at work, with the units of its target
abbrev pub work_of : Past → World → Work
work_of past w = begun_work past (lend (units_at past.params.target w.units) w.comings)

abbrev pub fails : List Mark → ℕ → Step → Bool
fails marks c step = is_marked marks c (Before step)

abbrev pub with_past : Past → Life → Life
with_past past life = record life { phase = FullFeature past }

-- the World after the steps of a session
abbrev pub worked_on : ℕ → Work → World → World
worked_on c work w = record (reaching c (map Before work.reached) (changed (with_past work.past) c w))
    { units = with_units work.past.params.target work.units.states w.units; comings = work.units.comings }

-- a session that does not go on ends
unfoldable pub worked : ℕ → Work → World → World
worked c work w = if work.goes_on then worked_on c work w else close c (worked_on c work w)

abbrev pub served_by : Option Past → List Mark → ℕ → ℕ → Frame → World → World
served_by None marks c place frame w = w
served_by (Some past) marks c place frame w = worked c (served (fails marks c) place frame (work_of past w)) w

-- a frame is judged, and the requests that it lets be taken act
unfoldable pub take_in : List Mark → ℕ → ℕ → Frame → World → World
take_in marks c place frame w = served_by (past_of (present c w)) marks c place frame w

-- the Task Management Functions that acted in the session, by their headers
abbrev pub orders_by : Option Past → List Mark → ℕ → ℕ → Frame → World → List (List ℕ)
orders_by None marks c place frame w = []
orders_by (Some past) marks c place frame w = (served (fails marks c) place frame (work_of past w)).orders

unfoldable pub orders_in : List Mark → ℕ → ℕ → Frame → World → List (List ℕ)
orders_in marks c place frame w = orders_by (past_of (present c w)) marks c place frame w

-- ---- the effect of a session's Task Management Function on the rest of its target (RFC 7143 §11.5.1)

abbrev pub function_of : List ℕ → TaskFunction
function_of header = task_function (function_code header)

-- the functions that reach the commands of all sessions of the target
abbrev pub reaches_others : TaskFunction → Bool
reaches_others function = is_for_all (scope_of function)

abbrev pub told : Option Attention → List ℕ → NexusName → UnitStates → UnitStates
told (Some CommandsClearedByAnotherInitiator) lun nexus units = raised_at nexus lun CommandsClearedByAnotherInitiator units
told _ lun nexus units = units

-- SAM-5 "CLEAR TASK SET": a nexus that lost commands gets the unit attention COMMANDS CLEARED BY ANOTHER INITIATOR
abbrev pub told_by : TaskFunction → List ℕ → NexusName → UnitStates → UnitStates
told_by function lun nexus units = told (attention_of function) lun nexus units

-- the commands of a session that the function of another session reaches
abbrev pub reach_from : List ℕ → UnitStates → FunctionReach
reach_from header units = record { function = header; luns = numbers_of units; is_own = false }

abbrev pub lost : List ℕ → UnitStates → Past → List ℕ
lost header units past = reached (reach_from header units) past

abbrev pub told_loss : List ℕ → Past → UnitStates → UnitStates
told_loss header past units =
    if length (lost header units past) == 0 then units else told_by (function_of header) (lun_field header) past.params.nexus units

-- the session loses them
abbrev pub losing : List ℕ → Work → Work
losing header work = record work {
  past = removing (lost header work.units.states work.past) work.past;
  units = lend (told_loss header work.past work.units.states) work.units.comings;
}

abbrev pub lost_by : Option Past → List ℕ → ℕ → ℕ → World → World
lost_by None header target d w = w
lost_by (Some past) header target d w = if is_same_target past.params.target (Some target) then worked_on d (losing header (work_of past w)) w else w

-- the session of any connection but c loses what the function reaches
unfoldable pub lose_one : List ℕ → ℕ → ℕ → World → ℕ → World
lose_one header target c w d = if d == c then w else lost_by (past_of (present d w)) header target d w

-- SAM-5 "Logical unit reset": every nexus gets the unit attention BUS DEVICE RESET FUNCTION OCCURRED. Own: nothing
-- else is reset.
abbrev pub reset_by : TaskFunction → List ℕ → UnitStates → UnitStates
reset_by functions.LogicalUnitReset lun units = raised_for_all_at lun BusDeviceResetFunctionOccurred units
reset_by functions.TargetWarmReset lun units = raised_everywhere BusDeviceResetFunctionOccurred units
reset_by _ lun units = units

unfoldable pub reset : List ℕ → ℕ → World → World
reset header target w = record w { units = changed_units (reset_by (function_of header) (lun_field header)) (Some target) w.units }

-- a function of the session of connection c: the other sessions lose what it reaches, in rising order of connection
-- number
unfoldable pub carry_out : ℕ → ℕ → World → List ℕ → World
carry_out c target w header =
    if reaches_others (function_of header) then reset header target (fold (lose_one header target c) w connections) else w

-- the functions in order, for the session's target, if it has one
abbrev pub carry_out_for : ℕ → Option ℕ → List (List ℕ) → World → World
carry_out_for c None headers w = w
carry_out_for c (Some target) headers w = fold (carry_out c target) w headers

-- ---- the commands that were taken

abbrev pub settled_by : Option Past → List Mark → ℕ → ℕ → ℕ → World → World
settled_by None marks place target c w = w
settled_by (Some past) marks place target c w =
    if is_same_target past.params.target (Some target) then worked c (settled (fails marks c) place (work_of past w)) w else w

-- the commands that a session of this target has taken are done
unfoldable pub settle_one : List Mark → ℕ → ℕ → World → ℕ → World
settle_one marks place target w c = settled_by (past_of (present c w)) marks place target c w

-- the sessions of a target, in rising order of connection number
unfoldable pub settle : List Mark → ℕ → ℕ → World → World
settle marks place target w = fold (settle_one marks place target) w connections

-- the same for the session's target, if it has one
abbrev pub settle_for : List Mark → ℕ → Option ℕ → World → World
settle_for marks place None w = w
settle_for marks place (Some target) w = settle marks place target w

-- a frame of a session with this target
unfoldable pub serve : List Mark → ℕ → ℕ → Option ℕ → Frame → World → World
serve marks c place target frame w =
    settle_for marks place target (carry_out_for c target (orders_in marks c place frame w) (take_in marks c place frame w))

-- ---- one event

-- RFC 7143 §11.2.1.2
unfoldable pub is_login : Frame → Bool
is_login frame = opcode_number frame.header == 0x03

-- the first frame is a Login request, or a violation
abbrev pub enter : Setting → ℕ → Frame → World → World
enter s c frame w = if is_login frame then log_in s c frame w else close c w

-- a frame, in the phase of its connection
abbrev pub taken_in : Setting → List Mark → ℕ → ℕ → Frame → Phase → World → World
taken_in s marks c place frame LoggingIn w = enter s c frame w
taken_in s marks c place frame (FullFeature session) w = serve marks c place session.params.target frame w
taken_in s marks c place frame Closing w = w
taken_in s marks c place frame Over w = w

abbrev pub taken_by : Setting → List Mark → ℕ → ℕ → Frame → Option Life → World → World
taken_by s marks c place frame None w = w
taken_by s marks c place frame (Some life) w = taken_in s marks c place frame life.phase w

-- a header that names too much data is a violation
abbrev pub comes : Setting → List Mark → ℕ → ℕ → Arrival → World → World
comes s marks c place (Whole frame) w = taken_by s marks c place frame (present c w) w
comes s marks c place TooLong w = close c w

-- an arrival on a connection, at its place
unfoldable pub arrive : Setting → List Mark → ℕ → World → ℕ × Arrival → World
arrive s marks c w arrival = take_step marks c (Arriving arrival.0) (comes s marks c arrival.0 arrival.1) w

abbrev pub brought : Option Life → List ℕ → List (ℕ × Arrival)
brought None piece = []
brought (Some life) piece = new_arrivals life.bytes piece

abbrev pub longer : List ℕ → Life → Life
longer piece life = record life { bytes = life.bytes ++ piece }

-- a piece: its arrivals in order, and then the event's end
unfoldable pub bring : Setting → List Mark → ℕ → List ℕ → World → World
bring s marks c piece w = take_step marks c AtEnd (λ v. v) (fold (arrive s marks c) (changed (longer piece) c w) (brought (present c w) piece))

abbrev pub happen : Setting → List Mark → World → Event → World
happen s marks w (Open c) = record w { lives = w.lives ++ born c ∷ [] }
happen s marks w (Bytes c piece) = bring s marks c piece w
happen s marks w (Gone c) = end c w

-- the beginning of an event, in which commands come out as these comings say
abbrev pub begun_event : List Coming → World → World
begun_event comings w = record w { reached = []; comings = comings }

abbrev pub happened : Setting → World → Happening → World
happened s w h = happen s h.marks (begun_event h.comings w) h.event

-- the World of a new target: no life, and the units of the setting
abbrev pub new_world : Setting → World
new_world s = record { lives = []; units = s.units; reached = []; comings = [] }

unfoldable pub world : Setting → History → World
world s history = fold (happened s) (new_world s) history
