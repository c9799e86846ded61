-- The dialogue of a login (RFC 7143 §6.3, §11.12, §11.13): the answer to each request, and what is remembered of it.
use Rattle.std.specs.Prelude.{ℕ, ◌+◌, ◌^◌, ◌%◌, List, [], ◌∷◌, ◌++◌, length, take, drop, fold, Bool, true, false, ◌&&◌, ◌||◌, not, nat_lt, Option, Some, None, unwrap_or, option_map, option_to_list, codes, if◌then◌else◌, ⊤, ◌≡◌}
use Rattle.std.specs.List.{filter_map}
use Rattle.std.specs.Option.{option_or}
use Rattle.iscsi_pdu.specs.Header.{initiator_task_tag}
use Rattle.iscsi_pdu.specs.LoginRequest.{is_transit, current_stage, next_stage, isid, tsih}
use Rattle.iscsi_pdu.specs.Frames.{Frame}
use Rattle.iscsi_pdu.specs.declared.stamp.Stamp.{Stamp}
use Rattle.iscsi_pdu.specs.declared.stage.Stage.{Stage}
use Rattle.iscsi_pdu.specs.declared.stage.Stage.TheVariants.{OperationalNegotiation, FullFeaturePhase}
use Rattle.iscsi_pdu.specs.declared.login_response.LoginResponse.{LoginResponse}
use Rattle.iscsi_pdu.specs.declared.login_response.LoginRefusal.{LoginRefusal}
use Rattle.iscsi_pdu.specs.declared.login_response.LoginStep.{LoginStep}
use Rattle.iscsi_pdu.specs.declared.login_response.LoginStep.TheVariants as steps
use Rattle.iscsi_pdu.specs.declared.login_response.LoginReply.{LoginReply}
use Rattle.iscsi_pdu.specs.declared.login_response.LoginReply.TheVariants as replies
use Rattle.iscsi_text.specs.Pairs.{Pair, text_of}
use Rattle.iscsi_login.specs.Keys.{result_text, key_result}
use Rattle.iscsi_login.specs.declared.keys.KeyResult.{KeyResult}
use Rattle.iscsi_login.specs.Values.{AreInRange, with_pairs}
use Rattle.iscsi_login.specs.declared.values.Values.{Values}
use Rattle.iscsi_login.specs.Lookup.{Lookup}
use Rattle.iscsi_login.specs.Directory.{KnownTargets}
use Rattle.iscsi_login.specs.LoginState.{LoginState, IsTargetBelow, AsksBelow, new_login}
use Rattle.iscsi_login.specs.Rules.{opening_with, stage_with, is_same_stage, is_due, joined, reads_text, pairs_with, is_normal, asked_by, refusal_of}
use Rattle.iscsi_login.specs.declared.session_params.SessionParams.{SessionParams}
use Rattle.iscsi_login.specs.declared.reply.Reply.{Reply}
use Rattle.iscsi_login.specs.declared.reply.Reply.TheVariants.{GoOn, Full, Refused}
use Rattle.iscsi_login.specs.declared.requested_session.RequestedSession.{RequestedSession}

-- ---- the text of an answer

-- own: the longest piece of an answer's text, in bytes
abbrev pub longest_piece : ℕ
longest_piece = 8192

abbrev pub answered_pair : Pair → Option Pair
answered_pair pair = option_map (λ text. (pair.0, text)) (key_result pair.0 pair.1)

-- RFC 7143 §6.1, §6.2: the answer of a key with this result, as it is spelled in a text; empty without an answer
abbrev pub answered_text : List ℕ → KeyResult → List ℕ
answered_text key result = text_of (option_to_list (option_map (λ text. (key, text)) (result_text result)))

-- RFC 7143 §13.9: the tag of the only portal group
abbrev pub portal_group : Bool → List Pair
portal_group tells_group = if tells_group then (codes "TargetPortalGroupTag", codes "1") ∷ [] else []

-- RFC 7143 §13.12: the most data that the target accepts in one PDU
abbrev pub declaration : Bool → List Pair
declaration is_told = if is_told then (codes "MaxRecvDataSegmentLength", codes "262144") ∷ [] else []

-- the pairs of a whole answer: the results are in the order of the offers
unfoldable pub answer_pairs : Bool → Bool → List Pair → List Pair
answer_pairs tells_group is_told offers = portal_group tells_group ++ filter_map answered_pair offers ++ declaration is_told

-- RFC 7143 §13.9: the tag is in the first whole answer of a Normal session
abbrev pub tells_group : Option RequestedSession → List Pair → Bool
tells_group None pairs = is_normal pairs
tells_group (Some session) pairs = false

-- the request is in operational negotiation
abbrev pub is_operational : List ℕ → Bool
is_operational header = is_same_stage (current_stage header) (Some OperationalNegotiation)

-- the target declares its segment in the first whole answer of operational negotiation
abbrev pub declares : LoginState → List ℕ → Bool
declares login header = is_operational header && not login.declared

-- ---- what is remembered

-- a request with C: its text is kept
abbrev pub kept_with : LoginState → Frame → LoginState
kept_with login request = record login { kept = joined login request }

-- a whole text is read, and its answer is due
unfoldable pub heard : KnownTargets → LoginState → List ℕ → List Pair → LoginState
heard directory login header pairs = record login {
  kept = [];
  earlier = login.earlier ++ pairs;
  session = option_or login.session (asked_by login.session directory header pairs);
  values = with_pairs login.values pairs;
  declared = login.declared || is_operational header;
  due = text_of (answer_pairs (tells_group login.session pairs) (declares login header) pairs);
}

-- what a request adds, before it is answered
abbrev pub brought : KnownTargets → LoginState → Frame → LoginState
brought directory login request =
    if reads_text login request then heard directory login request.header (pairs_with login request)
    else if is_due login then login
    else kept_with login request

-- RFC 7143 §11.13.6, §11.13.7: the stage changes with the last piece of an answer, if its request asks for it
abbrev pub step_of : List ℕ → List ℕ → LoginStep
step_of header due =
    if nat_lt longest_piece (length due) then steps.Continued
    else if is_transit header then steps.Enters (unwrap_or (next_stage header) FullFeaturePhase)
    else steps.Stays

abbrev pub stage_after : Option Stage → LoginStep → Option Stage
stage_after stage (steps.Enters next) = Some next
stage_after stage _ = stage

-- the next piece of the answer is sent
abbrev pub answered : LoginState → List ℕ → LoginState
answered login header = record login {
  opening = Some (opening_with login header);
  stage = stage_after (stage_with login header) (step_of header login.due);
  answers = (login.answers + 1) % 2 ^ 32;
  due = drop longest_piece login.due;
}

-- what is remembered after a request that is not refused
unfoldable pub advanced : KnownTargets → LoginState → Frame → LoginState
advanced directory login request = answered (brought directory login request) request.header

-- what is remembered of the requests of a login
unfoldable pub remembered : KnownTargets → ℕ → List Frame → LoginState
remembered directory handle requests = fold (advanced directory) (new_login handle) requests

-- ---- the answer

-- RFC 7143 §4.2.2.1, §4.2.2.2: StatSN counts the answers, ExpCmdSN is the CmdSN of the first request, and 32 commands
-- may be sent (own)
unfoldable pub login_stamp : LoginState → List ℕ → Stamp
login_stamp login header =
    let first = (opening_with login header).cmd_sn in
    record { stat_sn = login.answers; exp_cmd_sn = first; max_cmd_sn = (first + 31) % 2 ^ 32 }

unfoldable pub login_response : LoginState → Frame → ℕ → LoginReply → LoginResponse
login_response login request handle reply = record {
  isid = isid request.header;
  tsih = handle;
  initiator_task_tag = initiator_task_tag request.header;
  stamp = login_stamp login request.header;
  reply = reply;
}

-- RFC 7143 §11.13: the next piece of the text that is due
abbrev pub accepted : List ℕ → List ℕ → LoginReply
accepted header due = replies.Accepted (record {
  stage = unwrap_or (current_stage header) OperationalNegotiation;
  step = step_of header due;
  text = take longest_piece due;
})

-- the parameters with which full feature phase begins
unfoldable pub params_of : LoginState → List ℕ → RequestedSession → SessionParams
params_of login header session = record {
  nexus = session.nexus;
  target = session.target;
  directory = session.directory;
  connection_id = (opening_with login header).connection_id;
  first_cmd_sn = (opening_with login header).cmd_sn;
  next_stat_sn = (login.answers + 1) % 2 ^ 32;
  values = login.values;
}

-- RFC 7143 §6.3: full feature phase is next
abbrev pub is_last_step : LoginStep → Bool
is_last_step (steps.Enters FullFeaturePhase) = true
is_last_step _ = false

-- RFC 7143 §11.12.6: the session has its TSIH from the answer on that begins full feature phase
abbrev pub handle_with : LoginState → List ℕ → LoginStep → ℕ
handle_with login header step = if is_last_step step then login.handle else tsih header

-- the session that begins with a step, if one does
abbrev pub begun_by : LoginState → LoginStep → Option RequestedSession
begun_by login step = if is_last_step step then login.session else None

abbrev pub reply_with : LoginResponse → LoginState → List ℕ → Option RequestedSession → Reply
reply_with response login header None = GoOn response
reply_with response login header (Some session) = Full response (params_of login header session)

-- the answer to a request that is not refused
unfoldable pub reply_to : LoginState → Frame → Reply
reply_to login request =
    let step = step_of request.header login.due in
    reply_with (login_response login request (handle_with login request.header step) (accepted request.header login.due)) login request.header
    (begun_by login step)

abbrev pub refused_reply : LoginState → Frame → LoginRefusal → Reply
refused_reply login request refusal = Refused (login_response login request (tsih request.header) (replies.Refused refusal))

abbrev pub reply_unless : Option LoginRefusal → Lookup → LoginState → Frame → Reply
reply_unless (Some refusal) lookup login request = refused_reply login request refusal
reply_unless None lookup login request = reply_to (brought lookup.directory login request) request

-- The reply to a request, by what is remembered of those before it.
unfoldable pub reply_of : LoginState → Lookup → Frame → Reply
reply_of login lookup request = reply_unless (refusal_of login lookup request) lookup login request

-- The reply to a request after these others of a login, whose session gets this TSIH.
abbrev pub login : ℕ → List Frame → Lookup → Frame → Reply
login handle before lookup request = reply_of (remembered lookup.directory handle before) lookup request

-- what is remembered after a reply; with full feature phase there is nothing left to remember
abbrev pub IsAfter : KnownTargets → LoginState → Frame → Reply → LoginState → Type 0
IsAfter directory old request (GoOn response) new = new ≡ advanced directory old request
IsAfter directory old request (Refused response) new = new ≡ old
IsAfter directory old request (Full response params) new = ⊤

-- what is remembered after a piece of the answer is sent
abbrev pub IsAnswered : LoginState → Frame → Reply → LoginState → Type 0
IsAnswered old request (GoOn response) new = new ≡ answered old request.header
IsAnswered old request (Refused response) new = ⊥
IsAnswered old request (Full response params) new = ⊤

-- the target of a session that begins is below this count, and so is the target that a login still asks for
abbrev pub IsBelow : ℕ → Reply → LoginState → Type 0
IsBelow count (GoOn response) new = AsksBelow count new.session
IsBelow count (Refused response) new = AsksBelow count new.session
IsBelow count (Full response params) new = IsTargetBelow count params.target × AsksBelow count new.session

-- the session that begins has these values
abbrev pub BeginsWith : Values → Reply → Type 0
BeginsWith values (Full response params) = params.values ≡ values
BeginsWith values _ = ⊤

-- the values of the session that begins are in range
abbrev pub BeginsInRange : Reply → Type 0
BeginsInRange (Full response params) = AreInRange params.values
BeginsInRange _ = ⊤
