-- Logins, computed from the definitions alone.
use Rattle.std.specs.Prelude.{◌≡◌, ℕ, List, [], ◌∷◌, ◌++◌, take, drop, map, replicate, Bool, true, false, Option, Some, None, codes, refl}
use Rattle.std.specs.Str.{is_utf8, chars}
use Rattle.iscsi_pdu.specs.Frames.{Frame}
use Rattle.iscsi_pdu.specs.declared.login_response.LoginResponse.{LoginResponse}
use Rattle.iscsi_pdu.specs.declared.stage.Stage.TheVariants as stages
use Rattle.iscsi_pdu.specs.declared.login_response.LoginRefusal.{LoginRefusal}
use Rattle.iscsi_pdu.specs.declared.login_response.LoginRefusal.TheVariants as refusals
use Rattle.iscsi_pdu.specs.declared.login_response.LoginReply.{LoginReply}
use Rattle.iscsi_pdu.specs.declared.login_response.LoginReply.TheVariants as replies
use Rattle.iscsi_pdu.specs.declared.login_response.LoginStep.TheVariants as steps
use Rattle.iscsi_pdu.specs.declared.stage.Stage.{Stage}
use Rattle.iscsi_pdu.specs.declared.login_response.LoginStep.{LoginStep}
use Rattle.iscsi_text.specs.Pairs.{text_pairs, pieces, own_fault}
use Rattle.iscsi_login.specs.ExamplesKeys.{computed as keys_computed}
use Rattle.iscsi_login.specs.Session.{target_named}
use Rattle.iscsi_login.specs.Lookup.{Lookup}
use Rattle.iscsi_login.specs.Values.{default_values, with_result, with_pair}
use Rattle.iscsi_login.specs.LoginState.{LoginState}
use Rattle.iscsi_login.specs.Rules.{said, session_type, is_normal, is_discovery, is_segment_refused, pairs_with, target_asked, told_of, asked_for, first_refusal, text_refusal, is_other_session, interrupts, is_too_long, request_refusal, refusal_of}
use Rattle.iscsi_login.specs.Login.{answer_pairs, heard, advanced, remembered, login_stamp, login_response, params_of, reply_to, reply_of}
use Rattle.iscsi_login.specs.declared.session_params.SessionParams.{SessionParams}
use Rattle.iscsi_login.specs.declared.reply.Reply.{Reply}
use Rattle.iscsi_login.specs.declared.reply.Reply.TheVariants.{GoOn, Full, Refused}
use Rattle.iscsi_login.specs.declared.values.Values.{Values}

-- the definitions that the examples unfold
unfoldable pub computed : Bool
unfolding keys_computed is_utf8 chars lib.Utf8.encode text_pairs pieces own_fault target_named with_result with_pair said session_type is_normal is_discovery
    is_segment_refused pairs_with target_asked told_of asked_for first_refusal text_refusal is_other_session interrupts is_too_long request_refusal refusal_of
    answer_pairs heard advanced remembered login_stamp login_response params_of reply_to reply_of
computed = true

-- ---- requests (RFC 7143 §11.12)

-- a pair of a text, with its terminating zero byte
abbrev pub pair : List ℕ → List ℕ
pair text = text ++ 0 ∷ []

-- Login; byte 1; Version-max, Version-min; TotalAHSLength and DataSegmentLength, which no rule of a login reads; ISID
-- 1; TSIH. Tag 1; CID 7; CmdSN; ExpStatSN; reserved.
abbrev pub header_of : (flags version_min tsih cmd_sn : ℕ) → List ℕ
header_of flags version_min tsih cmd_sn =
    0x43 ∷ flags ∷ 0 ∷ version_min ∷ 0 ∷ 0 ∷ 0 ∷ 0 ∷ 0x80 ∷ 0 ∷ 0 ∷ 0 ∷ 0 ∷ 1 ∷ 0 ∷ tsih ∷
    0 ∷ 0 ∷ 0 ∷ 1 ∷ 0 ∷ 7 ∷ 0 ∷ 0 ∷ 0 ∷ 0 ∷ 0 ∷ cmd_sn ∷ replicate 20 0

-- with CmdSN 9
abbrev pub request : ℕ → List ℕ → Frame
request flags text = record { header = header_of flags 0 0 9; body = text }

-- flags: CSG 0; T, CSG 0, NSG 1; T, CSG 0, NSG 3; CSG 1; T, CSG 1, NSG 3; C, CSG 1
abbrev pub security : ℕ
security = 0x00

abbrev pub security_to_operational : ℕ
security_to_operational = 0x81

abbrev pub security_to_full : ℕ
security_to_full = 0x83

abbrev pub operational : ℕ
operational = 0x04

abbrev pub operational_to_full : ℕ
operational_to_full = 0x87

abbrev pub operational_continued : ℕ
operational_continued = 0x44

-- the initiator `a` and the target `t1`
abbrev pub names : List ℕ
names = pair (codes "InitiatorName=a") ++ pair (codes "TargetName=t1")

-- ---- the visible parts of replies

-- one target `t1`, and no live session
abbrev pub one_target : Lookup
one_target = record { directory = record { names = codes "t1" ∷ []; portal = codes "127.0.0.1:3260" }; named = None }

-- CSG, the step, TSIH, StatSN, ExpCmdSN, MaxCmdSN and the text of an answer; of a refusal the reason
pub data Seen : Type 0 where
  Text : (stage : Stage) (step : LoginStep) (tsih : ℕ) (numbers : List ℕ) (text : List ℕ) → Seen
  Why : (refusal : LoginRefusal) (tsih : ℕ) (numbers : List ℕ) → Seen
  Begun : (seen : Seen) (params : SessionParams) → Seen

abbrev seen_reply : ℕ → List ℕ → LoginReply → Seen
seen_reply tsih numbers (replies.Accepted accepted) = Text accepted.stage accepted.step tsih numbers accepted.text
seen_reply tsih numbers (replies.Refused refusal) = Why refusal tsih numbers

abbrev seen_response : LoginResponse → Seen
seen_response response = seen_reply response.tsih (response.stamp.stat_sn ∷ response.stamp.exp_cmd_sn ∷ response.stamp.max_cmd_sn ∷ []) response.reply

abbrev seen : Reply → Seen
seen (GoOn response) = seen_response response
seen (Refused response) = seen_response response
seen (Full response params) = Begun (seen_response response) params

-- the reply to the last of a login's requests on connection 0
abbrev pub last_reply : Lookup → List Frame → Frame → Seen
last_reply lookup before last = seen (reply_of (remembered lookup.directory 1 before) lookup last)

abbrev pub replied : List Frame → Frame → Seen
replied before last = last_reply one_target before last

abbrev refused_by : LoginRefusal → (count : ℕ) → Seen
refused_by refusal count = Why refusal 0 (count ∷ 9 ∷ 40 ∷ [])

abbrev error : Seen
error = refused_by refusals.InitiatorError 0

-- the parameters of full feature phase for `a` on `t1`
abbrev begun : (count : ℕ) → Values → SessionParams
begun count values = record {
  nexus = record { initiator_name = codes "a"; isid = 0x80 ∷ 0 ∷ 0 ∷ 0 ∷ 0 ∷ 1 ∷ [] };
  target = Some 0;
  directory = one_target.directory;
  connection_id = 7;
  first_cmd_sn = 9;
  next_stat_sn = count;
  values = values;
}

abbrev tag : List ℕ
tag = pair (codes "TargetPortalGroupTag=1")

abbrev segment : List ℕ
segment = pair (codes "MaxRecvDataSegmentLength=262144")

-- ---- logins that succeed

-- in one request
at_once : replied [] (request operational_to_full names)
    ≡ Begun (Text stages.OperationalNegotiation (steps.Enters stages.FullFeaturePhase) 1 (0 ∷ 9 ∷ 40 ∷ []) (tag ++ segment)) (begun 1 default_values)
unfolding computed
at_once = refl

-- with keys: results in the order of the offers; a rejected number leaves the default in force
with_keys : replied [] (request operational_to_full (names ++ pair (codes "AuthMethod=CHAP,None") ++ pair (codes "IFMarker=No")
    ++ pair (codes "X-a=b") ++ pair (codes "MaxBurstLength=100")))
    ≡ Begun (Text stages.OperationalNegotiation (steps.Enters stages.FullFeaturePhase) 1 (0 ∷ 9 ∷ 40 ∷ [])
    (tag ++ pair (codes "AuthMethod=None") ++ pair (codes "IFMarker=No") ++ pair (codes "X-a=NotUnderstood") ++ pair (codes "MaxBurstLength=Reject")
    ++ segment)) (begun 1 default_values)
unfolding computed
with_keys = refl

-- through both stages
abbrev first_of_two : Frame
first_of_two = request security_to_operational (names ++ pair (codes "AuthMethod=None"))

security_first : replied [] first_of_two
    ≡ Text stages.SecurityNegotiation (steps.Enters stages.OperationalNegotiation) 0 (0 ∷ 9 ∷ 40 ∷ []) (tag ++ pair (codes "AuthMethod=None"))
unfolding computed
security_first = refl

then_operational : replied (first_of_two ∷ []) (request operational_to_full (pair (codes "InitialR2T=No")))
    ≡ Begun (Text stages.OperationalNegotiation (steps.Enters stages.FullFeaturePhase) 1 (1 ∷ 9 ∷ 40 ∷ []) (pair (codes "InitialR2T=No")
    ++ segment)) (begun 2 (record default_values { initial_r2t = false }))
unfolding computed
then_operational = refl

-- from security negotiation straight to full feature phase: the target declares nothing
security_only : replied [] (request security_to_full names)
    ≡ Begun (Text stages.SecurityNegotiation (steps.Enters stages.FullFeaturePhase) 1 (0 ∷ 9 ∷ 40 ∷ []) tag) (begun 1 default_values)
unfolding computed
security_only = refl

-- the target declares its segment once, with the first whole answer of operational negotiation
abbrev stays : Frame
stays = request operational names

stays_first : replied [] stays ≡ Text stages.OperationalNegotiation steps.Stays 0 (0 ∷ 9 ∷ 40 ∷ []) (tag ++ segment)
unfolding computed
stays_first = refl

declared_once : replied (stays ∷ []) (request operational_to_full [])
    ≡ Begun (Text stages.OperationalNegotiation (steps.Enters stages.FullFeaturePhase) 1 (1 ∷ 9 ∷ 40 ∷ []) []) (begun 2 default_values)
unfolding computed
declared_once = refl

-- all values in force
all_values : replied [] (request operational_to_full (names ++ pair (codes "MaxRecvDataSegmentLength=0x10000") ++ pair (codes "ImmediateData=No")
    ++ pair (codes "MaxBurstLength=16776192") ++ pair (codes "FirstBurstLength=8192")
    ++ pair (codes "DefaultTime2Wait=5") ++ pair (codes "DefaultTime2Retain=0") ++ pair (codes "MaxOutstandingR2T=8")))
    ≡ Begun (Text stages.OperationalNegotiation (steps.Enters stages.FullFeaturePhase) 1 (0 ∷ 9 ∷ 40 ∷ []) (tag ++ pair (codes "ImmediateData=No")
    ++ pair (codes "MaxBurstLength=262144") ++ pair (codes "FirstBurstLength=8192")
    ++ pair (codes "DefaultTime2Wait=5") ++ pair (codes "DefaultTime2Retain=0") ++ pair (codes "MaxOutstandingR2T=4") ++ segment))
    (begun 1 (record {
      initial_r2t = true;
      immediate_data = false;
      max_recv_data_segment_length = 65536;
      max_burst_length = 262144;
      first_burst_length = 8192;
      default_time2wait = 5;
      default_time2retain = 0;
      max_outstanding_r2t = 4;
    }))
unfolding computed
all_values = refl

-- ---- text in pieces

-- a pair cut in the middle: the answer to the first part is empty, and the texts are joined
abbrev front : Frame
front = request operational_continued (take 20 names)

front_kept : replied [] front ≡ Text stages.OperationalNegotiation steps.Stays 0 (0 ∷ 9 ∷ 40 ∷ []) []
unfolding computed
front_kept = refl

joined_text : replied (front ∷ []) (request operational_to_full (drop 20 names))
    ≡ Begun (Text stages.OperationalNegotiation (steps.Enters stages.FullFeaturePhase) 1 (1 ∷ 9 ∷ 40 ∷ []) (tag ++ segment)) (begun 2 default_values)
unfolding computed
joined_text = refl

-- a text is not joined across a whole answer
not_joined : replied (request operational (names ++ pair (codes "X-a=b")) ∷ []) (request operational_to_full (pair (codes "c=d")))
    ≡ Begun (Text stages.OperationalNegotiation (steps.Enters stages.FullFeaturePhase) 1 (1 ∷ 9 ∷ 40 ∷ []) (pair (codes "c=NotUnderstood")))
    (begun 2 default_values)
unfolding computed
not_joined = refl

-- at most 65536 bytes are kept over requests with C
abbrev much : Frame
much = request operational_continued (replicate 65536 0)

kept_to_the_limit : replied [] much ≡ Text stages.OperationalNegotiation steps.Stays 0 (0 ∷ 9 ∷ 40 ∷ []) []
unfolding computed
kept_to_the_limit = refl

above_the_limit : replied (much ∷ []) (request operational_continued (0 ∷ [])) ≡ refused_by refusals.InitiatorError 1
unfolding computed
above_the_limit = refl

-- ---- refusals

missing : map (λ text. replied [] (request operational_to_full text)) ([] ∷ pair (codes "TargetName=t1") ∷ pair
    (codes "InitiatorName=a") ∷ (pair (codes "InitiatorName=") ++ pair (codes "TargetName=t1")) ∷ [])
    ≡ replicate 4 (refused_by refusals.MissingParameter 0)
unfolding computed
missing = refl

not_found : replied [] (request operational_to_full (pair (codes "InitiatorName=a") ++ pair (codes "TargetName=t9"))) ≡ refused_by refusals.TargetNotFound 0
unfolding computed
not_found = refl

-- a session of another type; an invalid length of a segment; a text of wrong form
in_error : map (λ text. replied [] (request operational_to_full text))
    ((names ++ pair (codes "SessionType=discovery")) ∷ (names ++ pair (codes "SessionType=")) ∷ (names
    ++ pair (codes "MaxRecvDataSegmentLength=511")) ∷ (names ++ pair (codes "MaxRecvDataSegmentLength=0512")) ∷ (names ++ codes "a=b") ∷ [])
    ≡ replicate 5 error
unfolding computed
in_error = refl

-- a length whose value is an answer is ignored
segment_answers : replied [] (request operational_to_full (names ++ pair (codes "MaxRecvDataSegmentLength=Irrelevant")))
    ≡ Begun (Text stages.OperationalNegotiation (steps.Enters stages.FullFeaturePhase) 1 (0 ∷ 9 ∷ 40 ∷ []) (tag ++ segment)) (begun 1 default_values)
unfolding computed
segment_answers = refl

-- CSG 2, CSG 3, NSG 2, NSG not after CSG, T and C together
wrong_stages : map (λ flags. replied [] (request flags names)) (0x08 ∷ 0x0C ∷ 0x86 ∷ 0x84 ∷ 0x85 ∷ 0x80 ∷ 0xC7 ∷ []) ≡ replicate 7 error
unfolding computed
wrong_stages = refl

-- another stage than that of the login; the version is checked first
other_stage : replied (first_of_two ∷ []) (request security_to_full []) ≡ refused_by refusals.InitiatorError 1
unfolding computed
other_stage = refl

version : replied [] (record { header = header_of 0x08 1 0 9; body = [] }) ≡ refused_by refusals.UnsupportedVersion 0
unfolding computed
version = refl

-- a key again, with the same value and with another; a name again as it was, and with another value
abbrev after_keys : List ℕ → Seen
after_keys text = replied (request operational (names ++ pair (codes "InitialR2T=No") ++ pair (codes "X-a=Reject")) ∷ []) (request operational_to_full text)

again : map after_keys (pair (codes "InitialR2T=No") ∷ pair (codes "InitialR2T=Yes") ∷ pair (codes "X-a=b") ∷ pair (codes "TargetName=t2") ∷ [])
    ≡ replicate 4 (refused_by refusals.InitiatorError 1)
unfolding computed
again = refl

name_again : after_keys names ≡ Begun (Text stages.OperationalNegotiation (steps.Enters stages.FullFeaturePhase) 1 (1 ∷ 9 ∷ 40 ∷ []) [])
    (begun 2 (record default_values { initial_r2t = false }))
unfolding computed
name_again = refl

-- a TSIH that is not 0
abbrev joining : Option SessionParams → Seen
joining named = last_reply (record one_target { named = named }) [] (record { header = header_of operational_to_full 0 3 9; body = names })

no_session : joining None ≡ Why refusals.SessionDoesNotExist 3 (0 ∷ 9 ∷ 40 ∷ [])
unfolding computed
no_session = refl

same_session : joining (Some (begun 1 default_values)) ≡ Why refusals.TooManyConnections 3 (0 ∷ 9 ∷ 40 ∷ [])
unfolding computed
same_session = refl

other_session : joining (Some (record (begun 1 default_values) { target = Some 1 })) ≡ Why refusals.SessionDoesNotExist 3 (0 ∷ 9 ∷ 40 ∷ [])
unfolding computed
other_session = refl

-- a discovery session names no target, gets no portal group, and may learn of all targets
discovery : replied [] (request operational_to_full (pair (codes "InitiatorName=a") ++ pair (codes "SessionType=Discovery")))
    ≡ Begun (Text stages.OperationalNegotiation (steps.Enters stages.FullFeaturePhase) 1 (0 ∷ 9 ∷ 40 ∷ []) segment)
    (record (begun 1 default_values) { target = None })
unfolding computed
discovery = refl

-- a discovery session's TargetName is ignored, and no session counts as the same
discovery_elsewhere : replied [] (request operational_to_full (pair (codes "InitiatorName=a") ++ pair (codes "SessionType=Discovery")
    ++ pair (codes "TargetName=t2")))
    ≡ replied [] (request operational_to_full (pair (codes "InitiatorName=a") ++ pair (codes "SessionType=Discovery")))
unfolding computed
discovery_elsewhere = refl

discovery_of_none : replied [] (request operational_to_full (pair (codes "SessionType=Discovery"))) ≡ Why refusals.MissingParameter 0 (0 ∷ 9 ∷ 40 ∷ [])
unfolding computed
discovery_of_none = refl

-- ---- an answer in pieces

-- this many bytes of an answer are due
abbrev owing : ℕ → LoginState
owing count = record (remembered one_target.directory 1 (stays ∷ [])) { due = replicate count 97 }

abbrev then_asked : ℕ → Frame → Seen
then_asked count last = seen (reply_of (owing count) one_target last)

-- T is not agreed before the last piece
piece : then_asked 8193 (request operational_to_full []) ≡ Text stages.OperationalNegotiation steps.Continued 0 (1 ∷ 9 ∷ 40 ∷ []) (replicate 8192 97)
unfolding computed
piece = refl

piece_left : (advanced one_target.directory (owing 8193) (request operational_to_full [])).due ≡ 97 ∷ []
unfolding computed
piece_left = refl

last_piece : then_asked 8192 (request operational_to_full [])
    ≡ Begun (Text stages.OperationalNegotiation (steps.Enters stages.FullFeaturePhase) 1 (1 ∷ 9 ∷ 40 ∷ []) (replicate 8192 97)) (begun 2 default_values)
unfolding computed
last_piece = refl

last_piece_stays : then_asked 3 (request operational []) ≡ Text stages.OperationalNegotiation steps.Stays 0 (1 ∷ 9 ∷ 40 ∷ []) (replicate 3 97)
unfolding computed
last_piece_stays = refl

-- while a piece is due, a request with text or with C is refused
piece_met : map (then_asked 1) (request operational (pair (codes "a=b")) ∷ request operational_continued [] ∷ [])
    ≡ replicate 2 (refused_by refusals.InitiatorError 1)
unfolding computed
piece_met = refl
