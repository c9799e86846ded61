-- Why a Login request is refused (RFC 7143 §6.3, §11.12, §11.13.5): ordered lists of rules, of which the first that
-- holds decides.
use Rattle.std.specs.Prelude.{◌≡◌, ⊤, ℕ, List, [], ◌∷◌, ◌++◌, length, find, Bool, false, ◌&&◌, ◌||◌, not, ◌==◌, nat_lt, Option, Some, None, is_none, unwrap_or, option_map, Result, Ok, Err, is_err, codes, bytes_eq, if◌then◌else◌}
use Rattle.std.specs.List.{list_any}
use Rattle.std.specs.Option.{option_or}
use Rattle.iscsi_pdu.specs.LoginRequest.{is_transit, is_continued, current_stage, next_stage, version_min, isid, tsih}
use Rattle.iscsi_pdu.specs.Stage.{stage_number}
use Rattle.iscsi_pdu.specs.Frames.{Frame}
use Rattle.iscsi_pdu.specs.declared.stage.Stage.{Stage}
use Rattle.iscsi_pdu.specs.declared.stage.Stage.TheVariants.{FullFeaturePhase}
use Rattle.iscsi_pdu.specs.declared.login_response.LoginRefusal.{LoginRefusal}
use Rattle.iscsi_pdu.specs.declared.login_response.LoginRefusal.TheVariants.{InitiatorError, TargetNotFound, UnsupportedVersion, TooManyConnections, MissingParameter, SessionDoesNotExist}
use Rattle.iscsi_text.specs.Pairs.{Pair, text_pairs, longest_text, value_of}
use Rattle.iscsi_login.specs.Number.{number_in}
use Rattle.iscsi_login.specs.Keys.{is_answer, is_name_key}
use Rattle.iscsi_login.specs.Values.{is_segment_key}
use Rattle.iscsi_login.specs.Session.{is_of, target_named}
use Rattle.iscsi_login.specs.Lookup.{Lookup}
use Rattle.iscsi_login.specs.Directory.{KnownTargets}
use Rattle.iscsi_login.specs.LoginState.{LoginState, opening_of}
use Rattle.iscsi_login.specs.declared.fault.Fault.{Fault}
use Rattle.iscsi_login.specs.declared.fault.Fault.TheVariants as faults
use Rattle.iscsi_login.specs.declared.opening.Opening.{Opening}
use Rattle.iscsi_login.specs.declared.session_params.SessionParams.{SessionParams}
use Rattle.iscsi_login.specs.declared.requested_session.RequestedSession.{RequestedSession}

-- a request is refused if the rule holds
pub record Rule : Type 0 where
  pub holds : Bool
  pub refusal : LoginRefusal

abbrev pub rule : Bool → LoginRefusal → Rule
rule holds refusal = record { holds = holds; refusal = refusal }

-- the first rule that holds
abbrev pub refusal_by : List Rule → Option LoginRefusal
refusal_by rules = option_map (λ r. r.refusal) (find (λ r. r.holds) rules)

-- ---- the values that a request is compared with

-- what the first request set, or what this one sets if it is the first
abbrev pub opening_with : LoginState → List ℕ → Opening
opening_with login header = unwrap_or login.opening (opening_of header)

abbrev pub stage_with : LoginState → List ℕ → Option Stage
stage_with login header = option_or login.stage (current_stage header)

abbrev pub is_same_stage : Option Stage → Option Stage → Bool
is_same_stage (Some a) (Some b) = stage_number a == stage_number b
is_same_stage _ _ = false

-- RFC 7143 §6.3: a stage of a login
abbrev pub is_login_stage : Option Stage → Bool
is_login_stage None = false
is_login_stage (Some stage) = not (stage_number stage == stage_number FullFeaturePhase)

-- RFC 7143 §6.3: the first stage comes after the second
abbrev pub is_behind : Option Stage → Option Stage → Bool
is_behind (Some stage) (Some other) = nat_lt (stage_number other) (stage_number stage)
is_behind _ _ = false

-- a piece of the last answer is still to be sent
abbrev pub is_due : LoginState → Bool
is_due login = nat_lt 0 (length login.due)

-- all text since the last whole text
abbrev pub joined : LoginState → Frame → List ℕ
joined login request = login.kept ++ request.body

-- RFC 7143 §11.12.5, §11.12.6: the ISID or the TSIH differs from that of the first request
unfoldable pub is_other_session : LoginState → List ℕ → Bool
is_other_session login header =
    let opening = opening_with login header in
    not (bytes_eq (isid header) opening.isid) || not (tsih header == opening.tsih)

-- RFC 7143 §6.2: while a piece of an answer is due, a request has neither text nor C
unfoldable pub interrupts : LoginState → Frame → Bool
interrupts login request = is_due login && (is_continued request.header || nat_lt 0 (length request.body))

-- own: a text that is continued is longer than what is kept
unfoldable pub is_too_long : LoginState → Frame → Bool
is_too_long login request = is_continued request.header && nat_lt longest_text (length (joined login request))

-- ---- the rules

-- for the request itself (RFC 7143 §11.12)
abbrev pub rules_of_request : LoginState → Frame → List Rule
rules_of_request login request =
    let header = request.header in
    rule (nat_lt 0 (version_min header)) UnsupportedVersion
    ∷ rule (not (is_login_stage (current_stage header))) InitiatorError
    ∷ rule (is_transit header && not (is_behind (next_stage header) (current_stage header))) InitiatorError
    ∷ rule (is_transit header && is_continued header) InitiatorError
    ∷ rule (not (is_same_stage (current_stage header) (stage_with login header))) InitiatorError
    ∷ rule (is_other_session login header) InitiatorError
    ∷ rule (interrupts login request) InitiatorError
    ∷ rule (is_too_long login request) InitiatorError
    ∷ []

-- why the request itself is refused
unfoldable pub request_refusal : LoginState → Frame → Option LoginRefusal
request_refusal login request = refusal_by (rules_of_request login request)

-- a whole text is read if no more of it comes, and no piece of the last answer is due
abbrev pub reads_text : LoginState → Frame → Bool
reads_text login request = not (is_due login) && not (is_continued request.header)

-- the value of a key, or nothing
unfoldable pub said : List ℕ → List Pair → List ℕ
said key pairs = unwrap_or (value_of key pairs) []

-- RFC 7143 §13.21: Normal if no type is given
unfoldable pub session_type : List Pair → List ℕ
session_type pairs = unwrap_or (value_of (codes "SessionType") pairs) (codes "Normal")

unfoldable pub is_normal : List Pair → Bool
is_normal pairs = bytes_eq (session_type pairs) (codes "Normal")

unfoldable pub is_discovery : List Pair → Bool
is_discovery pairs = bytes_eq (session_type pairs) (codes "Discovery")

-- RFC 7143 §4.2.7.2: a name is up to 223 bytes
abbrev pub longest_name : ℕ
longest_name = 223

-- own: a name that counts is too long; in a discovery session only the initiator's counts
abbrev pub has_long_name : List Pair → Bool
has_long_name pairs =
    nat_lt longest_name (length (said (codes "InitiatorName") pairs))
    || is_normal pairs && nat_lt longest_name (length (said (codes "TargetName") pairs))

-- for the names in the first whole text (RFC 7143 §6.3, §13.4, §13.5, §13.21)
abbrev pub rules_of_names : List (List ℕ) → List Pair → List Rule
rules_of_names names pairs =
    let target = said (codes "TargetName") pairs in
    rule (length (said (codes "InitiatorName") pairs) == 0) MissingParameter
    ∷ rule (not (is_normal pairs) && not (is_discovery pairs)) InitiatorError
    ∷ rule (is_normal pairs && length target == 0) MissingParameter
    ∷ rule (has_long_name pairs) InitiatorError
    ∷ rule (is_normal pairs && is_none (target_named names target)) TargetNotFound
    ∷ []

-- for the session that it asks for: a TSIH other than 0 would join one (RFC 7143 §6.3.1, §11.12.6)
abbrev pub rules_of_handle : RequestedSession → ℕ → Option SessionParams → List Rule
rules_of_handle session handle named =
    rule (is_of session.nexus session.target named) TooManyConnections
    ∷ rule (not (handle == 0)) SessionDoesNotExist
    ∷ []

abbrev pub is_again_after : Pair → Option (List ℕ) → Bool
is_again_after pair None = false
is_again_after pair (Some value) = not (is_name_key pair.0 && bytes_eq value pair.1)

-- RFC 7143 §6.3: a key is negotiated once; own: a name may be repeated as it is
abbrev pub is_again : List Pair → Pair → Bool
is_again earlier pair = is_again_after pair (value_of pair.0 earlier)

-- RFC 7143 §13.12
unfoldable pub is_segment_refused : Pair → Bool
is_segment_refused pair = is_segment_key pair.0 && not (is_answer pair.1) && is_none (number_in 512 16777215 pair.1)

-- for the keys of a whole text, and those before it
abbrev pub rules_of_keys : List Pair → List Pair → List Rule
rules_of_keys earlier pairs =
    rule (list_any (is_again earlier) pairs) InitiatorError
    ∷ rule (list_any is_segment_refused pairs) InitiatorError
    ∷ []

-- the pairs of a text, or none if it is at fault
abbrev pub pairs_read : {F : Type 0} → Result (List Pair) F → List Pair
pairs_read (Ok pairs) = pairs
pairs_read (Err fault) = []

-- the pairs of the text that a request completes
unfoldable pub pairs_with : LoginState → Frame → List Pair
pairs_with login request = pairs_read (text_pairs (joined login request))

-- the target that is asked for: a discovery session has none
unfoldable pub target_asked : List (List ℕ) → List Pair → Option ℕ
target_asked names pairs = if is_normal pairs then target_named names (said (codes "TargetName") pairs) else None

-- RFC 7143 §13.3: a discovery session may learn of all targets, a normal one of its own
unfoldable pub told_of : KnownTargets → List Pair → KnownTargets
told_of directory pairs = if is_normal pairs then record directory { names = said (codes "TargetName") pairs ∷ [] } else directory

-- the session that the first whole text asks for: its nexus, its target, and the targets that it may learn of
unfoldable pub asked_for : KnownTargets → List ℕ → List Pair → RequestedSession
asked_for directory header pairs = record {
  nexus = record { initiator_name = said (codes "InitiatorName") pairs; isid = isid header };
  target = target_asked directory.names pairs;
  directory = told_of directory pairs;
}

-- for the first whole text
unfoldable pub first_refusal : Lookup → List ℕ → List Pair → Option LoginRefusal
first_refusal lookup header pairs =
    option_or (refusal_by (rules_of_names lookup.directory.names pairs))
    (refusal_by (rules_of_handle (asked_for lookup.directory header pairs) (tsih header) lookup.named))

abbrev pub session_refusal : Option RequestedSession → Lookup → List ℕ → List Pair → Option LoginRefusal
session_refusal None lookup header pairs = first_refusal lookup header pairs
session_refusal (Some session) lookup header pairs = None

-- for the form of a text (RFC 7143 §6.1)
abbrev pub text_fault : LoginState → Frame → Option LoginRefusal
text_fault login request = if is_err (text_pairs (joined login request)) then Some InitiatorError else None

-- for a whole text: its form, the session that it asks for, its keys
unfoldable pub text_refusal : LoginState → Lookup → Frame → Option LoginRefusal
text_refusal login lookup request =
    option_or (text_fault login request)
    (option_or (session_refusal login.session lookup request.header (pairs_with login request))
    (refusal_by (rules_of_keys login.earlier (pairs_with login request))))

-- the session that the first whole text asks for
abbrev pub asked_by : Option RequestedSession → KnownTargets → List ℕ → List Pair → Option RequestedSession
asked_by None directory header pairs = Some (asked_for directory header pairs)
asked_by (Some session) directory header pairs = None

-- Why a request is refused, if it is.
unfoldable pub refusal_of : LoginState → Lookup → Frame → Option LoginRefusal
refusal_of login lookup request =
    option_or (request_refusal login request)
    (if reads_text login request then text_refusal login lookup request else None)

-- the fault agrees with the refusal, unless an allocation failed
abbrev pub Tells : Option LoginRefusal → Fault → Type 0
Tells said (faults.Refused refusal) = said ≡ Some refusal
Tells said faults.Memory = ⊤
