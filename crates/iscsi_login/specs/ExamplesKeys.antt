-- Offers of keys, computed: each key of the table with values inside its range, at its limits and outside, and each
-- wrong form.
use Rattle.std.specs.Prelude.{◌≡◌, ℕ, List, [], ◌∷◌, Option, Some, None, Bool, true, false, codes, map, refl}
use Rattle.std.specs.Fmt.{digits}
use Rattle.iscsi_login.specs.Number.{numeral, number_of, number_in}
use Rattle.iscsi_login.specs.Keys.{session_negotiation, transfer_negotiation, negotiation_of, is_listed, boolean_of, result_by, is_answer, is_name_key, is_passed_over, is_known, settled, key_result}

-- the definitions that the examples unfold
unfoldable pub computed : Bool
unfolding digits numeral number_of number_in session_negotiation transfer_negotiation negotiation_of is_listed boolean_of result_by is_answer
    is_name_key is_passed_over is_known settled key_result
computed = true

-- the results of several offers of a key
abbrev answers_to : List ℕ → List (List ℕ) → List (Option (List ℕ))
answers_to key offers = map (key_result key) offers

-- ---- numbers (RFC 7143 §6.1)

-- decimal and hexadecimal, of either case; zeros after 0x
numbers : map number_of (codes "0" ∷ codes "512" ∷ codes "0x200" ∷ codes "0X200" ∷ codes "0x0200" ∷ codes "0xfF" ∷ codes "0x0" ∷ [])
    ≡ Some 0 ∷ Some 512 ∷ Some 512 ∷ Some 512 ∷ Some 512 ∷ Some 255 ∷ Some 0 ∷ []
unfolding computed
numbers = refl

-- a leading zero, a sign, a blank, a letter, 0x alone, nothing, 0x after a zero
no_numbers : map number_of (codes "0512" ∷ codes "00" ∷ codes "+512" ∷ codes "-1" ∷ codes " 512" ∷ codes "512 " ∷ codes "51k" ∷ codes "ff" ∷ codes
    "0x" ∷ codes "0xg" ∷ codes "0x+1" ∷ codes "00x1" ∷ [] ∷ [])
    ≡ None ∷ None ∷ None ∷ None ∷ None ∷ None ∷ None ∷ None ∷ None ∷ None ∷ None ∷ None ∷ None ∷ []
unfolding computed
no_numbers = refl

-- ---- lists (RFC 7143 §12.1, §13.1, §13.23)

authentication : answers_to (codes "AuthMethod") (codes "None" ∷ codes "CHAP,None" ∷ codes "None,CHAP" ∷ codes "CHAP" ∷ codes "none" ∷ codes
    "None " ∷ codes "NoneCHAP" ∷ [] ∷ [])
    ≡ Some (codes "None") ∷ Some (codes "None") ∷ Some (codes "None") ∷ Some (codes "Reject") ∷ Some (codes "Reject") ∷ Some (codes "Reject") ∷ Some
    (codes "Reject") ∷ Some (codes "Reject") ∷ []
unfolding computed
authentication = refl

digests : (answers_to (codes "HeaderDigest") (codes "CRC32C,None" ∷ codes "CRC32C" ∷ []) ≡ Some (codes "None") ∷ Some (codes "Reject") ∷ [])
    × (answers_to (codes "DataDigest") (codes "None,CRC32C" ∷ codes "CRC32C" ∷ []) ≡ Some (codes "None") ∷ Some (codes "Reject") ∷ [])
unfolding computed
digests = (refl, refl)

task_reporting : answers_to (codes "TaskReporting") (codes "RFC3720" ∷ codes "FastAbort,RFC3720" ∷ codes "ResponseFence" ∷ [])
    ≡ Some (codes "RFC3720") ∷ Some (codes "RFC3720") ∷ Some (codes "Reject") ∷ []
unfolding computed
task_reporting = refl

-- ---- numbers within limits

connections : answers_to (codes "MaxConnections") (codes "0" ∷ codes "1" ∷ codes "8" ∷ codes "65535" ∷ codes "65536" ∷ codes "08" ∷ [])
    ≡ Some (codes "Reject") ∷ Some (codes "1") ∷ Some (codes "1") ∷ Some (codes "1") ∷ Some (codes "Reject") ∷ Some (codes "Reject") ∷ []
unfolding computed
connections = refl

max_burst : answers_to (codes "MaxBurstLength") (codes "511" ∷ codes "512" ∷ codes "0x200" ∷ codes "262143" ∷ codes "262144" ∷ codes
    "262145" ∷ codes "16777215" ∷ codes "16777216" ∷ codes "0512" ∷ [])
    ≡ Some (codes "Reject") ∷ Some (codes "512") ∷ Some (codes "512") ∷ Some (codes "262143") ∷ Some (codes "262144") ∷ Some (codes "262144") ∷ Some
    (codes "262144") ∷ Some (codes "Reject") ∷ Some (codes "Reject") ∷ []
unfolding computed
max_burst = refl

first_burst : answers_to (codes "FirstBurstLength") (codes "511" ∷ codes "512" ∷ codes "65535" ∷ codes "65537" ∷ codes "16777215" ∷ codes "16777216" ∷ [])
    ≡ Some (codes "Reject") ∷ Some (codes "512") ∷ Some (codes "65535") ∷ Some (codes "65536") ∷ Some (codes "65536") ∷ Some (codes "Reject") ∷ []
unfolding computed
first_burst = refl

outstanding : answers_to (codes "MaxOutstandingR2T") (codes "0" ∷ codes "1" ∷ codes "3" ∷ codes "4" ∷ codes "5" ∷ codes "16" ∷ codes "65535" ∷ codes
    "65536" ∷ [])
    ≡ Some (codes "Reject") ∷ Some (codes "1") ∷ Some (codes "3") ∷ Some (codes "4") ∷ Some (codes "4") ∷ Some (codes "4") ∷ Some (codes "4") ∷ Some
    (codes "Reject") ∷ []
unfolding computed
outstanding = refl

error_recovery : answers_to (codes "ErrorRecoveryLevel") (codes "0" ∷ codes "2" ∷ codes "3" ∷ [])
    ≡ Some (codes "0") ∷ Some (codes "0") ∷ Some (codes "Reject") ∷ []
unfolding computed
error_recovery = refl

time_to_wait : answers_to (codes "DefaultTime2Wait") (codes "0" ∷ codes "2" ∷ codes "3" ∷ codes "3600" ∷ codes "3601" ∷ [])
    ≡ Some (codes "2") ∷ Some (codes "2") ∷ Some (codes "3") ∷ Some (codes "3600") ∷ Some (codes "Reject") ∷ []
unfolding computed
time_to_wait = refl

time_to_retain : answers_to (codes "DefaultTime2Retain") (codes "0" ∷ codes "19" ∷ codes "21" ∷ codes "3600" ∷ codes "3601" ∷ [])
    ≡ Some (codes "0") ∷ Some (codes "19") ∷ Some (codes "20") ∷ Some (codes "20") ∷ Some (codes "Reject") ∷ []
unfolding computed
time_to_retain = refl

-- ---- Yes and No

initial_r2t : answers_to (codes "InitialR2T") (codes "Yes" ∷ codes "No" ∷ codes "no" ∷ [] ∷ [])
    ≡ Some (codes "Yes") ∷ Some (codes "No") ∷ Some (codes "Reject") ∷ Some (codes "Reject") ∷ []
unfolding computed
initial_r2t = refl

immediate_data : answers_to (codes "ImmediateData") (codes "Yes" ∷ codes "No" ∷ codes "1" ∷ [])
    ≡ Some (codes "Yes") ∷ Some (codes "No") ∷ Some (codes "Reject") ∷ []
unfolding computed
immediate_data = refl

in_order : (answers_to (codes "DataPDUInOrder") (codes "Yes" ∷ codes "No" ∷ codes "on" ∷ [])
    ≡ Some (codes "Yes") ∷ Some (codes "Yes") ∷ Some (codes "Reject") ∷ [])
    × (answers_to (codes "DataSequenceInOrder") (codes "Yes" ∷ codes "No" ∷ codes "on" ∷ [])
    ≡ Some (codes "Yes") ∷ Some (codes "Yes") ∷ Some (codes "Reject") ∷ [])
unfolding computed
in_order = (refl, refl)

-- ---- any value

markers : (answers_to (codes "IFMarker") (codes "Yes" ∷ codes "No" ∷ codes "x" ∷ []) ≡ Some (codes "No") ∷ Some (codes "No") ∷ Some (codes "No") ∷ [])
    × (answers_to (codes "OFMarker") (codes "Yes" ∷ []) ≡ Some (codes "No") ∷ [])
    × (answers_to (codes "IFMarkInt") (codes "2048~8192" ∷ []) ≡ Some (codes "Reject") ∷ [])
    × (answers_to (codes "OFMarkInt") (codes "2048" ∷ []) ≡ Some (codes "Reject") ∷ [])
unfolding computed
markers = (refl, refl, refl, refl)

-- ---- declarations, and keys that only a target sends

declared : map (λ key. key_result key (codes "8192")) (codes "InitiatorName" ∷ codes "InitiatorAlias" ∷ codes "TargetName" ∷ codes
    "SessionType" ∷ codes "MaxRecvDataSegmentLength" ∷ [])
    ≡ None ∷ None ∷ None ∷ None ∷ None ∷ []
unfolding computed
declared = refl

of_a_target : map (λ key. key_result key (codes "a")) (codes "TargetAlias" ∷ codes "TargetAddress" ∷ codes "TargetPortalGroupTag" ∷ codes "SendTargets" ∷ [])
    ≡ Some (codes "Reject") ∷ Some (codes "Reject") ∷ Some (codes "Reject") ∷ Some (codes "Reject") ∷ []
unfolding computed
of_a_target = refl

-- keys are case-sensitive
unknown : map (λ key. key_result key (codes "Yes")) (codes "X-a" ∷ codes "initialr2t" ∷ codes "iSCSIProtocolLevel" ∷ [])
    ≡ Some (codes "NotUnderstood") ∷ Some (codes "NotUnderstood") ∷ Some (codes "NotUnderstood") ∷ []
unfolding computed
unknown = refl

-- ---- values that are answers

passed_over : (answers_to (codes "MaxBurstLength") (codes "NotUnderstood" ∷ codes "Irrelevant" ∷ codes "Reject" ∷ []) ≡ None ∷ None ∷ None ∷ [])
    × (answers_to (codes "X-a") (codes "Reject" ∷ codes "reject" ∷ []) ≡ None ∷ Some (codes "NotUnderstood") ∷ [])
unfolding computed
passed_over = (refl, refl)

-- ---- the keys of RFC 7143

known : map is_known (codes "AuthMethod" ∷ codes "SendTargets" ∷ codes "OFMarkInt" ∷ codes "X-a" ∷ codes "authmethod" ∷ [])
    ≡ true ∷ true ∷ true ∷ false ∷ false ∷ []
unfolding computed
known = refl
