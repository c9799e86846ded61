-- The results of offers of keys (RFC 7143 §6.2, §12, §13).
use Rattle.std.specs.Prelude.{ℕ, min, max, List, [], ◌∷◌, Bool, true, false, ◌&&◌, not, ◌||◌, ◌==◌, Option, Some, None, codes, bytes_eq, decimal, if◌then◌else◌}
use Rattle.std.specs.List.{list_any, slice_split}
use Rattle.iscsi_login.specs.Number.{number_in}
use Rattle.iscsi_login.specs.declared.keys.Word.{Word}
use Rattle.iscsi_login.specs.declared.keys.Word.TheVariants as words
use Rattle.iscsi_login.specs.declared.keys.KeyResult.{KeyResult}
use Rattle.iscsi_login.specs.declared.keys.KeyResult.TheVariants as results
use Rattle.iscsi_login.specs.declared.keys.Negotiation.{Negotiation}
use Rattle.iscsi_login.specs.declared.keys.Negotiation.TheVariants as kinds

-- the words of answers
abbrev pub word_text : Word → List ℕ
word_text words.None = codes "None"
word_text words.Rfc3720 = codes "RFC3720"
word_text words.Reject = codes "Reject"
word_text words.NotUnderstood = codes "NotUnderstood"

-- RFC 7143 §6.1: a boolean-value
abbrev pub boolean_text : Bool → List ℕ
boolean_text true = codes "Yes"
boolean_text false = codes "No"

-- RFC 7143 §6.1: the answer of a result, if there is any; numbers in decimal (own)
abbrev pub result_text : KeyResult → Option (List ℕ)
result_text results.NoAnswer = None
result_text (results.Boolean value) = Some (boolean_text value)
result_text (results.Number value) = Some (decimal value)
result_text (results.Word word) = Some (word_text word)

abbrev pub rejected : KeyResult
rejected = results.Word words.Reject

-- a key, and how it is negotiated
pub record Row : Type 0 where
  pub key : List ℕ
  pub negotiation : Negotiation

abbrev pub row : List ℕ → Negotiation → Row
row key negotiation = record { key = key; negotiation = negotiation }

-- The keys of RFC 7143 §12.1 and §13, in its order and in three parts. Each has its result function, its range and
-- the value of this target (own). MaxRecvDataSegmentLength and the names are declared and get no answer; the keys of
-- a target are no offer.

-- security, connections, and the names
abbrev pub name_keys : List Row
name_keys =
    row (codes "AuthMethod") (kinds.Choice words.None)  -- §12.1
    ∷ row (codes "HeaderDigest") (kinds.Choice words.None)  -- §13.1
    ∷ row (codes "DataDigest") (kinds.Choice words.None)  -- §13.1
    ∷ row (codes "MaxConnections") (kinds.Minimum 1 65535 1)  -- §13.2
    ∷ row (codes "SendTargets") (kinds.Always rejected)  -- §13.3
    ∷ row (codes "TargetName") kinds.Declared  -- §13.4
    ∷ row (codes "InitiatorName") kinds.Declared  -- §13.5
    ∷ row (codes "TargetAlias") (kinds.Always rejected)  -- §13.6
    ∷ row (codes "InitiatorAlias") kinds.Declared  -- §13.7
    ∷ row (codes "TargetAddress") (kinds.Always rejected)  -- §13.8
    ∷ row (codes "TargetPortalGroupTag") (kinds.Always rejected)  -- §13.9
    ∷ []

-- the transfer of data
abbrev pub transfer_keys : List Row
transfer_keys =
    row (codes "InitialR2T") (kinds.Or false)  -- §13.10
    ∷ row (codes "ImmediateData") (kinds.And true)  -- §13.11
    ∷ row (codes "MaxRecvDataSegmentLength") kinds.Declared  -- §13.12
    ∷ row (codes "MaxBurstLength") (kinds.Minimum 512 16777215 262144)  -- §13.13
    ∷ row (codes "FirstBurstLength") (kinds.Minimum 512 16777215 65536)  -- §13.14
    ∷ row (codes "DefaultTime2Wait") (kinds.Maximum 0 3600 2)  -- §13.15
    ∷ row (codes "DefaultTime2Retain") (kinds.Minimum 0 3600 20)  -- §13.16
    ∷ row (codes "MaxOutstandingR2T") (kinds.Minimum 1 65535 4)  -- §13.17
    ∷ row (codes "DataPDUInOrder") (kinds.Or true)  -- §13.18
    ∷ row (codes "DataSequenceInOrder") (kinds.Or true)  -- §13.19
    ∷ []

-- the other keys of a session
abbrev pub session_keys : List Row
session_keys =
    row (codes "ErrorRecoveryLevel") (kinds.Minimum 0 2 0)  -- §13.20
    ∷ row (codes "SessionType") kinds.Declared  -- §13.21
    ∷ row (codes "TaskReporting") (kinds.Choice words.Rfc3720)  -- §13.23
    ∷ row (codes "IFMarker") (kinds.Always (results.Boolean false))  -- §13.25
    ∷ row (codes "OFMarker") (kinds.Always (results.Boolean false))  -- §13.25
    ∷ row (codes "IFMarkInt") (kinds.Always rejected)  -- §13.25
    ∷ row (codes "OFMarkInt") (kinds.Always rejected)  -- §13.25
    ∷ []

-- the negotiation of a key by its row, or `other` for a key without one
abbrev pub negotiation_in : List Row → List ℕ → Negotiation → Negotiation
negotiation_in [] key other = other
negotiation_in (row ∷ rows) key other = if bytes_eq key row.key then row.negotiation else negotiation_in rows key other

-- RFC 7143 §6.2: an unknown key
abbrev pub not_understood : Negotiation
not_understood = kinds.Always (results.Word words.NotUnderstood)

abbrev pub is_understood : Negotiation → Bool
is_understood (kinds.Always (results.Word words.NotUnderstood)) = false
is_understood _ = true

-- how a key is negotiated, by the three parts
unfoldable pub session_negotiation : List ℕ → Negotiation
session_negotiation key = negotiation_in session_keys key not_understood

unfoldable pub transfer_negotiation : List ℕ → Negotiation
transfer_negotiation key = negotiation_in transfer_keys key (session_negotiation key)

unfoldable pub negotiation_of : List ℕ → Negotiation
negotiation_of key = negotiation_in name_keys key (transfer_negotiation key)

-- the key is one of these
unfoldable pub is_known : List ℕ → Bool
is_known key = is_understood (negotiation_of key)

-- RFC 7143 §6.2.1: a word of a list of values, which is separated by commas
unfoldable pub is_listed : List ℕ → List ℕ → Bool
is_listed word offer = list_any (bytes_eq word) (slice_split (λ byte. byte == 44) offer)

-- RFC 7143 §6.1: Yes or No
unfoldable pub boolean_of : List ℕ → Option Bool
boolean_of offer = if bytes_eq offer (codes "Yes") then Some true else if bytes_eq offer (codes "No") then Some false else None

abbrev pub boolean_result : (Bool → Bool) → Option Bool → KeyResult
boolean_result f None = rejected
boolean_result f (Some value) = results.Boolean (f value)

abbrev pub number_result : (ℕ → ℕ) → Option ℕ → KeyResult
number_result f None = rejected
number_result f (Some value) = results.Number (f value)

-- RFC 7143 §6.2: the result of an offer; own: one of wrong form or out of range is rejected
unfoldable pub result_by : Negotiation → List ℕ → KeyResult
result_by (kinds.Choice word) offer = if is_listed (word_text word) offer then results.Word word else rejected
result_by (kinds.Or own) offer = boolean_result (λ value. value || own) (boolean_of offer)
result_by (kinds.And own) offer = boolean_result (λ value. value && own) (boolean_of offer)
result_by (kinds.Minimum low high own) offer = number_result (min own) (number_in low high offer)
result_by (kinds.Maximum low high own) offer = number_result (max own) (number_in low high offer)
result_by (kinds.Always result) offer = result
result_by kinds.Declared offer = results.NoAnswer

-- RFC 7143 §6.2: values that answer an offer, and are no offers
unfoldable pub is_answer : List ℕ → Bool
is_answer value = bytes_eq value (codes "NotUnderstood") || bytes_eq value (codes "Irrelevant") || bytes_eq value (codes "Reject")

-- RFC 7143 §13.4, §13.5, §13.21: the names of initiator and target, and the type of session
unfoldable pub is_name_key : List ℕ → Bool
is_name_key key = bytes_eq key (codes "InitiatorName") || bytes_eq key (codes "TargetName") || bytes_eq key (codes "SessionType")

-- own: a pair whose value answers an offer is ignored, except for a name, which is never offered
unfoldable pub is_passed_over : List ℕ → List ℕ → Bool
is_passed_over key value = is_answer value && not (is_name_key key)

-- the result of an offer; own: a value that is an answer gets no answer
unfoldable pub settled : List ℕ → List ℕ → KeyResult
settled key offer = if is_answer offer then results.NoAnswer else result_by (negotiation_of key) offer

-- the answer to an offer, if there is any
unfoldable pub key_result : List ℕ → List ℕ → Option (List ℕ)
key_result key offer = result_text (settled key offer)
