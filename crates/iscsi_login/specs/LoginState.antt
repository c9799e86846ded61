-- What a login remembers of its requests.
use Rattle.std.specs.Prelude.{◌<◌, ⊤, ℕ, List, [], Bool, false, Option, Some, None}
use Rattle.iscsi_pdu.specs.LoginRequest.{isid, tsih, connection_id}
use Rattle.iscsi_pdu.specs.Header.{cmd_sn}
use Rattle.iscsi_pdu.specs.declared.stage.Stage.{Stage}
use Rattle.iscsi_text.specs.Pairs.{Pair}
use Rattle.iscsi_login.specs.Values.{default_values}
use Rattle.iscsi_login.specs.declared.opening.Opening.{Opening}
use Rattle.iscsi_login.specs.declared.requested_session.RequestedSession.{RequestedSession}
use Rattle.iscsi_login.specs.declared.values.Values.{Values}

pub record LoginState : Type 0 where
  -- the TSIH that the session gets
  pub handle : ℕ
  -- the fields that the first request set
  pub opening : Option Opening
  -- the stage, from the first request on
  pub stage : Option Stage
  -- the number of answers sent
  pub answers : ℕ
  -- the text of the requests with C since the last whole text
  pub kept : List ℕ
  -- the pairs of the whole texts
  pub earlier : List Pair
  -- the session that the first whole text asks for
  pub session : Option RequestedSession
  -- the values in force
  pub values : Values
  -- the target has declared its MaxRecvDataSegmentLength
  pub declared : Bool
  -- the answer's text that is still to be sent
  pub due : List ℕ

-- no request has come
abbrev pub new_login : ℕ → LoginState
new_login handle = record {
  handle = handle;
  opening = None;
  stage = None;
  answers = 0;
  kept = [];
  earlier = [];
  session = None;
  values = default_values;
  declared = false;
  due = [];
}

-- the target of a session, if it has one, is below this count
abbrev pub IsTargetBelow : ℕ → Option ℕ → Type 0
IsTargetBelow count None = ⊤
IsTargetBelow count (Some target) = target < count

-- the same for the target of a session that is asked for
abbrev pub AsksBelow : ℕ → Option RequestedSession → Type 0
AsksBelow count None = ⊤
AsksBelow count (Some session) = IsTargetBelow count session.target

-- RFC 7143 §11.12.5 to §11.12.8: the fields that the first request sets
abbrev pub opening_of : List ℕ → Opening
opening_of header = record { isid = isid header; tsih = tsih header; connection_id = connection_id header; cmd_sn = cmd_sn header }
