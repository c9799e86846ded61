-- A connection from its Open to its Gone: plain lists of what came and what was answered, and what is read from them.
use Rattle.std.specs.Prelude.{ℕ, List, [], ◌++◌, flat_map, Bool, true, false, Option, Some, None}
use Rattle.iscsi_pdu.specs.Frames.{Frame}
use Rattle.iscsi_pdu.specs.Answer.{spelling}
use Rattle.iscsi_pdu.specs.declared.answer.Answer.{Answer}
use Rattle.iscsi_login.specs.declared.session_params.SessionParams.{SessionParams}
use Rattle.iscsi_session.specs.Requests.{Past}

-- the phase of a connection (RFC 7143 §4.2.4 to §4.2.6)
pub data Phase : Type 0 where
  LoggingIn : Phase
  -- the requests of its session that have come, and their answers
  FullFeature : (session : Past) → Phase
  -- its frames are no longer read, and its session has ended
  Closing : Phase
  -- its Gone came
  Over : Phase

pub record Life : Type 0 where
  pub connection : ℕ
  -- all its pieces, joined
  pub bytes : List ℕ
  pub phase : Phase
  -- its Login requests
  pub requests : List Frame
  -- the stamped answers, except those of the session that goes on
  pub answers : List Answer

abbrev pub born : ℕ → Life
born c = record { connection = c; bytes = []; phase = LoggingIn; requests = []; answers = [] }

-- its frames are read
abbrev pub reads : Phase → Bool
reads LoggingIn = true
reads (FullFeature session) = true
reads Closing = false
reads Over = false

-- no session has begun
abbrev pub logs_in : Phase → Bool
logs_in LoggingIn = true
logs_in (FullFeature session) = false
logs_in Closing = false
logs_in Over = false

abbrev pub is_over : Phase → Bool
is_over LoggingIn = false
is_over (FullFeature session) = false
is_over Closing = false
is_over Over = true

abbrev pub past_in : Phase → Option Past
past_in LoggingIn = None
past_in (FullFeature session) = Some session
past_in Closing = None
past_in Over = None

abbrev pub session_in : Phase → Option SessionParams
session_in LoggingIn = None
session_in (FullFeature session) = Some session.params
session_in Closing = None
session_in Over = None

abbrev pub session_answers : Phase → List Answer
session_answers LoggingIn = []
session_answers (FullFeature session) = session.answers
session_answers Closing = []
session_answers Over = []

-- all answers of the life
abbrev pub answers_of : Life → List Answer
answers_of life = life.answers ++ session_answers life.phase

-- the answers of a life, each spelled, joined
unfoldable pub out_of : Life → List ℕ
out_of life = flat_map spelling (answers_of life)

-- the life reads no more frames, and its session has ended
abbrev pub ended_in : Phase → Life → Life
ended_in phase life = record life { phase = phase; answers = answers_of life }
