-- Laws of every past that the steps of a session can reach.
use Rattle.std.specs.Prelude.{◌≡◌, ◌≢◌, All, ℕ, ◌<◌, ◌^◌, List, [], ◌∷◌, ◌++◌, Bool, true, None}
use Rattle.iscsi_pdu.specs.Header.{cmd_sn}
use Rattle.iscsi_pdu.specs.Frames.{Frame}
use Rattle.iscsi_login.specs.declared.session_params.SessionParams.{SessionParams}
use Rattle.iscsi_requests.specs.Requests.{Request, Past, begun, is_in, left, commands, others, taken, due, queue, unfinished, functions, stamp, moved, finished, removing}
use Rattle.iscsi_requests.specs.Transfers.{tag_of, asks_of, asking, r2ts_of, asked}
use Rattle.iscsi_requests.specs.Functions.{drained_functions}
use Rattle.iscsi_requests.specs.State.{AreDistinct, IsLawful}
use Rattle.iscsi_session.specs.Steps.{Step, Work, served, ready, settled}

-- each request is taken once
abbrev pub TakenOnce : Type 0
TakenOnce = (came : List Request) → AreDistinct (taken came)

-- of the SCSI Commands that are not removed, the finished ones are the first of those taken, in order; of the other
-- requests too
pub record FinishedInOrder (past : Past) : Type 0 where
  pub later_commands : List ℕ
  pub commands : left past.removed (commands past.came (taken past.came)) ≡ commands past.came past.finished ++ later_commands
  pub later_others : List ℕ
  pub others : others past.came (taken past.came) ≡ others past.came past.finished ++ later_others

abbrev pub FinishedAsTaken : Type 0
FinishedAsTaken = (past : Past) → IsLawful past → FinishedInOrder past

-- the first that is due acts, and the others are due in the same order
abbrev pub DueInOrder : Type 0
DueInOrder = (past : Past) (k : ℕ) (rest : List ℕ) → IsLawful past → due past ≡ k ∷ rest → due (moved k past) ≡ rest

-- the first of the queue is finished, and the others are to be done in the same order
abbrev pub DoneInOrder : Type 0
DoneInOrder = (past : Past) (k : ℕ) (rest : List ℕ) → IsLawful past → queue past ≡ k ∷ rest → queue (finished k past) ≡ rest

-- a session begins lawful, and each run of its steps keeps it lawful, whatever fails
pub record StepsAreLawful : Type 0 where
  pub begun : (params : SessionParams) → IsLawful (begun params)
  pub served : (fails : Step → Bool) (place : ℕ) (frame : Frame) (work : Work) → cmd_sn frame.header < 2 ^ 32 → IsLawful work.past
      → IsLawful (served fails place frame work).past
  pub settled : (fails : Step → Bool) (place : ℕ) (work : Work) → IsLawful work.past → IsLawful (settled fails place work).past

-- RFC 7143 §11.8.3: the R2Ts of a step all carry the StatSN of the next answer, and after them none of the command is
-- due
pub record AreSentAtOnce (past : Past) (k : ℕ) : Type 0 where
  pub stamps : All (λ r2t. r2t.stamp ≡ stamp past) (r2ts_of past k)
  pub unused : stamp (asked k past) ≡ stamp past
  pub none_left : asks_of (asked k past) k ≡ []

abbrev pub R2tsAreSentAtOnce : Type 0
R2tsAreSentAtOnce = (past : Past) (k : ℕ) → AreSentAtOnce past k

-- No request that was taken has to act, and no R2T has to be sent. Each Task Management Function Request whose data has
-- come is answered. A discovery session has no SCSI Command.
pub record NothingIsDue (past : Past) : Type 0 where
  pub acts : due past ≡ []
  pub asks : asking past ≡ []
  pub answers : drained_functions past ≡ []
  pub discovery : past.params.target ≡ None → unfinished past ≡ []

-- Nothing is due between two frames. That holds when a session begins, after each frame with which it goes on, whatever
-- fails, and after commands are removed. After `settled` no command can be done either; in a discovery session none
-- ever can.
pub record NothingStaysDue : Type 0 where
  pub begun : (params : SessionParams) → NothingIsDue (begun params)
  pub served : (fails : Step → Bool) (place : ℕ) (frame : Frame) (work : Work) → cmd_sn frame.header < 2 ^ 32 → IsLawful work.past
      → NothingIsDue work.past → (served fails place frame work).goes_on ≡ true → NothingIsDue (served fails place frame work).past
  pub done : (fails : Step → Bool) (place : ℕ) (work : Work) → IsLawful work.past → (settled fails place work).goes_on ≡ true
      → ready (settled fails place work).past ≡ []
  pub settled : (fails : Step → Bool) (place : ℕ) (work : Work) → IsLawful work.past → NothingIsDue work.past
      → NothingIsDue (settled fails place work).past
  pub removed : (names : List ℕ) (past : Past) → NothingIsDue past → NothingIsDue (removing names past)
  pub discovery : (past : Past) → IsLawful past → NothingIsDue past → past.params.target ≡ None → ready past ≡ []

-- RFC 7143 §11.2.1.8: no SCSI Command and Task Management Function Request that are not finished have one tag
abbrev pub TagsDiffer : Past → Type 0
TagsDiffer past = (k j : ℕ) → is_in k (unfinished past) ≡ true → is_in j (functions past) ≡ true → tag_of past.came k ≢ tag_of past.came j

-- A session begins so, and each run of its steps keeps it so, whatever fails, as does a removal of commands.
pub record LiveTagsDiffer : Type 0 where
  pub begun : (params : SessionParams) → TagsDiffer (begun params)
  pub served : (fails : Step → Bool) (place : ℕ) (frame : Frame) (work : Work) → IsLawful work.past → TagsDiffer work.past
      → TagsDiffer (served fails place frame work).past
  pub settled : (fails : Step → Bool) (place : ℕ) (work : Work) → IsLawful work.past → TagsDiffer work.past
      → TagsDiffer (settled fails place work).past
  pub removed : (names : List ℕ) (past : Past) → TagsDiffer past → TagsDiffer (removing names past)
