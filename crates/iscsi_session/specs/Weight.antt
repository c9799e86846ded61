-- How much the requests of a session weigh, and the pasts that keep that small (own).
use Rattle.std.specs.Prelude.{◌≡◌, ◌==◌, All, ℕ, ◌+◌, ◌*◌, ◌≤◌, List, [], length, filter, filter_map, Bool, true}
use Rattle.std.specs.List.{list_any}
use Rattle.iscsi_pdu.specs.Header.{header_length, initiator_task_tag}
use Rattle.iscsi_requests.specs.Requests.{Past, due, unfinished, functions}
use Rattle.iscsi_requests.specs.Functions.{immediate_in}
use Rattle.iscsi_requests.specs.Judging.{most_immediate}
use Rattle.iscsi_requests.specs.Drained.{Drained}
use Rattle.iscsi_requests.specs.State.{TaskLists, SessionState, IsLawful, remembered}
use Rattle.iscsi_requests.specs.Draining.{function_tag}

-- the weight in bytes of each request that is held or unfinished: its frame, and the buffer of its data
abbrev pub request_weight : ℕ
request_weight = 1310720

-- the requests that are held after a missing number, are due, or are in the queue
abbrev pub pending : TaskLists → ℕ
pending tasks = length (filter_map (λ o. o) tasks.held) + length tasks.due + length tasks.queue

-- the Task Management Function Request with this header waits for data
abbrev pub waits_for : List Drained → List ℕ → Bool
waits_for drains header = list_any (λ drained. function_tag drained == initiator_task_tag header) drains

-- those that acted and wait for data, each once, however many commands it drains
abbrev pub waiting_functions : SessionState → ℕ
waiting_functions state = length (filter (waits_for state.transfers.drains) state.functions)

-- the requests that are held or unfinished
abbrev pub open_requests : SessionState → ℕ
open_requests state = pending state.tasks + waiting_functions state

-- the bytes that wait to be sent, and the weight of the requests
abbrev pub weight_with : ℕ → SessionState → ℕ
weight_with waiting state = waiting + open_requests state * request_weight

-- A possible past, of frames whose headers are whole, in which no more requests for immediate delivery are unfinished
-- than may be.
pub record IsWithinLimits (past : Past) : Type 0 where
  pub lawful : IsLawful past
  pub headers : All (λ request. length request.frame.header ≡ header_length) past.came
  pub few : immediate_in past (unfinished past) + immediate_in past (functions past) ≤ most_immediate

-- A session between two frames: it remembers such a past, in which nothing is due.
pub record IsAtRest (state : SessionState) : Type 0 where
  pub past : Past
  pub within : IsWithinLimits past
  pub idle : due past ≡ []
  pub remembered : state ≡ remembered past

-- the most that a frame adds: a request, and answers that are short
abbrev pub most_added : ℕ
most_added = 2 * request_weight

-- the session and what waits have become no heavier
pub record Eases (old new : SessionState) (before waiting : List ℕ) : Type 0 where
  pub rests : IsAtRest new
  pub lighter : weight_with (length waiting) new ≤ weight_with (length before) old

-- the weight grows by that at most, and a session that goes on is at rest
pub record Loads (goes_on : Bool) (old new : SessionState) (before waiting : List ℕ) : Type 0 where
  pub rests : goes_on ≡ true → IsAtRest new
  pub heavier : weight_with (length waiting) new ≤ weight_with (length before) old + most_added
