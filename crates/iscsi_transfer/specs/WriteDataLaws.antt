-- Laws of what R2Ts ask for.
use Rattle.std.specs.Prelude.{◌≡◌, ℕ, ◌+◌, ◌-◌, ◌≤◌, ◌<◌, List, [], ◌∷◌, length, map, drop, true, false, not, ◌&&◌, ◌||◌, ◌==◌, None, if◌then◌else◌}
use Rattle.std.specs.List.{range_with_len}
use Rattle.iscsi_pdu.specs.Frames.{Frame}
use Rattle.iscsi_login.specs.declared.values.Values.{Values}
use Rattle.iscsi_transfer.specs.Payload.{Past, is_last, announces, begun}
use Rattle.iscsi_transfer.specs.WriteData.{WriteDataState, remembered, command_fault, ask_at, filled, next_ask, lacks_data, due_asks, is_due, is_asked, is_whole, fault_of, with_data, with_asked}
use Rattle.iscsi_transfer.specs.declared.progress.Ask.{Ask}

-- R2T number k asks for byte i
pub record AsksFor (start burst end k i : ℕ) : Type 0 where
  pub from : (ask_at start burst end k).offset ≤ i
  pub below : i < (ask_at start burst end k).offset + (ask_at start burst end k).length

-- each byte from the start to the end is asked for
abbrev pub EachByteIsAskedFor : Type 0
EachByteIsAskedFor = (start burst end i : ℕ) → 1 ≤ burst → start ≤ i → i < end → (k : ℕ) × AsksFor start burst end k i

-- by only one R2T
abbrev pub NoByteIsAskedForTwice : Type 0
NoByteIsAskedForTwice = (start burst end i k l : ℕ) → AsksFor start burst end k i → AsksFor start burst end l i → k ≡ l

-- and no other byte is asked for
abbrev pub NothingElseIsAskedFor : Type 0
NothingElseIsAskedFor = (start burst end i k : ℕ) → AsksFor start burst end k i → (start ≤ i) × (i < end)

-- ---- in which order

-- the numbers of the R2Ts that are due rise by one, from the number of those sent
abbrev pub DueRiseByOne : Type 0
DueRiseByOne = (task : WriteDataState) → map (λ ask. ask.number) (due_asks task) ≡ range_with_len task.sent (length (due_asks task))

-- an R2T that is sent is no longer due, and the others stay due
abbrev pub SentIsDueNoMore : Type 0
SentIsDueNoMore = (task : WriteDataState) (tag : ℕ) → due_asks (with_asked (tag ∷ []) task) ≡ drop 1 (due_asks task)

-- ---- how many

-- RFC 7143 §13.17: no more are open than may be
abbrev pub FewAreOpen : WriteDataState → Type 0
FewAreOpen task = task.sent ≤ filled task + task.outstanding

-- the open R2Ts are those that were sent and lack data
abbrev pub OpenAreCounted : Type 0
OpenAreCounted = (past : Past) → length (remembered past).open_tags ≡ (remembered past).sent - filled (remembered past)

-- this holds for a command that has just come
abbrev pub FewAtFirst : Type 0
FewAtFirst = (values : Values) (command : Frame) → FewAreOpen (remembered (begun values command))

-- and still holds after R2Ts that are due are sent
abbrev pub FewWhereSent : Type 0
FewWhereSent = (task : WriteDataState) (tags : List ℕ) → length tags ≤ length (due_asks task) → FewAreOpen task → FewAreOpen (with_asked tags task)

-- and after data comes
abbrev pub FewWhereFed : Type 0
FewWhereFed = (task : WriteDataState) (out : Frame) → FewAreOpen task → FewAreOpen (with_data task out)

-- ---- none is forgotten

-- if a command announces no more data, an R2T is due, or the payload is whole
abbrev pub CommandIsWholeOrAsks : Type 0
CommandIsWholeOrAsks = (values : Values) (command : Frame) → 1 ≤ values.max_burst_length → 1 ≤ values.max_outstanding_r2t
    → command_fault values command ≡ None → announces command ≡ false
    → is_due (remembered (begun values command)) ≡ not (is_whole (remembered (begun values command)))

-- when a sequence ends, an R2T is due or open, or the payload is whole
abbrev pub SequenceIsWholeOrAsks : Type 0
SequenceIsWholeOrAsks = (task : WriteDataState) (out : Frame) → 1 ≤ task.burst → 1 ≤ task.outstanding → task.unsolicited ≤ length task.payload
    → fault_of task out ≡ None → is_last out ≡ true
    → (is_due (with_data task out) || is_asked (with_data task out)) ≡ not (is_whole (with_data task out))

-- ---- one at a time

-- the R2T at whose offset the payload has just come, unless it was sent
abbrev pub asks_one_by_one : WriteDataState → List Ask
asks_one_by_one task =
    if lacks_data task && task.sequence_length == 0 && (next_ask task).offset == length task.payload && (next_ask task).number == task.sent
    then next_ask task ∷ [] else []

-- if one R2T may be open, a command makes that one due
abbrev pub CommandAsksOneByOne : Type 0
CommandAsksOneByOne = (values : Values) (command : Frame) → 1 ≤ values.max_burst_length → values.max_outstanding_r2t ≡ 1
    → due_asks (remembered (begun values command)) ≡ asks_one_by_one (remembered (begun values command))

-- and so does a Data-Out
abbrev pub DataAsksOneByOne : Type 0
DataAsksOneByOne = (task : WriteDataState) (out : Frame) → 1 ≤ task.burst → task.outstanding ≡ 1 → task.unsolicited ≤ length task.payload
    → fault_of task out ≡ None → due_asks (with_data task out) ≡ asks_one_by_one (with_data task out)
