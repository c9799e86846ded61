-- What the steps of a session add to what it may hold: a request, and answers that are short.
use Rattle.std.proofs.Common.{◌≡◌, ℕ, ◌+◌, ◌*◌, ◌<◌, ◌≤◌, List, [], ◌∷◌, ◌++◌, length, Bool, true, false, ◌||◌, ◌==◌, map, Option, Some, None, refl, sym, ap, subst, ◌∙◌, arith}
use Rattle.std.specs.Prelude.{All, flat_map}
use Rattle.std.proofs.lemmas.List.{length-append, map-append}
use Rattle.std.proofs.lemmas.List.Elements.{All-push}
use Rattle.std.proofs.lemmas.Grind.{flat_map-append}
use Rattle.iscsi_pdu.specs.Header.{header_length, initiator_task_tag, opcode_of, opcode_number}
use Rattle.iscsi_pdu.specs.Frames.{Frame}
use Rattle.iscsi_pdu.specs.Answer.{spelling}
use Rattle.iscsi_pdu.specs.TaskManagement.{ref_cmd_sn}
use Rattle.iscsi_pdu.specs.declared.answer.Answer.{Answer}
use Rattle.iscsi_login.specs.Values.{AreInRange}
use Rattle.iscsi_transfer.specs.WriteData.{remembered as task_of}
use Rattle.iscsi_order.specs.Window as order
use Rattle.iscsi_order.specs.Window.{taken as taken_numbers}
use Rattle.scsi_unit.specs.Units.{numbers_of}
use Rattle.iscsi_requests.specs.declared.verdict.Verdict.{Verdict}
use Rattle.iscsi_requests.specs.declared.verdict.Verdict.TheVariants.{Ignored, Dropped, Rejected, Violating, Accepted, Feeding}
use Rattle.iscsi_requests.specs.Requests.{Request, Past, drain_for, frame_of, is_command, is_function, is_in, left, numbers, held, due, queue, unfinished, pending as awaiting, functions, moved, removing, draining, answering, stamp, number_for, DataOut, SentR2t}
use Rattle.iscsi_requests.specs.Functions.{plug, plugged, reached, plugs, awaited, drained_functions, told, told_answers, function_result}
use Rattle.iscsi_requests.specs.Judging.{verdict, judged, reject}
use Rattle.iscsi_requests.specs.Transfers.{command_with, fed, task_at, asking, r2ts_of, r2t_answers, sent_for}
use Rattle.iscsi_requests.specs.Texts.{exchange_of}
use Rattle.iscsi_session.specs.Acts.{reach_of, act_answers, ended, behind, acted}
use Rattle.iscsi_requests.specs.State.{IsLawful, tasks_of, holding, takes_all}
use Rattle.iscsi_session.specs.Steps.{Work, judge, act, ask, tell}
use Rattle.iscsi_session.specs.Weight.{request_weight, pending, IsWithinLimits}
use Rattle.iscsi_requests.proofs.Left.{left_append, left_more, is_in_append, in_left}
use Rattle.iscsi_session.proofs.Kept.{command_no_function, function_no_command, unfinished_without, functions_without}
use Rattle.iscsi_session.proofs.Moved.{not_pending, due_came}
use Rattle.iscsi_session.proofs.Accepted.{with}
use Rattle.iscsi_session.proofs.Verdicts.{accepted_free}
use Rattle.iscsi_session.proofs.Feeding.{lawful_fed}
use Rattle.iscsi_session.proofs.Runs.{lawful_answering}
use Rattle.iscsi_session.proofs.Ending.{plugged_tasks, ended_now, plugs_unasked, plugs_new}
use Rattle.iscsi_session.proofs.Waits.{ends_are, functions_waits, unfinished_waits, came_waits}
use Rattle.iscsi_session.proofs.Telling.{functions_told}
use Rattle.iscsi_session.proofs.Answered.{moved_other, acted_same, command_answers_none, function_is, function_waits}
use Rattle.iscsi_session.proofs.Lawful.{moved_by, ended_lawful, more_over, act_lawful, ask_lawful, tell_lawful, first_waits}
use Rattle.iscsi_session.proofs.Holding.{listed_in, listed_is, listed_other, listed_removing, waits_in, waiting_joined, waiting_more, waiting_told, functions_removing, left_few, pending_in, pending_held, pending_command, pending_other, pending_removing, immediate_of, immediate_less, immediate_joined, comes}
use Rattle.iscsi_answers.proofs.Room.{one_spelled}
use Rattle.iscsi_session.proofs.Room.{reject_long, most_answered, r2ts_long, few_asks}

-- what waits of its answers, and its requests
abbrev pub heaviness : Past → ℕ
heaviness past = length (flat_map spelling past.answers) + pending_in past * request_weight

-- so much is added at most, and so many requests
pub record Adds (n requests : ℕ) (past after : Past) : Type 0 where
  pub within : IsWithinLimits after
  pub added : heaviness after ≤ heaviness past + n
  pub more : pending_in after ≤ pending_in past + requests
  pub params : after.params ≡ past.params

pub adds_none : (n requests : ℕ) (past : Past) → IsWithinLimits past → Adds n requests past past
adds_none n requests past w = record { within = w; added = omega arith; more = omega arith; params = refl }

pub adds_then : (n m i j : ℕ) (past middle after : Past) → Adds n i past middle → Adds m j middle after → Adds (n + m) (i + j) past after
adds_then n m i j past middle after a b = grind arith

-- ---- answers

pub spelled_more : (a b : List Answer) → length (flat_map spelling (a ++ b)) ≡ length (flat_map spelling a) + length (flat_map spelling b)
spelled_more a b = ap (λ (l : List ℕ). length l) (flat_map-append spelling a b) ∙ length-append (flat_map spelling a) (flat_map spelling b)

-- neither data, nor R2Ts, nor answers are counted among the requests
same_load : (past : Past) (data_outs : List DataOut) (r2ts : List SentR2t) (more : List Answer)
    → (pending_in (record past { data_outs = data_outs; r2ts = r2ts; answers = more }) ≡ pending_in past)
    × (immediate_of (record past { data_outs = data_outs; r2ts = r2ts; answers = more }) ≡ immediate_of past)
unfolding held due queue unfinished functions taken_numbers
same_load past data_outs r2ts more = (refl, refl)

pub same_answering : (more : List Answer) (past : Past) → (pending_in (answering more past) ≡ pending_in past)
    × (immediate_of (answering more past) ≡ immediate_of past)
same_answering more past = same_load past past.data_outs past.r2ts (past.answers ++ more)

-- a past that is answered more, with no more requests than before
adds_answering : (n : ℕ) (more : List Answer) (past middle : Past) → IsWithinLimits past → IsLawful (answering more middle)
    → All (λ request. length request.frame.header ≡ header_length) middle.came → immediate_of middle ≤ immediate_of past → pending_in middle ≤ pending_in past
    → length (flat_map spelling more) + pending_in middle * request_weight ≤ pending_in past * request_weight + n
    → middle.params ≡ past.params → middle.answers ++ more ≡ past.answers ++ more → Adds n 0 past (answering more middle)
adds_answering n more past middle w lawful headers few less short params answers =
    let same = same_answering more middle in
    let was = w.few in
    record {
      within = record { lawful = lawful; headers = headers; few = omega (arith, was, few, same.1) };
      added = omega (arith, ap (λ (l : List Answer). length (flat_map spelling l)) answers, spelled_more past.answers more, same.0, short);
      more = omega (arith, same.0, less);
      params = params;
    }

answered_adds : (n : ℕ) (more : List Answer) (past : Past) → IsWithinLimits past → length (flat_map spelling more) ≤ n → Adds n 0 past (answering more past)
answered_adds n more past w short =
    adds_answering n more past past w (lawful_answering more past w.lawful) w.headers (omega arith) (omega arith) (omega (arith, short)) refl refl

-- ---- a frame is judged

fed_within : (c : Option ℕ) (frame : Frame) (past : Past) → IsLawful (fed c frame past) → IsWithinLimits past → Adds 0 0 past (fed c frame past)
unfolding held due queue taken_numbers unfinished functions
fed_within None frame past lawful w = adds_none 0 0 past w
fed_within (Some k) frame past lawful w = grind arith

pub adds_less : (n m i j : ℕ) (past after : Past) → n ≤ m → i ≤ j → Adds n i past after → Adds m j past after
adds_less n m i j past after le few a = grind arith

judged_adds : (v : Verdict) (past : Past) (frame : Frame) → verdict past frame ≡ v → length frame.header ≡ header_length → IsWithinLimits past
    → Adds (request_weight + 99) 1 past (judged v frame past)
judged_adds Accepted past frame e whole w =
    let come = comes past frame (accepted_free past frame e) w.lawful w.few in
    let more = come.pending in
    record {
      within = record {
        lawful = come.lawful;
        headers = All-push (λ (request : Request). length request.frame.header ≡ header_length) past.came
            (record { number = number_for past frame; frame = frame })
            w.headers whole;
        few = come.immediate;
      };
      added = omega (arith, more);
      more = more;
      params = refl;
    }
judged_adds Feeding past frame e whole w =
    adds_less 0 (request_weight + 99) 0 1 past _ (omega arith) (omega arith)
    (fed_within (command_with past (initiator_task_tag frame.header)) frame past (lawful_fed past frame w.lawful) w)
judged_adds (Rejected reason) past frame e whole w =
    let answer = reject reason (stamp past) frame in
    adds_less 99 (request_weight + 99) 0 1 past _ (omega arith) (omega arith)
    (answered_adds 99 (answer ∷ []) past w (omega (arith, one_spelled answer, reject_long reason (stamp past) frame whole)))
judged_adds Ignored past frame e whole w = adds_none (request_weight + 99) 1 past w
judged_adds Dropped past frame e whole w = adds_none (request_weight + 99) 1 past w
judged_adds Violating past frame e whole w = adds_none (request_weight + 99) 1 past w

pub judge_adds : (frame : Frame) (work : Work) → length frame.header ≡ header_length → IsWithinLimits work.past
    → Adds (request_weight + 99) 1 work.past (judge frame work).past
unfolding judge
judge_adds frame work whole w = judged_adds _ work.past frame refl whole w

-- ---- a request acts

-- so many fewer are pending
record Turns (n : ℕ) (past after : Past) : Type 0 where
  headers : All (λ request. length request.frame.header ≡ header_length) after.came
  pending : pending_in after + n ≤ pending_in past
  immediate : immediate_of after ≤ immediate_of past

acted_immediate : (past : Past) (k : ℕ) → immediate_of (record past { acted = past.acted ++ k ∷ [] }) ≤ immediate_of past
unfolding unfinished functions
acted_immediate past k = omega arith

other_immediate : (past : Past) (k : ℕ) → is_in k (awaiting past) ≡ false
    → immediate_of (record past { acted = past.acted ++ k ∷ []; finished = past.finished ++ k ∷ [] }) ≤ immediate_of past
unfolding unfinished functions
other_immediate past k free =
    immediate_less past (record past { acted = past.acted ++ k ∷ []; finished = past.finished ++ k ∷ [] }) (k ∷ []) refl (unfinished_without past k)
    (functions_without past k free)

command_turns : (past : Past) (k : ℕ) (rest : List ℕ) → is_command (frame_of past.came k) ≡ true → IsWithinLimits past → due past ≡ k ∷ rest
    → Turns 0 past (moved k past)
command_turns past k rest e w is = grind (arith, pending_command, immediate_of, acted_immediate)

other_turns : (past : Past) (k : ℕ) (rest : List ℕ) → is_command (frame_of past.came k) ≡ false → IsWithinLimits past → due past ≡ k ∷ rest
    → Turns 1 past (moved k past)
other_turns past k rest e w is = grind (arith, pending_other, immediate_of, other_immediate, not_pending)

pub removed_immediate : (past : Past) (names : List ℕ) → immediate_of (removing names past) ≤ immediate_of past
unfolding unfinished functions
removed_immediate past names =
    immediate_less past (removing names past) names refl (left_more past.removed names _) (left_more past.removed names _)

removing_turns : (n : ℕ) (past after : Past) (names : List ℕ) → Turns n past after → Turns n past (removing names after)
removing_turns n past after names t = grind (arith, pending_removing, removed_immediate)

plug_turns : (past after : Past) (n : ℕ) → IsLawful after → takes_all (holding n plug (tasks_of after)) ≡ tasks_of (plugged n after) → Turns 1 past after
    → Turns 0 past (plugged n after)
plug_turns past after n lawful tasks t =
    let few = t.pending in
    let less = t.immediate in
    let x = with (order.index_of (numbers after) n) plug in
    let joins = immediate_joined false false false after x lawful refl refl refl in
    record {
      headers = All-push (λ (request : Request). length request.frame.header ≡ header_length) after.came x t.headers refl;
      pending = omega (
        arith,
        few,
        ap pending tasks,
        pending_held n plug (tasks_of after),
        listed_is after,
        listed_is (plugged n after),
        waiting_joined after lawful x,
      );
      immediate = omega (arith, less, joins);
    }

behind_plain : (luns : List ℕ) (past : Past) (k : ℕ) → is_function (frame_of past.came k) ≡ false → behind luns k past (ended luns k past) ≡ moved k past
behind_plain luns past k f = rw f refl

unfinished_removing : (past : Past) (gone : List ℕ) → unfinished (removing gone past) ≡ left gone (unfinished past)
unfolding unfinished
unfinished_removing past gone = left_more past.removed gone _

-- one that waits for data is not finished, and is one more that waits
listed_draining : (past : Past) (k : ℕ) (names : List ℕ) → listed_in (draining k names past) ≡ listed_in past
unfolding held due queue taken_numbers
listed_draining past k names = refl

named_again : (k j : ℕ) (names : List ℕ) → is_in j (map (λ d. d.function) (map (drain_for k) names)) ≡ true → (j == k) ≡ true
named_again k j [] e = absurd cc
named_again k j (c ∷ names) e = grind (arith, named_again k j names)

either_of : (a b c : Bool) → (a || b) ≡ true → (b ≡ true → c ≡ true) → (a || c) ≡ true
either_of a b c e known = grind arith

waits_more : (past : Past) (k j : ℕ) (names : List ℕ) → waits_in (draining k names past) j ≡ true → (waits_in past j || j == k) ≡ true
waits_more past k j names e = grind (arith, map-append, left_append, either_of, waits_in, is_in_append, named_again, in_left)

module _ (luns : List ℕ) (past : Past) (k : ℕ) (rest : List ℕ) (f : is_function (frame_of past.came k) ≡ true) (w : IsWithinLimits past)
    (is : due past ≡ k ∷ rest) where
  waits_pending : (first : ℕ) (others : List ℕ) → awaited past (reach_of luns k past) ≡ first ∷ others → pending_in (ended luns k past) ≤ pending_in past
  waits_pending first others e =
      let gone = reached (reach_of luns k past) past in
      let no_command = function_no_command (frame_of past.came k) f in
      let done : Past = record past { acted = past.acted ++ k ∷ []; finished = past.finished ++ k ∷ [] } in
      let names = first ∷ others in
      let after = draining k names (removing gone done) in
      let is_after : after ≡ ended luns k past = ends_are luns past w.lawful k rest is f first others e in
      let functions_are : functions after ≡ left gone (functions past) = grind (arith, functions_waits, functions_removing) in
      omega (
        arith,
        ap pending_in is_after,
        listed_draining (removing gone done) k names,
        listed_removing done gone,
        ap listed_in (moved_other k past no_command),
        listed_other past k rest no_command w.lawful is,
        waiting_more past after gone k functions_are (λ j h. waits_more (removing gone done) k j names h),
      )

  waits_turns : (first : ℕ) (others : List ℕ) → awaited past (reach_of luns k past) ≡ first ∷ others → Turns 0 past (ended luns k past)
  waits_turns first others e =
      let few = waits_pending first others e in
      record {
        headers = grind (arith, came_waits);
        pending = omega (arith, few);
        immediate = grind (arith, immediate_less, came_waits, unfinished_waits, unfinished_removing, functions_waits, functions_removing);
      }

  -- one that does not wait is finished
  now_turns : awaited past (reach_of luns k past) ≡ [] → Turns 1 past (ended luns k past)
  now_turns none =
      subst (Turns 1 past) (ended_now luns past k f none)
      (removing_turns 1 past (moved k past) (reached (reach_of luns k past) past)
      (other_turns past k rest (function_no_command (frame_of past.came k) f) w is))

  ended_turns : (names : List ℕ) → awaited past (reach_of luns k past) ≡ names → Turns 0 past (ended luns k past)
  ended_turns [] e =
      let now = now_turns e in
      let few = now.pending in
      record { headers = now.headers; pending = omega (arith, few); immediate = now.immediate }
  ended_turns (first ∷ others) e = waits_turns first others e

  function_turns : (b : Bool) → plugs past (reach_of luns k past) ≡ b → Turns 0 past (behind luns k past (ended luns k past))
  function_turns false e =
      let same : ended luns k past ≡ behind luns k past (ended luns k past) = rw (f, e) refl in
      subst (Turns 0 past) same (ended_turns _ refl)
  function_turns true e =
      let n = ref_cmd_sn (frame_of past.came k).header in
      let same : plugged n (ended luns k past) ≡ behind luns k past (ended luns k past) = rw (f, e) refl in
      let moves = moved_by _ past k rest refl w.lawful is in
      let unasked = plugs_unasked past (reach_of luns k past) e in
      let m = more_over luns past k rest f unasked w.lawful is moves in
      let lawful = ended_lawful luns _ past k rest refl w.lawful is moves in
      subst (Turns 0 past) same
      (plug_turns past (ended luns k past) n lawful
      (plugged_tasks n past (ended luns k past) m.1 m.2 w.lawful lawful m.0 (plugs_new past (reach_of luns k past) e)) (now_turns unasked))

acted_adds : (luns : List ℕ) (n : ℕ) (past : Past) (k : ℕ) → IsWithinLimits past → IsLawful (acted luns k past)
    → Turns n past (behind luns k past (ended luns k past)) → length (flat_map spelling (act_answers luns k past)) ≤ n * request_weight + 48
    → Adds 48 0 past (acted luns k past)
acted_adds luns n past k w lawful t short =
    let fewer = t.pending in
    adds_answering 48 (act_answers luns k past) past (behind luns k past (ended luns k past)) w lawful t.headers t.immediate (omega (arith, fewer))
    (omega (arith, fewer, short)) (acted_same luns k past).0 (acted_same luns k past).1

header_whole : (past : Past) (k : ℕ) → IsWithinLimits past → k < length past.came → length (frame_of past.came k).header ≡ header_length
header_whole past k w lt = w.headers k _ lt

-- one answer at most, and none where it waits
function_short : (luns : List ℕ) (past : Past) (k : ℕ) → is_function (frame_of past.came k) ≡ true
    → length (flat_map spelling (act_answers luns k past)) ≤ 48
function_short luns past k f = by_case (awaited past (reach_of luns k past)) refl
  where
    by_case : (names : List ℕ) → awaited past (reach_of luns k past) ≡ names → length (flat_map spelling (act_answers luns k past)) ≤ 48
    by_case [] e = omega (arith, ap (λ (l : List Answer). length (flat_map spelling l)) (function_is luns k past f e))
    by_case (first ∷ others) e = omega (arith, ap (λ (l : List Answer). length (flat_map spelling l)) (function_waits luns k past first others f e))

act_adds_by : (c f : Bool) (luns : List ℕ) (past : Past) (k : ℕ) (rest : List ℕ) → is_command (frame_of past.came k) ≡ c
    → is_function (frame_of past.came k) ≡ f
    → due past ≡ k ∷ rest → k < length past.came → IsWithinLimits past → IsLawful (acted luns k past) → Adds 48 0 past (acted luns k past)
unfolding act_answers
act_adds_by true f luns past k rest e g is lt w lawful =
    let no = command_no_function (frame_of past.came k) e in
    let none = ap (λ (l : List Answer). length (flat_map spelling l)) (command_answers_none luns k past e) in
    acted_adds luns 0 past k w lawful (subst (Turns 0 past) (sym (behind_plain luns past k no)) (command_turns past k rest e w is)) (omega (arith, none))
act_adds_by false true luns past k rest e g is lt w lawful =
    let one = function_short luns past k g in
    acted_adds luns 0 past k w lawful (function_turns luns past k rest g w is _ refl) (omega (arith, one))
act_adds_by false false luns past k rest e g is lt w lawful =
    let frame = frame_of past.came k in
    let long = most_answered (opcode_of (opcode_number frame.header)) (awaited past (reach_of luns k past)) (function_result past (reach_of luns k past))
    (exchange_of past)
    (stamp (ended luns k past)) past.params frame (header_whole past k w lt) in
    acted_adds luns 1 past k w lawful (subst (Turns 1 past) (sym (behind_plain luns past k g)) (other_turns past k rest e w is)) (omega (arith, long))

pub act_adds : (work : Work) (k : ℕ) (rest : List ℕ) → due work.past ≡ k ∷ rest → IsWithinLimits work.past → Adds 48 0 work.past (act k work).past
unfolding act
act_adds work k rest is w =
    act_adds_by _ _ (numbers_of work.units.states) work.past k rest refl refl is (due_came work.past w.lawful k rest is) w (act_lawful work k rest is w.lawful)

-- ---- R2Ts are sent

asks_long : (past : Past) (k : ℕ) → AreInRange past.params.values → length (flat_map spelling (r2t_answers (r2ts_of past k))) ≤ 98304
unfolding r2ts_of task_at task_of
asks_long past k range = grind (arith, r2ts_long, few_asks)

pub ask_adds : (work : Work) (k : ℕ) (rest : List ℕ) → asking work.past ≡ k ∷ rest → AreInRange work.past.params.values → IsWithinLimits work.past
    → Adds 98304 0 work.past (ask k work).past
unfolding ask
ask_adds work k rest is range w =
    let past = work.past in
    let r2ts = past.r2ts ++ map (sent_for k) (r2ts_of past k) in
    let same = same_load past past.data_outs r2ts past.answers in
    adds_answering 98304 (r2t_answers (r2ts_of past k)) past (record past { r2ts = r2ts }) w (ask_lawful work k rest is w.lawful) w.headers
    (omega (arith, same.1)) (omega (arith, same.0)) (omega (arith, same.0, asks_long past k range)) refl refl

-- ---- a function is answered whose data has come

told_pending : (past : Past) (k : ℕ) → IsLawful past → is_in k (awaiting past) ≡ true → pending_in (told k past) ≤ pending_in past
unfolding held due queue taken_numbers
told_pending past k lawful waits = omega (arith, waiting_told past k lawful waits)

told_immediate : (past : Past) (k : ℕ) → IsLawful past → is_in k (awaiting past) ≡ true → immediate_of (told k past) ≤ immediate_of past
unfolding unfinished
told_immediate past k lawful waits = grind (arith, functions_told, left_few)

told_short : (past : Past) (k : ℕ) → length (flat_map spelling (told_answers past k)) ≤ 48
unfolding told_answers
told_short past k = omega arith

pub tell_adds : (work : Work) (k : ℕ) (rest : List ℕ) → drained_functions work.past ≡ k ∷ rest → IsWithinLimits work.past
    → Adds 48 0 work.past (tell k work).past
unfolding tell
tell_adds work k rest is w =
    let past = work.past in
    let waits = first_waits past k rest is in
    let fewer = told_pending past k w.lawful waits in
    adds_answering 48 (told_answers past k) past (told k past) w (tell_lawful work k rest is w.lawful) w.headers (told_immediate past k w.lawful waits) fewer
    (omega (arith, fewer, told_short past k)) refl refl
