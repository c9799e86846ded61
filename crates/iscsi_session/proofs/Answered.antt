-- What a request is answered, by its opcode, and what its act leaves of the session.
use Rattle.std.proofs.Common.{◌≡◌, ◌≢◌, inl, inr, ℕ, min, List, [], ◌∷◌, ◌++◌, length, map, take, drop, Bool, true, false, cond, ◌==◌, eqb, refl, sym, ap, ◌∙◌, subst, arith, append-nil, ◌<◌}
use Rattle.std.specs.Prelude.{◌⊎◌, flat_map, Option, Some, None}
use Rattle.std.proofs.lemmas.Bool.{eqb-true, false_from_ne_true}
use Rattle.std.proofs.lemmas.List.{take_min}
use Rattle.iscsi_pdu.specs.Header.{opcode_of, opcode_number, initiator_task_tag}
use Rattle.iscsi_pdu.specs.Segment.{most_data}
use Rattle.iscsi_pdu.specs.Answer.{spelling}
use Rattle.iscsi_pdu.specs.Frames.{Frame}
use Rattle.iscsi_pdu.specs.declared.header.Opcode.{Opcode}
use Rattle.iscsi_pdu.specs.declared.header.Opcode.TheVariants as opcodes
use Rattle.iscsi_pdu.specs.declared.answer.Answer.{Answer}
use Rattle.iscsi_pdu.specs.declared.answer.Answer.TheVariants as answers
use Rattle.iscsi_pdu.specs.declared.reject.RejectReason.TheVariants as reasons
use Rattle.iscsi_pdu.specs.LogoutRequest.{logout_reason}
use Rattle.iscsi_pdu.specs.declared.stamp.Stamp.{Stamp}
use Rattle.iscsi_login.specs.declared.session_params.SessionParams.{SessionParams}
use Rattle.iscsi_order.specs.Window as order
use Rattle.iscsi_order.specs.declared.window.CommandNumbers.{CommandNumbers}
use Rattle.iscsi_order.specs.Stat.{stat_sn}
use Rattle.iscsi_login.specs.declared.values.Values.{Values}
use Rattle.iscsi_requests.specs.Judging.{reserved_tag, reject}
use Rattle.iscsi_requests.specs.Requests.{pending, Request, Past, frame_of, frames_of, is_in, left, is_command, is_function, functions, due, queue, finished, moved, numbers, bears_status, bearing, statuses, stamp, answering}
use Rattle.iscsi_requests.specs.State.{SessionState, standing, bare, bare_frames, TaskLists, TransferList, IsLawful, Stands, functions_of, one_fewer, removed_at, place_for, function_place, function_removed}
use Rattle.iscsi_requests.specs.Transfers.{tag_of}
use Rattle.iscsi_pdu.specs.declared.task_management_response.TaskResult.{TaskResult}
use Rattle.iscsi_requests.specs.Functions.{own_reach, awaited, function_result, function_answer}
use Rattle.iscsi_requests.proofs.Heads.{same_head}
use Rattle.iscsi_session.specs.Runs.{Output, output, ActsAs, ActsFirst}
use Rattle.iscsi_session.specs.declared.act.Act.{Act}
use Rattle.iscsi_session.specs.declared.act.Act.TheVariants.{Idle, Taken, Ended}
use Rattle.iscsi_session.specs.Acts.{acted, reach_of, ended, behind, act_answers, ordered, act_answers_by, acted_answers, ends, ends_by, closes, logout_answer, ping_answers}
use Rattle.iscsi_exchange.specs.ExchangeState.{ExchangeState}
use Rattle.iscsi_exchange.specs.Exchange.{TextPiece, ToldState, hears}
use Rattle.iscsi_requests.specs.Texts.{is_text, exchange_behind, exchange_of, text_answer}
use Rattle.iscsi_session.proofs.Parts.{exchange_acted, exchange_other, exchange_text, text_kind, not_text, exchange_as, parts, due_is, queue_is, stands_tasks, stands_parts}
use Rattle.iscsi_session.proofs.Kept.{function_no_command, command_no_function, functions_distinct, other_not_pending}
use Rattle.iscsi_session.proofs.Standing.{bare_other, standing_kept, stands_as, stands_void}
use Rattle.iscsi_session.proofs.Over.{removed_command}
use Rattle.iscsi_requests.proofs.Places.{Located, found_self, remove_map}
use Rattle.iscsi_session.proofs.Feeding.{removed_is, headers_are, function_located}
use Rattle.iscsi_session.proofs.Moved.{not_pending, due_came, stays_other, lawful_command, tasks_command, tasks_gone, transfers_command, functions_command, lawful_other, tasks_other, transfers_other, functions_acted, functions_kept, functions_left, functions_of_finished, due_function, lawful_finished, tasks_finished}

-- what a function sees of itself
pub seen : {past : Past} {inside now : SessionState} → inside ≡ now → Stands past now → Stands past inside
seen {past} same s = subst (λ (x : SessionState). Stands past x) (sym same) s

-- ---- a request is counted as acted

pub moved_same : (k : ℕ) (past : Past) → ((moved k past).params ≡ past.params) × ((moved k past).answers ≡ past.answers)
moved_same k past = grind arith

-- ---- what an act leaves

abbrev pub kind_of : Frame → Opcode
kind_of frame = opcode_of (opcode_number frame.header)

pub command_kind : (frame : Frame) → is_command frame ≡ true → kind_of frame ≡ opcodes.ScsiCommand
command_kind frame e = ap opcode_of (eqb-true (opcode_number frame.header) 0x01 e)

pub function_kind : (frame : Frame) → is_function frame ≡ true → kind_of frame ≡ opcodes.TaskManagement
function_kind frame e = ap opcode_of (eqb-true (opcode_number frame.header) 0x02 e)

pub ended_plain : (luns : List ℕ) (k : ℕ) (past : Past) → is_function (frame_of past.came k) ≡ false → ended luns k past ≡ moved k past
ended_plain luns k past e = rw e refl

acted_plain : (luns : List ℕ) (k : ℕ) (past : Past) → is_function (frame_of past.came k) ≡ false
    → acted luns k past ≡ answering (act_answers luns k past) (moved k past)
acted_plain luns k past e = grind arith

pub stands_plain : (luns : List ℕ) (k : ℕ) (past : Past) (state : SessionState) → is_function (frame_of past.came k) ≡ false
    → Stands (answering (act_answers luns k past) (moved k past)) state → Stands (acted luns k past) state
stands_plain luns k past state e s = subst (λ (p : Past). Stands p state) (sym (acted_plain luns k past e)) s

pub statuses_behind : (luns : List ℕ) (k : ℕ) (past after : Past) → statuses (behind luns k past after) ≡ statuses after
statuses_behind luns k past after = grind arith

pub stamp_is : (past : Past) (stat : ℕ) (now : CommandNumbers) → stat ≡ stat_sn (statuses past) → now ≡ order.numbers_of (numbers past)
    → record { stat_sn = stat; exp_cmd_sn = now.exp_cmd_sn; max_cmd_sn = now.max_cmd_sn } ≡ stamp past
unfolding stamp
stamp_is past stat now e f = rw (e, f) refl

pub acted_same : (luns : List ℕ) (k : ℕ) (past : Past) → ((acted luns k past).params ≡ past.params) ×
    ((acted luns k past).answers ≡ past.answers ++ act_answers luns k past)
acted_same luns k past = grind arith

-- ---- by the opcode

-- what it is answered, by its kind
answers_of : (luns : List ℕ) (k : ℕ) (past : Past) {o : Opcode} → kind_of (frame_of past.came k) ≡ o
    → act_answers luns k past ≡ act_answers_by o (awaited past (reach_of luns k past)) (function_result past (reach_of luns k past)) (exchange_of past)
    (stamp (ended luns k past)) past.params (frame_of past.came k)
unfolding act_answers
answers_of luns k past is = grind arith

-- the session goes on
pub goes_on_act : (k : ℕ) (past : Past) {o : Opcode} → kind_of (frame_of past.came k) ≡ o → ends_by o past.params (frame_of past.came k) ≡ false
    → Taken ≡ cond (ends past.params (frame_of past.came k)) Ended Taken
unfolding ends
goes_on_act k past is none = grind arith

pub command_answers_none : (luns : List ℕ) (k : ℕ) (past : Past) → is_command (frame_of past.came k) ≡ true → act_answers luns k past ≡ []
command_answers_none luns k past e = answers_of luns k past (command_kind (frame_of past.came k) e)

is_no_function : (frame : Frame) → is_function frame ≡ false → kind_of frame ≡ opcodes.TaskManagement → ⊥
is_no_function frame no_function e = grind arith

is_no_text : (frame : Frame) → is_text frame ≡ false → kind_of frame ≡ opcodes.Text → ⊥
is_no_text frame no_text e = grind arith

-- no request of any other kind is answered, and none ends the session
abbrev pub IsOther : Opcode → Type 0
IsOther o =
    (o ≡ opcodes.ScsiCommand) ⊎ ((o ≡ opcodes.TaskManagement) ⊎ ((o ≡ opcodes.Text) ⊎ ((o ≡ opcodes.Login)
    ⊎ ((o ≡ opcodes.DataOut) ⊎ ((o ≡ opcodes.Snack) ⊎ ((n : ℕ) × (o ≡ opcodes.Other n)))))))

-- of any of them
other_plain : (o : Opcode) (waited : List ℕ) (result : TaskResult) (exchange : ExchangeState) (numbers_now : Stamp) (params : SessionParams) (frame : Frame)
    → IsOther o → o ≢ opcodes.Text → o ≢ opcodes.TaskManagement
    → (act_answers_by o waited result exchange numbers_now params frame ≡ []) × (ends_by o params frame ≡ false)
other_plain o waited result exchange numbers_now params frame (inl e) no_text no_function = rw e (refl, refl)
other_plain o waited result exchange numbers_now params frame (inr (inl e)) no_text no_function = absurd (no_function e)
other_plain o waited result exchange numbers_now params frame (inr (inr (inl e))) no_text no_function = absurd (no_text e)
other_plain o waited result exchange numbers_now params frame (inr (inr (inr (inl e)))) no_text no_function = rw e (refl, refl)
other_plain o waited result exchange numbers_now params frame (inr (inr (inr (inr (inl e))))) no_text no_function = rw e (refl, refl)
other_plain o waited result exchange numbers_now params frame (inr (inr (inr (inr (inr (inl e)))))) no_text no_function = rw e (refl, refl)
other_plain o waited result exchange numbers_now params frame (inr (inr (inr (inr (inr (inr (n, e))))))) no_text no_function = rw e (refl, refl)

pub other_is : (luns : List ℕ) (k : ℕ) (past : Past) → IsOther (kind_of (frame_of past.came k)) → is_text (frame_of past.came k) ≡ false
    → is_function (frame_of past.came k) ≡ false
    → (act_answers luns k past ≡ []) × (Taken ≡ cond (ends past.params (frame_of past.came k)) Ended Taken)
other_is luns k past is no_text no_function =
    let frame = frame_of past.came k in
    let both = other_plain (kind_of frame) (awaited past (reach_of luns k past)) (function_result past (reach_of luns k past)) (exchange_of past)
    (stamp (ended luns k past)) past.params frame is (λ e. is_no_text frame no_text e) (λ e. is_no_function frame no_function e) in
    (answers_of luns k past refl ∙ both.0, goes_on_act k past refl both.1)

pub function_is : (luns : List ℕ) (k : ℕ) (past : Past) → is_function (frame_of past.came k) ≡ true → awaited past (reach_of luns k past) ≡ []
    → act_answers luns k past ≡ function_answer (stamp (ended luns k past)) (function_result past (reach_of luns k past)) (frame_of past.came k).header ∷ []
function_is luns k past e none = grind (arith, answers_of luns k past (function_kind (frame_of past.came k) e), function_kind (frame_of past.came k) e)

-- one that waits for data is not answered
pub function_waits : (luns : List ℕ) (k : ℕ) (past : Past) (first : ℕ) (others : List ℕ) → is_function (frame_of past.came k) ≡ true
    → awaited past (reach_of luns k past) ≡ first ∷ others → act_answers luns k past ≡ []
function_waits luns k past first others e some =
    answers_of luns k past (function_kind (frame_of past.came k) e)
    ∙ ap (λ (l : List ℕ). acted_answers l (stamp (ended luns k past)) (function_result past (reach_of luns k past)) (frame_of past.came k).header) some

pub text_is : (luns : List ℕ) (k : ℕ) (past : Past) → is_text (frame_of past.came k) ≡ true
    → act_answers luns k past ≡ text_answer (stamp (moved k past)) (hears (exchange_of past) (frame_of past.came k) past.params).piece
    (frame_of past.came k) ∷ []
text_is luns k past e =
    grind (arith, answers_of luns k past (text_kind (frame_of past.came k) e), text_kind (frame_of past.came k) e, text_kind (frame_of past.came k) e)

pub one_bearing : (x : Answer) → bears_status x ≡ true → bearing (x ∷ []) ≡ 1
one_bearing x e = rw e refl

pub text_bears : (numbers_now : Stamp) (piece : Option TextPiece) (frame : Frame) → bearing (text_answer numbers_now piece frame ∷ []) ≡ 1
text_bears numbers_now piece frame = grind arith

-- ---- what is written

pub record PingIs (values : Values) (frame : Frame) (tag : ℕ) (body : List ℕ) : Type 0 where
  pub asks : eqb (initiator_task_tag frame.header) reserved_tag ≡ false
  pub tag_is : tag ≡ initiator_task_tag frame.header
  pub body_is : body ≡ take (min values.max_recv_data_segment_length most_data) frame.body

pub ping_written : (old new body : List ℕ) (tag : ℕ) (numbers_now given : Stamp) (values : Values) (frame : Frame) → PingIs values frame tag body
    → given ≡ numbers_now
    → new ≡ old ++ spelling (answers.NopIn (record { initiator_task_tag = tag; stamp = given; body = body }))
    → new ≡ old ++ flat_map spelling (ping_answers numbers_now values frame)
ping_written old new body tag numbers_now given values frame is same written = grind (arith, append-nil)

-- no more than there is, no more than the initiator takes, and no more than a PDU bears
pub ping_data : (length_is n most : ℕ) (body : List ℕ) → length_is ≡ length body → take (min (min length_is n) most) body ≡ take (min n most) body
ping_data length_is n most body e =
    ap (λ (k : ℕ). take k body) (let same : min (min length_is n) most ≡ min (min n most) (length body) = omega arith in same) ∙ take_min (min n most) body

-- ---- what is left of the session

pub answering_none : (past : Past) (more : List Answer) → more ≡ [] → past ≡ answering more past
answering_none past more e = grind (arith, append-nil)

moved_command : (k : ℕ) (past : Past) → is_command (frame_of past.came k) ≡ true → record past { acted = past.acted ++ k ∷ [] } ≡ moved k past
moved_command k past e = rw e refl

pub moved_other : (k : ℕ) (past : Past) → is_command (frame_of past.came k) ≡ false
    → record past { acted = past.acted ++ k ∷ []; finished = past.finished ++ k ∷ [] } ≡ moved k past
moved_other k past e = rw e refl

pub function_no_text : (frame : Frame) → is_function frame ≡ true → is_text frame ≡ false
function_no_text frame e = not_text frame opcodes.TaskManagement (function_kind frame e) (λ x. absurd cc)

command_no_text : (frame : Frame) → is_command frame ≡ true → is_text frame ≡ false
command_no_text frame e = not_text frame opcodes.ScsiCommand (command_kind frame e) (λ x. absurd cc)

pub text_no_command : (frame : Frame) → is_text frame ≡ true → is_command frame ≡ false
text_no_command frame e = false_from_ne_true (is_command frame) (λ h. absurd (let no = sym (command_no_text frame h) ∙ e in cc))

pub text_no_function : (frame : Frame) → is_text frame ≡ true → is_function frame ≡ false
text_no_function frame e = false_from_ne_true (is_function frame) (λ h. absurd (let no = sym (function_no_text frame h) ∙ e in cc))

-- what is remembered of the functions, where one of another kind is finished
same_functions : (past : Past) (state : SessionState) (k : ℕ) → Stands past state → is_function (frame_of past.came k) ≡ false
    → state.functions ≡ functions_of (finished k past)
same_functions past state k s e = grind (arith, parts, functions_kept, other_not_pending)

-- where it stands among the functions
pub function_at : (past : Past) (k : ℕ) (at : Option ℕ) → IsLawful past → is_in k (functions past) ≡ true
    → Located (λ header. initiator_task_tag header == tag_of past.came k) (λ a. (frame_of past.came a).header) (functions past) at
    → function_removed (map (λ a. (frame_of past.came a).header) (functions past)) at
    ≡ map (λ a. (frame_of past.came a).header) (left (k ∷ []) (functions past))
function_at past k None lawful there found =
    absurd (let no = sym (found_self (tag_of past.came) k (functions past) lawful.function_tags there) ∙ found in cc)
function_at past k (Some i) lawful there found =
    grind (arith, sym found.1 ∙ found_self (tag_of past.came) k (functions past) lawful.function_tags there, remove_map, functions_distinct)

function_gone : (past : Past) (state : SessionState) (k : ℕ) → Stands past state → is_in k (functions past) ≡ true → is_in k (pending past) ≡ false
    → function_removed state.functions (function_place (tag_of past.came k) state.functions) ≡ functions_of (finished k past)
function_gone past state k s there free =
    ap (λ (l : List (List ℕ)). function_removed l (function_place (tag_of past.came k) l)) (headers_are past state s)
    ∙ function_at past k _ s.lawful there (function_located past (tag_of past.came k)) ∙ functions_left past k free

-- ---- the first that is due

module _ (past : Past) (state : SessionState) (k : ℕ) (rest : List ℕ) (s : Stands past state) (is : due past ≡ k ∷ rest) where
  came : k < length past.came
  came = due_came past s.lawful k rest is

  -- the first that is due, in the code
  pub first_due : state.tasks.due ≡ frame_of (standing past) k ∷ frames_of (standing past) rest
  first_due = due_is past state s ∙ ap (frames_of (standing past)) is

  pub some_due : state.tasks.due ≡ [] → ⊥
  some_due none = let both : frame_of (standing past) k ∷ frames_of (standing past) rest ≡ [] = sym first_due ∙ none in cc

  -- a request that is no SCSI Command stands as it came
  pub stands_other_kind : is_command (frame_of past.came k) ≡ false → frame_of (standing past) k ≡ frame_of past.came k
  stands_other_kind e = standing_kept past k came (stays_other past s.lawful k rest is e) ∙ bare_other (frame_of past.came k) e

  -- and with it the others, in the code
  pub first_drops : is_command (frame_of past.came k) ≡ false → state.tasks.due ≡ frame_of past.came k ∷ drop 1 state.tasks.due
  first_drops e = grind (arith, first_due, stands_other_kind e)

  -- by the kind of what stands there: it was removed, or stands as it came
  pub command_there : is_command (frame_of (standing past) k) ≡ true
      → (frame_of (standing past) k ≡ bare (frame_of past.came k)) × (is_in k past.removed ≡ false)
  command_there e = grind (arith, came, eqb-true, stands_as, false_from_ne_true, stands_void)

  kind_there : (n : ℕ) → opcode_number (frame_of (standing past) k).header ≡ n → (n ≡ 0x3F → ⊥)
      → frame_of (standing past) k ≡ bare (frame_of past.came k)
  kind_there n e other = stands_as past k came (λ h. other (sym e ∙ h))

  -- of what is no SCSI Command as it stands
  either_way : (q : Frame → Bool) → ((frame : Frame) → is_command frame ≡ true → q frame ≡ false) → q (frame_of (standing past) k) ≡ false
      → q (frame_of past.came k) ≡ false
  either_way q never e = grind (arith, removed_command, standing_kept, came)

  pub no_text_there : is_text (frame_of (standing past) k) ≡ false → is_text (frame_of past.came k) ≡ false
  no_text_there e = either_way is_text command_no_text e

  pub no_function_there : is_function (frame_of (standing past) k) ≡ false → is_function (frame_of past.came k) ≡ false
  no_function_there e = either_way is_function command_no_function e

  pub text_there : is_text (frame_of (standing past) k) ≡ true → is_text (frame_of past.came k) ≡ true
  text_there e = grind (arith, kind_there, eqb-true)

  pub function_there : is_function (frame_of (standing past) k) ≡ true → is_function (frame_of past.came k) ≡ true
  function_there e = grind (arith, kind_there, eqb-true)

  -- a request of a kind that acts stands as it came
  pub came_as : {o : Opcode} → is_command (frame_of (standing past) k) ≡ false → kind_of (frame_of (standing past) k) ≡ o
      → (opcodes.Other 0x3F ≡ o → ⊥) → frame_of (standing past) k ≡ frame_of past.came k
  came_as no_command e other = grind (arith, stands_as, came, bare_other)

  -- and one of another kind is one, or was removed
  pub other_came : IsOther (kind_of (frame_of (standing past) k)) → IsOther (kind_of (frame_of past.came k))
  other_came e = by_case (is_in k past.removed) refl
    where
      by_case : (b : Bool) → is_in k past.removed ≡ b → IsOther (kind_of (frame_of past.came k))
      by_case true gone = inl (command_kind (frame_of past.came k) (removed_command past s.lawful k gone))
      by_case false stays = subst IsOther (ap kind_of (standing_kept past k came stays)) e

  -- the first of the line is this one
  here_is : (frame : Frame) → state.tasks.due ≡ frame ∷ drop 1 state.tasks.due → frame ≡ frame_of (standing past) k
  here_is frame some = same_head frame (frame_of (standing past) k) (drop 1 state.tasks.due) (frames_of (standing past) rest) state.tasks.due some first_due

  -- ---- a SCSI Command

  exchange_command : is_command (frame_of past.came k) ≡ true → exchange_of (record past { acted = past.acted ++ k ∷ [] }) ≡ exchange_of past
  exchange_command e =
      exchange_acted past (record past { acted = past.acted ++ k ∷ [] }) k refl refl refl
      ∙ exchange_other past.params (exchange_of past) (frame_of past.came k) (command_no_text (frame_of past.came k) e)

  pub stands_queued : (luns : List ℕ) (frame : Frame) (others : List Frame) (tasks : TaskLists) → is_command (frame_of past.came k) ≡ true
      → is_in k past.removed ≡ false → frame ≡ bare (frame_of past.came k) → others ≡ frames_of (standing past) rest
      → tasks ≡ record state.tasks { due = others; queue = state.tasks.queue ++ frame ∷ [] } → Stands (acted luns k past) (record state { tasks = tasks })
  stands_queued luns frame others tasks e stays here left same =
      let after : Past = record past { acted = past.acted ++ k ∷ [] } in
      let goes : after ≡ acted luns k past = grind (arith, moved_command, answering_none, command_answers_none, acted_plain, command_no_function) in
      grind (arith, stands_tasks, lawful_command, parts, tasks_command, transfers_command, functions_command, exchange_command)

  -- one that was removed comes to nothing
  stands_gone : is_command (frame_of past.came k) ≡ true → is_in k past.removed ≡ true → Stands (moved k past)
      (record state { tasks = one_fewer (frame_of (standing past) k) (record state.tasks { due = drop 1 state.tasks.due }) })
  stands_gone e gone =
      grind (arith, moved_command, stands_tasks, lawful_command, first_due, parts, tasks_gone, transfers_command, functions_command, exchange_command)

  -- ---- every other request is finished, in the code

  stands_other : (headers : List (List ℕ)) (exchange : ExchangeState) → is_command (frame_of past.came k) ≡ false → headers ≡ functions_of (finished k past)
      → exchange ≡ exchange_behind past.params (exchange_of past) (frame_of past.came k) → Stands (moved k past) (record state {
        tasks = one_fewer (frame_of past.came k) (record state.tasks { due = drop 1 state.tasks.due });
        functions = headers;
        exchange = exchange;
      })
  stands_other headers exchange e left_over heard =
      grind (arith, moved_other, stands_parts, lawful_other, first_due, parts, tasks_other, transfers_other, functions_acted, exchange_acted)

  -- no Text
  exchange_kept : is_text (frame_of past.came k) ≡ false → state.exchange ≡ exchange_behind past.params (exchange_of past) (frame_of past.came k)
  exchange_kept e = (parts past state s).exchange_is ∙ sym (exchange_other past.params (exchange_of past) (frame_of past.came k) e)

  pub finished_here : (frame : Frame) (tasks : TaskLists) → is_command (frame_of (standing past) k) ≡ false → is_text (frame_of past.came k) ≡ false
      → is_function (frame_of past.came k) ≡ false
      → state.tasks.due ≡ frame ∷ drop 1 state.tasks.due → tasks ≡ one_fewer frame (record state.tasks { due = drop 1 state.tasks.due })
      → (frame ≡ frame_of (standing past) k) × Stands (moved k past) (record state { tasks = tasks })
  finished_here frame tasks e no_text no_function some same =
      (here_is frame some, rw (same, here_is frame some) (by_case (is_in k past.removed) refl))
    where
      by_case : (b : Bool) → is_in k past.removed ≡ b
          → Stands (moved k past) (record state { tasks = one_fewer (frame_of (standing past) k) (record state.tasks { due = drop 1 state.tasks.due }) })
      by_case true gone = stands_gone (removed_command past s.lawful k gone) gone
      by_case false stays =
          let no_command : is_command (frame_of past.came k) ≡ false = ap is_command (sym (standing_kept past k came stays)) ∙ e in
          rw (stands_other_kind no_command) (stands_other state.functions state.exchange no_command (same_functions past state k s no_function)
          (exchange_kept no_text))

  -- one that is answered by its kind
  pub answered_here : {o : Opcode} (frame : Frame) (tasks : TaskLists) → is_command (frame_of (standing past) k) ≡ false
      → is_text (frame_of past.came k) ≡ false → is_function (frame_of past.came k) ≡ false → state.tasks.due ≡ frame ∷ drop 1 state.tasks.due
      → tasks ≡ one_fewer frame (record state.tasks { due = drop 1 state.tasks.due }) → kind_of frame ≡ o → (opcodes.Other 0x3F ≡ o → ⊥)
      → (frame ≡ frame_of past.came k) × (kind_of (frame_of past.came k) ≡ o) × Stands (moved k past) (record state { tasks = tasks })
  answered_here frame tasks e no_text no_function some same kind other =
      let f = finished_here frame tasks e no_text no_function some same in
      let there = sym (ap kind_of f.0) ∙ kind in
      let as_came = came_as e there other in
      (f.0 ∙ as_came, sym (ap kind_of as_came) ∙ there, f.1)

  -- a Task Management Function Request
  pub function_here : (frame : Frame) (tasks : TaskLists) (tag : ℕ) (headers : List (List ℕ)) → is_function (frame_of past.came k) ≡ true
      → state.tasks.due ≡ frame ∷ drop 1 state.tasks.due → tasks ≡ one_fewer frame (record state.tasks { due = drop 1 state.tasks.due })
      → tag ≡ tag_of past.came k → headers ≡ function_removed state.functions (function_place tag state.functions)
      → (frame ≡ frame_of past.came k) × Stands (moved k past) (record state { tasks = tasks; functions = headers })
  function_here frame tasks tag headers e some same tag_is gone =
      let f = frame_of past.came k in
      let no_command = function_no_command f e in
      let here = here_is frame some ∙ stands_other_kind no_command in
      let left_over : headers ≡ functions_of (finished k past) = grind (arith, tag_is, function_gone, due_function, not_pending) in
      (here, rw (same, here) (stands_other headers state.exchange no_command left_over (exchange_kept (function_no_text f e))))

  -- a Text, and its exchange goes on or is over
  pub text_here : (frame : Frame) (tasks : TaskLists) (told : ToldState) → is_text (frame_of past.came k) ≡ true
      → state.tasks.due ≡ frame ∷ drop 1 state.tasks.due → tasks ≡ one_fewer frame (record state.tasks { due = drop 1 state.tasks.due })
      → told ≡ hears state.exchange (frame_of past.came k) state.params
      → (frame ≡ frame_of past.came k) × (told ≡ hears (exchange_of past) (frame_of past.came k) past.params)
      × Stands (moved k past) (record state { tasks = tasks; exchange = told.exchange })
  text_here frame tasks told e some same hears_so =
      let p = parts past state s in
      let f = frame_of past.came k in
      let no_command = text_no_command f e in
      let here = here_is frame some ∙ stands_other_kind no_command in
      let heard : told ≡ hears (exchange_of past) f past.params = grind arith in
      let next : told.exchange ≡ exchange_behind past.params (exchange_of past) f = ap (λ (t : ToldState). t.exchange) heard
      ∙ sym (exchange_text past.params (exchange_of past) f e) in (
        here,
        heard,
        rw (same, here) (stands_other state.functions told.exchange no_command (same_functions past state k s (text_no_function f e)) next),
      )

-- ---- what it is answered

pub logout_act : (k : ℕ) (past : Past) (frame : Frame) (params : SessionParams) (act : Act) → frame ≡ frame_of past.came k → params ≡ past.params
    → kind_of (frame_of past.came k) ≡ opcodes.Logout
    → act ≡ cond (closes params frame) Ended Taken → act ≡ cond (ends past.params (frame_of past.came k)) Ended Taken
unfolding ends
logout_act k past frame params act same agreed kind is = grind arith

pub ping_same : (luns : List ℕ) (k : ℕ) (past : Past) (frame : Frame) → frame ≡ frame_of past.came k → kind_of (frame_of past.came k) ≡ opcodes.NopOut
    → ping_answers (stamp (moved k past)) (moved k past).params.values frame ≡ act_answers luns k past
ping_same luns k past frame same kind = grind (arith, answers_of luns k past kind, moved_same k past)

pub logout_same : (luns : List ℕ) (k : ℕ) (past : Past) (frame : Frame) → frame ≡ frame_of past.came k → kind_of (frame_of past.came k) ≡ opcodes.Logout
    → logout_answer (stamp (moved k past)) (moved k past).params frame ∷ [] ≡ act_answers luns k past
logout_same luns k past frame same kind = grind (arith, answers_of luns k past kind, moved_same k past)

pub function_bears : (luns : List ℕ) (k : ℕ) (past : Past) → is_function (frame_of past.came k) ≡ true → awaited past (reach_of luns k past) ≡ []
    → bearing (act_answers luns k past) ≡ 1
function_bears luns k past e none = grind (arith, function_is, one_bearing)

pub function_same : (luns : List ℕ) (k : ℕ) (past : Past) (header : List ℕ) (result : TaskResult) → header ≡ (frame_of past.came k).header
    → result ≡ function_result past (own_reach luns header) → is_function (frame_of past.came k) ≡ true → awaited past (reach_of luns k past) ≡ []
    → function_answer (stamp (ended luns k past)) result header ∷ [] ≡ act_answers luns k past
function_same luns k past header result same is e none = grind (arith, function_is)

pub text_same : (luns : List ℕ) (k : ℕ) (past : Past) (frame : Frame) (told : ToldState) → frame ≡ frame_of past.came k
    → told ≡ hears (exchange_of past) (frame_of past.came k) past.params → is_text (frame_of past.came k) ≡ true
    → text_answer (stamp (moved k past)) told.piece frame ∷ [] ≡ act_answers luns k past
text_same luns k past frame told same heard e = grind (arith, text_is)

pub one_spelled : (old : List ℕ) (answer : Answer) (all : List Answer) → answer ∷ [] ≡ all → old ++ spelling answer ≡ old ++ flat_map spelling all
one_spelled old answer all e = grind (arith, append-nil)

pub none_spelled : (old : List ℕ) (all : List Answer) → all ≡ [] → old ≡ old ++ flat_map spelling all
none_spelled old all e = sym (append-nil old) ∙ ap (λ (l : List Answer). old ++ flat_map spelling l) (sym e)

pub stands_silent : (luns : List ℕ) (k : ℕ) (past : Past) (state : SessionState) → is_function (frame_of past.came k) ≡ false → act_answers luns k past ≡ []
    → Stands (moved k past) state → Stands (acted luns k past) state
stands_silent luns k past state no_function e s = grind (arith, stands_plain, answering_none)

-- ---- the next act

no_names : (came : List Request) (l : List ℕ) → frames_of came l ≡ [] → l ≡ []
no_names came [] e = refl
no_names came (k ∷ l) e = absurd cc

pub none_due : (past : Past) (state : SessionState) → Stands past state → state.tasks.due ≡ [] → due past ≡ []
none_due past state s e = no_names (standing past) (due past) (sym (due_is past state s) ∙ e)

some_names : (f : ℕ → Frame) (l : List ℕ) (frame : Frame) (others : List Frame) → map f l ≡ frame ∷ others
    → (k : ℕ) × (rest : List ℕ) × (l ≡ k ∷ rest) × (frame ≡ f k) × (others ≡ map f rest)
some_names f [] frame others e = absurd cc
some_names f (k ∷ l) frame others e = (k, l, refl, cc, cc)

pub due_first : (past : Past) (state : SessionState) (frame : Frame) (others : List Frame) → Stands past state → state.tasks.due ≡ frame ∷ others
    → (k : ℕ) × (rest : List ℕ) × (due past ≡ k ∷ rest) × (frame ≡ frame_of (standing past) k) × (others ≡ frames_of (standing past) rest)
due_first past state frame others s e = some_names (frame_of (standing past)) (due past) frame others (sym (due_is past state s) ∙ e)

pub none_acts : (luns : List ℕ) (past : Past) (state : SessionState) (waiting : Output) → due past ≡ []
    → ActsFirst luns (due past) past Idle state state waiting waiting
none_acts luns past state waiting e = subst (λ (l : List ℕ). ActsFirst luns l past Idle state state waiting waiting) (sym e) (refl, refl, refl)

pub first_acts : (luns : List ℕ) (past : Past) (k : ℕ) (rest : List ℕ) (a : Act) (old new : SessionState) (before waiting : Output) → due past ≡ k ∷ rest
    → ActsAs luns k past a new before waiting → ActsFirst luns (due past) past a old new before waiting
first_acts luns past k rest a old new before waiting e acts = subst (λ (l : List ℕ). ActsFirst luns l past a old new before waiting) (sym e) acts

-- ---- what it orders of its target

-- only a Task Management Function Request does
pub none_ordered : (past : Past) (k : ℕ) (orders : List (List ℕ)) → is_function (frame_of past.came k) ≡ false → orders ≡ orders ++ ordered k past
none_ordered past k orders e = rw e (sym (append-nil orders))

pub function_ordered : (past : Past) (k : ℕ) (header : List ℕ) (orders : List (List ℕ)) → is_function (frame_of past.came k) ≡ true
    → header ≡ (frame_of past.came k).header → orders ++ header ∷ [] ≡ orders ++ ordered k past
function_ordered past k header orders e same = rw e (ap (λ (h : List ℕ). orders ++ h ∷ []) same)

-- a request that is no function is finished, and answered at once
pub acts_plain : (luns : List ℕ) (k : ℕ) (past : Past) (answers : List Answer) (a : Act) (new : SessionState) (bytes items : List ℕ)
    (orders : List (List ℕ)) → is_function (frame_of past.came k) ≡ false → answers ≡ act_answers luns k past
    → a ≡ cond (ends past.params (frame_of past.came k)) Ended Taken → Stands (answering answers (moved k past)) new
    → items ≡ bytes ++ flat_map spelling answers → ActsAs luns k past a new (output bytes orders) (output items orders)
acts_plain luns k past answers a new bytes items orders e same act stands out = grind (arith, stands_plain, none_ordered)

-- ---- the first of the queue is finished

pub queue_first : (past : Past) (state : SessionState) (frame : Frame) (others : List Frame) → Stands past state → state.tasks.queue ≡ frame ∷ others
    → (k : ℕ) × (rest : List ℕ) × (queue past ≡ k ∷ rest) × (frame ≡ bare (frame_of past.came k)) × (others ≡ bare_frames past.came rest)
queue_first past state frame others s e = some_names (λ k. bare (frame_of past.came k)) (queue past) frame others (sym (queue_is past state s) ∙ e)

pub some_queued : (past : Past) (state : SessionState) (k : ℕ) (rest : List ℕ) → Stands past state → queue past ≡ k ∷ rest → state.tasks.queue ≡ [] → ⊥
some_queued past state k rest s is none = let both : bare (frame_of past.came k) ∷ bare_frames past.came rest ≡ [] = sym (queue_is past state s
    ∙ ap (bare_frames past.came) is) ∙ none in cc

pub done_here : (past : Past) (state : SessionState) (k : ℕ) (rest : List ℕ) (frame : Frame) (tasks : TaskLists) (transfers : TransferList) → Stands past state
    → queue past ≡ k ∷ rest → state.tasks.queue ≡ frame ∷ drop 1 state.tasks.queue
    → tasks ≡ one_fewer frame (record state.tasks { queue = drop 1 state.tasks.queue })
    → transfers ≡ record state.transfers { list = removed_at state.transfers.list (place_for frame state.transfers.list) }
    → (frame ≡ bare (frame_of past.came k)) × Stands (finished k past) (record state { tasks = tasks; transfers = transfers })
done_here past state k rest frame tasks transfers s is some same gone =
    let line = bare_frames past.came rest in
    let first : state.tasks.queue ≡ bare (frame_of past.came k) ∷ line = queue_is past state s ∙ ap (bare_frames past.came) is in
    let here = same_head frame (bare (frame_of past.came k)) (drop 1 state.tasks.queue) line state.tasks.queue some first in (
      here,
      stands_parts past (finished k past) state tasks transfers state.functions state.exchange s (lawful_finished past s.lawful k rest is) refl refl
          (same ∙ ap (λ (l : List Frame). one_fewer frame (record state.tasks { queue = l })) (ap (drop 1) first)
          ∙ ap (λ (f : Frame). one_fewer f (record state.tasks { queue = line })) here
          ∙ ap (λ (t : TaskLists). one_fewer (frame_of past.came k) (record t { queue = line })) (parts past state s).tasks_is
          ∙ tasks_finished past s.lawful k rest is)
          (gone ∙ ap (λ (f : Frame). record state.transfers { list = removed_at state.transfers.list (place_for f state.transfers.list) }) here
          ∙ removed_is past state k rest s is)
          ((parts past state s).functions_is ∙ sym (functions_of_finished past s.lawful k rest is))
          ((parts past state s).exchange_is ∙ sym (exchange_as past (finished k past) refl refl refl)),
    )

pub logout_refused : (numbers_now : Stamp) (params : SessionParams) (frame : Frame) (given : Answer) → closes params frame ≡ false
    → eqb (logout_reason frame.header) 1 ≡ false → eqb (logout_reason frame.header) 2 ≡ false
    → given ≡ reject reasons.InvalidField numbers_now frame → given ≡ logout_answer numbers_now params frame
logout_refused numbers_now params frame given open_still no_cid no_recovery is = grind arith
