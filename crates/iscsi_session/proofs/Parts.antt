-- What a session remembers of its past, part by part.
use Rattle.std.proofs.Common.{◌≡◌, ◌≢◌, ℕ, List, [], ◌∷◌, ◌++◌, true, false, Option, refl, sym, ap, ◌∙◌, arith, suc, ◌+◌, ◌-◌, ◌^◌, ◌<◌, map, get_or, ltb, Bool, None, subst, append-nil}
use Rattle.std.specs.List.{fold, range_with_len}
use Rattle.std.proofs.lemmas.Bool.{eqb-true, false_from_ne_true, ltb-true}
use Rattle.std.proofs.lemmas.List.{map-append}
use Rattle.std.proofs.lemmas.List.Sums.{fold-append}
use Rattle.iscsi_pdu.specs.Header.{opcode_of, opcode_number, is_immediate, cmd_sn}
use Rattle.iscsi_pdu.specs.Frames.{Frame}
use Rattle.iscsi_pdu.specs.declared.header.Opcode.{Opcode}
use Rattle.iscsi_pdu.specs.declared.header.Opcode.TheVariants as opcodes
use Rattle.iscsi_login.specs.declared.session_params.SessionParams.{SessionParams}
use Rattle.iscsi_exchange.specs.ExchangeState.{ExchangeState, no_exchange}
use Rattle.iscsi_exchange.specs.Exchange.{hears}
use Rattle.iscsi_requests.specs.Requests.{Request, Past, frame_of, is_command, is_function, functions, left, numbered, numbers, due, queue, frames_of, unfinished, statuses, bearing, answering, accepted, begun, taken}
use Rattle.iscsi_requests.specs.Transfers.{fed, task_at, outs_of, tags_of}
use Rattle.iscsi_requests.specs.Texts.{is_text, exchange_behind, exchange_of}
use Rattle.iscsi_session.proofs.Kept.{joined, Below, command_no_function, transfers_joined}
use Rattle.iscsi_session.proofs.Accepted.{frames_same, HasFreeTag, marks_are, finished_below, removed_below, functions_of_joined, now, with, IsAhead, lawful_now, admitted, lawful_with, held_now}
use Rattle.std.specs.Prelude.{is_some, Result, Ok, Err, OnOk, OnErr}
use Rattle.std.specs.Result.{is_err}
use Rattle.std.proofs.lemmas.List.FromFn.{get_or-map-range_with_len}
use Rattle.iscsi_pdu.specs.declared.answer.Answer.{Answer}
use Rattle.iscsi_order.specs.Window as order
use Rattle.iscsi_order.specs.Window.{taken as taken_numbers, window}
use Rattle.iscsi_order.specs.WindowState as windows
use Rattle.iscsi_order.specs.WindowState.{remembered as remembered_window}
use Rattle.iscsi_order.specs.Serial.{distance}
use Rattle.iscsi_order.specs.Stat.{stat_sn}
use Rattle.iscsi_requests.specs.Judging.{is_fresh}
use Rattle.iscsi_requests.specs.declared.transfers.Transfer.{Transfer}
use Rattle.iscsi_transfer.specs.WriteData.{WriteDataState, remembered as task_of}
use Rattle.iscsi_transfer.specs.Payload.{begun as begun_data}
use Rattle.iscsi_requests.specs.State.{SessionState, TaskLists, TransferList, no_tasks, transfers_of, functions_of, begun_transfer, bare, bare_command, bare_frames, kept, frame_numbered, standing, tasks_of, window_of, IsLawful, Stands, is_vacant, is_vacant_for, holding, takes_all}
use Rattle.iscsi_session.proofs.Standing.{bare_other, bare_is, numbered_standing}
use Rattle.iscsi_session.proofs.Taken.{frame_marked}
use Rattle.iscsi_requests.proofs.Left.{both_true}
use Rattle.iscsi_session.proofs.Runs.{lawful_answering, statuses_answering}

-- ---- what leaves it as it is

pub exchange_joined : (past : Past) (x : Request) → Below past past.acted → exchange_of (joined x past) ≡ exchange_of past
unfolding exchange_of
exchange_joined past x below = ap (fold (exchange_behind past.params) no_exchange) (frames_same past.came x past.acted below)

-- where the same requests acted
pub exchange_as : (past after : Past) → after.params ≡ past.params → after.came ≡ past.came → after.acted ≡ past.acted
    → exchange_of after ≡ exchange_of past
unfolding exchange_of
exchange_as past after params came acted = rw (params, came, acted) refl

pub exchange_fed : (c : Option ℕ) (frame : Frame) (past : Past) → exchange_of (fed c frame past) ≡ exchange_of past
unfolding exchange_of
exchange_fed c frame past = grind arith

-- ---- one more request acted

pub exchange_acted : (past after : Past) (k : ℕ) → after.params ≡ past.params → after.came ≡ past.came → after.acted ≡ past.acted ++ k ∷ []
    → exchange_of after ≡ exchange_behind past.params (exchange_of past) (frame_of past.came k)
unfolding exchange_of
exchange_acted past after k params came acted = grind (arith, map-append, fold-append)

pub exchange_other : (params : SessionParams) (exchange : ExchangeState) (frame : Frame) → is_text frame ≡ false
    → exchange_behind params exchange frame ≡ exchange
exchange_other params exchange frame e = rw e refl

pub exchange_text : (params : SessionParams) (exchange : ExchangeState) (frame : Frame) → is_text frame ≡ true
    → exchange_behind params exchange frame ≡ (hears exchange frame params).exchange
exchange_text params exchange frame e = rw e refl

-- ---- by the opcode

pub text_kind : (frame : Frame) → is_text frame ≡ true → opcode_of (opcode_number frame.header) ≡ opcodes.Text
text_kind frame e = ap opcode_of (eqb-true (opcode_number frame.header) 0x04 e)

pub not_text : (frame : Frame) (o : Opcode) → opcode_of (opcode_number frame.header) ≡ o → o ≢ opcodes.Text → is_text frame ≡ false
not_text frame o is other = false_from_ne_true (is_text frame) (λ e. other (sym is ∙ text_kind frame e))

pub on_err_known : {T E P : Type 0} (r : Result T E) → P → OnErr r P
on_err_known (Ok x) known = tt
on_err_known (Err e) known = known

pub on_ok_known : {T E P : Type 0} (r : Result T E) → is_err r ≡ false → OnOk r P → P
on_ok_known (Ok x) e known = known
on_ok_known (Err x) e known = absurd cc

pub record Parts (past : Past) (state : SessionState) : Type 0 where
  pub params_is : state.params ≡ past.params
  pub stat_is : state.stat ≡ stat_sn (statuses past)
  pub tasks_is : state.tasks ≡ tasks_of past
  pub transfers_is : state.transfers ≡ transfers_of past
  pub functions_is : state.functions ≡ functions_of past
  pub exchange_is : state.exchange ≡ exchange_of past

pub parts : (past : Past) (state : SessionState) → Stands past state → Parts past state
parts past state s = grind arith

pub due_is : (past : Past) (state : SessionState) → Stands past state → state.tasks.due ≡ frames_of (standing past) (due past)
unfolding tasks_of
due_is past state s = ap (λ (t : TaskLists). t.due) (parts past state s).tasks_is

pub queue_is : (past : Past) (state : SessionState) → Stands past state → state.tasks.queue ≡ bare_frames past.came (queue past)
unfolding tasks_of
queue_is past state s = ap (λ (t : TaskLists). t.queue) (parts past state s).tasks_is

-- ---- the numbers

window_is : (past : Past) → window_of (tasks_of past) ≡ remembered_window (numbers past)
unfolding tasks_of remembered_window
window_is past = rw (marks_are (standing past) (numbers past).handed window, numbered_standing past) refl

pub window_stands : (past : Past) (state : SessionState) → Stands past state → windows.Stands (numbers past) (window_of state.tasks)
window_stands past state s = record { lawful = s.lawful.window; remembered = ap window_of (parts past state s).tasks_is ∙ window_is past }

-- ---- a session, one step further on

pub stands_parts : (past after : Past) (state : SessionState) (tasks : TaskLists) (transfers : TransferList) (headers : List (List ℕ))
    (exchange : ExchangeState) → Stands past state → IsLawful after
    → after.params ≡ past.params → after.answers ≡ past.answers → tasks ≡ tasks_of after → transfers ≡ transfers_of after
    → headers ≡ functions_of after → exchange ≡ exchange_of after
    → Stands after (record state { tasks = tasks; transfers = transfers; functions = headers; exchange = exchange })
stands_parts past after state tasks transfers headers exchange s lawful params answers is same_data same_headers same_exchange =
    grind (arith, parts, same_headers)

-- its commands have the data that they had
pub stands_tasks : (past after : Past) (state : SessionState) (tasks : TaskLists) → Stands past state → IsLawful after → after.params ≡ past.params
    → after.answers ≡ past.answers → tasks ≡ tasks_of after → transfers_of after ≡ transfers_of past → functions_of after ≡ functions_of past
    → exchange_of after ≡ exchange_of past → Stands after (record state { tasks = tasks })
stands_tasks past after state tasks s lawful params answers is same_data same_headers same_exchange = grind (arith, parts, stands_parts, same_headers)

pub stands_stat : (past : Past) (more : List Answer) (state : SessionState) (stat : ℕ) → Stands past state → bearing more ≡ 1
    → stat ≡ stat_sn (suc (statuses past)) → Stands (answering more past) (record state { stat = stat })
unfolding tasks_of transfers_of functions_of exchange_of due queue standing unfinished functions task_at outs_of tags_of
stands_stat past more state stat s one is = grind (arith, statuses_answering, lawful_answering)

-- ---- a request is accepted

pub fresh_is : (past : Past) (frame : Frame) → is_immediate frame.header ≡ false → is_fresh past frame ≡ order.is_new (numbers past) (cmd_sn frame.header)
fresh_is past frame h = rw h refl

pub accepted_now : (past : Past) (frame : Frame) → is_immediate frame.header ≡ true → joined (now frame) past ≡ accepted frame past
accepted_now past frame h = rw h refl

pub accepted_with : (past : Past) (frame : Frame) → is_immediate frame.header ≡ false
    → joined (with (order.index_of (numbers past) (cmd_sn frame.header)) frame) past ≡ accepted frame past
accepted_with past frame h = rw h refl

-- what is vacant is ahead of those taken
pub ahead_of : (past : Past) (lawful : IsLawful past) (n : ℕ) → is_vacant (tasks_of past) n ≡ true
    → IsAhead past lawful (order.index_of (numbers past) n) (distance (tasks_of past).next n)
unfolding tasks_of taken_numbers
ahead_of past lawful n free =
    let i = distance (tasks_of past).next n in
    let both = both_true (ltb i (window - (tasks_of past).unfinished)) (is_some (get_or (tasks_of past).held i None)) free in
    let near = ltb-true i (window - (tasks_of past).unfinished) both.0 in
    let within : i < window = omega arith in
    let marked : is_some (get_or (map (frame_numbered (standing past)) (range_with_len (numbers past).handed window)) i None) ≡ order.has_come
    (numbered past.came) ((numbers past).handed + i) =
    ap is_some (get_or-map-range_with_len (frame_numbered (standing past)) (numbers past).handed window i ((numbers past).handed + i) None within refl)
    ∙ frame_marked (standing past) ((numbers past).handed + i)
    ∙ ap (λ (l : List ℕ). order.has_come l ((numbers past).handed + i)) (numbered_standing past) in
    record { number = refl; near = omega arith; missing = sym marked ∙ both.1 }

pub vacant_of : (tasks : TaskLists) (frame : Frame) → is_immediate frame.header ≡ false → is_vacant_for tasks frame ≡ true
    → is_vacant tasks (cmd_sn frame.header) ≡ true
vacant_of tasks frame h e = let g = rw h at e in g

-- what is kept is what is remembered
kept_by : (b : Bool) (past : Past) (state : SessionState) (frame : Frame) → is_immediate frame.header ≡ b → Stands past state
    → is_vacant_for state.tasks frame ≡ true → HasFreeTag past frame
    → IsLawful (accepted frame past) × (kept (bare frame) state.tasks ≡ tasks_of (accepted frame past))
kept_by true past state frame h s free tag = (
  subst IsLawful (accepted_now past frame h) (lawful_now past s.lawful frame h tag),
  rw h refl ∙ ap (λ (t : TaskLists). record t { due = t.due ++ bare frame ∷ [] }) (parts past state s).tasks_is ∙ admitted past s.lawful frame
      ∙ ap tasks_of (accepted_now past frame h),
)
kept_by false past state frame h s free tag =
    let n = cmd_sn frame.header in
    let is = (parts past state s).tasks_is in
    let k = order.index_of (numbers past) n in
    let at = ahead_of past s.lawful n (ap (λ (t : TaskLists). is_vacant t n) (sym is) ∙ vacant_of state.tasks frame h free) in (
      subst IsLawful (accepted_with past frame h) (lawful_with past s.lawful k _ frame h at tag),
      rw h refl ∙ ap (λ (t : TaskLists). takes_all (holding n (bare frame) t)) is ∙ held_now past s.lawful k _ n frame at refl
          ∙ ap tasks_of (accepted_with past frame h),
    )

same_headers : (past : Past) (lawful : IsLawful past) (frame : Frame) → is_function frame ≡ false → functions_of (accepted frame past) ≡ functions_of past
same_headers past lawful frame e = grind (arith, functions_of_joined, append-nil)

one_more_header : (past : Past) (lawful : IsLawful past) (frame : Frame) → is_function frame ≡ true
    → functions_of past ++ frame.header ∷ [] ≡ functions_of (accepted frame past)
one_more_header past lawful frame e = grind (arith, functions_of_joined)

same_transfers : (past : Past) (frame : Frame) → IsLawful past → is_command frame ≡ false → transfers_of (accepted frame past) ≡ transfers_of past
same_transfers past frame lawful e =
    transfers_joined false past _ e (finished_below past lawful) (removed_below past lawful) lawful.fed lawful.asked lawful.drained
    ∙ ap (λ (l : List Transfer). record (transfers_of past) { list = l }) (append-nil (transfers_of past).list)

-- a request that is neither a SCSI Command nor a Task Management Function Request
pub stands_request : (past : Past) (state : SessionState) (frame : Frame) → Stands past state → is_vacant_for state.tasks frame ≡ true
    → is_command frame ≡ false → is_function frame ≡ false → Stands (accepted frame past) (record state { tasks = kept frame state.tasks })
stands_request past state frame s free e f = grind (arith, kept_by, bare_other frame e, stands_tasks, same_transfers, same_headers, exchange_joined)

-- a Task Management Function Request
pub stands_function : (past : Past) (state : SessionState) (frame : Frame) → Stands past state → is_vacant_for state.tasks frame ≡ true
    → is_function frame ≡ true → HasFreeTag past frame
    → Stands (accepted frame past) (record state { tasks = kept frame state.tasks; functions = state.functions ++ frame.header ∷ [] })
stands_function past state frame s free f tag =
    let k = kept_by _ past state frame refl s free tag in
    grind (arith, stands_parts, bare_other, same_transfers, one_more_header, exchange_joined)

-- a SCSI Command, with the data that it brings
pub stands_begun : (past : Past) (state : SessionState) (frame : Frame) (task : WriteDataState) → Stands past state → is_vacant_for state.tasks frame ≡ true
    → is_command frame ≡ true → HasFreeTag past frame → task ≡ task_of (begun_data state.params.values frame)
    → Stands (accepted frame past) (record state {
      tasks = kept (bare_command frame.header) state.tasks;
      transfers = record state.transfers { list = state.transfers.list ++ begun_transfer frame.header task ∷ [] };
    })
stands_begun past state frame task s free e tag is =
    let k = kept_by _ past state frame refl s free tag in
    let p = parts past state s in
    let same : task ≡ task_of (begun_data past.params.values frame) = is ∙ ap (λ (x : SessionParams). task_of (begun_data x.values frame)) p.params_is in
    stands_parts past (accepted frame past) state (kept (bare_command frame.header) state.tasks) _ state.functions state.exchange s k.0 refl refl
    (ap (λ (f : Frame). kept f state.tasks) (bare_is frame e) ∙ k.1)
    (ap (λ (t : TransferList). record t { list = t.list ++ begun_transfer frame.header task ∷ [] }) p.transfers_is
    ∙ ap (λ (t : WriteDataState). record (transfers_of past) { list = (transfers_of past).list ++ begun_transfer frame.header t ∷ [] }) same
    ∙ sym (transfers_joined true past _ e (finished_below past s.lawful) (removed_below past s.lawful) s.lawful.fed s.lawful.asked s.lawful.drained))
    (p.functions_is ∙ sym (same_headers past s.lawful frame (command_no_function frame e)))
    (p.exchange_is ∙ sym (exchange_joined past _ s.lawful.below))

-- ---- a session at its beginning

pub begun_tasks : (params : SessionParams) → params.first_cmd_sn < 2 ^ 32 → no_tasks params.first_cmd_sn ≡ tasks_of (begun params)
unfolding tasks_of due queue left taken taken_numbers standing
begun_tasks params fits = grind arith
