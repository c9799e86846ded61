-- The data of the commands: where each stands, what a Data-Out and an R2T make of it.
use Rattle.std.proofs.Common.{◌≡◌, ◌≢◌, ◌==◌, ◌+◌, ◌||◌, ℕ, ◌<◌, List, [], ◌∷◌, ◌++◌, length, map, set, ltb, Bool, ◌&&◌, true, false, not, Option, Some, None, refl, sym, ap, ◌∙◌, arith, append-nil, slice_index_or}
use Rattle.std.specs.Prelude.{filter, find, is_some, slice_get, if◌then◌else◌}
use Rattle.std.proofs.lemmas.Bool.{eq-eqb, ne_eqb, false_from_ne_true, or_parts}
use Rattle.std.proofs.lemmas.List.Elements.{All-push, All-map}
use Rattle.iscsi_pdu.specs.Header.{is_immediate, initiator_task_tag}
use Rattle.iscsi_pdu.specs.Frames.{Frame}
use Rattle.iscsi_transfer.specs.WriteData.{WriteDataState, remembered as task_of, is_whole, with_data, blank}
use Rattle.iscsi_transfer.proofs.Blank.{asked_blank, fault_blank, with_blank}
use Rattle.iscsi_requests.proofs.Places.{Located, located, in_get, same_all, index_map, set_map, remove_map, missing, found_or_not, found_self, count_map, or_known, one_more, drain_at, LocatedAmong, located_among, same_drains, set_drains}
use Rattle.iscsi_transfer.proofs.Standing.{remembered-accepted}
use Rattle.iscsi_requests.specs.declared.transfers.Transfer.{Transfer}
use Rattle.iscsi_requests.specs.Drained.{Drained}
use Rattle.iscsi_requests.specs.Functions.{function_with, immediate_in}
use Rattle.iscsi_requests.specs.Requests.{Request, Past, Drain, DataOut, is_command, is_function, functions, frame_of, is_in, due, queue, unfinished, finished}
use Rattle.iscsi_requests.specs.Judging.{is_live, is_full, data_verdict}
use Rattle.iscsi_requests.specs.Transfers.{tag_of, command_with, command_among, drains_of, drained, is_asked_of, outs_of, tags_of, data_past, task_at, payload_of, is_whole_of, fed}
use Rattle.iscsi_requests.specs.Draining.{is_draining, drain_with, drain_for, no_drained, judged_drain, fed_drain, judged_in, fed_in, is_live_in}
use Rattle.iscsi_requests.specs.State.{SessionState, TransferList, AreDrained, drained_of, IsLawful, Stands, tasks_of, transfers_of, transfer_of, no_transfer, bears, place_with, place_for, immediate_transfers, functions_of, function_place, immediate_functions, judged_at, fed_at, whole_at, payload_at, removed_at, standing, IsLawfulTask}
use Rattle.iscsi_requests.proofs.Left.{in_at, in_filter, below_of}
use Rattle.iscsi_session.proofs.Kept.{drained_with, unfinished_came, unfinished_distinct, queue_unfinished, drains_all, drains_once, drains_apart, drain_commands_below}
use Rattle.iscsi_session.proofs.Moved.{transfers_finished}
use Rattle.iscsi_session.proofs.Parts.{exchange_fed, parts, stands_parts}
use Rattle.iscsi_session.proofs.Accepted.{HasFreeTag, removed_below}
use Rattle.iscsi_session.proofs.Runs.{lawful_data}

pub list_is : (past : Past) (state : SessionState) → Stands past state → state.transfers.list ≡ map (transfer_of past) (unfinished past)
unfolding transfers_of
list_is past state s = ap (λ (t : TransferList). t.list) (parts past state s).transfers_is

-- where the command with a tag stands
located_with : (past : Past) (tag : ℕ)
    → Located (bears tag) (transfer_of past) (unfinished past) (place_with tag (map (transfer_of past) (unfinished past)))
located_with past tag = located (bears tag) (transfer_of past) (unfinished past)

-- ---- tags

-- where that with a tag is drained
drain_located : (past : Past) (tag : ℕ)
    → LocatedAmong (is_asked_of past) (λ k. tag_of past.came k == tag) (drains_of past) (drain_with tag (map (drained_of past) (drains_of past)))
drain_located past tag =
    located_among (λ (x : Drained). is_draining x && bears tag x.transfer) (drained_of past) (is_asked_of past) (λ k. tag_of past.came k == tag)
    (drains_of past)
    (λ d. ap (λ (b : Bool). b && bears tag (transfer_of past d.command)) (asked_blank (task_at past d.command)))

pub drains_are : (past : Past) (state : SessionState) → Stands past state → state.transfers.drains ≡ map (drained_of past) (drains_of past)
unfolding transfers_of
drains_are past state s = ap (λ (t : TransferList). t.drains) (parts past state s).transfers_is

drained_live : (past : Past) (state : SessionState) (tag : ℕ) → Stands past state
    → is_some (drain_with tag state.transfers.drains) ≡ is_some (command_among past tag (drained past))
unfolding drained
drained_live past state tag s = grind (arith, drains_are past state s, drain_located past tag)

unfinished_live : (past : Past) (state : SessionState) (tag : ℕ) → Stands past state
    → is_some (place_with tag state.transfers.list) ≡ is_some (command_among past tag (unfinished past))
unfinished_live past state tag s = grind (arith, list_is past state s, located_with past tag)

either_some : (a b : Option ℕ) → (is_some a || is_some b) ≡ is_some (if is_some a then a else b)
either_some a b = grind arith

commands_live : (past : Past) (state : SessionState) (tag : ℕ) → Stands past state → is_live_in tag state.transfers ≡ is_some (command_with past tag)
commands_live past state tag s = grind (arith, unfinished_live, drained_live, either_some)

pub headers_are : (past : Past) (state : SessionState) → Stands past state → state.functions ≡ map (λ k. (frame_of past.came k).header) (functions past)
unfolding functions_of
headers_are past state s = (parts past state s).functions_is

-- where the function with a tag stands
pub function_located : (past : Past) (tag : ℕ)
    → Located (λ header. initiator_task_tag header == tag) (λ k. (frame_of past.came k).header) (functions past)
    (function_place tag (map (λ k. (frame_of past.came k).header) (functions past)))
function_located past tag = located (λ header. initiator_task_tag header == tag) (λ k. (frame_of past.came k).header) (functions past)

functions_live : (past : Past) (state : SessionState) (tag : ℕ) → Stands past state
    → is_some (function_place tag state.functions) ≡ is_some (function_with past tag)
functions_live past state tag s = grind (arith, headers_are past state s, function_located past tag)

pub live_is : (past : Past) (state : SessionState) (tag : ℕ) → Stands past state
    → (is_live_in tag state.transfers || is_some (function_place tag state.functions)) ≡ is_live past tag
live_is past state tag s = rw (commands_live past state tag s, functions_live past state tag s) refl

pub live_first : (a b c : Bool) → a ≡ true → (r : Bool) → r ≡ true → (a || b) ≡ c → r ≡ c
live_first a b c e r h is = h ∙ sym (sym is ∙ ap (λ (x : Bool). x || b) e)

pub live_second : {r : Bool} (a b : Bool) → {c : Bool} → a ≡ false → r ≡ b → (a || b) ≡ c → r ≡ c
live_second a b e h is = h ∙ sym (ap (λ (x : Bool). x || b) e) ∙ is

pub full_is : (past : Past) (state : SessionState) → Stands past state
    → not (ltb (immediate_transfers state.transfers.list + immediate_functions state.functions) 8) ≡ is_full past
full_is past state s =
    let a : immediate_transfers state.transfers.list ≡ immediate_in past (unfinished past) = ap immediate_transfers (list_is past state s)
    ∙ count_map (λ transfer. is_immediate transfer.header) (transfer_of past) (unfinished past) in
    let b : immediate_functions state.functions ≡ immediate_in past (functions past) = ap immediate_functions (headers_are past state s)
    ∙ count_map is_immediate (λ k. (frame_of past.came k).header) (functions past) in
    rw (a, b) refl

pub none_by : {A : Type 0} (at : Option A) → is_some at ≡ false → at ≡ None
none_by at e = grind arith

pub free_by_past : (past : Past) (frame : Frame) → ((is_command frame || is_function frame) ≡ true → is_live past (initiator_task_tag frame.header) ≡ false)
    → HasFreeTag past frame
free_by_past past frame free = grind (arith, missing, or_parts, none_by, or_known)

-- nothing bears its tag
pub free_tag : (past : Past) (state : SessionState) (frame : Frame) → Stands past state → IsLawfulTask state frame → HasFreeTag past frame
free_tag past state frame s task =
    let tag = initiator_task_tag frame.header in
    record {
      command = λ h. missing (tag_of past.came) tag (unfinished past) (none_by _ (sym (unfinished_live past state tag s) ∙ ap is_some task.tag));
      function = λ h. missing (tag_of past.came) tag (functions past) (none_by _ (sym (functions_live past state tag s) ∙ ap is_some task.function_tag));
    }

-- ---- a Data-Out is judged

abbrev tag_in : Frame → ℕ
tag_in frame = initiator_task_tag frame.header

judged_place : (past : Past) (frame : Frame) (at : Option ℕ) → Located (bears (tag_in frame)) (transfer_of past) (unfinished past) at
    → judged_at (map (transfer_of past) (unfinished past)) frame at ≡ data_verdict past frame (command_among past (tag_in frame) (unfinished past))
judged_place past frame None found = ap (data_verdict past frame) (sym found)
judged_place past frame (Some i) found = grind (arith, index_map)

judged_drained : (past : Past) (frame : Frame) (at : Option ℕ)
    → LocatedAmong (is_asked_of past) (λ k. tag_of past.came k == tag_in frame) (drains_of past) at
    → judged_drain (map (drained_of past) (drains_of past)) frame at ≡ data_verdict past frame (command_among past (tag_in frame) (drained past))
unfolding drained
judged_drained past frame None found = ap (data_verdict past frame) (sym found)
judged_drained past frame (Some i) found = grind (arith, index_map, fault_blank)

-- by the first of two where there is one, else by the second
by_either : {Y : Type 0} (f : Option ℕ → Y) (c : Bool) (a b : Option ℕ) (x y : Y) → c ≡ is_some a → x ≡ f a → y ≡ f b
    → (if c then x else y) ≡ f (if is_some a then a else b)
by_either f c a b x y e p q = grind arith

pub judged_is : (past : Past) (state : SessionState) (frame : Frame) → Stands past state
    → judged_in state.transfers frame ≡ data_verdict past frame (command_with past (tag_in frame))
judged_is past state frame s =
    by_either (data_verdict past frame) _ (command_among past (tag_in frame) (unfinished past)) (command_among past (tag_in frame) (drained past)) _ _
    (unfinished_live past state (tag_in frame) s)
    (ap (λ (l : List Transfer). judged_at l frame (place_for frame l)) (list_is past state s)
    ∙ judged_place past frame _ (located_with past (tag_in frame)))
    (ap (λ (l : List Drained). judged_drain l frame (drain_for frame l)) (drains_are past state s)
    ∙ judged_drained past frame _ (drain_located past (tag_in frame)))

-- ---- a Data-Out is accepted

abbrev out_of : ℕ → Frame → DataOut
out_of k frame = record { command = k; frame = frame }

abbrev pub feeding : ℕ → Frame → Past → Past
feeding k frame past = record past { data_outs = past.data_outs ++ out_of k frame ∷ [] }

-- of what has happened to its data
abbrev from_outs : Past → ℕ → List Frame → Transfer
from_outs past k outs = record {
  header = (frame_of past.came k).header;
  task = task_of (record { values = past.params.values; command = frame_of past.came k; outs = outs; tags = tags_of past k });
}

fed_there : (past : Past) (k : ℕ) (frame : Frame)
    → transfer_of (feeding k frame past) k ≡ record (transfer_of past k) { task = with_data (task_at past k) frame }
unfolding task_at outs_of tags_of
fed_there past k frame =
    ap (from_outs past k) (one_more true (λ d. d.command) (λ d. d.frame) (out_of k frame) k past.data_outs (eq-eqb k k refl))
    ∙ ap (λ (t : WriteDataState). record (transfer_of past k) { task = t }) (remembered-accepted (data_past past k) frame)

pub fed_elsewhere : (past : Past) (k j : ℕ) (frame : Frame) → j ≢ k → transfer_of (feeding k frame past) j ≡ transfer_of past j
unfolding task_at outs_of tags_of
fed_elsewhere past k j frame differ =
    ap (from_outs past j) (one_more false (λ d. d.command) (λ d. d.frame) (out_of k frame) j past.data_outs (ne_eqb k j (λ e. differ (sym e)))
    ∙ append-nil (map (λ (d : DataOut). d.frame) (filter (λ (d : DataOut). d.command == j) past.data_outs)))

pub unfinished_fed : (past : Past) (k : ℕ) (frame : Frame) → unfinished (feeding k frame past) ≡ unfinished past
unfolding unfinished
unfinished_fed past k frame = refl

-- the data of one command is changed
pub list_changed : (past after : Past) (k i : ℕ) (t : Transfer) → slice_get (unfinished past) i ≡ Some k → t ≡ transfer_of after k
    → ((j : ℕ) → j ≢ k → transfer_of after j ≡ transfer_of past j)
    → set (map (transfer_of past) (unfinished past)) i t ≡ map (transfer_of after) (unfinished past)
list_changed past after k i t at is others =
    ap (set (map (transfer_of past) (unfinished past)) i) is
    ∙ set_map (transfer_of past) (transfer_of after) (unfinished past) i k (unfinished_distinct past) at others

pub drains_kept : (past after : Past) (k : ℕ) → AreDrained past → is_in k (unfinished past) ≡ true → after.came ≡ past.came
    → ((j : ℕ) → j ≢ k → transfer_of after j ≡ transfer_of past j) → map (drained_of past) (drains_of past) ≡ map (drained_of after) (drains_of past)
drains_kept past after k drained there came others = same_drains (drained_of past) (drained_of after) (drains_of past)
    (drains_all (λ d. drained_of after d ≡ drained_of past d) past (λ i none lt.
    (let d = slice_index_or past.drains i none in
    ap (λ (l : List Request). drained_with (frame_of l d.function).header (transfer_of after d.command)) came
    ∙ ap (drained_with (frame_of past.came d.function).header) (others d.command (drains_apart past k drained there i none lt)))))

fed_list : (past : Past) (k i : ℕ) (frame : Frame) → slice_get (unfinished past) i ≡ Some k
    → fed_at (map (transfer_of past) (unfinished past)) frame (Some i) ≡ map (transfer_of (feeding k frame past)) (unfinished past)
fed_list past k i frame at =
    list_changed past (feeding k frame past) k i _ at
    (ap (λ (t : Transfer). record t { task = with_data t.task frame }) (index_map (transfer_of past) no_transfer (unfinished past) i k at)
    ∙ sym (fed_there past k frame)) (λ j differ. fed_elsewhere past k j frame differ)

-- the others are as they were
fed_others : (past : Past) (k : ℕ) (frame : Frame) → is_in k (unfinished past) ≡ false
    → map (transfer_of past) (unfinished past) ≡ map (transfer_of (feeding k frame past)) (unfinished past)
fed_others past k frame none = grind (arith, same_all, fed_elsewhere)

-- it is of a command that is not finished
fed_place : (past : Past) (frame : Frame) (at : Option ℕ) → AreDrained past → Located (bears (tag_in frame)) (transfer_of past) (unfinished past) at
    → record (transfers_of past) { list = fed_at (map (transfer_of past) (unfinished past)) frame at }
    ≡ transfers_of (fed (command_among past (tag_in frame) (unfinished past)) frame past)
unfolding transfers_of
fed_place past frame None drained found = ap (λ (c : Option ℕ). transfers_of (fed c frame past)) (sym found)
fed_place past frame (Some i) drained found =
    let k = found.0 in
    ap (λ (l : List Transfer). record (transfers_of past) { list = l }) (fed_list past k i frame found.2
    ∙ ap (map (transfer_of (feeding k frame past))) (sym (unfinished_fed past k frame)))
    ∙ ap (λ (l : List Drained). record (transfers_of (feeding k frame past)) { drains = l })
    (drains_kept past (feeding k frame past) k drained (in_get (unfinished past) i k found.2) refl (λ j differ. fed_elsewhere past k j frame differ))
    ∙ ap (λ (c : Option ℕ). transfers_of (fed c frame past)) (sym found.1)

-- or of one whose data is drained
drain_there : (past : Past) (i : ℕ) (d : Drain) → AreDrained past → slice_get (drains_of past) i ≡ Some d → is_in d.command (unfinished past) ≡ false
drain_there past i d drained at = false_from_ne_true (is_in d.command (unfinished past)) (λ there.
    drain_at (λ e. e.command ≢ d.command) (drains_of past) i d
    (drains_all (λ e. e.command ≢ d.command) past (drains_apart past d.command drained there)) at refl)

fed_drained : (past : Past) (frame : Frame) (at : Option ℕ) → AreDrained past
    → LocatedAmong (is_asked_of past) (λ k. tag_of past.came k == tag_in frame) (drains_of past) at
    → record (transfers_of past) { drains = fed_drain (map (drained_of past) (drains_of past)) frame at }
    ≡ transfers_of (fed (command_among past (tag_in frame) (drained past)) frame past)
unfolding transfers_of drained
fed_drained past frame None drained found = ap (λ (c : Option ℕ). transfers_of (fed c frame past)) (sym found)
fed_drained past frame (Some i) drained found =
    let d = found.0 in
    let k = d.command in
    let set_there : fed_drain (map (drained_of past) (drains_of past)) frame (Some i) ≡ map (drained_of (feeding k frame past)) (drains_of past) =
    ap (λ (x : Drained). set (map (drained_of past) (drains_of past)) i
    (record x { transfer = record x.transfer { task = blank (with_data x.transfer.task frame) } }))
    (index_map (drained_of past) no_drained (drains_of past) i d found.2)
    ∙ ap (λ (task : WriteDataState).
    (let x : Drained = record { function = (frame_of past.came d.function).header; transfer = record (transfer_of past k) { task = task } } in
    set (map (drained_of past) (drains_of past)) i x)) (with_blank (transfer_of past k).task frame)
    ∙ ap (λ (t : Transfer). set (map (drained_of past) (drains_of past)) i (drained_with (frame_of past.came d.function).header t))
    (sym (fed_there past k frame))
    ∙ set_drains (drained_of past) (drained_of (feeding k frame past)) (drains_of past) i d (drains_once past drained) found.2
    (λ e differ. ap (drained_with (frame_of past.came e.function).header) (fed_elsewhere past k e.command frame differ)) in
    grind (arith, fed_others, drain_there, unfinished_fed)

pub fed_is : (past : Past) (state : SessionState) (frame : Frame) → Stands past state
    → fed_in state.transfers frame ≡ transfers_of (fed (command_with past (tag_in frame)) frame past)
unfolding transfers_of
fed_is past state frame s = grind (arith, parts, by_either, found_or_not, located_with, fed_place, fed_drained, drain_located)

lawful_fed_at : (past : Past) (k : ℕ) (frame : Frame) → k < length past.came → IsLawful past → IsLawful (feeding k frame past)
lawful_fed_at past k frame lt lawful =
    lawful_data past (past.data_outs ++ out_of k frame ∷ []) past.r2ts past.answers lawful
    (All-push (λ (d : DataOut). d.command < length past.came) past.data_outs (out_of k frame) lawful.fed lt) lawful.asked

pub found_in : (q : ℕ → Bool) (k : ℕ) (names : List ℕ) → find q names ≡ Some k → is_in k names ≡ true
found_in q k [] e = absurd cc
found_in q k (a ∷ names) e = grind (arith, found_in q k names)

drained_came : (past : Past) (k : ℕ) → IsLawful past → is_in k (drained past) ≡ true → k < length past.came
unfolding drained
drained_came past k lawful e =
    below_of (length past.came) k (map (λ d. d.command) (drains_of past))
    (All-map (λ a. a < length past.came) (λ (d : Drain). d.command) (drains_of past) (drains_all (λ d. d.command < length past.came) past
    (drain_commands_below past lawful.drained (removed_below past lawful))))
    (in_filter k (is_asked_of past) (map (λ d. d.command) (drains_of past)) e)

found_came : (past : Past) (tag k : ℕ) → IsLawful past → (a b : Option ℕ) → command_among past tag (unfinished past) ≡ a
    → command_among past tag (drained past) ≡ b → command_with past tag ≡ Some k → k < length past.came
found_came past tag k lawful None b p q e =
    let h : command_among past tag (drained past) ≡ Some k = rw p at e in
    drained_came past k lawful (found_in (λ c. tag_of past.came c == tag) k (drained past) h)
found_came past tag k lawful (Some c) b p q e =
    let h : Some c ≡ Some k = rw p at e in
    unfinished_came past k (found_in (λ c. tag_of past.came c == tag) k (unfinished past) (p ∙ h))

lawful_fed_by : (past : Past) (frame : Frame) (c : Option ℕ) → command_with past (initiator_task_tag frame.header) ≡ c → IsLawful past
    → IsLawful (fed c frame past)
lawful_fed_by past frame None e lawful = lawful
lawful_fed_by past frame (Some k) e lawful =
    lawful_fed_at past k frame (found_came past (tag_in frame) k lawful _ _ refl refl e) lawful

pub lawful_fed : (past : Past) (frame : Frame) → IsLawful past → IsLawful (fed (command_with past (initiator_task_tag frame.header)) frame past)
lawful_fed past frame lawful = lawful_fed_by past frame _ refl lawful

pub fed_same : (past : Past) (frame : Frame) (c : Option ℕ) → ((fed c frame past).params ≡ past.params) × ((fed c frame past).answers ≡ past.answers)
fed_same past frame c = grind arith

fed_tasks : (past : Past) (frame : Frame) (c : Option ℕ) → tasks_of past ≡ tasks_of (fed c frame past)
unfolding tasks_of due queue standing
fed_tasks past frame None = refl
fed_tasks past frame (Some k) = refl

fed_functions : (past : Past) (frame : Frame) (c : Option ℕ) → functions_of past ≡ functions_of (fed c frame past)
unfolding functions_of functions
fed_functions past frame c = grind arith

pub stands_fed : (past : Past) (state : SessionState) (frame : Frame) → Stands past state
    → Stands (fed (command_with past (initiator_task_tag frame.header)) frame past)
    (record state { transfers = fed_in state.transfers frame })
stands_fed past state frame s =
    let c = command_with past (initiator_task_tag frame.header) in
    let same = fed_same past frame c in
    stands_parts past (fed c frame past) state state.tasks _ state.functions state.exchange s (lawful_fed past frame s.lawful) same.0 same.1
    ((parts past state s).tasks_is ∙ fed_tasks past frame c) (fed_is past state frame s) ((parts past state s).functions_is ∙ fed_functions past frame c)
    ((parts past state s).exchange_is ∙ sym (exchange_fed c frame past))

-- ---- a command of the queue

-- it is the one with its tag
located_self : (past : Past) (k : ℕ) (at : Option ℕ) → IsLawful past → is_in k (unfinished past) ≡ true
    → Located (bears (tag_of past.came k)) (transfer_of past) (unfinished past) at → (i : ℕ) × (at ≡ Some i) × (slice_get (unfinished past) i ≡ Some k)
located_self past k None lawful there found = absurd (let no = sym (found_self (tag_of past.came) k (unfinished past) lawful.tags there) ∙ found in cc)
located_self past k (Some i) lawful there found = grind (arith, found_self (tag_of past.came) k (unfinished past) lawful.tags there)

pub place_self : (past : Past) (k : ℕ) → IsLawful past → is_in k (unfinished past) ≡ true
    → (i : ℕ) × (place_with (tag_of past.came k) (map (transfer_of past) (unfinished past)) ≡ Some i) × (slice_get (unfinished past) i ≡ Some k)
place_self past k lawful there = located_self past k _ lawful there (located_with past (tag_of past.came k))

-- the first of the queue is not finished
pub first_unfinished : (past : Past) (k : ℕ) (rest : List ℕ) → IsLawful past → queue past ≡ k ∷ rest → is_in k (unfinished past) ≡ true
first_unfinished past k rest lawful is = grind (arith, queue_unfinished, in_at)

pub whole_is : (past : Past) (state : SessionState) (k : ℕ) → Stands past state → is_in k (unfinished past) ≡ true
    → whole_at state.transfers.list (place_for (frame_of past.came k) state.transfers.list) ≡ is_whole_of past k
whole_is past state k s there =
    let p = place_self past k s.lawful there in
    ap (λ (l : List Transfer). whole_at l (place_for (frame_of past.came k) l)) (list_is past state s)
    ∙ ap (whole_at (map (transfer_of past) (unfinished past))) p.1
    ∙ ap (λ (t : Transfer). is_whole t.task) (index_map (transfer_of past) no_transfer (unfinished past) p.0 k p.2)

pub payload_is : (past : Past) (state : SessionState) (k : ℕ) → Stands past state → is_in k (unfinished past) ≡ true
    → payload_at state.transfers.list (place_for (frame_of past.came k) state.transfers.list) ≡ payload_of past k
payload_is past state k s there = grind (arith, place_self, list_is, index_map)

pub removed_is : (past : Past) (state : SessionState) (k : ℕ) (rest : List ℕ) → Stands past state → queue past ≡ k ∷ rest
    → record state.transfers { list = removed_at state.transfers.list (place_for (frame_of past.came k) state.transfers.list) } ≡ transfers_of (finished k past)
unfolding transfers_of
removed_is past state k rest s is = grind (arith, place_self, first_unfinished, parts, remove_map, unfinished_distinct, transfers_finished)
