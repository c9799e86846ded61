-- A Task Management Function Request acts: what it removes and plugs, in the code and in the past.
use Rattle.std.proofs.Common.{◌≡◌, ℕ, ◌+◌, ◌-◌, ◌^◌, ◌<◌, ◌≤◌, List, length, true, false, ◌&&◌, refl, sym, ap, subst, ◌∙◌, arith, append-nil, inl, inr, [], ◌∷◌, ◌++◌, map, Bool, not, ◌==◌, None}
use Rattle.std.proofs.lemmas.Bool.{ltb-true, and_parts, eqb-true, false_from_ne_true}
use Rattle.std.proofs.lemmas.Bool.Decides.{leb_tells}
use Rattle.iscsi_order.specs.Window as order
use Rattle.iscsi_order.specs.Window.{taken as taken_numbers, window}
use Rattle.iscsi_order.specs.WindowState as windows
use Rattle.iscsi_order.specs.Serial.{distance, is_at_most}
use Rattle.iscsi_order.proofs.Standing.{window_is}
use Rattle.iscsi_requests.specs.Requests.{Past, numbers, Request, draining, frame_of, is_command, is_function, numbered, place_of, unfinished, finished, moved, removing}
use Rattle.iscsi_requests.specs.declared.transfers.Transfer.{Transfer}
use Rattle.iscsi_requests.specs.Functions.{plug, plugged, FunctionReach, scope, awaited, reaches, reached, is_plug, is_plugged, refers_back, abort_finds, plugs, plugs_by}
use Rattle.iscsi_requests.specs.State.{SessionState, TaskLists, IsLawful, Stands, tasks_of, transfers_of, functions_of, is_vacant, holding, takes_all, void, standing, frame_numbered, transfer_of, one_fewer, without, transfers_without, reaches_some, held_numbered, is_some_plug}
use Rattle.iscsi_requests.proofs.Left.{both_true}
use Rattle.iscsi_session.proofs.Kept.{joined, function_no_command, transfers_joined, unfinished_other}
use Rattle.iscsi_session.proofs.Parts.{exchange_joined, parts, stands_tasks, ahead_of}
use Rattle.iscsi_session.proofs.Accepted.{HasFreeTag, IsAhead, finished_below, removed_below, functions_of_joined, with, lawful_with, held_now}
use Rattle.std.specs.Prelude.{filter, if◌then◌else◌}
use Rattle.std.specs.List.{list_any, range_with_len}
use Rattle.std.proofs.lemmas.List.{nil_from_length, get_or_past}
use Rattle.std.proofs.lemmas.List.FromFn.{get_or-map-range_with_len}
use Rattle.iscsi_pdu.specs.TaskManagement.{ref_cmd_sn}
use Rattle.iscsi_requests.specs.declared.abort_scope.Scope.{Scope}
use Rattle.iscsi_requests.specs.declared.abort_scope.Scope.TheVariants as scopes
use Rattle.iscsi_pdu.specs.Frames.{Frame}
use Rattle.iscsi_requests.specs.declared.aborted.Aborted.{Aborted}
use Rattle.iscsi_requests.specs.declared.aborted.Aborted.TheVariants.{Live, Missing, Plugged, Nothing}
use Rattle.iscsi_requests.specs.Transfers.{is_asked_of}
use Rattle.iscsi_session.specs.Acts.{reach_of, ended, behind}
use Rattle.iscsi_session.proofs.Standing.{standing_at, standing_kept, numbered_standing, place_standing, length_standing}
use Rattle.iscsi_session.proofs.Taken.{frame_come, frame_missing, place_come, place_missing}
use Rattle.iscsi_session.proofs.Over.{removed_command}
use Rattle.iscsi_session.proofs.Feeding.{list_is}
use Rattle.iscsi_session.proofs.Answered.{moved_other}
use Rattle.iscsi_session.proofs.Removing.{stands_removing}

-- it bears no tag
free_plug : (past : Past) → HasFreeTag past plug
free_plug past = record { command = λ h. absurd cc; function = λ h. absurd cc }

pub stands_plugged : (n : ℕ) (past : Past) (state : SessionState) → Stands past state → is_vacant state.tasks n ≡ true
    → Stands (plugged n past) (record state { tasks = takes_all (holding n plug state.tasks) })
stands_plugged n past state s free =
    let is = (parts past state s).tasks_is in
    let x = with (order.index_of (numbers past) n) plug in
    let at = ahead_of past s.lawful n (ap (λ (t : TaskLists). is_vacant t n) (sym is) ∙ free) in
    stands_tasks past (joined x past) state _ s (lawful_with past s.lawful _ _ plug refl at (free_plug past)) refl refl
    (ap (λ (t : TaskLists). takes_all (holding n plug t)) is ∙ held_now past s.lawful _ _ n plug at refl)
    (transfers_joined false past x refl (finished_below past s.lawful) (removed_below past s.lawful) s.lawful.fed s.lawful.asked s.lawful.drained
    ∙ ap (λ (l : List Transfer). record (transfers_of past) { list = l }) (append-nil (transfers_of past).list))
    (functions_of_joined past s.lawful x ∙ append-nil (functions_of past))
    (exchange_joined past x s.lawful.below)

-- ---- a number inside the window, whatever its size

-- one that is too great is inside where the same number, modulo 2^32, is
wrapped : (x m n : ℕ) → x < 2 ^ 32 → m < 2 ^ 32 → 2 ^ 32 ≤ n → is_at_most x n ≡ true → is_at_most n m ≡ true
    → (n - 2 ^ 32 < 2 ^ 32) × (distance x (n - 2 ^ 32) ≡ distance x n) × ((is_at_most x (n - 2 ^ 32) && is_at_most (n - 2 ^ 32) m) ≡ true)
wrapped x m n p r le a b = grind arith

pub near_window : (past : order.Past) (n : ℕ) → windows.IsLawful past → order.in_window past n ≡ true
    → distance (order.exp_cmd_sn past) n < past.finished + window - length (taken_numbers past)
unfolding taken_numbers
near_window past n lawful inside = elim (leb_tells (2 ^ 32) n) [
  | inr less ↦ ltb-true _ _ (sym (window_is past n lawful less.1) ∙ inside)
  | inl great ↦
      let both = and_parts (is_at_most (order.exp_cmd_sn past) n) (is_at_most n (order.max_cmd_sn past)) inside in
      let w = wrapped (order.exp_cmd_sn past) (order.max_cmd_sn past) n (omega arith) (omega arith) great.1 both.0 both.1 in
      let near = ltb-true _ _ (sym (window_is past (n - 2 ^ 32) lawful w.0) ∙ w.2) in
      subst (λ (d : ℕ). d < past.finished + window - length (taken_numbers past)) w.1 near
]

-- ---- a new number is ahead of those taken, also where more is over

module _ (n : ℕ) (past after : Past) (came : after.came ≡ past.came) (params : after.params ≡ past.params) where
  handed_at : order.index_of (numbers after) n ≡ (numbers after).handed + distance (order.exp_cmd_sn (numbers after)) n
  unfolding taken_numbers
  handed_at = refl

  same_distance : distance (order.exp_cmd_sn (numbers past)) n ≡ distance (order.exp_cmd_sn (numbers after)) n
  unfolding taken_numbers
  same_distance = rw (came, params) refl

  same_handed : (numbers past).handed ≡ (numbers after).handed
  unfolding taken_numbers
  same_handed = rw came refl

  same_length : length (taken_numbers (numbers past)) ≡ (numbers past).handed
  unfolding taken_numbers
  same_length = refl

  missing_now : order.has_come (numbers past).came (order.index_of (numbers past) n) ≡ false
      → order.has_come (numbers after).came (order.index_of (numbers after) n) ≡ false
  unfolding taken_numbers
  missing_now e = rw (came, params) e

  place_now : distance (order.exp_cmd_sn (numbers after)) n ≡ distance (tasks_of after).next n
  unfolding tasks_of taken_numbers
  place_now = refl

  pub new_ahead : IsLawful past → (lawful_after : IsLawful after) → (numbers past).finished ≤ (numbers after).finished → order.is_new (numbers past) n ≡ true
      → IsAhead after lawful_after (order.index_of (numbers after) n) (distance (order.exp_cmd_sn (numbers after)) n)
  new_ahead lawful lawful_after more new =
      let both = both_true (order.in_window (numbers past) n) (order.has_come (numbers past).came (order.index_of (numbers past) n)) new in
      let near = near_window (numbers past) n lawful.window both.0 in
      let few = lawful_after.window.finished in
      let near_now : distance (order.exp_cmd_sn (numbers after)) n + ((numbers after).handed - (numbers after).finished) < window =
      omega (arith, near, same_distance, same_handed, same_length, more, few) in
      record { number = handed_at; near = near_now; missing = missing_now both.1 }

  pub plugged_lawful : IsLawful past → IsLawful after → (numbers past).finished ≤ (numbers after).finished → order.is_new (numbers past) n ≡ true
      → IsLawful (plugged n after)
  plugged_lawful lawful lawful_after more new =
      lawful_with after lawful_after _ (distance (order.exp_cmd_sn (numbers after)) n) plug refl (new_ahead lawful lawful_after more new) (free_plug after)

  -- what is remembered then
  pub plugged_tasks : IsLawful past → IsLawful after → (numbers past).finished ≤ (numbers after).finished → order.is_new (numbers past) n ≡ true
      → takes_all (holding n plug (tasks_of after)) ≡ tasks_of (plugged n after)
  plugged_tasks lawful lawful_after more new =
      held_now after lawful_after _ (distance (order.exp_cmd_sn (numbers after)) n) n plug (new_ahead lawful lawful_after more new) place_now

-- ---- what it removes

unfinished_moved : (past : Past) (k : ℕ)
    → unfinished (record past { acted = past.acted ++ k ∷ []; finished = past.finished ++ k ∷ [] }) ≡ unfinished (finished k past)
unfolding unfinished
unfinished_moved past k = refl

reached_from : (reach : FunctionReach) (past after : Past) → after.came ≡ past.came → unfinished after ≡ unfinished past
    → reached reach after ≡ reached reach past
unfolding reached
reached_from reach past after came same = grind arith

pub reached_moved : (luns : List ℕ) (past : Past) (k : ℕ) → is_function (frame_of past.came k) ≡ true
    → reached (reach_of luns k past) (moved k past) ≡ reached (reach_of luns k past) past
reached_moved luns past k f = grind (arith, function_no_command, moved_other, reached_from, unfinished_moved, unfinished_other)

pub ended_function : (luns : List ℕ) (past : Past) (k : ℕ) → is_function (frame_of past.came k) ≡ true
    → ended luns k past ≡ draining k (awaited past (reach_of luns k past)) (removing (reached (reach_of luns k past) past) (moved k past))
ended_function luns past k f = rw f refl

-- where it does not wait
pub ended_now : (luns : List ℕ) (past : Past) (k : ℕ) → is_function (frame_of past.came k) ≡ true → awaited past (reach_of luns k past) ≡ []
    → removing (reached (reach_of luns k past) past) (moved k past) ≡ ended luns k past
ended_now luns past k f none = grind (arith, append-nil, ended_function)

-- what it waits for is of what it reaches
pub awaited_some : (past : Past) (reach : FunctionReach) (first : ℕ) (others : List ℕ) → awaited past reach ≡ first ∷ others
    → awaited past reach ≡ filter (is_asked_of past) (reached reach past)
unfolding awaited
awaited_some past reach first others e = grind arith

-- ---- what it plugs

-- what an ABORT TASK finds, by the tests
abbrev pub found_by : Bool → Bool → Bool → Bool → Aborted
found_by live back new plugged_it = if live then Live else if not back then Nothing else if new then Missing else if plugged_it then Plugged else Nothing

plugs_parts : (o : Scope) (past : Past) (reach : FunctionReach) → plugs_by o past reach ≡ true
    → (reached reach past ≡ []) × (order.is_new (numbers past) (ref_cmd_sn reach.function) ≡ true)
plugs_parts scopes.Task past reach e = grind (arith, nil_from_length, eqb-true)
plugs_parts scopes.OwnTaskSet past reach e = absurd cc
plugs_parts scopes.TaskSet past reach e = absurd cc
plugs_parts scopes.AllTasks past reach e = absurd cc
plugs_parts scopes.NoTask past reach e = absurd cc

pub plugs_new : (past : Past) (reach : FunctionReach) → plugs past reach ≡ true → order.is_new (numbers past) (ref_cmd_sn reach.function) ≡ true
unfolding plugs
plugs_new past reach e = (plugs_parts (scope reach) past reach e).1

pub plugs_none : (past : Past) (reach : FunctionReach) → plugs past reach ≡ true → reached reach past ≡ []
unfolding plugs
plugs_none past reach e = (plugs_parts (scope reach) past reach e).0

pub plugs_unasked : (past : Past) (reach : FunctionReach) → plugs past reach ≡ true → awaited past reach ≡ []
unfolding awaited
plugs_unasked past reach e = grind (arith, plugs_none)

-- so it plugs no number
pub awaited_no_plug : (past : Past) (reach : FunctionReach) (first : ℕ) (others : List ℕ) → awaited past reach ≡ first ∷ others → plugs past reach ≡ false
awaited_no_plug past reach first others e = grind (arith, false_from_ne_true, plugs_none, awaited_some)

-- ---- a number that was plugged

no_plug_void : (b : Bool) → is_plug (void b) ≡ false
no_plug_void b = grind arith

no_plug_command : (frame : Frame) → is_command frame ≡ true → is_plug frame ≡ false
no_plug_command frame e = grind arith

-- one that was removed stands for none, and was none
plug_stands : (past : Past) (lawful : IsLawful past) (k : ℕ) → k < length past.came → is_plug (frame_of (standing past) k) ≡ is_plug (frame_of past.came k)
plug_stands past lawful k lt = grind (arith, standing_at, no_plug_void, no_plug_command, removed_command, standing_kept)

missing_plug : (came : List Request) → is_plug (frame_of came (length came)) ≡ false
missing_plug [] = refl
missing_plug (r ∷ came) = missing_plug came

held_plug : (b : Bool) (past : Past) (lawful : IsLawful past) (k : ℕ) → order.has_come (numbered past.came) k ≡ b
    → is_some_plug (frame_numbered (standing past) k) ≡ is_plug (frame_of past.came (place_of past.came k))
held_plug true past lawful k h = grind (arith, place_come, place_standing, frame_come, length_standing, plug_stands)
held_plug false past lawful k h = grind (arith, frame_missing, numbered_standing, place_missing, missing_plug)

plugged_in : (past : Past) (n : ℕ) → IsLawful past → is_some_plug (held_numbered (tasks_of past) n) ≡ is_plugged past n
unfolding tasks_of taken_numbers
plugged_in past n lawful =
    let d = distance (tasks_of past).next n in
    let h = (numbers past).handed in
    elim (leb_tells window d) [
      | inr near ↦
          ap is_some_plug (get_or-map-range_with_len (frame_numbered (standing past)) h window d (h + d) None near.1 refl)
          ∙ held_plug _ past lawful (h + d) refl
      | inl far ↦
          let none : order.has_come (numbered past.came) (h + d) ≡ false = grind (arith, false_from_ne_true) in
          ap is_some_plug (get_or_past (map (frame_numbered (standing past)) (range_with_len h window)) d None (omega arith))
          ∙ sym (ap (λ (p : ℕ). is_plug (frame_of past.came p)) (place_missing past.came (h + d) none) ∙ missing_plug past.came)
    ]

plugged_is : (past : Past) (state : SessionState) (n : ℕ) → Stands past state → is_some_plug (held_numbered state.tasks n) ≡ is_plugged past n
plugged_is past state n s = ap (λ (t : TaskLists). is_some_plug (held_numbered t n)) (parts past state s).tasks_is ∙ plugged_in past n s.lawful

-- ---- in the code

pub any_counts : (p : Transfer → Bool) (f : ℕ → Transfer) (l : List ℕ) → list_any p (map f l) ≡ not (length (filter (λ k. p (f k)) l) == 0)
any_counts p f [] = refl
any_counts p f (k ∷ l) = grind (arith, any_counts p f l)

pub some_reached : (past : Past) (state : SessionState) (reach : FunctionReach) → Stands past state
    → reaches_some reach state.transfers.list ≡ not (length (reached reach past) == 0)
unfolding reached
some_reached past state reach s =
    ap (reaches_some reach) (list_is past state s) ∙ any_counts (λ transfer. reaches reach transfer.header) (transfer_of past) (unfinished past)

-- ---- what an ABORT TASK finds

pub finds_is : {past : Past} {state : SessionState} (reach : FunctionReach) (live back new plugged_it : Bool) → Stands past state
    → live ≡ reaches_some reach state.transfers.list → back ≡ refers_back reach.function → new ≡ order.is_new (numbers past) (ref_cmd_sn reach.function)
    → plugged_it ≡ is_some_plug (held_numbered state.tasks (ref_cmd_sn reach.function)) → found_by live back new plugged_it ≡ abort_finds past reach
finds_is {past} {state} reach live back new plugged_it s e f g h = grind (arith, some_reached, plugged_is)

-- a number that is vacant still is, where a request is finished
pub vacant_still : (frame : Frame) (others : List Frame) (tasks : TaskLists) (n : ℕ) → is_vacant tasks n ≡ true
    → is_vacant (one_fewer frame (record tasks { due = others })) n ≡ true
vacant_still frame others tasks n e = grind arith

pub behind_plain : (luns : List ℕ) (past after : Past) (k : ℕ) → plugs past (reach_of luns k past) ≡ false → behind luns k past after ≡ after
behind_plain luns past after k e = grind arith

behind_plugs : (luns : List ℕ) (past after : Past) (k : ℕ) → is_function (frame_of past.came k) ≡ true → plugs past (reach_of luns k past) ≡ true
    → behind luns k past after ≡ plugged (ref_cmd_sn (frame_of past.came k).header) after
behind_plugs luns past after k f e = rw (f, e) refl

-- it removes what it reaches
pub stands_ended : (luns : List ℕ) (past : Past) (state : SessionState) (k : ℕ) → is_function (frame_of past.came k) ≡ true
    → awaited past (reach_of luns k past) ≡ [] → Stands (moved k past) state → Stands (ended luns k past) (record state {
      tasks = without (reach_of luns k past) state.tasks;
      transfers = record state.transfers { list = transfers_without (reach_of luns k past) state.transfers.list };
    })
stands_ended luns past state k f none s =
    let reach = reach_of luns k past in
    let after : SessionState = record state {
      tasks = without reach state.tasks;
      transfers = record state.transfers { list = transfers_without reach state.transfers.list };
    } in
    subst (λ (p : Past). Stands p after)
    (ap (λ (l : List ℕ). removing l (moved k past)) (reached_moved luns past k f) ∙ ended_now luns past k f none)
    (stands_removing reach (moved k past) state s)

pub stands_behind : (luns : List ℕ) (past : Past) (state : SessionState) (k : ℕ) → plugs past (reach_of luns k past) ≡ false
    → Stands (ended luns k past) state → Stands (behind luns k past (ended luns k past)) state
stands_behind luns past state k e s = subst (λ (p : Past). Stands p state) (sym (behind_plain luns past (ended luns k past) k e)) s

-- and where it plugs it reaches none
pub stands_unreached : (luns : List ℕ) (past : Past) (state : SessionState) (k : ℕ) → is_function (frame_of past.came k) ≡ true
    → awaited past (reach_of luns k past) ≡ [] → plugs past (reach_of luns k past) ≡ true → Stands (moved k past) state → Stands (ended luns k past) state
stands_unreached luns past state k f unasked e s = grind (arith, append-nil, plugs_none, ended_now)

pub stands_plugged_behind : (luns : List ℕ) (past : Past) (state : SessionState) (k n : ℕ) → is_function (frame_of past.came k) ≡ true
    → plugs past (reach_of luns k past) ≡ true → n ≡ ref_cmd_sn (frame_of past.came k).header → is_vacant state.tasks n ≡ true
    → Stands (ended luns k past) state
    → Stands (behind luns k past (ended luns k past)) (record state { tasks = takes_all (holding n plug state.tasks) })
stands_plugged_behind luns past state k n f e is free s = grind (arith, behind_plugs, stands_plugged)
