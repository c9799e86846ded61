-- A Task Management Function Request acts and waits for data: what it removes, the data that it waits for, what the session remembers, and
-- that its past stays lawful.
use Rattle.std.proofs.Common.{◌≡◌, ℕ, List, [], ◌∷◌, ◌++◌, map, drop, true, false, not, refl, sym, ap, subst, ◌∙◌, arith, inl, inr, suc, length, get_or, Bool, ◌&&◌, ◌==◌}
use mathlib.Core.List.{map-map, map-id}
use Rattle.std.specs.Prelude.{All, filter}
use Rattle.std.proofs.lemmas.Bool.{cases_eq, eq-eqb, ne_eqb, false_from_ne_true}
use Rattle.std.proofs.lemmas.List.{map-append, append-nil}
use Rattle.std.proofs.lemmas.List.Elements.{filter-append, All-append, All-map}
use Rattle.iscsi_order.specs.Window.{taken as taken_numbers}
use Rattle.iscsi_requests.specs.Drained.{Drained}
use Rattle.iscsi_requests.specs.Requests.{Past, Drain, drain_for, draining, frame_of, frames_of, is_in, left, is_command, is_function, over, pending, due, queue, unfinished, functions, removing}
use Rattle.iscsi_requests.specs.Transfers.{task_at, outs_of, tags_of, drains_of, is_asked_of}
use Rattle.iscsi_requests.specs.Texts.{exchange_of}
use Rattle.iscsi_requests.specs.State.{SessionState, AreDrained, AreDistinct, IsLawful, Stands, standing, tasks_of, drained_of, transfers_of, functions_of, transfer_of, without, transfers_without}
use Rattle.iscsi_requests.proofs.Left.{filter_cong, left_append, in_at, in_left, in_left_back, not_in, is_in_append, filter_filter, in_back, in_filter, distinct_filter, distinct_append}
use Rattle.iscsi_requests.proofs.Places.{or_known}
use Rattle.iscsi_session.proofs.Kept.{kept_of, function_no_command, unfinished_other, unfinished_distinct, drains_apart}
use Rattle.iscsi_session.proofs.Over.{lawful_step, over_same}
use Rattle.iscsi_session.proofs.Moved.{due_after, queue_other, not_finished, stays_other, lawful_other}
use Rattle.iscsi_session.proofs.Parts.{exchange_acted, exchange_other, parts, stands_parts, due_is}
use Rattle.iscsi_session.proofs.Answered.{function_no_text, answering_none, function_waits}
use Rattle.std.specs.List.{list_any}
use Rattle.iscsi_requests.specs.Functions.{FunctionReach, reaches, reached, waits, awaited}
use Rattle.iscsi_session.specs.Acts.{reach_of, ended, acted}
use Rattle.iscsi_requests.specs.Draining.{drained_for, is_awaited, awaited_in, awaits_in}
use Rattle.iscsi_session.proofs.Feeding.{list_is}
use Rattle.iscsi_session.proofs.Removing.{filter_map_names, due_same, lawful_removing, stands_removing}
use Rattle.iscsi_session.proofs.Ending.{awaited_some, awaited_no_plug, behind_plain, any_counts}

only_for : (k a : ℕ) (names : List ℕ) → is_in a (map (λ d. d.function) (map (drain_for k) names)) ≡ true → a ≡ k
only_for k a [] e = absurd cc
only_for k a (c ∷ names) e = elim (cases_eq k a) [
  | inl same ↦ sym same
  | inr differs ↦ let rest = rw (ne_eqb k a differs) at e in only_for k a names rest
]

module _ (past : Past) (lawful : IsLawful past) (k : ℕ) (rest : List ℕ) (is : due past ≡ k ∷ rest) (f : is_function (frame_of past.came k) ≡ true)
    (first : ℕ) (others : List ℕ) where
  abbrev names : List ℕ
  names = first ∷ others

  abbrev acted_past : Past
  acted_past = record past { acted = past.acted ++ k ∷ []; finished = past.finished ++ k ∷ [] }

  abbrev after : Past
  after = draining k names acted_past

  no_command : is_command (frame_of past.came k) ≡ false
  no_command = function_no_command (frame_of past.came k) f

  open_still : is_in k past.finished ≡ false
  open_still = not_finished past lawful k rest is

  not_answered : is_in k past.answered ≡ false
  not_answered = not_in k past.answered past.finished lawful.drained.answered open_still

  -- ---- it waits

  abbrev new_functions : List ℕ
  new_functions = map (λ d. d.function) (map (drain_for k) names)

  pending_after : pending after ≡ pending past ++ left past.answered new_functions
  pending_after = grind (arith, map-append, left_append)

  waits_now : is_in k (pending after) ≡ true
  waits_now = grind (arith, pending_after, is_in_append, or_known, in_left_back, eq-eqb, not_answered)

  same_pending : (a : ℕ) → is_in a past.finished ≡ true → is_in a (pending after) ≡ is_in a (pending past)
  same_pending a there = grind (arith, false_from_ne_true, only_for, in_left, open_still, pending_after, is_in_append)

  done_after : left (pending after) (past.finished ++ k ∷ []) ≡ left (pending past) past.finished
  unfolding left
  done_after = grind (arith, left_append, append-nil, waits_now, filter_cong, same_pending, in_at)

  over_after : over after ≡ over past
  over_after =
      ap (λ (l : List ℕ). l ++ filter (λ a. is_in a past.removed) (past.acted ++ k ∷ [])) done_after
      ∙ over_same past k (stays_other past lawful k rest is no_command)

  pub functions_after : functions after ≡ functions past
  unfolding functions
  functions_after = ap (λ (l : List ℕ). kept_of is_function (record past { finished = l })) done_after

  due_waiting : due after ≡ rest
  unfolding due
  due_waiting = due_after past lawful k rest is

  queue_after : queue after ≡ queue past
  unfolding queue
  queue_after = queue_other past lawful k rest is no_command

  pub unfinished_after : unfinished after ≡ unfinished past
  unfolding unfinished
  unfinished_after = unfinished_other past k no_command

  -- ---- it stays lawful

  pub lawful_waiting : All (λ c. is_in c past.removed ≡ true) names → AreDistinct (map (λ d. d.command) (past.drains ++ map (drain_for k) names))
      → IsLawful after
  unfolding due queue unfinished
  lawful_waiting removed once =
      let l : IsLawful acted_past = lawful_other past lawful k rest is no_command in
      let drained : AreDrained after = record {
        functions = All-append (λ (d : Drain). is_function (frame_of past.came d.function) ≡ true) past.drains (map (drain_for k) names) l.drained.functions
            (All-map (λ (d : Drain). is_function (frame_of past.came d.function) ≡ true) (drain_for k) names (λ i d lt. f));
        acted = All-append (λ (d : Drain). is_in d.function (past.finished ++ k ∷ []) ≡ true) past.drains (map (drain_for k) names) l.drained.acted
            (All-map (λ (d : Drain). is_in d.function (past.finished ++ k ∷ []) ≡ true) (drain_for k) names (λ i d lt. last_in));
        answered = l.drained.answered;
        removed = All-append (λ (d : Drain). is_in d.command past.removed ≡ true) past.drains (map (drain_for k) names) l.drained.removed
            (All-map (λ (d : Drain). is_in d.command past.removed ≡ true) (drain_for k) names removed);
        once = once;
      } in
      lawful_step past (past.acted ++ k ∷ []) (past.finished ++ k ∷ []) past.removed (past.drains ++ map (drain_for k) names) past.answered lawful
      (grind (arith, over_after, functions_after))
    where
      last_in : is_in k (past.finished ++ k ∷ []) ≡ true
      last_in = is_in_append k past.finished (k ∷ []) ∙ or_known (is_in k past.finished) _ (rw (eq-eqb k k refl) refl)

  -- ---- what is remembered

  tasks_waiting : record (tasks_of past) { due = frames_of (standing past) rest } ≡ tasks_of after
  unfolding tasks_of standing taken_numbers
  tasks_waiting = rw (over_after, due_waiting, queue_after) refl

  drains_after : map (drained_of past) (drains_of after) ≡ map (drained_of past) (drains_of past) ++ map (λ c. drained_of past (drain_for k c)) names
  drains_after =
      ap (map (drained_of past)) (filter-append (λ d. not (is_in d.function past.answered)) past.drains (map (drain_for k) names)
      ∙ ap (λ (l : List Drain). drains_of past ++ l) (all_new names))
      ∙ map-append (drained_of past) (drains_of past) (map (drain_for k) names)
      ∙ ap (λ (l : List Drained). map (drained_of past) (drains_of past) ++ l) (map-map (drained_of past) (drain_for k) names)
    where
      all_new : (l : List ℕ) → filter (λ d. not (is_in d.function past.answered)) (map (drain_for k) l) ≡ map (drain_for k) l
      all_new [] = refl
      all_new (c ∷ l) = rw not_answered (ap (λ (x : List Drain). drain_for k c ∷ x) (all_new l))

  transfers_waiting : record (transfers_of past) { drains = (transfers_of past).drains ++ map (λ c. drained_of past (drain_for k c)) names }
      ≡ transfers_of after
  unfolding transfers_of task_at outs_of tags_of
  transfers_waiting = grind (arith, drains_after, unfinished_after)

  headers_waiting : functions_of past ≡ functions_of after
  unfolding functions_of
  headers_waiting = ap (map (λ a. (frame_of past.came a).header)) (sym functions_after)

  exchange_waiting : exchange_of past ≡ exchange_of after
  exchange_waiting =
      sym (exchange_other past.params (exchange_of past) (frame_of past.came k) (function_no_text (frame_of past.came k) f))
      ∙ sym (exchange_acted past after k refl refl refl)

  pub stands_waiting : (state : SessionState) → Stands past state → IsLawful after → state.tasks.due ≡ (frames_of (standing past) (k ∷ rest))
      → Stands after (record state {
        tasks = record state.tasks { due = drop 1 state.tasks.due };
        transfers = record state.transfers { drains = state.transfers.drains ++ map (λ c. drained_of past (drain_for k c)) names };
      })
  stands_waiting state s lawful_now line = grind (arith, parts, stands_parts, tasks_waiting, transfers_waiting, headers_waiting, exchange_waiting)

-- ---- what it removes, and the data that it waits for

commands_for : (k : ℕ) (l : List ℕ) → map (λ d. d.command) (map (drain_for k) l) ≡ l
commands_for k l = map-map (λ (d : Drain). d.command) (drain_for k) l ∙ map-id l

module _ (luns : List ℕ) (past : Past) (lawful : IsLawful past) (k : ℕ) (rest : List ℕ) (is : due past ≡ k ∷ rest)
    (f : is_function (frame_of past.came k) ≡ true)
    (first : ℕ) (others : List ℕ) (e : awaited past (reach_of luns k past) ≡ first ∷ others) where
  abbrev gone : List ℕ
  gone = reached (reach_of luns k past) past

  abbrev less : Past
  less = removing gone past

  abbrev those : List ℕ
  those = first ∷ others

  names_are : those ≡ filter (is_asked_of past) gone
  names_are = sym e ∙ awaited_some past (reach_of luns k past) first others e

  in_gone : (c : ℕ) → is_in c those ≡ true → is_in c gone ≡ true
  in_gone c h = in_filter c (is_asked_of past) gone (ap (is_in c) (sym names_are) ∙ h)

  unfinished_of : (c : ℕ) → is_in c gone ≡ true → is_in c (unfinished past) ≡ true
  unfolding reached
  unfinished_of c h = in_filter c (λ a. reaches (reach_of luns k past) (frame_of past.came a).header) (unfinished past) h

  removed_all : All (λ c. is_in c (past.removed ++ gone) ≡ true) those
  removed_all = λ i d lt. in_back _ past.removed gone (in_gone _ (in_at those i d lt))

  distinct_gone : AreDistinct gone
  unfolding reached
  distinct_gone = distinct_filter (λ a. reaches (reach_of luns k past) (frame_of past.came a).header) (unfinished past) (unfinished_distinct past)

  distinct_names : AreDistinct those
  distinct_names = subst AreDistinct (sym names_are) (distinct_filter (is_asked_of past) gone distinct_gone)

  not_drained : All (λ c. is_in c those ≡ false) (map (λ d. d.command) past.drains)
  not_drained = All-map (λ c. is_in c those ≡ false) (λ (d : Drain). d.command) past.drains (λ i none lt.
      let c = (get_or past.drains i none).command in
      false_from_ne_true (is_in c those) (λ h. absurd (drains_apart past c lawful.drained (unfinished_of c (in_gone c h)) i none lt refl)))

  once : AreDistinct (map (λ d. d.command) (past.drains ++ map (drain_for k) those))
  once = grind (arith, map-append, commands_for, distinct_append, distinct_names, not_drained)

  due_less : due less ≡ k ∷ rest
  due_less = due_same (reach_of luns k past) past lawful ∙ is

  pub ends_are : draining k those (removing gone (record past { acted = past.acted ++ k ∷ []; finished = past.finished ++ k ∷ [] })) ≡ ended luns k past
  ends_are = grind arith

  lawful_less : IsLawful (draining k those (removing gone (record past { acted = past.acted ++ k ∷ []; finished = past.finished ++ k ∷ [] })))
  lawful_less =
      lawful_waiting less (lawful_removing (reach_of luns k past) past lawful) k rest due_less f first others removed_all once

  pub lawful_waits : IsLawful (ended luns k past)
  lawful_waits = subst IsLawful ends_are lawful_less

  -- it is not finished
  pub functions_waits : functions (ended luns k past) ≡ functions (removing (reached (reach_of luns k past) past) past)
  functions_waits =
      ap functions (sym ends_are)
      ∙ functions_after less (lawful_removing (reach_of luns k past) past lawful) k rest due_less f first others

  pub unfinished_waits : unfinished (ended luns k past) ≡ unfinished (removing (reached (reach_of luns k past) past) past)
  unfinished_waits =
      ap unfinished (sym ends_are)
      ∙ unfinished_after less (lawful_removing (reach_of luns k past) past lawful) k rest due_less f first others

  pub came_waits : (ended luns k past).came ≡ past.came
  came_waits = ap (λ (p : Past). p.came) (sym ends_are)

  asked_names : filter (λ c. is_awaited (reach_of luns k past) (transfer_of past c)) (unfinished past) ≡ those
  unfolding reached
  asked_names = sym (filter_filter (is_asked_of past) (λ a. reaches (reach_of luns k past) (frame_of past.came a).header) (unfinished past)) ∙ sym names_are

  drains_are : (state : SessionState) → Stands past state
      → map (λ c. drained_of less (drain_for k c)) those ≡ awaited_in (reach_of luns k past) state.transfers.list
  unfolding task_at outs_of tags_of
  drains_are state s =
      let reach = reach_of luns k past in
      ap (map (λ c. drained_of less (drain_for k c))) (sym asked_names)
      ∙ sym (map-map (drained_for reach.function) (transfer_of past) (filter (λ c. is_awaited reach (transfer_of past c)) (unfinished past)))
      ∙ ap (map (drained_for reach.function)) (sym (filter_map_names (is_awaited reach) (transfer_of past) (unfinished past)))
      ∙ ap (awaited_in reach) (sym (list_is past state s))

  pub stands_waits : (state : SessionState) → Stands past state → Stands (ended luns k past) (record state {
    tasks = record (without (reach_of luns k past) state.tasks) { due = drop 1 (without (reach_of luns k past) state.tasks).due };
    transfers = record state.transfers {
      list = transfers_without (reach_of luns k past) state.transfers.list;
      drains = state.transfers.drains ++ awaited_in (reach_of luns k past) state.transfers.list;
    };
  })
  stands_waits state s =
      let reach = reach_of luns k past in
      let next : SessionState = record state {
        tasks = without reach state.tasks;
        transfers = record state.transfers { list = transfers_without reach state.transfers.list };
      } in
      let s_next = stands_removing reach past state s in
      let line : next.tasks.due ≡ frames_of (standing less) (k ∷ rest) = due_is less next s_next ∙ ap (frames_of (standing less)) due_less in
      subst (λ (p : Past). Stands p (record next {
        tasks = record next.tasks { due = drop 1 next.tasks.due };
        transfers = record next.transfers { drains = state.transfers.drains ++ awaited_in reach state.transfers.list };
      })) ends_are
      (subst (λ (l : List Drained). Stands (draining k those (removing gone (record past { acted = past.acted ++ k ∷ []; finished = past.finished ++ k ∷ [] })))
      (record next {
        tasks = record next.tasks { due = drop 1 next.tasks.due };
        transfers = record next.transfers { drains = state.transfers.drains ++ l };
      })) (drains_are state s)
      (stands_waiting less (lawful_removing reach past lawful) k rest due_less f first others next s_next lawful_less line))

  -- it is not answered, and plugs no number
  pub acted_waits : ended luns k past ≡ acted luns k past
  acted_waits = grind (arith, behind_plain, awaited_no_plug, answering_none, function_waits)

-- ---- whether it waits

awaited_by : (b : Bool) (past : Past) (reach : FunctionReach) → waits reach ≡ b
    → not (length (awaited past reach) == 0) ≡ (b && not (length (filter (is_asked_of past) (reached reach past)) == 0))
unfolding awaited
awaited_by b past reach e = grind arith

asked_any : (past : Past) (state : SessionState) (reach : FunctionReach) → Stands past state
    → list_any (is_awaited reach) state.transfers.list ≡ not (length (filter (is_asked_of past) (reached reach past)) == 0)
unfolding reached
asked_any past state reach s =
    ap (list_any (is_awaited reach)) (list_is past state s) ∙ any_counts (is_awaited reach) (transfer_of past) (unfinished past)
    ∙ ap (λ (l : List ℕ). not (length l == 0)) (sym (filter_filter (is_asked_of past) (λ a. reaches reach (frame_of past.came a).header) (unfinished past)))

pub awaits_is : (past : Past) (state : SessionState) (reach : FunctionReach) → Stands past state
    → awaits_in reach state.transfers.list ≡ not (length (awaited past reach) == 0)
awaits_is past state reach s =
    ap (λ (b : Bool). waits reach && b) (asked_any past state reach s) ∙ sym (awaited_by (waits reach) past reach refl)

pub some_of : (l : List ℕ) → not (length l == 0) ≡ true → (first : ℕ) × (others : List ℕ) × (l ≡ first ∷ others)
some_of [] e = absurd cc
some_of (first ∷ others) e = (first, others, refl)

pub none_of : (l : List ℕ) → not (length l == 0) ≡ false → l ≡ []
none_of [] e = refl
none_of (first ∷ others) e = absurd (let no = rw (ne_eqb (suc (length others)) 0 (λ h. absurd (omega (arith, h)))) at e in cc)
