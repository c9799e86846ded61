-- Nothing is due of a session between two frames.
use Rattle.std.proofs.Common.{◌≡◌, ◌≢◌, ℕ, zero, suc, ◌+◌, ◌<◌, ◌≤◌, List, [], ◌∷◌, ◌++◌, length, map, Bool, true, false, not, cond, ◌&&◌, ◌==◌, Option, Some, None, refl, sym, ap, subst, ◌∙◌, arith, append-nil, inl, inr}
use Rattle.std.specs.Prelude.{All, filter, find, is_some, option_map}
use Rattle.std.specs.List.{list_any}
use Rattle.std.proofs.lemmas.Bool.{cases_eq, eq-eqb, not-true, and_parts, or_parts}
use Rattle.std.proofs.lemmas.List.{map-append}
use Rattle.std.proofs.lemmas.List.Folds.{list_any-append}
use Rattle.std.proofs.lemmas.List.Elements.{All-head, All-tail, filter_passes}
use Rattle.iscsi_pdu.specs.Header.{initiator_task_tag}
use Rattle.iscsi_pdu.specs.TaskManagement.{ref_cmd_sn}
use Rattle.iscsi_pdu.specs.Frames.{Frame}
use Rattle.iscsi_pdu.specs.declared.answer.Answer.{Answer}
use Rattle.iscsi_login.specs.declared.session_params.SessionParams.{SessionParams}
use Rattle.iscsi_order.specs.Window.{taken as taken_numbers}
use Rattle.iscsi_transfer.specs.WriteData.{first, is_due, is_asked}
use Rattle.iscsi_transfer.specs.declared.progress.Ask.{Ask}
use Rattle.scsi_unit.specs.Units.{numbers_of}
use Rattle.iscsi_requests.specs.declared.transfers.Transfer.{Transfer}
use Rattle.iscsi_requests.specs.declared.verdict.Verdict.{Verdict}
use Rattle.iscsi_requests.specs.declared.verdict.Verdict.TheVariants.{Ignored, Dropped, Rejected, Violating, Accepted, Feeding}
use Rattle.iscsi_requests.specs.Requests.{Request, Past, Drain, begun, drain_for, draining, frame_of, frames_of, is_in, is_command, is_function, left, pending, taken, numbers, due, queue, unfinished, moved, finished, accepted, removing, answering, number_for}
use Rattle.iscsi_requests.specs.Transfers.{outs_of, tags_of, task_at, is_due_of, is_asked_of, asking, asked, command_with, fed}
use Rattle.iscsi_requests.specs.Functions.{FunctionReach, reached, awaited, plug, plugs, lacks, drained_functions, told, told_answers}
use Rattle.iscsi_requests.specs.Judging.{verdict, judged, is_refused}
use Rattle.iscsi_session.specs.Acts.{reach_of, act_answers, ended, behind}
use Rattle.iscsi_requests.specs.State.{IsLawful, AreDistinct, standing, tasks_with, tasks_of, transfer_of, weight, waiting}
use Rattle.iscsi_session.specs.Steps.{Step, Judging, Taking, Asking, Answering, Doing, Work, reaches, take_step, judge, act, act_all, ask, tell, finish, first_steps, one_by_one, waiting_in, ask_due, tell_due, taken_in, asked_in, served, ready, settled}
use Rattle.iscsi_session.specs.Laws.{NothingIsDue, NothingStaysDue}
use Rattle.iscsi_requests.proofs.Left.{in_at, in_filter, in_filter_back, in_left, in_left_back, in_back, not_gone, passes_in, is_in_append, left_more}
use Rattle.iscsi_session.proofs.Kept.{joined, function_no_command, unfinished_came, unfinished_joined, unfinished_without, queue_unfinished, transfer_joined, drains_apart, drain_commands_below}
use Rattle.iscsi_session.proofs.Standing.{standing_kept}
use Rattle.iscsi_session.proofs.Accepted.{finished_below, removed_below, with}
use Rattle.iscsi_session.proofs.Moved.{due_came, stays_other}
use Rattle.iscsi_session.proofs.Weights.{weight_by, weight_some, waiting_held, waiting_without, waiting_fits}
use Rattle.iscsi_session.proofs.Removing.{tasks_removing}
use Rattle.iscsi_session.proofs.Feeding.{feeding, unfinished_fed, fed_elsewhere}
use Rattle.iscsi_session.proofs.Asking.{unfinished_asked, asked_elsewhere, asks_gone, ready_queue}
use Rattle.iscsi_session.proofs.Ending.{ended_function, reached_moved, plugs_unasked, plugs_new, plugged_tasks}
use Rattle.iscsi_session.proofs.Runs.{tasks_answering, first_stopped, stopped, idle}
use Rattle.iscsi_session.proofs.Answered.{ended_plain, command_kind}
use Rattle.iscsi_session.proofs.Steps.{KeptBy, all_keep, settled_keeps}
use Rattle.iscsi_session.proofs.Verdicts.{verdict_refused}
use Rattle.iscsi_session.proofs.Lawful.{due_in_order, done_in_order, moved_by, ended_lawful, more_over, judge_lawful, act_lawful, ask_lawful, tell_lawful, finish_lawful}

-- ---- what is in a line

-- no other than this one
abbrev Only : Option ℕ → List ℕ → Type 0
Only one l = (k : ℕ) → is_in k l ≡ true → Some k ≡ one

only_none : (l : List ℕ) → l ≡ [] → Only None l
only_none l e k there = absurd (let h : is_in k [] ≡ true = ap (is_in k) (sym e) ∙ there in cc)

none_in : (l : List ℕ) → Only None l → l ≡ []
none_in [] only = refl
none_in (k ∷ l) only = absurd (let no = only k (rw (eq-eqb k k refl) refl) in cc)

-- ---- which commands are to be asked, and which functions to be answered

module _ (past : Past) where
  asks_in : (k : ℕ) → is_in k (asking past) ≡ true → (is_in k (unfinished past) ≡ true) × (is_due_of past k ≡ true)
  unfolding asking
  asks_in k h = (in_filter k (λ a. is_due_of past a) (unfinished past) h, passes_in k (λ a. is_due_of past a) (unfinished past) h)

  asks_back : (k : ℕ) → is_in k (unfinished past) ≡ true → is_due_of past k ≡ true → is_in k (asking past) ≡ true
  unfolding asking
  asks_back k there asks = in_filter_back k (λ a. is_due_of past a) (unfinished past) there asks

abbrev waits_on : (ℕ → Bool) → ℕ → Drain → Bool
waits_on lacking a d = d.function == a && lacking d.command

lacks_all : (lacking : ℕ → Bool) (a : ℕ) (answered : List ℕ) (l : List Drain) → is_in a answered ≡ false
    → list_any (waits_on lacking a) (filter (λ d. not (is_in d.function answered)) l) ≡ list_any (waits_on lacking a) l
lacks_all lacking a answered [] none = refl
lacks_all lacking a answered (d ∷ l) none = grind (arith, lacks_all lacking a answered l none)

record IsTold (past : Past) (a : ℕ) : Type 0 where
  waits : is_in a (map (λ d. d.function) past.drains) ≡ true
  unanswered : is_in a past.answered ≡ false
  complete : list_any (waits_on (is_asked_of past) a) past.drains ≡ false

told_in : (past : Past) (a : ℕ) → is_in a (drained_functions past) ≡ true → IsTold past a
unfolding drained_functions
told_in past a h =
    let names = map (λ (d : Drain). d.function) past.drains in
    let there = in_filter a (λ k. not (lacks past k)) (pending past) h in
    let none = not_gone a past.answered names there in
    record {
      waits = in_left a past.answered names there;
      unanswered = none;
      complete = sym (lacks_all (is_asked_of past) a past.answered past.drains none) ∙ not-true _ (passes_in a (λ k. not (lacks past k)) (pending past) h);
    }

told_back : (past : Past) (a : ℕ) → IsTold past a → is_in a (drained_functions past) ≡ true
unfolding drained_functions
told_back past a t =
    in_filter_back a (λ k. not (lacks past k)) (pending past) (in_left_back a past.answered (map (λ (d : Drain). d.function) past.drains) t.waits t.unanswered)
    (ap not (lacks_all (is_asked_of past) a past.answered past.drains t.unanswered ∙ t.complete))

same_open : (p q : ℕ → Bool) (a : ℕ) (l : List Drain) → All (λ d. q d.command ≡ p d.command) l
    → list_any (waits_on q a) l ≡ list_any (waits_on p a) l
same_open p q a [] same = refl
same_open p q a (d ∷ l) same =
    grind (
      arith,
      All-head (λ (x : Drain). q x.command ≡ p x.command) d l same,
      same_open p q a l (All-tail (λ (x : Drain). q x.command ≡ p x.command) d l same),
    )

-- ---- no more is due

record OwesNoMore (past after : Past) : Type 0 where
  params : after.params ≡ past.params
  commands : (k : ℕ) → is_in k (unfinished after) ≡ true → is_in k (unfinished past) ≡ true
  asks : (k : ℕ) → is_in k (asking after) ≡ true → is_in k (asking past) ≡ true
  answers : (k : ℕ) → is_in k (drained_functions after) ≡ true → is_in k (drained_functions past) ≡ true

then_no_more : {past middle after : Past} → OwesNoMore past middle → OwesNoMore middle after → OwesNoMore past after
then_no_more a b = grind arith

answers_in : (past after : Past) → ((a : ℕ) → is_in a after.answered ≡ false → is_in a past.answered ≡ false) → after.drains ≡ past.drains
    → All (λ d. is_asked_of after d.command ≡ is_asked_of past d.command) past.drains
    → (a : ℕ) → is_in a (drained_functions after) ≡ true → is_in a (drained_functions past) ≡ true
answers_in past after fewer drains lacking a h = grind (arith, told_in, told_back, same_open)

no_more : (past after : Past) → after.params ≡ past.params
    → ((k : ℕ) → is_in k (unfinished after) ≡ true → (is_in k (unfinished past) ≡ true) × (is_due_of after k ≡ true → is_due_of past k ≡ true))
    → ((a : ℕ) → is_in a after.answered ≡ false → is_in a past.answered ≡ false) → after.drains ≡ past.drains
    → All (λ d. is_asked_of after d.command ≡ is_asked_of past d.command) past.drains → OwesNoMore past after
no_more past after params there fewer drains lacking = grind (arith, asks_in, asks_back, answers_in)

none_answering : (more : List Answer) (past : Past) → OwesNoMore past (answering more past)
unfolding unfinished task_at outs_of tags_of
none_answering more past = no_more past (answering more past) refl (λ k h. (h, λ s. s)) (λ a h. h) refl (λ i d lt. refl)

none_finished : (k : ℕ) (past : Past) → OwesNoMore past (finished k past)
unfolding task_at outs_of tags_of
none_finished k past = no_more past (finished k past) refl
    (λ a h. (in_left a (k ∷ []) (unfinished past) (ap (is_in a) (sym (unfinished_without past k)) ∙ h), λ s. s)) (λ a h. h) refl (λ i d lt. refl)

none_acted : (names : List ℕ) (past : Past) → OwesNoMore past (record past { acted = names })
unfolding unfinished task_at outs_of tags_of
none_acted names past = no_more past (record past { acted = names }) refl (λ k h. (h, λ s. s)) (λ a h. h) refl (λ i d lt. refl)

none_moved : (b : Bool) (k : ℕ) (past : Past) → is_command (frame_of past.came k) ≡ b → OwesNoMore past (moved k past)
none_moved true k past e = rw e (none_acted (past.acted ++ k ∷ []) past)
none_moved false k past e = rw e (then_no_more (none_acted (past.acted ++ k ∷ []) past) (none_finished k (record past { acted = past.acted ++ k ∷ [] })))

none_removing : (names : List ℕ) (past : Past) → OwesNoMore past (removing names past)
unfolding unfinished task_at outs_of tags_of
none_removing names past = no_more past (removing names past) refl
    (λ k h. (in_left k names (unfinished past) (ap (is_in k) (sym (left_more past.removed names _)) ∙ h), λ s. s)) (λ a h. h) refl (λ i d lt. refl)

-- a request that is no SCSI Command comes
open_joined : (past : Past) (x : Request) → IsLawful past → All (λ d. is_asked_of (joined x past) d.command ≡ is_asked_of past d.command) past.drains
open_joined past x lawful = λ i d lt. ap (λ (t : Transfer). is_asked t.task) (transfer_joined past x _ (drain_commands_below past lawful.drained (removed_below past lawful) i d lt))

ask_joined : (past : Past) (x : Request) (k : ℕ) → is_in k (unfinished past) ≡ true → is_due_of (joined x past) k ≡ is_due_of past k
ask_joined past x k there = ap (λ (t : Transfer). is_due t.task) (transfer_joined past x k (unfinished_came past k there))

none_joined : (past : Past) (x : Request) → is_command x.frame ≡ false → IsLawful past → OwesNoMore past (joined x past)
none_joined past x e lawful = no_more past (joined x past) refl there (λ a h. h) refl (open_joined past x lawful)
  where
    there : (k : ℕ) → is_in k (unfinished (joined x past)) ≡ true
        → (is_in k (unfinished past) ≡ true) × (is_due_of (joined x past) k ≡ true → is_due_of past k ≡ true)
    there k h = grind (arith, unfinished_joined, finished_below, removed_below, append-nil, ask_joined)

-- ---- a function acts and waits for data that is asked for

waits_for : (lacking : ℕ → Bool) (k a : ℕ) (l : List ℕ) → All (λ c. lacking c ≡ true) l → is_in a (map (λ d. d.function) (map (drain_for k) l)) ≡ true
    → list_any (waits_on lacking a) (map (drain_for k) l) ≡ true
waits_for lacking k a [] all h = absurd cc
waits_for lacking k a (c ∷ l) all h =
    grind (arith, All-head (λ (x : ℕ). lacking x ≡ true) c l all, waits_for lacking k a l (All-tail (λ (x : ℕ). lacking x ≡ true) c l all))

none_draining : (k : ℕ) (names : List ℕ) (past : Past) → All (λ c. is_asked_of past c ≡ true) names → OwesNoMore past (draining k names past)
unfolding unfinished task_at outs_of tags_of asking
none_draining k names past lacking = record { params = refl; commands = λ a h. h; asks = λ a h. h; answers = answers }
  where
    answers : (a : ℕ) → is_in a (drained_functions (draining k names past)) ≡ true → is_in a (drained_functions past) ≡ true
    answers a h =
        let t = told_in (draining k names past) a h in
        let more = map (drain_for k) names in
        let parts = or_parts _ _ (sym (list_any-append (waits_on (is_asked_of past) a) past.drains more) ∙ t.complete) in
        let waits = sym (is_in_append a (map (λ (d : Drain). d.function) past.drains) (map (λ (d : Drain). d.function) more))
        ∙ ap (is_in a) (sym (map-append (λ (d : Drain). d.function) past.drains more)) ∙ t.waits in
        told_back past a (record {
          waits = grind (arith, waits, parts.1, waits_for (is_asked_of past) k a names lacking);
          unanswered = t.unanswered;
          complete = parts.0;
        })

-- ---- a request acts

lacking_moved : (b : Bool) (k : ℕ) (gone : List ℕ) (past : Past) (c : ℕ) → is_command (frame_of past.came k) ≡ b
    → is_asked_of (removing gone (moved k past)) c ≡ is_asked_of past c
unfolding task_at outs_of tags_of
lacking_moved b k gone past c e = grind arith

awaited_lacking : (past : Past) (reach : FunctionReach) → All (λ c. is_asked_of past c ≡ true) (awaited past reach)
unfolding awaited
awaited_lacking past reach = grind (arith, filter_passes (is_asked_of past) (reached reach past))

none_ended : (luns : List ℕ) (b : Bool) (k : ℕ) (past : Past) → is_function (frame_of past.came k) ≡ b → OwesNoMore past (ended luns k past)
none_ended luns false k past f = rw f (none_moved _ k past refl)
none_ended luns true k past f =
    let gone = reached (reach_of luns k past) past in
    subst (OwesNoMore past) (sym (ended_function luns past k f))
    (then_no_more (then_no_more (none_moved _ k past refl) (none_removing gone (moved k past)))
    (none_draining k (awaited past (reach_of luns k past)) (removing gone (moved k past))
    (λ i d lt. lacking_moved _ k gone past _ refl ∙ awaited_lacking past (reach_of luns k past) i d lt)))

none_behind : (luns : List ℕ) (b : Bool) (past : Past) (k : ℕ) (rest : List ℕ) → (is_function (frame_of past.came k) && plugs past (reach_of luns k past)) ≡ b
    → due past ≡ k ∷ rest → IsLawful past → OwesNoMore past (behind luns k past (ended luns k past))
none_behind luns false past k rest e is lawful = rw e (none_ended luns _ k past refl)
none_behind luns true past k rest e is lawful =
    let lawful_ended = ended_lawful luns _ past k rest refl lawful is (moved_by _ past k rest refl lawful is) in
    rw e (then_no_more (none_ended luns _ k past refl) (none_joined (ended luns k past) (with _ plug) refl lawful_ended))

none_act : (work : Work) (k : ℕ) (rest : List ℕ) → due work.past ≡ k ∷ rest → IsLawful work.past → OwesNoMore work.past (act k work).past
unfolding act
none_act work k rest is lawful =
    then_no_more (none_behind (numbers_of work.units.states) _ work.past k rest refl is lawful)
    (none_answering (act_answers (numbers_of work.units.states) k work.past) _)

-- fewer acts can follow

moved_lists : (k : ℕ) (past : Past) → ((moved k past).came ≡ past.came) × ((moved k past).removed ≡ past.removed)
moved_lists k past = grind arith

waits_with : (past after : Past) → after.came ≡ past.came → after.removed ≡ past.removed
    → waiting (tasks_of after) ≡ waiting (tasks_with past (numbers past).handed (frames_of (standing past) (due after)))
unfolding tasks_of standing taken_numbers
waits_with past after came removed = rw (came, removed) refl

moved_fewer : (past : Past) (k : ℕ) (rest : List ℕ) → IsLawful past → due past ≡ k ∷ rest
    → waiting (tasks_of past) ≡ weight (frame_of (standing past) k) + waiting (tasks_of (moved k past))
moved_fewer past k rest lawful is =
    let kept = moved_lists k past in
    let line : List ℕ → ℕ = λ l. waiting (tasks_with past (numbers past).handed (frames_of (standing past) l)) in
    omega (
      arith,
      waits_with past past refl refl,
      waits_with past (moved k past) kept.0 kept.1,
      ap line is,
      ap line (due_in_order past k rest lawful is),
    )

waits_draining : (k : ℕ) (names : List ℕ) (past : Past) → waiting (tasks_of (draining k names past)) ≡ waiting (tasks_of past)
unfolding tasks_of standing due taken_numbers
waits_draining k names past = refl

ended_fewer : (luns : List ℕ) (b : Bool) (past : Past) (k : ℕ) (rest : List ℕ) → is_function (frame_of past.came k) ≡ b → IsLawful past → due past ≡ k ∷ rest
    → waiting (tasks_of (ended luns k past)) + cond b 2 1 ≤ waiting (tasks_of past)
ended_fewer luns false past k rest f lawful is = grind (arith, ended_plain, moved_fewer, weight_some)
ended_fewer luns true past k rest f lawful is =
    let reach = reach_of luns k past in
    let p = moved k past in
    let stands = standing_kept past k (due_came past lawful k rest is) (stays_other past lawful k rest is (function_no_command (frame_of past.came k) f)) in
    omega (
      arith,
      ap (λ (q : Past). waiting (tasks_of q)) (ended_function luns past k f),
      waits_draining k (awaited past reach) (removing (reached reach past) p),
      ap (λ (l : List ℕ). waiting (tasks_of (removing l p))) (reached_moved luns past k f),
      ap waiting (tasks_removing reach p (moved_by _ past k rest refl lawful is)),
      waiting_without reach (tasks_of p),
      moved_fewer past k rest lawful is,
      ap weight stands,
      weight_by true (frame_of past.came k) f,
    )

behind_fewer : (luns : List ℕ) (b : Bool) (past : Past) (k : ℕ) (rest : List ℕ) → (is_function (frame_of past.came k) && plugs past (reach_of luns k past)) ≡ b
    → IsLawful past → due past ≡ k ∷ rest → waiting (tasks_of (behind luns k past (ended luns k past))) < waiting (tasks_of past)
behind_fewer luns false past k rest e lawful is = rw e (grind (arith, ended_fewer luns _ past k rest refl lawful is))
behind_fewer luns true past k rest e lawful is =
    let both = and_parts (is_function (frame_of past.came k)) (plugs past (reach_of luns k past)) e in
    let n = ref_cmd_sn (frame_of past.came k).header in
    let moves = moved_by _ past k rest refl lawful is in
    let m = more_over luns past k rest both.0 (plugs_unasked past (reach_of luns k past) both.1) lawful is moves in
    let tasks = plugged_tasks n past (ended luns k past) m.1 m.2 lawful (ended_lawful luns _ past k rest refl lawful is moves) m.0
    (plugs_new past (reach_of luns k past) both.1) in
    grind (arith, waiting_held, weight_by, ended_fewer)

act_fewer : (work : Work) (k : ℕ) (rest : List ℕ) → due work.past ≡ k ∷ rest → IsLawful work.past
    → waiting (tasks_of (act k work).past) < waiting (tasks_of work.past)
unfolding act
act_fewer work k rest is lawful =
    let luns = numbers_of work.units.states in
    let past = work.past in
    omega (
      arith,
      ap waiting (tasks_answering (act_answers luns k past) (behind luns k past (ended luns k past))),
      behind_fewer luns _ past k rest refl lawful is,
    )

-- ---- a command is asked, a function is answered, and a command is done

ask_gone : (past : Past) (k : ℕ) → is_due_of (asked k past) k ≡ false
ask_gone past k = ap (λ (l : List Ask). is_some (first l)) (asks_gone past k)

none_asked : (k : ℕ) (past : Past) → IsLawful past → is_in k (asking past) ≡ true → OwesNoMore past (asked k past)
none_asked k past lawful there =
    let a = asks_in past k there in
    no_more past (asked k past) refl (λ j h. (let u = ap (is_in j) (sym (unfinished_asked past k)) ∙ h in (
      u,
      elim (cases_eq j k) [
        | inl same ↦ λ asks. absurd (let no = sym (ask_gone past k) ∙ ap (λ (n : ℕ). is_due_of (asked k past) n) (sym same) ∙ asks in cc)
        | inr differs ↦ λ asks. ap (λ (t : Transfer). is_due t.task) (sym (asked_elsewhere past k j differs)) ∙ asks
      ],
    ))) (λ n h. h) refl (λ i d lt. ap (λ (t : Transfer). is_asked t.task) (asked_elsewhere past k _ (drains_apart past k lawful.drained a.0 i d lt)))

none_told : (k : ℕ) (past : Past) → OwesNoMore past (told k past)
unfolding unfinished task_at outs_of tags_of
none_told k past = no_more past (told k past) refl (λ a h. (h, λ s. s)) (λ a h. (or_parts _ _ (sym (is_in_append a past.answered (k ∷ [])) ∙ h)).0) refl
    (λ i d lt. refl)

told_gone : (k : ℕ) (past : Past) → is_in k (drained_functions (told k past)) ≡ true → ⊥
told_gone k past h =
    let no = sym (in_back k past.answered (k ∷ []) (in_at (k ∷ []) 0 0 (omega arith))) ∙ (told_in (told k past) k h).unanswered in cc

none_finish : (work : Work) (k : ℕ) → OwesNoMore work.past (finish k work).past
unfolding finish
none_finish work k = then_no_more (none_finished k work.past) (none_answering _ (finished k work.past))

-- ---- what is due

-- no other command is to be asked, and no other function to be answered, than these
record Owes (command function : Option ℕ) (past : Past) : Type 0 where
  lawful : IsLawful past
  asks : Only command (asking past)
  answers : Only function (drained_functions past)
  discovery : past.params.target ≡ None → unfinished past ≡ []

owes_still : {c f : Option ℕ} {past after : Past} → OwesNoMore past after → IsLawful after → Owes c f past → Owes c f after
owes_still {c} {f} {past} {after} m lawful o = record {
  lawful = lawful;
  asks = λ k h. o.asks k (m.asks k h);
  answers = λ k h. o.answers k (m.answers k h);
  discovery = λ e. none_in (unfinished after)
      (λ k h. only_none (unfinished past) (o.discovery (ap (λ (p : SessionParams). p.target) (sym m.params) ∙ e)) k (m.commands k h));
}

owes_nothing : {past : Past} → IsLawful past → NothingIsDue past → Owes None None past
owes_nothing {past} lawful n = grind (arith, only_none)

nothing_is_due : {past : Past} → due past ≡ [] → Owes None None past → NothingIsDue past
nothing_is_due {past} idle o = grind (arith, idle, none_in)

-- the only one is gone
owes_less : (past after : Past) (line : Past → List ℕ) (one : Option ℕ) (k : ℕ) (rest : List ℕ) → line past ≡ k ∷ rest → Only one (line past)
    → ((a : ℕ) → is_in a (line after) ≡ true → is_in a (line past) ≡ true) → (is_in k (line after) ≡ true → ⊥) → Only None (line after)
owes_less past after line one k rest is only fewer gone a h = grind (arith, in_at)

-- ---- a frame is judged

-- the function that waits for the data of a command
abbrev waiter : ℕ → List Drain → Option ℕ
waiter k l = option_map (λ d. d.function) (find (λ d. d.command == k) l)

other_open : (p q : ℕ → Bool) (k a : ℕ) (l : List Drain) → ((j : ℕ) → j ≢ k → q j ≡ p j) → is_in k (map (λ d. d.command) l) ≡ false
    → list_any (waits_on q a) l ≡ list_any (waits_on p a) l
other_open p q k a [] same none = refl
other_open p q k a (d ∷ l) same none = grind (arith, same d.command, other_open p q k a l same)

the_waiter : (p q : ℕ → Bool) (k a : ℕ) (l : List Drain) → AreDistinct (map (λ d. d.command) l) → ((j : ℕ) → j ≢ k → q j ≡ p j)
    → list_any (waits_on p a) l ≡ true → list_any (waits_on q a) l ≡ false → Some a ≡ waiter k l
the_waiter p q k a [] distinct same before now = absurd cc
the_waiter p q k a (d ∷ l) distinct same before now = grind (arith, the_waiter p q k a l distinct.1 same, other_open)

abbrev Owing : Past → Type 0
Owing past = (command : Option ℕ) × (function : Option ℕ) × Owes command function past

-- a discovery session takes no SCSI Command
no_discovery : (past : Past) (frame : Frame) → is_command frame ≡ true → verdict past frame ≡ Accepted → past.params.target ≡ None → ⊥
unfolding is_refused
no_discovery past frame c e none = grind (arith, command_kind, verdict_refused)

accepted_owes : (b : Bool) (past : Past) (frame : Frame) → is_command frame ≡ b → verdict past frame ≡ Accepted → IsLawful past → NothingIsDue past
    → IsLawful (accepted frame past) → Owing (accepted frame past)
accepted_owes false past frame c e lawful n now = (None, None, owes_still (none_joined past _ c lawful) now (owes_nothing lawful n))
accepted_owes true past frame c e lawful n now = (
  Some (length past.came),
  None,
  record {
    lawful = now;
    asks = asks;
    answers = λ a h. only_none (drained_functions past) n.answers a (answers_in past (joined x past) (λ k there. there) refl (open_joined past x lawful) a h);
    discovery = λ none. absurd (no_discovery past frame c e none);
  },
)
  where
    x : Request
    x = record { number = number_for past frame; frame = frame }

    asks : Only (Some (length past.came)) (asking (joined x past))
    asks k h = grind (arith, asks_in, joined, unfinished_joined, finished_below, removed_below, is_in_append, asks_back, ask_joined, only_none)

fed_owes : (o : Option ℕ) (past : Past) (frame : Frame) → IsLawful past → NothingIsDue past → IsLawful (fed o frame past) → Owing (fed o frame past)
fed_owes None past frame lawful n now = (None, None, owes_nothing lawful n)
fed_owes (Some k) past frame lawful n now = (
  Some k,
  waiter k past.drains,
  record { lawful = now; asks = asks; answers = answers; discovery = λ none. unfinished_fed past k frame ∙ n.discovery none },
)
  where
    after : Past
    after = feeding k frame past

    same : (j : ℕ) → j ≢ k → transfer_of after j ≡ transfer_of past j
    same j differs = fed_elsewhere past k j frame differs

    asks : Only (Some k) (asking after)
    asks j h =
        let a = asks_in after j h in
        let there = ap (is_in j) (sym (unfinished_fed past k frame)) ∙ a.0 in
        elim (cases_eq j k) [
          | inl here ↦ ap (λ (m : ℕ). Some m) here
          | inr differs ↦
              let asks = ap (λ (t : Transfer). is_due t.task) (sym (same j differs)) ∙ a.1 in
              absurd (let no = only_none (asking past) n.asks j (asks_back past j there asks) in cc)
        ]

    answers : Only (waiter k past.drains) (drained_functions after)
    answers a h =
        let t = told_in after a h in
        let told : list_any (waits_on (is_asked_of past) a) past.drains ≡ false → ⊥ = λ e.
        (let no = only_none (drained_functions past) n.answers a
        (told_back past a (record { waits = t.waits; unanswered = t.unanswered; complete = e })) in cc) in
        the_waiter (is_asked_of past) (is_asked_of after) k a past.drains lawful.drained.once (λ j differs. ap (λ (t : Transfer). is_asked t.task) (same j differs)) (grind (arith, told))
        t.complete

judged_owes : (v : Verdict) (past : Past) (frame : Frame) → verdict past frame ≡ v → IsLawful past → NothingIsDue past → IsLawful (judged v frame past)
    → Owing (judged v frame past)
judged_owes Accepted past frame e lawful n now = accepted_owes _ past frame refl e lawful n now
judged_owes Feeding past frame e lawful n now = fed_owes (command_with past (initiator_task_tag frame.header)) past frame lawful n now
judged_owes (Rejected reason) past frame e lawful n now = (None, None, owes_still (none_answering _ past) now (owes_nothing lawful n))
judged_owes Ignored past frame e lawful n now = (None, None, owes_nothing lawful n)
judged_owes Dropped past frame e lawful n now = (None, None, owes_nothing lawful n)
judged_owes Violating past frame e lawful n now = (None, None, owes_nothing lawful n)

judge_owes : (frame : Frame) (work : Work) → IsLawful work.past → NothingIsDue work.past → Owing (judge frame work).past
unfolding judge
judge_owes frame work lawful n = judged_owes _ work.past frame refl lawful n (judge_lawful frame work lawful)

-- ---- a session that goes on

taken_step : (fails : Step → Bool) (step : Step) (does : Work → Work) (work : Work) → (take_step fails step does work).goes_on ≡ true
    → take_step fails step does work ≡ does (reaches step work)
unfolding take_step
taken_step fails step does work on = grind arith

went_on : (work next : Work) → (work.goes_on ≡ false → next ≡ work) → next.goes_on ≡ true → work.goes_on ≡ true
went_on work next stopped on = grind arith

-- the first of a line took its step, where there is one
first_took : (P : Past → Type 0) (fails : Step → Bool) (step : Step) (line : Past → List ℕ) (does : ℕ → Work → Work) (work : Work)
    → (first_steps fails step does (line work.past) work).goes_on ≡ true → (line work.past ≡ [] → P work.past)
    → ((k : ℕ) (rest : List ℕ) → line work.past ≡ k ∷ rest → P (does k (reaches step work)).past)
    → P (first_steps fails step does (line work.past) work).past
first_took P fails step line does work on none some = grind (arith, taken_step)

-- a line in which each step leaves less comes to its end
module _ (line : Past → List ℕ) (does : ℕ → Work → Work) (size : Past → ℕ)
    (keeps : KeptBy (λ w. IsLawful w.past) (λ step on w ok. ok) line does)
    (fewer : (work : Work) (k : ℕ) (rest : List ℕ) → line work.past ≡ k ∷ rest → IsLawful work.past → size (does k work).past < size work.past) where
  ends : (fails : Step → Bool) (step : ℕ → Step) (turn most : ℕ) (work : Work) → IsLawful work.past → size work.past ≤ most
      → (one_by_one fails step line does turn most work).goes_on ≡ true → line (one_by_one fails step line does turn most work).past ≡ []
  ends fails step turn zero work lawful le on = by_line (line work.past) refl
    where
      by_line : (l : List ℕ) → line work.past ≡ l → line work.past ≡ []
      by_line [] e = e
      by_line (k ∷ rest) e = absurd (let less = fewer work k rest e lawful in omega arith)
  ends fails step turn (suc most) work lawful le on =
      let next = first_steps fails (step turn) does (line work.past) work in
      let here = went_on next (one_by_one fails step line does (suc turn) most next) (stopped fails step line does (suc turn) most next) on in
      by_line (λ w ok few going. ends fails step (suc turn) most w ok few going) (line work.past) refl here on
    where
      by_line : ((w : Work) → IsLawful w.past → size w.past ≤ most → (one_by_one fails step line does (suc turn) most w).goes_on ≡ true
          → line (one_by_one fails step line does (suc turn) most w).past ≡ [])
          → (l : List ℕ) → line work.past ≡ l → (first_steps fails (step turn) does l work).goes_on ≡ true
          → (one_by_one fails step line does (suc turn) most (first_steps fails (step turn) does l work)).goes_on ≡ true
          → line (one_by_one fails step line does (suc turn) most (first_steps fails (step turn) does l work)).past ≡ []
      by_line further [] e here on =
          ap (λ (w : Work). line w.past) (idle fails step line does (suc turn) most work e) ∙ e
      by_line further (k ∷ rest) e here on =
          let took = taken_step fails (step turn) (does k) work here in
          subst (λ (w : Work). line (one_by_one fails step line does (suc turn) most w).past ≡ []) (sym took)
          (further (does k (reaches (step turn) work)) (keeps (reaches (step turn) work) k rest e lawful)
          (let less = fewer (reaches (step turn) work) k rest e lawful in omega arith)
          (ap (λ (w : Work). (one_by_one fails step line does (suc turn) most w).goes_on) (sym took) ∙ on))

-- ---- a frame

-- and no request has to act
record Rests (command function : Option ℕ) (past : Past) : Type 0 where
  owes : Owes command function past
  acts : due past ≡ []

ask_rests : {c f : Option ℕ} (work : Work) (k : ℕ) (rest : List ℕ) → asking work.past ≡ k ∷ rest → Rests c f work.past → Rests None f (ask k work).past
unfolding ask due
ask_rests {c} {f} work k rest is r =
    let past = work.past in
    let there : is_in k (asking past) ≡ true = ap (is_in k) is ∙ in_at (k ∷ rest) 0 0 (omega arith) in
    let m = none_asked k past r.owes.lawful there in
    let o = owes_still m (ask_lawful work k rest is r.owes.lawful) r.owes in
    let gone : is_in k (asking (asked k past)) ≡ true → ⊥ = λ h.
    (let no = sym (asks_in (asked k past) k h).1 ∙ ask_gone past k in cc) in
    let asks = owes_less past (asked k past) asking c k rest is r.owes.asks m.asks gone in
    record { owes = record { lawful = o.lawful; asks = asks; answers = o.answers; discovery = o.discovery }; acts = r.acts }

tell_rests : {c f : Option ℕ} (work : Work) (k : ℕ) (rest : List ℕ) → drained_functions work.past ≡ k ∷ rest → Rests c f work.past
    → Rests c None (tell k work).past
unfolding tell due
tell_rests {c} {f} work k rest is r =
    let past = work.past in
    let after = told k past in
    let more = told_answers past k in
    let a = none_answering more after in
    let m = then_no_more (none_told k past) a in
    let o = owes_still m (tell_lawful work k rest is r.owes.lawful) r.owes in
    let answers = owes_less past (answering more after) drained_functions f k rest is r.owes.answers m.answers (λ h. told_gone k past (a.answers k h)) in
    record { owes = record { lawful = o.lawful; asks = o.asks; answers = answers; discovery = o.discovery }; acts = r.acts }

served_due : (fails : Step → Bool) (place : ℕ) (frame : Frame) (work : Work) → IsLawful work.past → NothingIsDue work.past
    → (served fails place frame work).goes_on ≡ true → NothingIsDue (served fails place frame work).past
unfolding served asked_in taken_in act_all ask_due tell_due
served_due fails place frame work lawful n on =
    let judging = take_step fails (Judging place) (judge frame) work in
    let fuel = waiting_in judging.past in
    let acts = one_by_one fails (Taking place) due act 0 fuel judging in
    let asks = first_steps fails (Asking place) ask (asking acts.past) acts in
    let tells = first_steps fails (Answering place) tell (drained_functions asks.past) asks in
    let on_asks = went_on asks tells (first_stopped fails (Answering place) tell (drained_functions asks.past) asks) on in
    let on_acts = went_on acts asks (first_stopped fails (Asking place) ask (asking acts.past) acts) on_asks in
    let on_judging = went_on judging acts (stopped fails (Taking place) due act 0 fuel judging) on_acts in
    let o = judge_owes frame (reaches (Judging place) work) lawful n in
    let c = o.0 in
    let f = o.1 in
    let first : Owes c f judging.past = subst (λ (w : Work). Owes c f w.past) (sym (taken_step fails (Judging place) (judge frame) work on_judging)) o.2 in
    let second : Rests c f acts.past = record {
      owes = all_keep (λ w. Owes c f w.past) (λ step on w ok. ok) fails (Taking place) due act 0 fuel judging
          (λ w k rest is ok. owes_still (none_act w k rest is ok.lawful) (act_lawful w k rest is ok.lawful) ok) first;
      acts = ends due act (λ p. waiting (tasks_of p)) act_lawful act_fewer fails (Taking place) 0 fuel judging first.lawful (waiting_fits judging.past) on_acts;
    } in
    let third : Rests None f asks.past = first_took (Rests None f) fails (Asking place) asking ask acts on_asks
    (λ none. (let o = second.owes in let asks = only_none (asking acts.past) none in
    record { owes = record { lawful = o.lawful; asks = asks; answers = o.answers; discovery = o.discovery }; acts = second.acts }))
    (λ k rest is. ask_rests (reaches (Asking place) acts) k rest is second) in
    let fourth : Rests None None tells.past = first_took (Rests None None) fails (Answering place) drained_functions tell asks on
    (λ none. (let o = third.owes in let answers = only_none (drained_functions asks.past) none in
    record { owes = record { lawful = o.lawful; asks = o.asks; answers = answers; discovery = o.discovery }; acts = third.acts }))
    (λ k rest is. tell_rests (reaches (Answering place) asks) k rest is third) in
    nothing_is_due fourth.acts fourth.owes

-- ---- the commands that were taken

queue_finish : (work : Work) (k : ℕ) → queue (finish k work).past ≡ queue (finished k work.past)
unfolding finish queue
queue_finish work k = refl

finish_fewer : (work : Work) (k : ℕ) (rest : List ℕ) → ready work.past ≡ k ∷ rest → IsLawful work.past
    → length (queue (finish k work).past) < length (queue work.past)
finish_fewer work k rest is lawful = grind (arith, ready_queue, queue_finish, done_in_order)

finish_rests : {c f : Option ℕ} (work : Work) (k : ℕ) (rest : List ℕ) → ready work.past ≡ k ∷ rest → Rests c f work.past → Rests c f (finish k work).past
unfolding finish due
finish_rests work k rest is r = record { owes = owes_still (none_finish work k) (finish_lawful work k rest is r.owes.lawful) r.owes; acts = r.acts }

settled_due : (fails : Step → Bool) (place : ℕ) (work : Work) → IsLawful work.past → NothingIsDue work.past → NothingIsDue (settled fails place work).past
settled_due fails place work lawful n =
    let r = settled_keeps (λ w. Rests None None w.past) (λ step on w ok. ok) fails place work finish_rests
    (record { owes = owes_nothing lawful n; acts = n.acts }) in
    nothing_is_due r.acts r.owes

settled_done : (fails : Step → Bool) (place : ℕ) (work : Work) → IsLawful work.past → (settled fails place work).goes_on ≡ true
    → ready (settled fails place work).past ≡ []
unfolding settled
settled_done fails place work lawful on =
    ends ready finish (λ p. length (queue p)) finish_lawful finish_fewer fails (Doing place) 0 (length (queue work.past)) work lawful (omega arith) on

-- ---- commands are removed, and a discovery session

removed_due : (names : List ℕ) (past : Past) → NothingIsDue past → NothingIsDue (removing names past)
unfolding due
removed_due names past n =
    let m = none_removing names past in
    record {
      acts = n.acts;
      asks = none_in _ (λ k h. only_none (asking past) n.asks k (m.asks k h));
      answers = none_in _ (λ k h. only_none (drained_functions past) n.answers k (m.answers k h));
      discovery = λ e. none_in _ (λ k h. only_none (unfinished past) (n.discovery e) k (m.commands k h));
    }

discovery_done : (past : Past) → IsLawful past → NothingIsDue past → past.params.target ≡ None → ready past ≡ []
unfolding ready
discovery_done past lawful n e =
    rw (none_in (queue past) (λ k h. only_none (unfinished past) (n.discovery e) k (queue_unfinished past k lawful.below h))) refl

begun_due : (params : SessionParams) → NothingIsDue (begun params)
unfolding due left taken unfinished asking drained_functions
begun_due params = record { acts = refl; asks = refl; answers = refl; discovery = λ e. refl }

pub nothing_stays_due : NothingStaysDue
nothing_stays_due = record {
  begun = begun_due;
  served = λ fails place frame work fits. served_due fails place frame work;
  settled = settled_due;
  done = settled_done;
  removed = removed_due;
  discovery = discovery_done;
}
