-- Every past that the steps can reach is lawful, and what a lawful past says of the order.
use Rattle.std.proofs.Common.{◌≡◌, ℕ, ◌^◌, ◌<◌, ◌≤◌, ◌&&◌, List, [], ◌∷◌, ◌++◌, Bool, true, false, not, refl, sym, ap, subst, ◌∙◌, arith, append_assoc}
use Rattle.std.specs.Prelude.{filter}
use Rattle.std.proofs.lemmas.Bool.{and_parts}
use Rattle.std.proofs.lemmas.List.Elements.{filter-append}
use Rattle.iscsi_pdu.specs.Header.{is_immediate, cmd_sn}
use Rattle.iscsi_pdu.specs.Frames.{Frame}
use Rattle.scsi_unit.specs.Units.{numbers_of}
use Rattle.iscsi_requests.specs.declared.verdict.Verdict.{Verdict}
use Rattle.iscsi_requests.specs.declared.verdict.Verdict.TheVariants.{Ignored, Dropped, Rejected, Violating, Accepted, Feeding}
use Rattle.iscsi_requests.specs.Requests.{Past, pending, frame_of, is_function, removing, is_in, left, is_command, commands, others, taken, numbers, due, queue, moved, finished, accepted}
use Rattle.iscsi_requests.specs.Judging.{verdict, judged}
use Rattle.iscsi_pdu.specs.TaskManagement.{ref_cmd_sn}
use Rattle.iscsi_requests.specs.Functions.{reached, awaited, plugs, lacks, drained_functions, told, told_answers}
use Rattle.iscsi_session.specs.Acts.{reach_of, act_answers, ended, behind}
use Rattle.iscsi_requests.specs.State.{IsLawful}
use Rattle.iscsi_session.proofs.Telling.{lawful_told}
use Rattle.iscsi_session.proofs.Waits.{lawful_waits}
use Rattle.iscsi_session.specs.Steps.{Step, Work, judge, act, ask, finish, tell, served, ready, settled}
use Rattle.iscsi_requests.specs.Transfers.{asking}
use Rattle.iscsi_session.proofs.Asking.{lawful_asked, asking_came, ready_queue}
use Rattle.iscsi_session.specs.Laws.{TakenOnce, FinishedAsTaken, DueInOrder, DoneInOrder, StepsAreLawful}
use Rattle.iscsi_session.proofs.Steps.{served_keeps, settled_keeps}
use Rattle.iscsi_requests.proofs.Left.{left_append, in_filter, in_at}
use Rattle.iscsi_session.proofs.Taken.{distinct_taken}
use Rattle.iscsi_session.proofs.Accepted.{begun_lawful, lawful_now, lawful_with}
use Rattle.iscsi_session.proofs.Moved.{due_after, due_other, stays_other, not_pending, lawful_command, lawful_other, lawful_finished, queue_after}
use Rattle.iscsi_session.proofs.Parts.{fresh_is, accepted_now, accepted_with}
use Rattle.iscsi_session.proofs.Verdicts.{IsFree, accepted_free}
use Rattle.iscsi_session.proofs.Feeding.{free_by_past, lawful_fed}
use Rattle.iscsi_session.proofs.Runs.{lawful_answering}
use Rattle.iscsi_session.proofs.Kept.{function_no_command}
use Rattle.iscsi_session.proofs.Over.{over_other}
use Rattle.iscsi_session.proofs.Answered.{moved_other}
use Rattle.iscsi_session.proofs.Removing.{lawful_removing, over_more as removing_over}
use Rattle.iscsi_session.proofs.Ending.{new_ahead, plugged_lawful, reached_moved, ended_now, plugs_unasked, plugs_new}

-- ---- the order

pub taken_once : TakenOnce
taken_once = distinct_taken

in_order : (past : Past) (q : ℕ → Bool) → IsLawful past → filter q (taken past.came) ≡ filter q past.acted ++ filter q (due past)
in_order past q lawful = ap (filter q) lawful.in_order ∙ filter-append q past.acted (due past)

pub finished_as_taken : FinishedAsTaken
finished_as_taken past lawful = record {
  later_commands = queue past ++ left past.removed (commands past.came (due past));
  commands = grind (arith, in_order, left_append, append_assoc);
  later_others = others past.came (due past);
  others = in_order past (λ k. not (is_command (frame_of past.came k))) lawful ∙ ap (λ (l : List ℕ). l ++ others past.came (due past)) (sym lawful.at_once);
}

due_by : (b : Bool) (past : Past) (k : ℕ) (rest : List ℕ) → is_command (frame_of past.came k) ≡ b → IsLawful past → due past ≡ k ∷ rest
    → due (moved k past) ≡ rest
due_by true past k rest e lawful is = rw e (due_after past lawful k rest is)
due_by false past k rest e lawful is = rw e (due_other past lawful k rest is)

pub due_in_order : DueInOrder
due_in_order past k rest lawful is = due_by _ past k rest refl lawful is

pub done_in_order : DoneInOrder
done_in_order past k rest lawful is = queue_after past lawful k rest is

-- ---- each step

pub moved_by : (b : Bool) (past : Past) (k : ℕ) (rest : List ℕ) → is_command (frame_of past.came k) ≡ b → IsLawful past → due past ≡ k ∷ rest
    → IsLawful (moved k past)
moved_by true past k rest e lawful is = rw e (lawful_command past lawful k rest is e)
moved_by false past k rest e lawful is = rw e (lawful_other past lawful k rest is e)

pub accepted_by : (b : Bool) (past : Past) (frame : Frame) → is_immediate frame.header ≡ b → IsFree past frame
    → IsLawful past → IsLawful (accepted frame past)
accepted_by true past frame h free lawful = subst IsLawful (accepted_now past frame h) (lawful_now past lawful frame h (free_by_past past frame free.tag))
accepted_by false past frame h free lawful =
    subst IsLawful (accepted_with past frame h)
    (lawful_with past lawful _ _ frame h
    (new_ahead (cmd_sn frame.header) past past refl refl lawful lawful (omega arith) (sym (fresh_is past frame h) ∙ free.fresh))
    (free_by_past past frame free.tag))

judged_by : (v : Verdict) (past : Past) (frame : Frame) → verdict past frame ≡ v → IsLawful past → IsLawful (judged v frame past)
judged_by Accepted past frame e lawful = accepted_by _ past frame refl (accepted_free past frame e) lawful
judged_by Feeding past frame e lawful = lawful_fed past frame lawful
judged_by (Rejected reason) past frame e lawful = lawful_answering _ past lawful
judged_by Ignored past frame e lawful = lawful
judged_by Dropped past frame e lawful = lawful
judged_by Violating past frame e lawful = lawful

pub judge_lawful : (frame : Frame) (work : Work) → IsLawful work.past → IsLawful (judge frame work).past
unfolding judge
judge_lawful frame work lawful = judged_by _ work.past frame refl lawful

-- what a function removes
pub ended_lawful : (luns : List ℕ) (b : Bool) (past : Past) (k : ℕ) (rest : List ℕ) → is_function (frame_of past.came k) ≡ b → IsLawful past
    → due past ≡ k ∷ rest
    → IsLawful (moved k past) → IsLawful (ended luns k past)
ended_lawful luns false past k rest f lawful is moves = rw f moves
ended_lawful luns true past k rest f lawful is moves = by_case (awaited past (reach_of luns k past)) refl
  where
    by_case : (names : List ℕ) → awaited past (reach_of luns k past) ≡ names → IsLawful (ended luns k past)
    by_case [] e =
        subst IsLawful (ended_now luns past k f e) (subst (λ (l : List ℕ). IsLawful (removing l (moved k past))) (reached_moved luns past k f)
        (lawful_removing (reach_of luns k past) (moved k past) moves))
    by_case (first ∷ others) e = lawful_waits luns past lawful k rest is f first others e

-- and the number that it plugs
pub more_over : (luns : List ℕ) (past : Past) (k : ℕ) (rest : List ℕ) → is_function (frame_of past.came k) ≡ true → awaited past (reach_of luns k past) ≡ []
    → IsLawful past → due past ≡ k ∷ rest
    → IsLawful (moved k past) → ((numbers past).finished ≤ (numbers (ended luns k past)).finished)
    × ((ended luns k past).came ≡ past.came) × ((ended luns k past).params ≡ past.params)
more_over luns past k rest f none lawful is moves =
    let reach = reach_of luns k past in
    let no_command = function_no_command (frame_of past.came k) f in
    let same : record past { acted = past.acted ++ k ∷ []; finished = past.finished ++ k ∷ [] } ≡ moved k past = moved_other k past no_command in
    let removes : removing (reached reach (moved k past)) (moved k past) ≡ ended luns k past = grind (arith, reached_moved, ended_now) in
    let a = over_other past k (stays_other past lawful k rest is no_command) (not_pending past lawful k rest is) in
    let b = removing_over reach (moved k past) moves in
    let c = ap (λ (p : Past). (numbers p).finished) same in
    let d = ap (λ (p : Past). (numbers p).finished) removes in
    grind arith

behind_lawful : (luns : List ℕ) (b : Bool) (past : Past) (k : ℕ) (rest : List ℕ) → (is_function (frame_of past.came k) && plugs past (reach_of luns k past)) ≡ b
    → due past ≡ k ∷ rest → IsLawful past → IsLawful (ended luns k past) → IsLawful (behind luns k past (ended luns k past))
behind_lawful luns false past k rest e is lawful ends = rw e ends
behind_lawful luns true past k rest e is lawful ends =
    let both = and_parts (is_function (frame_of past.came k)) (plugs past (reach_of luns k past)) e in
    let unasked = plugs_unasked past (reach_of luns k past) both.1 in
    let m = more_over luns past k rest both.0 unasked lawful is (moved_by _ past k rest refl lawful is) in
    rw e (plugged_lawful (ref_cmd_sn (frame_of past.came k).header) past (ended luns k past) m.1 m.2 lawful ends m.0
    (plugs_new past (reach_of luns k past) both.1))

pub act_lawful : (work : Work) (k : ℕ) (rest : List ℕ) → due work.past ≡ k ∷ rest → IsLawful work.past → IsLawful (act k work).past
unfolding act
act_lawful work k rest is lawful =
    let luns = numbers_of work.units.states in
    let moves = moved_by _ work.past k rest refl lawful is in
    lawful_answering (act_answers luns k work.past) (behind luns k work.past (ended luns k work.past))
    (behind_lawful luns _ work.past k rest refl is lawful (ended_lawful luns _ work.past k rest refl lawful is moves))

pub finish_lawful : (work : Work) (k : ℕ) (rest : List ℕ) → ready work.past ≡ k ∷ rest → IsLawful work.past → IsLawful (finish k work).past
unfolding finish
finish_lawful work k rest is lawful = lawful_answering _ (finished k work.past) (lawful_finished work.past lawful k rest (ready_queue work.past k rest is))

-- ---- runs

pub ask_lawful : (work : Work) (k : ℕ) (rest : List ℕ) → asking work.past ≡ k ∷ rest → IsLawful work.past → IsLawful (ask k work).past
unfolding ask
ask_lawful work k rest is lawful = lawful_asked work.past k (asking_came work.past k rest is) lawful

pub first_waits : (past : Past) (k : ℕ) (rest : List ℕ) → drained_functions past ≡ k ∷ rest → is_in k (pending past) ≡ true
unfolding drained_functions
first_waits past k rest is =
    in_filter k (λ a. not (lacks past a)) (pending past) (ap (λ (l : List ℕ). is_in k l) is ∙ in_at (k ∷ rest) 0 0 (omega arith))

pub tell_lawful : (work : Work) (k : ℕ) (rest : List ℕ) → drained_functions work.past ≡ k ∷ rest → IsLawful work.past → IsLawful (tell k work).past
unfolding tell
tell_lawful work k rest is lawful =
    lawful_answering (told_answers work.past k) (told k work.past) (lawful_told work.past lawful k (first_waits work.past k rest is))

served_lawful : (fails : Step → Bool) (place : ℕ) (frame : Frame) (work : Work) → cmd_sn frame.header < 2 ^ 32 → IsLawful work.past
    → IsLawful (served fails place frame work).past
served_lawful fails place frame work fits lawful =
    served_keeps (λ w. IsLawful w.past) (λ step on w ok. ok) fails place frame work (λ w ok. judge_lawful frame w ok) act_lawful ask_lawful tell_lawful
    lawful

settled_lawful : (fails : Step → Bool) (place : ℕ) (work : Work) → IsLawful work.past → IsLawful (settled fails place work).past
settled_lawful fails place work lawful = settled_keeps (λ w. IsLawful w.past) (λ step on w ok. ok) fails place work finish_lawful lawful

pub steps_are_lawful : StepsAreLawful
steps_are_lawful = record { begun = begun_lawful; served = served_lawful; settled = settled_lawful }
