-- No SCSI Command and Task Management Function Request that are not finished have one tag.
use Rattle.std.proofs.Common.{◌≡◌, ◌≢◌, ℕ, List, [], ◌∷◌, ◌++◌, length, map, Bool, true, false, cond, ◌||◌, ◌&&◌, Option, refl, sym, ap, subst, ◌∙◌, arith, append-nil, inl, inr}
use Rattle.std.proofs.lemmas.Bool.{cases_eq, ne_eqb, or_parts}
use Rattle.iscsi_pdu.specs.Header.{initiator_task_tag}
use Rattle.iscsi_pdu.specs.Frames.{Frame}
use Rattle.iscsi_pdu.specs.declared.answer.Answer.{Answer}
use Rattle.iscsi_login.specs.declared.session_params.SessionParams.{SessionParams}
use Rattle.scsi_unit.specs.Units.{numbers_of}
use Rattle.iscsi_requests.specs.declared.verdict.Verdict.{Verdict}
use Rattle.iscsi_requests.specs.declared.verdict.Verdict.TheVariants.{Ignored, Dropped, Rejected, Violating, Accepted, Feeding}
use Rattle.iscsi_requests.specs.Requests.{Request, Past, begun, frame_of, is_in, is_command, is_function, left, pending, due, unfinished, functions, moved, finished, removing, answering, draining}
use Rattle.iscsi_requests.specs.Transfers.{tag_of, asked, fed, command_with}
use Rattle.iscsi_requests.specs.Functions.{reached, awaited, plug, plugs, drained_functions, told}
use Rattle.iscsi_requests.specs.Judging.{is_live, verdict, judged}
use Rattle.iscsi_requests.specs.State.{IsLawful}
use Rattle.iscsi_session.specs.Acts.{reach_of, act_answers, ended, behind}
use Rattle.iscsi_session.specs.Steps.{Step, Work, judge, act, ask, tell, finish, served, ready, settled}
use Rattle.iscsi_session.specs.Laws.{TagsDiffer, LiveTagsDiffer}
use Rattle.iscsi_requests.proofs.Left.{in_at, in_left, is_in_append, below_of, left_more}
use Rattle.iscsi_requests.proofs.Places.{missing, or_known, in_map}
use Rattle.iscsi_session.proofs.Taken.{request_before, request_new}
use Rattle.iscsi_session.proofs.Kept.{joined, Below, command_no_function, function_no_command, command_not_pending, functions_below, function_in, functions_joined, functions_without, unfinished_came, unfinished_command, unfinished_joined, unfinished_without}
use Rattle.iscsi_session.proofs.Accepted.{finished_below, removed_below, with}
use Rattle.iscsi_session.proofs.Moved.{not_pending, is_done}
use Rattle.iscsi_session.proofs.Asking.{ready_queue}
use Rattle.iscsi_session.proofs.Verdicts.{accepted_free}
use Rattle.iscsi_session.proofs.Feeding.{none_by}
use Rattle.iscsi_session.proofs.Ending.{ended_function, ended_now}
use Rattle.iscsi_session.proofs.Waits.{functions_after, unfinished_after}
use Rattle.iscsi_session.proofs.Telling.{functions_told}
use Rattle.iscsi_session.proofs.Steps.{served_keeps, settled_keeps}
use Rattle.iscsi_session.proofs.Answered.{moved_other}
use Rattle.iscsi_session.proofs.Lawful.{moved_by, ended_lawful, first_waits, judge_lawful, act_lawful, ask_lawful, tell_lawful, finish_lawful}

-- ---- a step in which no request comes

-- it leaves no more that is not finished
record LeavesNoMore (past after : Past) : Type 0 where
  came : after.came ≡ past.came
  commands : (k : ℕ) → is_in k (unfinished after) ≡ true → is_in k (unfinished past) ≡ true
  functions : (k : ℕ) → is_in k (functions after) ≡ true → is_in k (functions past) ≡ true

then_no_more : {past middle after : Past} → LeavesNoMore past middle → LeavesNoMore middle after → LeavesNoMore past after
then_no_more a b = grind arith

differ_still : {past after : Past} → LeavesNoMore past after → TagsDiffer past → TagsDiffer after
differ_still l differ k j c f =
    subst (λ (came : List Request). tag_of came k ≢ tag_of came j) (sym l.came) (differ k j (l.commands k c) (l.functions j f))

none_answering : (more : List Answer) (past : Past) → LeavesNoMore past (answering more past)
unfolding unfinished functions
none_answering more past = record { came = refl; commands = λ k h. h; functions = λ k h. h }

none_asked : (k : ℕ) (past : Past) → LeavesNoMore past (asked k past)
unfolding unfinished functions
none_asked k past = record { came = refl; commands = λ a h. h; functions = λ a h. h }

none_fed : (c : Option ℕ) (frame : Frame) (past : Past) → LeavesNoMore past (fed c frame past)
unfolding unfinished functions
none_fed c frame past = grind arith

none_acted : (names : List ℕ) (past : Past) → LeavesNoMore past (record past { acted = names })
unfolding unfinished functions
none_acted names past = record { came = refl; commands = λ a h. h; functions = λ a h. h }

none_removing : (names : List ℕ) (past : Past) → LeavesNoMore past (removing names past)
unfolding unfinished functions
none_removing names past = record {
  came = refl;
  commands = λ a h. in_left a names (unfinished past) (ap (is_in a) (sym (left_more past.removed names _)) ∙ h);
  functions = λ a h. in_left a names (functions past) (ap (is_in a) (sym (left_more past.removed names _)) ∙ h);
}

none_finished : (k : ℕ) (past : Past) → is_in k (pending past) ≡ false → LeavesNoMore past (finished k past)
none_finished k past free = record {
  came = refl;
  commands = λ a h. in_left a (k ∷ []) (unfinished past) (ap (is_in a) (sym (unfinished_without past k)) ∙ h);
  functions = λ a h. in_left a (k ∷ []) (functions past) (ap (is_in a) (sym (functions_without past k free)) ∙ h);
}

none_told : (k : ℕ) (past : Past) → IsLawful past → is_in k (pending past) ≡ true → LeavesNoMore past (told k past)
unfolding unfinished
none_told k past lawful waits = record {
  came = refl;
  commands = λ a h. h;
  functions = λ a h. in_left a (k ∷ []) (functions past) (ap (is_in a) (sym (functions_told past lawful k waits)) ∙ h);
}

-- ---- a request acts

none_moved : (b : Bool) (k : ℕ) (past : Past) → is_command (frame_of past.came k) ≡ b → is_in k (pending past) ≡ false
    → LeavesNoMore past (moved k past)
none_moved true k past e free = rw e (none_acted (past.acted ++ k ∷ []) past)
none_moved false k past e free =
    let acted = past.acted ++ k ∷ [] in
    rw e (then_no_more (none_acted acted past) (none_finished k (record past { acted = acted }) free))

-- a function that waits for data is not finished
none_waiting : (luns : List ℕ) (past : Past) (k : ℕ) (rest : List ℕ) → IsLawful past → due past ≡ k ∷ rest
    → is_function (frame_of past.came k) ≡ true → (first : ℕ) (others : List ℕ)
    → awaited past (reach_of luns k past) ≡ first ∷ others → LeavesNoMore past (ended luns k past)
none_waiting luns past k rest lawful is f first others e =
    let names = first ∷ others in
    let gone = reached (reach_of luns k past) past in
    let acted : Past = record past { acted = past.acted ++ k ∷ []; finished = past.finished ++ k ∷ [] } in
    let waiting : LeavesNoMore past (draining k names acted) = record {
      came = refl;
      commands = λ a h. ap (is_in a) (sym (unfinished_after past lawful k rest is f first others)) ∙ h;
      functions = λ a h. ap (is_in a) (sym (functions_after past lawful k rest is f first others)) ∙ h;
    } in
    subst (LeavesNoMore past)
    (ap (λ (p : Past). removing gone (draining k names p)) (moved_other k past (function_no_command (frame_of past.came k) f))
    ∙ ap (λ (l : List ℕ). draining k l (removing gone (moved k past))) (sym e) ∙ sym (ended_function luns past k f))
    (then_no_more waiting (none_removing gone (draining k names acted)))

none_ended : (luns : List ℕ) (b : Bool) (past : Past) (k : ℕ) (rest : List ℕ) → is_function (frame_of past.came k) ≡ b
    → IsLawful past → due past ≡ k ∷ rest → LeavesNoMore past (ended luns k past)
none_ended luns false past k rest f lawful is = rw f (none_moved _ k past refl (not_pending past lawful k rest is))
none_ended luns true past k rest f lawful is = by_case (awaited past (reach_of luns k past)) refl
  where
    by_case : (names : List ℕ) → awaited past (reach_of luns k past) ≡ names → LeavesNoMore past (ended luns k past)
    by_case [] e =
        subst (LeavesNoMore past) (ended_now luns past k f e)
        (then_no_more (none_moved _ k past refl (not_pending past lawful k rest is)) (none_removing _ (moved k past)))
    by_case (first ∷ others) e = none_waiting luns past k rest lawful is f first others e

-- ---- a request comes

-- no request that is not finished has this tag
record IsNew (past : Past) (tag : ℕ) : Type 0 where
  commands : is_in tag (map (tag_of past.came) (unfinished past)) ≡ false
  functions : is_in tag (map (tag_of past.came) (functions past)) ≡ false

new_by : (past : Past) (tag : ℕ) → is_live past tag ≡ false → IsNew past tag
new_by past tag free = grind (arith, missing, or_parts, none_by, or_known)

-- one that is not the last
not_new : (c : Bool) (n k : ℕ) (names : List ℕ) → k ≢ n → is_in k (names ++ cond c (n ∷ []) []) ≡ true
    → is_in k names ≡ true
not_new true n k names apart h = grind (arith, is_in_append, ne_eqb)
not_new false n k names apart h = grind (arith, append-nil)

module _ (past : Past) (x : Request) (lawful : IsLawful past) where
  frame_at : (k : ℕ) → k ≡ length past.came → frame_of (past.came ++ x ∷ []) k ≡ x.frame
  frame_at k at = ap (frame_of (past.came ++ x ∷ [])) at ∙ ap (λ (r : Request). r.frame) (request_new past.came x)

  tag_at : (k : ℕ) → k ≡ length past.came → tag_of (past.came ++ x ∷ []) k ≡ initiator_task_tag x.frame.header
  tag_at k at = ap (λ (frame : Frame). initiator_task_tag frame.header) (frame_at k at)

  new_command : (k : ℕ) → k ≡ length past.came → is_in k (unfinished (joined x past)) ≡ true → is_command x.frame ≡ true
  new_command k at h = ap is_command (sym (frame_at k at)) ∙ unfinished_command (joined x past) k h

  new_function : (k : ℕ) → k ≡ length past.came → is_in k (functions (joined x past)) ≡ true → is_function x.frame ≡ true
  new_function k at h = ap is_function (sym (frame_at k at)) ∙ function_in (joined x past) k h

  -- a new tag is not that of one of these
  new_apart : (k : ℕ) (names : List ℕ) → is_in (initiator_task_tag x.frame.header) (map (tag_of past.came) names) ≡ false
      → is_in k names ≡ true → tag_of past.came k ≢ initiator_task_tag x.frame.header
  new_apart k names none there e =
      let tags = map (tag_of past.came) names in
      let no = sym (in_map (tag_of past.came) k names there) ∙ ap (λ (t : ℕ). is_in t tags) e ∙ none in cc

  -- one that came before has the tag that it had
  old_tag : (k : ℕ) (names : List ℕ) → Below past names → is_in k names ≡ true
      → tag_of (past.came ++ x ∷ []) k ≡ tag_of past.came k
  old_tag k names below there =
      let lt = below_of (length past.came) k names below there in
      ap (λ (r : Request). initiator_task_tag r.frame.header) (request_before past.came x k lt)

  abbrev Old : ℕ → List ℕ → Type 0
  Old k names = (is_in k names ≡ true) × (tag_of (past.came ++ x ∷ []) k ≡ tag_of past.came k)

  old_in : (c : Bool) (k : ℕ) (names : List ℕ) → k ≢ length past.came → Below past names
      → is_in k (names ++ cond c (length past.came ∷ []) []) ≡ true → Old k names
  old_in c k names apart below h =
      let there = not_new c (length past.came) k names apart h in (there, old_tag k names below there)

  old_command : (k : ℕ) → k ≢ length past.came → is_in k (unfinished (joined x past)) ≡ true → Old k (unfinished past)
  old_command k apart h =
      old_in _ k (unfinished past) apart (λ i d lt. unfinished_came past _ (in_at (unfinished past) i d lt))
      (ap (is_in k) (sym (unfinished_joined _ past x refl (finished_below past lawful) (removed_below past lawful))) ∙ h)

  old_function : (k : ℕ) → k ≢ length past.came → is_in k (functions (joined x past)) ≡ true → Old k (functions past)
  old_function k apart h =
      old_in _ k (functions past) apart (functions_below past)
      (ap (is_in k) (sym (functions_joined _ past x refl (finished_below past lawful) (removed_below past lawful))) ∙ h)

  differ_joined : ((is_command x.frame || is_function x.frame) ≡ true → IsNew past (initiator_task_tag x.frame.header))
      → TagsDiffer past → TagsDiffer (joined x past)
  differ_joined new differ k j c f = elim (cases_eq k (length past.came)) [
    | inl a ↦ elim (cases_eq j (length past.came)) [
      | inl b ↦ λ e. (let no = sym (new_function j b f) ∙ command_no_function x.frame (new_command k a c) in cc)
      | inr b ↦
          let old = old_function j b f in
          let none = (new (rw (new_command k a c) refl)).functions in
          λ e. new_apart j (functions past) none old.0 (sym old.1 ∙ sym e ∙ tag_at k a)
    ]
    | inr a ↦ elim (cases_eq j (length past.came)) [
      | inl b ↦
          let old = old_command k a c in
          let none = (new (or_known (is_command x.frame) _ (new_function j b f))).commands in
          λ e. new_apart k (unfinished past) none old.0 (sym old.1 ∙ e ∙ tag_at j b)
      | inr b ↦
          let first = old_command k a c in
          let second = old_function j b f in
          λ e. differ k j first.0 second.0 (sym first.1 ∙ e ∙ second.1)
    ]
  ]

-- ---- each step

judged_by : (v : Verdict) (past : Past) (frame : Frame) → verdict past frame ≡ v → IsLawful past → TagsDiffer past
    → TagsDiffer (judged v frame past)
judged_by Accepted past frame e lawful differ =
    differ_joined past _ lawful (λ h. new_by past _ ((accepted_free past frame e).tag h)) differ
judged_by Feeding past frame e lawful differ =
    differ_still (none_fed (command_with past (initiator_task_tag frame.header)) frame past) differ
judged_by (Rejected reason) past frame e lawful differ = differ_still (none_answering _ past) differ
judged_by Ignored past frame e lawful differ = differ
judged_by Dropped past frame e lawful differ = differ
judged_by Violating past frame e lawful differ = differ

judge_differ : (frame : Frame) (work : Work) → IsLawful work.past → TagsDiffer work.past
    → TagsDiffer (judge frame work).past
unfolding judge
judge_differ frame work lawful differ = judged_by _ work.past frame refl lawful differ

-- a number that it plugs bears no tag
behind_differ : (luns : List ℕ) (b : Bool) (past : Past) (k : ℕ) (rest : List ℕ)
    → (is_function (frame_of past.came k) && plugs past (reach_of luns k past)) ≡ b
    → due past ≡ k ∷ rest → IsLawful past → TagsDiffer past → TagsDiffer (behind luns k past (ended luns k past))
behind_differ luns false past k rest e is lawful differ =
    rw e (differ_still (none_ended luns _ past k rest refl lawful is) differ)
behind_differ luns true past k rest e is lawful differ =
    let ends = differ_still (none_ended luns _ past k rest refl lawful is) differ in
    let lawful_ended = ended_lawful luns _ past k rest refl lawful is (moved_by _ past k rest refl lawful is) in
    rw e (differ_joined (ended luns k past) (with _ plug) lawful_ended (λ h. absurd cc) ends)

act_differ : (work : Work) (k : ℕ) (rest : List ℕ) → due work.past ≡ k ∷ rest → IsLawful work.past → TagsDiffer work.past
    → TagsDiffer (act k work).past
unfolding act
act_differ work k rest is lawful differ =
    let luns = numbers_of work.units.states in
    differ_still (none_answering (act_answers luns k work.past) (behind luns k work.past (ended luns k work.past)))
    (behind_differ luns _ work.past k rest refl is lawful differ)

ask_differ : (work : Work) (k : ℕ) → TagsDiffer work.past → TagsDiffer (ask k work).past
unfolding ask
ask_differ work k differ = differ_still (none_asked k work.past) differ

tell_differ : (work : Work) (k : ℕ) (rest : List ℕ) → drained_functions work.past ≡ k ∷ rest → IsLawful work.past
    → TagsDiffer work.past → TagsDiffer (tell k work).past
unfolding tell
tell_differ work k rest is lawful differ =
    let none = none_told k work.past lawful (first_waits work.past k rest is) in
    differ_still (then_no_more none (none_answering _ (told k work.past))) differ

finish_differ : (work : Work) (k : ℕ) (rest : List ℕ) → ready work.past ≡ k ∷ rest → IsLawful work.past → TagsDiffer work.past
    → TagsDiffer (finish k work).past
unfolding finish
finish_differ work k rest is lawful differ =
    let done = is_done work.past lawful k rest (ready_queue work.past k rest is) in
    let none = none_finished k work.past (command_not_pending work.past k lawful.drained done) in
    differ_still (then_no_more none (none_answering _ (finished k work.past))) differ

-- ---- runs

-- lawful, and so
abbrev Holds : Work → Type 0
Holds work = IsLawful work.past × TagsDiffer work.past

served_differ : (fails : Step → Bool) (place : ℕ) (frame : Frame) (work : Work) → IsLawful work.past → TagsDiffer work.past
    → TagsDiffer (served fails place frame work).past
served_differ fails place frame work lawful differ =
    (served_keeps Holds (λ step on w ok. ok) fails place frame work
    (λ w ok. (judge_lawful frame w ok.0, judge_differ frame w ok.0 ok.1))
    (λ w k rest is ok. (act_lawful w k rest is ok.0, act_differ w k rest is ok.0 ok.1))
    (λ w k rest is ok. (ask_lawful w k rest is ok.0, ask_differ w k ok.1))
    (λ w k rest is ok. (tell_lawful w k rest is ok.0, tell_differ w k rest is ok.0 ok.1)) (lawful, differ)).1

settled_differ : (fails : Step → Bool) (place : ℕ) (work : Work) → IsLawful work.past → TagsDiffer work.past
    → TagsDiffer (settled fails place work).past
settled_differ fails place work lawful differ =
    (settled_keeps Holds (λ step on w ok. ok) fails place work
    (λ w k rest is ok. (finish_lawful w k rest is ok.0, finish_differ w k rest is ok.0 ok.1)) (lawful, differ)).1

begun_differ : (params : SessionParams) → TagsDiffer (begun params)
unfolding unfinished functions left
begun_differ params k j c f = absurd cc

pub live_tags_differ : LiveTagsDiffer
live_tags_differ = record {
  begun = begun_differ;
  served = served_differ;
  settled = settled_differ;
  removed = λ names past differ. differ_still (none_removing names past) differ;
}
