-- A function whose data has come: which it is, what the session remembers after its answer, and that its past stays lawful.
use Rattle.std.proofs.Common.{◌≡◌, ℕ, ◌+◌, ◌-◌, ◌<◌, List, [], ◌∷◌, ◌++◌, length, map, get_or, Bool, true, false, not, cond, ◌&&◌, ◌||◌, ◌==◌, refl, sym, ap, subst, ◌∙◌, arith, inl, inr, Option, Some, None}
use Rattle.std.specs.Prelude.{All, filter, find, is_some}
use Rattle.std.specs.List.{list_any}
use Rattle.std.proofs.lemmas.Bool.{cases_eq, eq-eqb, ne_eqb, eqb-true, false_from_ne_true}
use Rattle.std.proofs.lemmas.List.Elements.{All-head, All-tail, All-nil, All-push}
use Rattle.iscsi_pdu.specs.Header.{is_immediate, initiator_task_tag}
use Rattle.iscsi_order.specs.Window.{taken as taken_numbers}
use Rattle.iscsi_requests.specs.Drained.{Drained}
use Rattle.iscsi_transfer.proofs.Blank.{asked_blank}
use Rattle.iscsi_requests.proofs.Places.{found_self, first_passes, none_passes, LocatedFunction, located_function, index_map, drain_at}
use Rattle.iscsi_requests.specs.Requests.{Past, Drain, frame_of, is_in, left, is_command, is_function, others, counted, over, pending, due, queue, unfinished, functions, stamp}
use Rattle.iscsi_requests.specs.Transfers.{tag_of, task_at, outs_of, tags_of, is_asked_of, drains_of}
use Rattle.iscsi_requests.specs.Functions.{lacks, told, drained_functions, function_answer, told_answers, told_by}
use Rattle.iscsi_requests.specs.State.{AreDistinct, IsLawful, standing, tasks_of, drained_of, transfers_of, functions_of, SessionState, TaskLists, TransferList, Stands, function_removed, function_place}
use Rattle.iscsi_requests.specs.Draining.{function_tag, lacks_for, drains_without, no_drained, telling_place, function_at}
use Rattle.iscsi_requests.proofs.Left.{filter_cong, filter_filter, left_more, left_swap, in_left, in_left_back, not_gone, below_of, is_in_append, all_in}
use Rattle.iscsi_session.proofs.Kept.{function_no_command, tags_left, pending_holds, in_functions}
use Rattle.iscsi_session.proofs.Accepted.{counted_append, finished_below}
use Rattle.iscsi_session.proofs.Over.{split, lawful_step, not_removed, unfinished_less}
use Rattle.iscsi_session.proofs.Moved.{distinct_acted}
use Rattle.iscsi_session.proofs.Removing.{filter_map_names}
use Rattle.iscsi_pdu.specs.declared.task_management_response.TaskResult.TheVariants as results
use Rattle.iscsi_session.proofs.Parts.{parts, stands_parts, exchange_as}
use Rattle.iscsi_session.proofs.Feeding.{drains_are, headers_are, function_located}
use Rattle.iscsi_session.proofs.Answered.{function_at as removed_at_place}

-- ---- names

in_left_is : (a : ℕ) (gone names : List ℕ) → is_in a (left gone names) ≡ (is_in a names && not (is_in a gone))
in_left_is a gone names = grind (arith, in_left_back, false_from_ne_true, not_gone, in_left)

in_one : (a k : ℕ) → is_in a (k ∷ []) ≡ (a == k)
in_one a k = grind arith

pub none_of : (k : ℕ) (names : List ℕ) → is_in k names ≡ false → filter (λ a. a == k) names ≡ []
none_of k [] e = refl
none_of k (a ∷ names) e = elim (cases_eq a k) [
  | inl same ↦ absurd (let h = rw (eq-eqb a k same) at e in cc)
  | inr differs ↦ let rest = rw (ne_eqb a k differs) at e in rw (ne_eqb a k differs) (none_of k names rest)
]

pub once_in : (k : ℕ) (names : List ℕ) → AreDistinct names → is_in k names ≡ true → filter (λ a. a == k) names ≡ k ∷ []
once_in k [] distinct e = absurd cc
once_in k (a ∷ names) distinct e = elim (cases_eq a k) [
  | inl same ↦
      let none : is_in k names ≡ false = ap (λ (n : ℕ). is_in n names) (sym same) ∙ distinct.0 in
      rw (eq-eqb a k same, none_of k names none) (ap (λ (n : ℕ). n ∷ []) same)
  | inr differs ↦ let there = rw (ne_eqb a k differs) at e in rw (ne_eqb a k differs) (once_in k names distinct.1 there)
]

first_kind : (p q e : Bool) → q ≡ (p && not e) → (not q && e) ≡ e
first_kind p q e is = grind arith

second_kind : (p q e : Bool) → q ≡ (p && not e) → (e ≡ true → p ≡ true) → (not q && not e) ≡ not p
second_kind p q e is known = grind arith

others_by : (c e : Bool) → (e ≡ true → c ≡ false) → (not c && e) ≡ e
others_by c e known = grind arith

-- ---- the functions that wait

pub pending_named : (past : Past) → pending past ≡ map (λ d. d.function) (drains_of past)
unfolding left
pending_named past = filter_map_names (λ k. not (is_in k past.answered)) (λ (d : Drain). d.function) past.drains

all_named : (l : List Drain) → All (λ d. is_in d.function (map (λ d. d.function) l) ≡ true) l
all_named [] = All-nil (λ (d : Drain). is_in d.function [] ≡ true)
all_named (d ∷ l) = grind (arith, all_named l)

module _ (past : Past) (lawful : IsLawful past) where
  pub pending_function : (k : ℕ) → is_in k (pending past) ≡ true → is_function (frame_of past.came k) ≡ true
  pending_function k waits = pending_holds (λ a. is_function (frame_of past.came a)) past k lawful.drained.functions waits

  pub pending_finished : (k : ℕ) → is_in k (pending past) ≡ true → is_in k past.finished ≡ true
  pending_finished k waits = pending_holds (λ a. is_in a past.finished) past k lawful.drained.acted waits

  pub pending_came : (k : ℕ) → is_in k (pending past) ≡ true → k < length past.came
  pending_came k waits = below_of (length past.came) k past.finished (finished_below past lawful) (pending_finished k waits)

  -- they are not finished
  pub pending_open : (k : ℕ) → is_in k (pending past) ≡ true → is_in k (functions past) ≡ true
  pending_open k waits = grind (arith, in_functions, pending_came, pending_function, in_left_is, pending_finished, not_removed, function_no_command)

  -- of each there is data
  pub drains_pending : All (λ d. is_in d.function (pending past) ≡ true) (drains_of past)
  drains_pending = grind (arith, pending_named, all_named)

  -- the tags of those that are not finished tell them apart
  pub open_tag : (a k : ℕ) → is_in a (functions past) ≡ true → is_in k (functions past) ≡ true → (tag_of past.came a == tag_of past.came k) ≡ (a == k)
  open_tag a k first second = elim (cases_eq a k) [
    | inl same ↦ rw (eq-eqb a k same, eq-eqb (tag_of past.came a) (tag_of past.came k) (ap (tag_of past.came) same)) refl
    | inr differs ↦
        ne_eqb (tag_of past.came a) (tag_of past.came k) (λ e.
        let f = found_self (tag_of past.came) a (functions past) lawful.function_tags first in
        let g = found_self (tag_of past.came) k (functions past) lawful.function_tags second in
        let both : Some a ≡ Some k = sym f ∙ ap (λ (t : ℕ). find (λ j. tag_of past.came j == t) (functions past)) e ∙ g in
        differs (some_same both)) ∙ sym (ne_eqb a k differs)
  ]
    where
      some_same : {a k : ℕ} → Some a ≡ Some k → a ≡ k
      some_same e = cc

  same_tag : (a k : ℕ) → is_in a (pending past) ≡ true → is_in k (pending past) ≡ true → (tag_of past.came a == tag_of past.came k) ≡ (a == k)
  same_tag a k first second = open_tag a k (pending_open a first) (pending_open k second)

  module _ (k : ℕ) (waits : is_in k (pending past) ≡ true) where
    same_pending : (a : ℕ) → is_in a (pending (told k past)) ≡ (is_in a (pending past) && not (a == k))
    same_pending a = grind (arith, left_more, in_left_is, in_one)

    waits_at : (a : ℕ) → (a == k) ≡ true → is_in a (pending past) ≡ true
    waits_at a e = ap (λ (n : ℕ). is_in n (pending past)) (eqb-true a k e) ∙ waits

    no_command : (a : ℕ) → (a == k) ≡ true → is_command (frame_of past.came a) ≡ false
    no_command a e = grind (arith, eqb-true, function_no_command, pending_function)

    -- it is finished once
    once_others : (names : List ℕ) → filter (λ a. a == k) (others past.came names) ≡ filter (λ a. a == k) names
    once_others names =
        filter_filter (λ a. a == k) (λ a. not (is_command (frame_of past.came a))) names
        ∙ filter_cong _ _ names (λ i d lt. others_by _ _ (no_command (get_or names i d)))

    has_acted : is_in k past.acted ≡ true
    has_acted = all_in (λ a. is_in a past.acted ≡ true) k past.finished lawful.acted (pending_finished k waits)

    once_finished : filter (λ a. a == k) past.finished ≡ k ∷ []
    once_finished = grind (arith, once_others, once_in, distinct_acted, has_acted)

    abbrev more : List ℕ
    more = left (pending (told k past)) past.finished

    front_is : filter (λ a. a == k) more ≡ k ∷ []
    unfolding left
    front_is =
        filter_filter (λ a. a == k) (λ a. not (is_in a (pending (told k past)))) past.finished
        ∙ filter_cong _ _ past.finished (λ i d lt. first_kind _ _ _ (same_pending (get_or past.finished i d))) ∙ once_finished

    rest_is : filter (λ a. not (a == k)) more ≡ left (pending past) past.finished
    unfolding left
    rest_is =
        filter_filter (λ a. not (a == k)) (λ a. not (is_in a (pending (told k past)))) past.finished
        ∙ filter_cong _ _ past.finished (λ i d lt. second_kind _ _ _ (same_pending (get_or past.finished i d)) (waits_at (get_or past.finished i d)))

    pub over_told : counted past.came (over (told k past)) ≡ counted past.came (over past) + counted past.came (k ∷ [])
    over_told =
        let came = past.came in
        let gone = filter (λ a. is_in a past.removed) past.acted in
        let a = split (λ a. a == k) came more in
        let b = ap (counted came) front_is in
        let c = ap (counted came) rest_is in
        let d = counted_append came more gone in
        let e = counted_append came (left (pending past) past.finished) gone in
        omega (arith, a, b, c, d, e)

    -- ---- the functions that are left

    finished_told : (names : List ℕ) → left more names ≡ left (left (pending past) past.finished ++ k ∷ []) names
    unfolding left
    finished_told names = filter_cong _ _ names (λ i d lt. ap not (each (get_or names i d)))
      where
        each : (a : ℕ) → is_in a more ≡ is_in a (left (pending past) past.finished ++ k ∷ [])
        each a = grind (arith, in_left_is, same_pending, waits_at, eqb-true, pending_finished, in_one, is_in_append)

    pub functions_told : functions (told k past) ≡ left (k ∷ []) (functions past)
    unfolding functions
    functions_told = grind (arith, finished_told, left_more, left_swap)

    -- ---- it stays lawful

    pub lawful_told : IsLawful (told k past)
    unfolding due queue unfinished
    lawful_told =
        let answered = All-push (λ a. is_in a past.finished ≡ true) past.answered k lawful.drained.answered (pending_finished k waits) in
        lawful_step past past.acted past.finished past.removed past.drains (past.answered ++ k ∷ []) lawful
        (grind (arith, over_told, functions_told, tags_left))

    -- ---- what is remembered

    pub tasks_told : cond (is_immediate (frame_of past.came k).header) (tasks_of past) (record (tasks_of past) { unfinished = (tasks_of past).unfinished - 1 })
        ≡ tasks_of (told k past)
    unfolding tasks_of standing due queue taken_numbers
    tasks_told = grind (arith, unfinished_less, pending_came, over_told)

    drain_is : drains_without (tag_of past.came k) (map (drained_of past) (drains_of past)) ≡ map (drained_of past) (drains_of (told k past))
    drain_is =
        filter_map_names (λ drained. not (function_tag drained == tag_of past.came k)) (drained_of past) (drains_of past)
        ∙ ap (map (drained_of past)) (filter_cong _ _ (drains_of past) (λ i none lt. ap not (same_tag _ k (drains_pending i none lt) waits)) ∙ again)
      where
        one_more : (a : ℕ) → (not (is_in a past.answered) && not (a == k)) ≡ not (is_in a (past.answered ++ k ∷ []))
        one_more a = grind (arith, in_one, is_in_append)

        again : filter (λ d. not (d.function == k)) (drains_of past) ≡ drains_of (told k past)
        again = filter_filter (λ d. not (d.function == k)) (λ d. not (is_in d.function past.answered)) past.drains
            ∙ filter_cong _ _ past.drains (λ i none lt. one_more (get_or past.drains i none).function)

    pub transfers_told : record (transfers_of past) { drains = drains_without (tag_of past.came k) (transfers_of past).drains } ≡ transfers_of (told k past)
    unfolding transfers_of unfinished task_at outs_of tags_of
    transfers_told = ap (λ (l : List Drained). record (transfers_of past) { drains = l }) drain_is

    pub headers_told : map (λ a. (frame_of past.came a).header) (left (k ∷ []) (functions past)) ≡ functions_of (told k past)
    unfolding functions_of
    headers_told = ap (map (λ a. (frame_of past.came a).header)) (sym functions_told)

  -- ---- which of them need wait no more

  lacks_by : (l : List Drain) (k : ℕ) → is_in k (pending past) ≡ true → All (λ d. is_in d.function (pending past) ≡ true) l
      → lacks_for (map (drained_of past) l) (tag_of past.came k) ≡ list_any (λ d. d.function == k && is_asked_of past d.command) l
  lacks_by [] k waits all = refl
  lacks_by (d ∷ l) k waits all =
      ap (λ (b : Bool). tag_of past.came d.function == tag_of past.came k && b || lacks_for (map (drained_of past) l) (tag_of past.came k))
      (asked_blank (task_at past d.command))
      ∙ rw (
        same_tag d.function k (All-head (λ (x : Drain). is_in x.function (pending past) ≡ true) d l all) waits,
        lacks_by l k waits (All-tail (λ (x : Drain). is_in x.function (pending past) ≡ true) d l all),
      ) refl

-- ---- which it is

telling_located : (past : Past) → IsLawful past
    → LocatedFunction (λ k. not (lacks past k)) (drains_of past) (telling_place (map (drained_of past) (drains_of past)))
telling_located past lawful =
    located_function (λ (x : Drained). not (lacks_for (map (drained_of past) (drains_of past)) (function_tag x))) (drained_of past) (λ k. not (lacks past k))
    (drains_of past) (λ i none lt. ap not (lacks_by past lawful (drains_of past) _ (drains_pending past lawful i none lt) (drains_pending past lawful)))

none_drained : (past : Past) → find (λ k. not (lacks past k)) (map (λ d. d.function) (drains_of past)) ≡ None → drained_functions past ≡ []
unfolding drained_functions
none_drained past e = grind (arith, pending_named, none_passes)

one_drained : (past : Past) (k : ℕ) → find (λ k. not (lacks past k)) (map (λ d. d.function) (drains_of past)) ≡ Some k
    → (others : List ℕ) × (drained_functions past ≡ k ∷ others)
unfolding drained_functions
one_drained past k e = grind (arith, first_passes, pending_named)

-- whether there is one
there_by : (past : Past) (at : Option ℕ) → LocatedFunction (λ k. not (lacks past k)) (drains_of past) at
    → (is_some at ≡ true → (k : ℕ) × (others : List ℕ) × (drained_functions past ≡ k ∷ others)) × (is_some at ≡ false → drained_functions past ≡ [])
there_by past None found = (λ e. absurd cc, λ e. none_drained past found)
there_by past (Some i) found = (λ e. (let one = one_drained past found.0.function found.1 in (found.0.function, one.0, one.1)), λ e. absurd cc)

located_in : (past : Past) (state : SessionState) → Stands past state
    → LocatedFunction (λ k. not (lacks past k)) (drains_of past) (telling_place state.transfers.drains)
located_in past state s = grind (arith, drains_are past state s, telling_located past s.lawful)

-- ---- it is finished

abbrev pub without_function : List ℕ → SessionState → SessionState
without_function header state = record state {
  tasks = cond (is_immediate header) state.tasks (record state.tasks { unfinished = state.tasks.unfinished - 1 });
  transfers = record state.transfers { drains = drains_without (initiator_task_tag header) state.transfers.drains };
  functions = function_removed state.functions (function_place (initiator_task_tag header) state.functions);
}

pub stands_told : (past : Past) (state : SessionState) (k : ℕ) → Stands past state → is_in k (pending past) ≡ true
    → Stands (told k past) (without_function (frame_of past.came k).header state)
stands_told past state k s waits =
    let p = parts past state s in
    let header = (frame_of past.came k).header in
    stands_parts past (told k past) state _ _ _ state.exchange s (lawful_told past s.lawful k waits) refl refl
    (ap (λ (t : TaskLists). cond (is_immediate header) t (record t { unfinished = t.unfinished - 1 })) p.tasks_is ∙ tasks_told past s.lawful k waits)
    (ap (λ (t : TransferList). record t { drains = drains_without (tag_of past.came k) t.drains }) p.transfers_is ∙ transfers_told past s.lawful k waits)
    (ap (λ (l : List (List ℕ)). function_removed l (function_place (tag_of past.came k) l)) (headers_are past state s)
    ∙ removed_at_place past k _ s.lawful (pending_open past s.lawful k waits) (function_located past (tag_of past.came k)) ∙ headers_told past s.lawful k waits)
    (p.exchange_is ∙ sym (exchange_as past (told k past) refl refl refl))

pub record Telling (past : Past) (state : SessionState) (header : List ℕ) : Type 0 where
  pub function : ℕ
  pub rest : List ℕ
  pub first : drained_functions past ≡ function ∷ rest
  pub header_is : header ≡ (frame_of past.came function).header
  pub stands : Stands (told function past) (without_function header state)

telling_by : (past : Past) (state : SessionState) (header : List ℕ) (at : Option ℕ) → Stands past state
    → Some header ≡ function_at state.transfers.drains at → LocatedFunction (λ k. not (lacks past k)) (drains_of past) at → Telling past state header
telling_by past state header None s is found = absurd cc
telling_by past state header (Some i) s is found =
    let d = found.0 in
    let one = one_drained past d.function found.1 in
    let there : Some header ≡ Some (frame_of past.came d.function).header = is
    ∙ ap (λ (l : List Drained). function_at l (Some i)) (drains_are past state s)
    ∙ ap (λ (x : Drained). Some x.function) (index_map (drained_of past) no_drained (drains_of past) i d found.2) in
    let same : header ≡ (frame_of past.came d.function).header = cc in
    let waits = drain_at (λ e. is_in e.function (pending past) ≡ true) (drains_of past) i d (drains_pending past s.lawful) found.2 in
    record {
      function = d.function;
      rest = one.0;
      first = one.1;
      header_is = same;
      stands = subst (λ (h : List ℕ). Stands (told d.function past) (without_function h state)) (sym same) (stands_told past state d.function s waits);
    }

pub telling_here : (past : Past) (state : SessionState) (header : List ℕ) → Stands past state
    → Some header ≡ function_at state.transfers.drains (telling_place state.transfers.drains) → Telling past state header
telling_here past state header s is = telling_by past state header (telling_place state.transfers.drains) s is (located_in past state s)

pub telling_none : (past : Past) (state : SessionState) → Stands past state
    → None ≡ function_at state.transfers.drains (telling_place state.transfers.drains) → drained_functions past ≡ []
telling_none past state s is = grind (arith, there_by past (telling_place state.transfers.drains) (located_in past state s))

-- ---- what it is answered

pub told_same : (past : Past) (state : SessionState) (header : List ℕ) (t : Telling past state header)
    → function_answer (stamp (told t.function past)) results.Complete header ∷ [] ≡ told_by (drained_functions past) past
unfolding told_answers
told_same past state header t = grind arith
