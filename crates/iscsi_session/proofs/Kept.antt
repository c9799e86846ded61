-- The requests that are not finished, as requests come and are finished: of one kind, the functions, and the SCSI Commands with their data.
use Rattle.std.proofs.Common.{◌≡◌, ℕ, ◌+◌, ◌<◌, List, [], ◌∷◌, ◌++◌, length, map, Bool, true, false, not, cond, sym, ap, ◌∙◌, arith, append-nil, ◌≢◌, inl, inr, refl, subst}
use Rattle.std.specs.Prelude.{All, filter}
use Rattle.std.specs.List.{range_with_len}
use Rattle.std.proofs.lemmas.Bool.{false_from_ne_true, cases_eq, ne_eqb}
use Rattle.std.proofs.lemmas.List.{length-append, map-append}
use Rattle.std.proofs.lemmas.List.Elements.{filter-append, All-cons, All-nil, All-head, All-tail, All-filter}
use Rattle.iscsi_pdu.specs.Frames.{Frame}
use Rattle.iscsi_pdu.specs.Header.{initiator_task_tag}
use Rattle.iscsi_requests.specs.Requests.{Request, Past, is_command, is_function, frame_of, is_in, left, finished, Drain, pending, functions, unfinished, removing, commands, queue}
use Rattle.iscsi_requests.specs.Transfers.{tag_of, drains_of, outs_of, tags_of, task_at}
use Rattle.iscsi_requests.specs.State.{AreDistinct, AreDrained, transfer_of, drained_of, transfers_of, begun_transfer}
use Rattle.iscsi_requests.proofs.Left.{filter_cong, map_cong, left_more, left_swap, left_append, left_all, left_one, in_at, in_left, in_left_back, in_filter, in_filter_back, in_range, passes_in, below_of, distinct_left, distinct_filter, distinct_range, range_below, range_more, distinct_push, distinct_map_filter, in_front, not_gone}
use Rattle.iscsi_session.proofs.Taken.{request_before, request_new}
use Rattle.iscsi_transfer.specs.WriteData.{remembered as task_of}
use Rattle.iscsi_transfer.specs.Payload.{begun}
use Rattle.iscsi_requests.specs.declared.transfers.Transfer.{Transfer}
use Rattle.iscsi_requests.specs.Drained.{Drained, blanked}
use Rattle.iscsi_requests.proofs.Places.{none_named}

abbrev pub joined : Request → Past → Past
joined x past = record past { came = past.came ++ x ∷ [] }

abbrev pub Below : Past → List ℕ → Type 0
Below past names = All (λ k. k < length past.came) names

pub command_no_function : (frame : Frame) → is_command frame ≡ true → is_function frame ≡ false
command_no_function frame e = grind arith

pub function_no_command : (frame : Frame) → is_function frame ≡ true → is_command frame ≡ false
function_no_command frame e = grind arith

-- those of these names whose frames are of this kind
abbrev pub of_kind : (Frame → Bool) → List Request → List ℕ → List ℕ
of_kind q came names = filter (λ k. q (frame_of came k)) names

abbrev all_of : (Frame → Bool) → Past → List ℕ
all_of q past = of_kind q past.came (range_with_len 0 (length past.came))

-- those that came and are neither finished nor removed
abbrev pub kept_of : (Frame → Bool) → Past → List ℕ
kept_of q past = left past.removed (left past.finished (all_of q past))

pub kind_same : (q : Frame → Bool) (past : Past) (x : Request) (names : List ℕ) → Below past names
    → of_kind q (past.came ++ x ∷ []) names ≡ of_kind q past.came names
kind_same q past x names below = filter_cong _ _ names (λ i d lt. ap (λ (r : Request). q r.frame) (request_before past.came x _ (below i d lt)))

pub kept_in : (q : Frame → Bool) (past : Past) (k : ℕ) → is_in k (kept_of q past) ≡ true → is_in k (all_of q past) ≡ true
kept_in q past k e = in_left k past.finished (all_of q past) (in_left k past.removed (left past.finished (all_of q past)) e)

pub all_came : (q : Frame → Bool) (past : Past) (k : ℕ) → is_in k (all_of q past) ≡ true → k < length past.came
all_came q past k e =
    below_of (length past.came) k (range_with_len 0 (length past.came)) (range_below (length past.came))
    (in_filter k (λ a. q (frame_of past.came a)) (range_with_len 0 (length past.came)) e)

pub all_of_kind : (q : Frame → Bool) (past : Past) (k : ℕ) → is_in k (all_of q past) ≡ true → q (frame_of past.came k) ≡ true
all_of_kind q past k e = passes_in k (λ a. q (frame_of past.came a)) (range_with_len 0 (length past.came)) e

pub in_kept : (q : Frame → Bool) (past : Past) (k : ℕ) → k < length past.came → q (frame_of past.came k) ≡ true → is_in k past.finished ≡ false
    → is_in k past.removed ≡ false → is_in k (kept_of q past) ≡ true
in_kept q past k lt is open_still there_still = grind (arith, in_filter_back, in_range, in_left_back)

pub kept_distinct : (q : Frame → Bool) (past : Past) → AreDistinct (kept_of q past)
kept_distinct q past = grind (arith, distinct_left, distinct_filter, distinct_range)

-- ---- a request comes

new_of_kind : (c : Bool) (q : Frame → Bool) (past : Past) (x : Request) → q x.frame ≡ c
    → of_kind q (past.came ++ x ∷ []) (length past.came ∷ []) ≡ cond c (length past.came ∷ []) []
new_of_kind c q past x e = grind (arith, request_new)

not_gone_by : (c : Bool) (n : ℕ) (gone : List ℕ) → All (λ a. a < n) gone → left gone (cond c (n ∷ []) []) ≡ cond c (n ∷ []) []
not_gone_by true n gone below =
    let fresh : is_in n gone ≡ false = false_from_ne_true (is_in n gone) (λ h. let lt = below_of n n gone below h in absurd (omega arith)) in
    left_all gone (n ∷ []) (All-cons (λ a. is_in a gone ≡ false) n [] fresh (All-nil (λ a. is_in a gone ≡ false)))
not_gone_by false n gone below = left_all gone [] (All-nil (λ a. is_in a gone ≡ false))

left_with : (c : Bool) (n : ℕ) (gone names : List ℕ) → All (λ a. a < n) gone
    → left gone (names ++ cond c (n ∷ []) []) ≡ left gone names ++ cond c (n ∷ []) []
left_with c n gone names below = left_append gone names (cond c (n ∷ []) []) ∙ ap (λ (l : List ℕ). left gone names ++ l) (not_gone_by c n gone below)

all_joined : (c : Bool) (q : Frame → Bool) (past : Past) (x : Request) → q x.frame ≡ c
    → all_of q (joined x past) ≡ all_of q past ++ cond c (length past.came ∷ []) []
all_joined c q past x e =
    let came = past.came ++ x ∷ [] in
    let n = length past.came in
    let counted : length came ≡ n + 1 = length-append past.came (x ∷ []) in
    ap (λ (m : ℕ). of_kind q came (range_with_len 0 m)) counted
    ∙ ap (of_kind q came) (range_more 0 n n (omega arith))
    ∙ filter-append (λ k. q (frame_of came k)) (range_with_len 0 n) (n ∷ [])
    ∙ ap (λ (l : List ℕ). l ++ of_kind q came (n ∷ [])) (kind_same q past x (range_with_len 0 n) (range_below n))
    ∙ ap (λ (l : List ℕ). all_of q past ++ l) (new_of_kind c q past x e)

pub kept_joined : (c : Bool) (q : Frame → Bool) (past : Past) (x : Request) → q x.frame ≡ c → Below past past.finished → Below past past.removed
    → kept_of q (joined x past) ≡ kept_of q past ++ cond c (length past.came ∷ []) []
kept_joined c q past x e finished_below removed_below = grind (arith, all_joined, left_with)

-- ---- one is finished

pub kept_without : (q : Frame → Bool) (past : Past) (k : ℕ) → kept_of q (finished k past) ≡ left (k ∷ []) (kept_of q past)
kept_without q past k = grind (arith, left_more, left_swap)

-- one of another kind
pub kept_other : (q : Frame → Bool) (past : Past) (k : ℕ) → q (frame_of past.came k) ≡ false → kept_of q (finished k past) ≡ kept_of q past
kept_other q past k e =
    kept_without q past k
    ∙ left_one k (kept_of q past)
    (false_from_ne_true (is_in k (kept_of q past)) (λ h. let c = sym (all_of_kind q past k (kept_in q past k h)) ∙ e in absurd cc))

-- ---- their tags

tags_before : (past : Past) (x : Request) (names : List ℕ) → Below past names → map (tag_of (past.came ++ x ∷ [])) names ≡ map (tag_of past.came) names
tags_before past x names below = grind (arith, map_cong, request_before)

-- where a request comes whose tag is not among these
pub tags_with : (c : Bool) (past : Past) (x : Request) (names : List ℕ) → Below past names → AreDistinct (map (tag_of past.came) names)
    → (c ≡ true → is_in (initiator_task_tag x.frame.header) (map (tag_of past.came) names) ≡ false)
    → AreDistinct (map (tag_of (past.came ++ x ∷ [])) (names ++ cond c (length past.came ∷ []) []))
tags_with true past x names below distinct fresh = grind (arith, map-append, tags_before, request_new, distinct_push)
tags_with false past x names below distinct fresh = grind (arith, append-nil, tags_before)

-- fewer have distinct tags too
pub tags_left : (past : Past) (k : ℕ) (names : List ℕ) → AreDistinct (map (tag_of past.came) names) → AreDistinct (map (tag_of past.came) (left (k ∷ []) names))
unfolding left
tags_left past k names distinct = distinct_map_filter (tag_of past.came) (λ a. not (is_in a (k ∷ []))) names distinct

pub below_kept : (q : Frame → Bool) (past : Past) → Below past (kept_of q past)
below_kept q past = λ i d lt. all_came q past _ (kept_in q past _ (in_at (kept_of q past) i d lt))

-- ---- the functions that wait for data, and the data that they wait for

pub left_push : (gone names : List ℕ) (k : ℕ) → is_in k gone ≡ false → left gone (names ++ k ∷ []) ≡ left gone names ++ k ∷ []
left_push gone names k e = grind (arith, left_append, left_all)

-- what holds of the function of each
holds_named : (q : ℕ → Bool) (k : ℕ) (drains : List Drain) → All (λ d. q d.function ≡ true) drains → is_in k (map (λ d. d.function) drains) ≡ true → q k ≡ true
holds_named q k [] every h = absurd cc
holds_named q k (d ∷ rest) every h = elim (cases_eq d.function k) [
  | inl same ↦ ap q (sym same) ∙ All-head (λ (x : Drain). q x.function ≡ true) d rest every
  | inr differs ↦ let there = rw (ne_eqb d.function k differs) at h in holds_named q k rest (All-tail (λ (x : Drain). q x.function ≡ true) d rest every) there
]

pub pending_holds : (q : ℕ → Bool) (past : Past) (k : ℕ) → All (λ d. q d.function ≡ true) past.drains → is_in k (pending past) ≡ true → q k ≡ true
pending_holds q past k all e = holds_named q k past.drains all (in_left k past.answered (map (λ d. d.function) past.drains) e)

-- a SCSI Command is none of them
pub command_not_pending : (past : Past) (k : ℕ) → AreDrained past → is_command (frame_of past.came k) ≡ true → is_in k (pending past) ≡ false
command_not_pending past k drained c = false_from_ne_true (is_in k (pending past)) (λ h.
    let yes = pending_holds (λ a. is_function (frame_of past.came a)) past k drained.functions h in
    let no = command_no_function (frame_of past.came k) c in absurd (let both = sym yes ∙ no in cc))

-- nor is one that is no Task Management Function Request
pub other_not_pending : (past : Past) (k : ℕ) → AreDrained past → is_function (frame_of past.came k) ≡ false → is_in k (pending past) ≡ false
other_not_pending past k drained c = false_from_ne_true (is_in k (pending past)) (λ h.
    let yes = pending_holds (λ a. is_function (frame_of past.came a)) past k drained.functions h in absurd (let both = sym yes ∙ c in cc))

-- nor one that has not acted
pub open_not_pending : (past : Past) (k : ℕ) → AreDrained past → is_in k past.finished ≡ false → is_in k (pending past) ≡ false
open_not_pending past k drained none = false_from_ne_true (is_in k (pending past)) (λ h.
    let yes = pending_holds (λ a. is_in a past.finished) past k drained.acted h in absurd (let both = sym yes ∙ none in cc))

-- ---- the functions that are not finished

-- those that wait are not
abbrev pub settled : Past → Past
settled past = record past { finished = left (pending past) past.finished }

pub functions_without : (past : Past) (k : ℕ) → is_in k (pending past) ≡ false → functions (finished k past) ≡ left (k ∷ []) (functions past)
unfolding functions
functions_without past k e =
    ap (λ (l : List ℕ). kept_of is_function (record past { finished = l })) (left_push (pending past) past.finished k e)
    ∙ kept_without is_function (settled past) k

pub functions_other : (past : Past) (k : ℕ) → is_in k (pending past) ≡ false → is_function (frame_of past.came k) ≡ false
    → functions (finished k past) ≡ functions past
unfolding functions
functions_other past k free e =
    ap (λ (l : List ℕ). kept_of is_function (record past { finished = l })) (left_push (pending past) past.finished k free)
    ∙ kept_other is_function (settled past) k e

pub functions_distinct : (past : Past) → AreDistinct (functions past)
unfolding functions
functions_distinct past = kept_distinct is_function (settled past)

pub functions_below : (past : Past) → Below past (functions past)
unfolding functions
functions_below past = below_kept is_function (settled past)

pub in_functions : (past : Past) (k : ℕ) → k < length past.came → is_function (frame_of past.came k) ≡ true
    → is_in k (left (pending past) past.finished) ≡ false → is_in k past.removed ≡ false → is_in k (functions past) ≡ true
unfolding functions
in_functions past k lt f open_still there_still = in_kept is_function (settled past) k lt f open_still there_still

pub function_in : (past : Past) (k : ℕ) → is_in k (functions past) ≡ true → is_function (frame_of past.came k) ≡ true
unfolding functions
function_in past k e = all_of_kind is_function past k (kept_in is_function (settled past) k e)

pub settled_below : (past : Past) → Below past past.finished → Below past (left (pending past) past.finished)
unfolding left
settled_below past below = All-filter (λ k. not (is_in k (pending past))) (λ k. k < length past.came) past.finished below

pub functions_joined : (c : Bool) (past : Past) (x : Request) → is_function x.frame ≡ c → Below past past.finished → Below past past.removed
    → functions (joined x past) ≡ functions past ++ cond c (length past.came ∷ []) []
unfolding functions
functions_joined c past x e below gone = kept_joined c is_function (settled past) x e (settled_below past below) gone

-- ---- the data that is drained

-- those that functions still wait for
pub drains_all : (P : Drain → Type 0) (past : Past) → All P past.drains → All P (drains_of past)
drains_all P past all = All-filter (λ d. not (is_in d.function past.answered)) P past.drains all

pub drains_once : (past : Past) → AreDrained past → AreDistinct (map (λ d. d.command) (drains_of past))
drains_once past drained = distinct_map_filter (λ (d : Drain). d.command) (λ d. not (is_in d.function past.answered)) past.drains drained.once

-- it is of none that is not finished
pub drains_apart : (past : Past) (k : ℕ) → AreDrained past → is_in k (unfinished past) ≡ true → All (λ d. d.command ≢ k) past.drains
unfolding unfinished
drains_apart past k drained there = grind (arith, not_gone)

pub drain_functions_below : (past : Past) → AreDrained past → Below past past.finished → All (λ d. d.function < length past.came) past.drains
drain_functions_below past drained below = λ i d lt. below_of (length past.came) _ past.finished below (drained.acted i d lt)

pub drain_commands_below : (past : Past) → AreDrained past → Below past past.removed → All (λ d. d.command < length past.came) past.drains
drain_commands_below past drained below = λ i d lt. below_of (length past.came) _ past.removed below (drained.removed i d lt)

-- ---- it stays so

-- where a request comes
pub drained_joined : (past : Past) (x : Request) → AreDrained past → Below past past.finished → AreDrained (joined x past)
drained_joined past x drained below = grind (arith, request_before, drain_functions_below)

-- where more is removed, or finished
pub drained_removing : (past : Past) (gone : List ℕ) → AreDrained past → AreDrained (removing gone past)
drained_removing past gone drained = grind (arith, in_front)

pub drained_acted : (past : Past) (acted : List ℕ) → AreDrained past → AreDrained (record past { acted = acted })
drained_acted past acted drained = grind arith

pub drained_finished : (past : Past) (acted : List ℕ) (k : ℕ) → AreDrained past → AreDrained (finished k (record past { acted = acted }))
drained_finished past acted k drained = grind (arith, in_front)

-- ---- the SCSI Commands

-- ---- which they are

pub unfinished_came : (past : Past) (k : ℕ) → is_in k (unfinished past) ≡ true → k < length past.came
unfolding unfinished
unfinished_came past k e = all_came is_command past k (kept_in is_command past k e)

pub unfinished_distinct : (past : Past) → AreDistinct (unfinished past)
unfolding unfinished
unfinished_distinct past = kept_distinct is_command past

pub unfinished_joined : (c : Bool) (past : Past) (x : Request) → is_command x.frame ≡ c → Below past past.finished → Below past past.removed
    → unfinished (joined x past) ≡ unfinished past ++ cond c (length past.came ∷ []) []
unfolding unfinished
unfinished_joined c past x e below gone = kept_joined c is_command past x e below gone

pub unfinished_without : (past : Past) (k : ℕ) → unfinished (finished k past) ≡ left (k ∷ []) (unfinished past)
unfolding unfinished
unfinished_without past k = kept_without is_command past k

-- each of them is a SCSI Command
pub unfinished_command : (past : Past) (k : ℕ) → is_in k (unfinished past) ≡ true → is_command (frame_of past.came k) ≡ true
unfolding unfinished
unfinished_command past k e = all_of_kind is_command past k (kept_in is_command past k e)

-- every other request is finished, and they are the same
pub unfinished_other : (past : Past) (k : ℕ) → is_command (frame_of past.came k) ≡ false → unfinished (finished k past) ≡ unfinished past
unfolding unfinished
unfinished_other past k e = kept_other is_command past k e

-- ---- their data, where a request comes

abbrev with_frame : Past → ℕ → Frame → Transfer
with_frame past k frame = record {
  header = frame.header;
  task = task_of (record { values = past.params.values; command = frame; outs = outs_of past k; tags = tags_of past k });
}

pub transfer_joined : (past : Past) (x : Request) (k : ℕ) → k < length past.came → transfer_of (joined x past) k ≡ transfer_of past k
unfolding task_at outs_of tags_of
transfer_joined past x k lt = ap (λ (r : Request). with_frame past k r.frame) (request_before past.came x k lt)

nothing_yet : (past : Past) (frame : Frame) → All (λ d. d.command < length past.came) past.data_outs → All (λ r. r.command < length past.came) past.r2ts
    → with_frame past (length past.came) frame ≡ begun_transfer frame.header (task_of (begun past.params.values frame))
unfolding outs_of tags_of
nothing_yet past frame fed asked = rw (
  none_named (λ d. d.command) past.data_outs (length past.came) fed,
  none_named (λ r. r.command) past.r2ts (length past.came) asked,
) refl

transfer_new : (past : Past) (x : Request) → All (λ d. d.command < length past.came) past.data_outs → All (λ r. r.command < length past.came) past.r2ts
    → transfer_of (joined x past) (length past.came) ≡ begun_transfer x.frame.header (task_of (begun past.params.values x.frame))
unfolding task_at outs_of tags_of
transfer_new past x fed asked = ap (λ (r : Request). with_frame past (length past.came) r.frame) (request_new past.came x) ∙ nothing_yet past x.frame fed asked

transfers_before : (past : Past) (x : Request) → map (transfer_of (joined x past)) (unfinished past) ≡ map (transfer_of past) (unfinished past)
transfers_before past x = map_cong _ _ (unfinished past) (λ i d lt. transfer_joined past x _ (unfinished_came past _ (in_at (unfinished past) i d lt)))

abbrev pub drained_with : List ℕ → Transfer → Drained
drained_with header transfer = record { function = header; transfer = blanked transfer }

drained_before : (past : Past) (x : Request) → AreDrained past → Below past past.finished → Below past past.removed
    → map (drained_of (joined x past)) (drains_of past) ≡ map (drained_of past) (drains_of past)
drained_before past x drained below gone = map_cong _ _ (drains_of past) (drains_all (λ d. drained_of (joined x past) d ≡ drained_of past d) past
    (λ i d lt. each _ (drain_functions_below past drained below i d lt) (drain_commands_below past drained gone i d lt)))
  where
    each : (d : Drain) → d.function < length past.came → d.command < length past.came → drained_of (joined x past) d ≡ drained_of past d
    each d f c = grind (arith, joined, request_before, transfer_joined)

list_joined : (c : Bool) (past : Past) (x : Request) → is_command x.frame ≡ c → Below past past.finished → Below past past.removed
    → All (λ d. d.command < length past.came) past.data_outs → All (λ r. r.command < length past.came) past.r2ts
    → map (transfer_of (joined x past)) (unfinished (joined x past)) ≡ map (transfer_of past) (unfinished past)
    ++ cond c (begun_transfer x.frame.header (task_of (begun past.params.values x.frame)) ∷ []) []
list_joined true past x e below gone fed asked = grind (arith, joined, unfinished_joined, map-append, transfers_before, transfer_new)
list_joined false past x e below gone fed asked = grind (arith, joined, unfinished_joined, append-nil, transfers_before)

pub transfers_joined : (c : Bool) (past : Past) (x : Request) → is_command x.frame ≡ c → Below past past.finished → Below past past.removed
    → All (λ d. d.command < length past.came) past.data_outs → All (λ r. r.command < length past.came) past.r2ts → AreDrained past
    → transfers_of (joined x past) ≡ record (transfers_of past)
    { list = (transfers_of past).list ++ cond c (begun_transfer x.frame.header (task_of (begun past.params.values x.frame)) ∷ []) [] }
unfolding transfers_of
transfers_joined c past x e below gone fed asked drained = grind (arith, list_joined, drained_before)

-- their tags, where a request comes whose tag is not among them
pub tags_joined : (c : Bool) (past : Past) (x : Request) → is_command x.frame ≡ c → Below past past.finished → Below past past.removed
    → AreDistinct (map (tag_of past.came) (unfinished past))
    → (c ≡ true → is_in (initiator_task_tag x.frame.header) (map (tag_of past.came) (unfinished past)) ≡ false)
    → AreDistinct (map (tag_of (past.came ++ x ∷ [])) (unfinished (joined x past)))
tags_joined c past x e below gone distinct fresh =
    subst (λ (l : List ℕ). AreDistinct (map (tag_of (past.came ++ x ∷ [])) l)) (sym (unfinished_joined c past x e below gone))
    (tags_with c past x (unfinished past) (λ i d lt. unfinished_came past _ (in_at (unfinished past) i d lt)) distinct fresh)

-- ---- the queue

-- what stands in the queue is not finished
pub queue_unfinished : (past : Past) (k : ℕ) → Below past past.acted → is_in k (queue past) ≡ true → is_in k (unfinished past) ≡ true
unfolding queue unfinished
queue_unfinished past k below e =
    let line = left past.finished (commands past.came past.acted) in
    let there = in_left k past.removed line e in
    let in_commands = in_left k past.finished (commands past.came past.acted) there in
    let is = passes_in k (λ a. is_command (frame_of past.came a)) past.acted in_commands in
    let lt = below_of (length past.came) k past.acted below (in_filter k (λ a. is_command (frame_of past.came a)) past.acted in_commands) in
    let all = in_filter_back k (λ a. is_command (frame_of past.came a)) (range_with_len 0 (length past.came)) (in_range k 0 (length past.came) (omega arith)
    (omega arith)) is in
    in_left_back k past.removed _
    (in_left_back k past.finished _ all (not_gone k past.finished (commands past.came past.acted) there)) (not_gone k past.removed line e)
