-- How many requests a session holds, as they come and go: each step keeps its past within limits, and adds little.
use Rattle.std.proofs.Common.{◌≡◌, ℕ, zero, suc, ◌+◌, ◌≤◌, List, [], ◌∷◌, ◌++◌, length, map, get_or, Bool, true, false, ◌||◌, ◌==◌, refl, sym, ap, ◌∙◌, arith, append-nil, ◌&&◌, cond}
use Rattle.std.specs.Prelude.{All, filter, is_some}
use Rattle.std.specs.List.{prefix_len}
use Rattle.std.proofs.lemmas.Bool.{false_from_ne_true}
use Rattle.std.proofs.lemmas.List.{length-map, length-append}
use Rattle.std.proofs.lemmas.List.Elements.{All-head, All-tail, filter-append}
use Rattle.iscsi_pdu.specs.Frames.{Frame}
use Rattle.iscsi_order.specs.Window.{taken as taken_numbers}
use Rattle.iscsi_requests.specs.Requests.{Request, Past, Drain, is_command, is_function, is_in, left, frame_of, held, due, queue, pending as awaiting, functions, moved, finished, removing, numbers, unfinished, accepted, number_for}
use Rattle.iscsi_requests.specs.Transfers.{drains_of}
use Rattle.iscsi_requests.specs.Functions.{told, immediate_in}
use Rattle.iscsi_requests.specs.State.{TaskLists, AreDistinct, IsLawful, remembered, drained_of, tasks_of, transfers_of, functions_of, bare, holding, takes_next, takes, takes_all}
use Rattle.iscsi_session.specs.Weight.{pending, waits_for, waiting_functions, open_requests}
use Rattle.iscsi_requests.proofs.Left.{filter_cong, left_append, left_more, left_swap, in_at, in_left}
use Rattle.iscsi_session.proofs.Kept.{joined, Below, of_kind, kept_of, kept_joined, below_kept, kind_same, functions_without, functions_joined, functions_distinct, command_not_pending, settled, settled_below}
use Rattle.iscsi_session.proofs.Accepted.{finished_below, removed_below, now, with, admitted, held_now}
use Rattle.iscsi_session.proofs.Moved.{not_pending, is_done}
use Rattle.iscsi_session.proofs.Removing.{filter_map_names}
use Rattle.iscsi_session.proofs.Telling.{none_of, once_in, open_tag, pending_came, pending_open, pending_named, drains_pending, functions_told}
use Rattle.iscsi_session.proofs.Weights.{held_length, held_measure}
use Rattle.iscsi_session.proofs.Lawful.{due_in_order, done_in_order, accepted_by}
use Rattle.iscsi_session.proofs.Over.{due_as}
use Rattle.iscsi_pdu.specs.Header.{is_immediate, cmd_sn}
use Rattle.iscsi_order.specs.Window as order
use Rattle.iscsi_order.specs.Serial.{distance}
use Rattle.iscsi_session.proofs.Taken.{request_new}
use Rattle.iscsi_session.proofs.Parts.{fresh_is, accepted_now, accepted_with}
use Rattle.iscsi_session.proofs.Verdicts.{IsFree}
use Rattle.iscsi_session.proofs.Ending.{new_ahead}

-- ---- what the code does to its lists

takes_queue : (n : ℕ) (tasks : TaskLists) → (takes n tasks).queue ≡ tasks.queue
takes_queue zero tasks = refl
takes_queue (suc n) tasks = takes_queue n (takes_next tasks)

pub pending_held : (n : ℕ) (frame : Frame) (tasks : TaskLists) → pending (takes_all (holding n frame tasks)) ≤ pending tasks + 1
pending_held n frame tasks =
    omega (
      arith,
      held_measure (λ (l : List Frame). length l) (λ a b. length-append a b) n frame tasks,
      ap (λ (l : List Frame). length l) (takes_queue (prefix_len (λ o. is_some o) (holding n frame tasks).held) (holding n frame tasks)),
    )

pub filter_fewer : {A : Type 0} (q : A → Bool) (l : List A) → length (filter q l) ≤ length l
filter_fewer q [] = omega arith
filter_fewer q (x ∷ l) = grind (arith, filter_fewer q l)

-- ---- what the past has of it

abbrev pub listed_in : Past → ℕ
listed_in past = length (held past) + length (due past) + length (queue past)

pub listed_is : (past : Past) → pending (tasks_of past) ≡ listed_in past
unfolding tasks_of
listed_is past = grind (arith, held_length, length-map)

-- the same requests came, so the same are held
held_same : (past : Past) (acted finished removed : List ℕ) → held (record past { acted = acted; finished = finished; removed = removed }) ≡ held past
unfolding held taken_numbers
held_same past acted finished removed = refl

left_fewer : (gone names : List ℕ) → length (left gone names) ≤ length names
unfolding left
left_fewer gone names = filter_fewer _ names

queue_acted : (past : Past) (k : ℕ) → length (queue (record past { acted = past.acted ++ k ∷ [] })) ≤ length (queue past) + 1
unfolding queue
queue_acted past k = grind (arith, filter-append, left_append, length-append, left_fewer, filter_fewer)

queue_other : (past : Past) (k : ℕ) → is_command (frame_of past.came k) ≡ false
    → length (queue (record past { acted = past.acted ++ k ∷ []; finished = past.finished ++ k ∷ [] })) ≤ length (queue past)
unfolding queue
queue_other past k e = grind (arith, filter-append, append-nil, left_more, left_swap, left_fewer)

pub listed_other : (past : Past) (k : ℕ) (rest : List ℕ) → is_command (frame_of past.came k) ≡ false → IsLawful past → due past ≡ k ∷ rest
    → listed_in (moved k past) + 1 ≤ listed_in past
listed_other past k rest e lawful is = grind (arith, held_same, due_in_order, queue_other)

pub listed_removing : (past : Past) (names : List ℕ) → listed_in (removing names past) ≤ listed_in past
unfolding queue due
listed_removing past names = grind (arith, held_same, left_more, left_fewer)

-- ---- the functions that wait for data

abbrev pub waits_in : Past → ℕ → Bool
waits_in past k = is_in k (awaiting past)

abbrev pub waiting_of : Past → ℕ
waiting_of past = length (filter (waits_in past) (functions past))

waits_by : (past : Past) → IsLawful past → (l : List Drain) (k : ℕ) → is_in k (functions past) ≡ true
    → All (λ d. is_in d.function (awaiting past) ≡ true) l
    → waits_for (map (drained_of past) l) (frame_of past.came k).header ≡ is_in k (map (λ d. d.function) l)
waits_by past lawful [] k there all = refl
waits_by past lawful (d ∷ l) k there all =
    let open_one = pending_open past lawful d.function (All-head (λ (x : Drain). is_in x.function (awaiting past) ≡ true) d l all) in
    grind (arith, waits_by past lawful l k there (All-tail (λ (x : Drain). is_in x.function (awaiting past) ≡ true) d l all), open_tag)

waiting_is : (past : Past) → IsLawful past → waiting_functions (remembered past) ≡ waiting_of past
unfolding transfers_of functions_of
waiting_is past lawful =
    let header : ℕ → List ℕ = λ k. (frame_of past.came k).header in
    let p : List ℕ → Bool = waits_for (map (drained_of past) (drains_of past)) in
    ap (λ (l : List (List ℕ)). length l) (filter_map_names p header (functions past)) ∙ length-map (filter (λ k. p (header k)) (functions past)) header
    ∙ ap (λ (l : List ℕ). length l) (filter_cong (λ k. p (header k)) (waits_in past) (functions past) (λ i d lt.
    waits_by past lawful (drains_of past) (get_or (functions past) i d) (in_at (functions past) i d lt) (drains_pending past lawful)
    ∙ ap (is_in (get_or (functions past) i d)) (sym (pending_named past))))

pub filter_implied : (p q : ℕ → Bool) (l : List ℕ) → ((k : ℕ) → p k ≡ true → q k ≡ true) → length (filter p l) ≤ length (filter q l)
filter_implied p q [] implied = omega arith
filter_implied p q (k ∷ l) implied = grind (arith, filter_implied p q l implied)

pub fewer_still : (p q : ℕ → Bool) (names : List ℕ) → length (filter q (filter p names)) ≤ length (filter q names)
fewer_still p q [] = omega arith
fewer_still p q (k ∷ names) = grind (arith, fewer_still p q names)

pub left_few : (q : ℕ → Bool) (gone names : List ℕ) → length (filter q (left gone names)) ≤ length (filter q names)
unfolding left
left_few q gone names = fewer_still _ q names

-- some of the functions are over, and no other one waits
waiting_less : (past after : Past) (gone : List ℕ) → functions after ≡ left gone (functions past)
    → ((k : ℕ) → waits_in after k ≡ true → waits_in past k ≡ true) → waiting_of after ≤ waiting_of past
waiting_less past after gone is fewer = grind (arith, left_few, filter_implied (waits_in after) (waits_in past) (left gone (functions past)) fewer)

-- one more waits
filter_either : (p q : ℕ → Bool) (l : List ℕ) → length (filter (λ k. p k || q k) l) ≤ length (filter p l) + length (filter q l)
filter_either p q [] = omega arith
filter_either p q (k ∷ l) = grind (arith, filter_either p q l)

at_most_one : (k : ℕ) (names : List ℕ) → AreDistinct names → length (filter (λ j. j == k) names) ≤ 1
at_most_one k names distinct = grind (arith, once_in, none_of)

pub waiting_more : (past after : Past) (gone : List ℕ) (k : ℕ) → functions after ≡ left gone (functions past)
    → ((j : ℕ) → waits_in after j ≡ true → (waits_in past j || j == k) ≡ true) → waiting_of after ≤ waiting_of past + 1
waiting_more past after gone k is more =
    let q : ℕ → Bool = λ j. waits_in past j || j == k in
    omega (
      arith,
      ap (λ (l : List ℕ). length (filter (waits_in after) l)) is,
      left_few (waits_in after) gone (functions past),
      filter_implied (waits_in after) q (functions past) more,
      filter_either (waits_in past) (λ j. j == k) (functions past),
      at_most_one k (functions past) (functions_distinct past),
    )

waiting_acted : (past : Past) (k : ℕ) → waiting_of (record past { acted = past.acted ++ k ∷ [] }) ≡ waiting_of past
unfolding functions
waiting_acted past k = refl

waiting_finished : (past : Past) (acted : List ℕ) (k : ℕ) → is_in k (awaiting past) ≡ false
    → waiting_of (record past { acted = acted; finished = past.finished ++ k ∷ [] }) ≤ waiting_of past
unfolding functions
waiting_finished past acted k free =
    waiting_less past (record past { acted = acted; finished = past.finished ++ k ∷ [] }) (k ∷ []) (functions_without past k free) (λ j h. h)

pub functions_removing : (past : Past) (gone : List ℕ) → functions (removing gone past) ≡ left gone (functions past)
unfolding functions
functions_removing past gone = left_more past.removed gone _

-- one that has just come does not wait
pub waiting_joined : (past : Past) → IsLawful past → (x : Request) → waiting_of (joined x past) ≡ waiting_of past
waiting_joined past lawful x =
    ap (λ (l : List ℕ). length (filter (waits_in past) l)) (functions_joined _ past x refl (finished_below past lawful) (removed_below past lawful))
    ∙ ap (λ (l : List ℕ). length l) (filter-append (waits_in past) (functions past) (cond (is_function x.frame) (length past.came ∷ []) [])
    ∙ ap (λ (l : List ℕ). filter (waits_in past) (functions past) ++ l) (none (is_function x.frame)) ∙ append-nil (filter (waits_in past) (functions past)))
  where
    new : is_in (length past.came) (awaiting past) ≡ false
    new = false_from_ne_true _ (λ h. let lt = pending_came past lawful (length past.came) h in absurd (omega arith))

    none : (f : Bool) → filter (waits_in past) (cond f (length past.came ∷ []) []) ≡ []
    none true = rw new refl
    none false = refl

pub waiting_told : (past : Past) (k : ℕ) → IsLawful past → is_in k (awaiting past) ≡ true → waiting_of (told k past) ≤ waiting_of past
waiting_told past k lawful waits = grind (arith, waiting_less, functions_told, in_left, left_more)

-- ---- all of them

abbrev pub pending_in : Past → ℕ
pending_in past = listed_in past + waiting_of past

pub pending_is : (past : Past) → IsLawful past → open_requests (remembered past) ≡ pending_in past
pending_is past lawful = omega (arith, listed_is past, waiting_is past lawful)

-- one that acts is due no longer: a SCSI Command may join the queue
pub pending_command : (past : Past) (k : ℕ) (rest : List ℕ) → is_command (frame_of past.came k) ≡ true → IsLawful past → due past ≡ k ∷ rest
    → pending_in (moved k past) ≤ pending_in past
pending_command past k rest e lawful is = grind (arith, held_same, due_in_order, queue_acted, waiting_acted)

-- and every other request is finished
pub pending_other : (past : Past) (k : ℕ) (rest : List ℕ) → is_command (frame_of past.came k) ≡ false → IsLawful past → due past ≡ k ∷ rest
    → pending_in (moved k past) + 1 ≤ pending_in past
pending_other past k rest e lawful is = grind (arith, listed_other, waiting_finished, not_pending past lawful k rest is)

-- one of the queue is finished
pub pending_finished : (past : Past) (k : ℕ) (rest : List ℕ) → IsLawful past → queue past ≡ k ∷ rest → pending_in (finished k past) + 1 ≤ pending_in past
pending_finished past k rest lawful is =
    grind (arith, held_same, due_as past (finished k past) refl refl, done_in_order, waiting_finished past past.acted k, command_not_pending, is_done)

-- some are removed
pub pending_removing : (past : Past) (names : List ℕ) → pending_in (removing names past) ≤ pending_in past
pending_removing past names =
    omega (arith, listed_removing past names, waiting_less past (removing names past) names (functions_removing past names) (λ j h. h))

-- ---- the requests for immediate delivery that are not finished

abbrev pub immediate_of : Past → ℕ
immediate_of past = immediate_in past (unfinished past) + immediate_in past (functions past)

-- some are over, and the same came
pub immediate_less : (past after : Past) (gone : List ℕ) → after.came ≡ past.came → unfinished after ≡ left gone (unfinished past)
    → functions after ≡ left gone (functions past) → immediate_of after ≤ immediate_of past
immediate_less past after gone came a b = grind (arith, left_few)

-- one more came
one_more : (c i : Bool) (kind : Frame → Bool) (past : Past) (x : Request) → kind x.frame ≡ c → is_immediate x.frame.header ≡ i
    → Below past past.finished → Below past past.removed
    → length (of_kind (λ f. is_immediate f.header) (past.came ++ x ∷ []) (kept_of kind (joined x past)))
    ≡ length (of_kind (λ f. is_immediate f.header) past.came (kept_of kind past)) + cond (c && i) 1 0
one_more c i kind past x e h below gone = grind (arith, of_kind, kept_of, joined, kept_joined, filter-append, kind_same, below_kept, length-append, request_new)

pub immediate_joined : (c f i : Bool) (past : Past) (x : Request) → IsLawful past → is_command x.frame ≡ c → is_function x.frame ≡ f
    → is_immediate x.frame.header ≡ i → immediate_of (joined x past) ≡ immediate_of past + (cond (c && i) 1 0 + cond (f && i) 1 0)
unfolding unfinished functions
immediate_joined c f i past x lawful a b h =
    omega (
      arith,
      one_more c i is_command past x a h (finished_below past lawful) (removed_below past lawful),
      one_more f i is_function (settled past) x b h (settled_below past (finished_below past lawful)) (removed_below past lawful),
    )

-- ---- a request is accepted

next_there : (past : Past) (n : ℕ) → distance (order.exp_cmd_sn (numbers past)) n ≡ distance (tasks_of past).next n
unfolding tasks_of taken_numbers
next_there past n = refl

pub record Comes (past after : Past) : Type 0 where
  pub lawful : IsLawful after
  pub pending : pending_in after ≤ pending_in past + 1
  pub immediate : immediate_of after ≤ 8

-- the lines have one more
listed_by : (b : Bool) (past : Past) (frame : Frame) → is_immediate frame.header ≡ b → IsFree past frame → IsLawful past
    → listed_in (accepted frame past) ≤ listed_in past + 1
listed_by true past frame h free lawful =
    omega (
      arith,
      ap listed_in (accepted_now past frame h),
      ap pending (admitted past lawful frame),
      length-append (tasks_of past).due (bare frame ∷ []),
      listed_is past,
      listed_is (joined (now frame) past),
    )
listed_by false past frame h free lawful =
    let n = cmd_sn frame.header in
    let k = order.index_of (numbers past) n in
    let at = new_ahead n past past refl refl lawful lawful (omega arith) (sym (fresh_is past frame h) ∙ free.fresh) in
    omega (
      arith,
      ap listed_in (accepted_with past frame h),
      ap pending (held_now past lawful k (distance (order.exp_cmd_sn (numbers past)) n) n frame at (next_there past n)),
      pending_held n (bare frame) (tasks_of past),
      listed_is past,
      listed_is (joined (with k frame) past),
    )

pub comes : (past : Past) (frame : Frame) → IsFree past frame → IsLawful past → immediate_of past ≤ 8 → Comes past (accepted frame past)
comes past frame free lawful few =
    let x : Request = record { number = number_for past frame; frame = frame } in
    record {
      lawful = accepted_by _ past frame refl free lawful;
      pending = omega (arith, listed_by _ past frame refl free lawful, waiting_joined past lawful x);
      immediate = by_kind _ _ _ refl refl refl (immediate_joined _ _ _ past x lawful refl refl refl);
    }
  where
    by_kind : (c f i : Bool) → is_command frame ≡ c → is_function frame ≡ f → is_immediate frame.header ≡ i
        → immediate_of (accepted frame past) ≡ immediate_of past + (cond (c && i) 1 0 + cond (f && i) 1 0) → immediate_of (accepted frame past) ≤ 8
    by_kind c f i a b h is = grind arith
