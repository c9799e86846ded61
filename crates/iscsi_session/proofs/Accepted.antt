-- One more request is accepted: what the session remembers, and that its past stays lawful.
use Rattle.std.proofs.Common.{◌≡◌, ◌≢◌, ℕ, zero, suc, ◌+◌, ◌-◌, ◌^◌, ◌%◌, ◌<◌, ◌≤◌, List, [], ◌∷◌, ◌++◌, length, map, get_or, set, true, false, not, cond, Option, Some, None, refl, sym, ap, subst, ◌∙◌, arith, length-append, append_assoc, add-one}
use mathlib.Core.List.{map-map}
use Rattle.std.specs.Prelude.{filter_map, is_some, All}
use Rattle.std.specs.List.{range_with_len, prefix_len}
use Rattle.std.proofs.lemmas.Bool.{ne_eqb, eq-eqb, false_from_ne_true}
use Rattle.std.proofs.lemmas.List.{append-nil, map-append}
use Rattle.std.proofs.lemmas.List.Elements.{filter-append, filter_map-append, All-push, All-append, All-filter}
use Rattle.std.proofs.lemmas.List.FromFn.{map-range_with_len_more}
use Rattle.iscsi_pdu.specs.Header.{is_immediate, initiator_task_tag}
use Rattle.iscsi_pdu.specs.Frames.{Frame}
use Rattle.iscsi_login.specs.declared.session_params.SessionParams.{SessionParams}
use Rattle.iscsi_order.specs.Window as order
use Rattle.iscsi_order.specs.Window.{window, taken as taken_numbers}
use Rattle.iscsi_order.specs.WindowState as windows
use Rattle.iscsi_order.specs.Serial.{distance}
use Rattle.iscsi_order.proofs.Front.{front, front_come, front_missing}
use Rattle.iscsi_order.proofs.Held.{prefix_range}
use Rattle.iscsi_order.proofs.Standing.{front_more, front_within, lawful_with as window_with}
use Rattle.iscsi_requests.specs.Requests.{Request, pending, unfinished, is_function, functions, Past, request_at, frame_of, is_in, left, is_command, commands, others, counted, over, numbered, place_of, taken, taken_at, numbers, due, queue, frames_of, begun}
use Rattle.iscsi_requests.specs.State.{TaskLists, functions_of, standing, bare, bare_frames, bared, frame_numbered, tasks_with, tasks_of, AreDistinct, IsDelivered, IsLawful, holding, takes_next, takes, takes_all}
use Rattle.iscsi_requests.proofs.Left.{filter_cong, map_cong, left_append, left_all, in_at, in_front, in_left, in_filter, not_by, below_of, apart_behind, distinct_push, prefix_marks}
use Rattle.iscsi_session.proofs.Kept.{joined, Below, tags_with, functions_below, functions_joined as functions_with, settled_below, drained_joined, tags_joined, kind_same}
use Rattle.iscsi_requests.specs.Transfers.{tag_of}
use Rattle.iscsi_session.proofs.Taken.{request_before, request_new, taken_more, taken_below, distinct_taken, first_of, taken_now, frame_missing, frame_marked, frame_other, frame_now, counted_places, frames_come}
use Rattle.iscsi_session.proofs.Standing.{numbered_standing, place_standing, length_standing, standing_joined}

-- ---- the past at its beginning

pub begun_lawful : (params : SessionParams) → IsLawful (begun params)
unfolding due queue left taken taken_numbers unfinished functions standing
begun_lawful params = grind arith

pub handed_is : (past : Past) → (numbers past).handed ≡ first_of past.came
unfolding taken_numbers
handed_is past = refl

pub handed_le : (past : Past) → (numbers past).handed ≤ length (taken_numbers (numbers past))
unfolding taken_numbers
handed_le past = omega arith

-- ---- one request more

abbrev pub now : Frame → Request
now frame = record { number = None; frame = frame }

abbrev pub with : ℕ → Frame → Request
with k frame = record { number = Some k; frame = frame }

-- the tag of a SCSI Command, or of a Task Management Function Request, is not live
pub record HasFreeTag (past : Past) (frame : Frame) : Type 0 where
  pub command : is_command frame ≡ true → is_in (initiator_task_tag frame.header) (map (tag_of past.came) (unfinished past)) ≡ false
  pub function : is_function frame ≡ true → is_in (initiator_task_tag frame.header) (map (tag_of past.came) (functions past)) ≡ false

pub frames_same : (came : List Request) (x : Request) (names : List ℕ) → All (λ k. k < length came) names
    → frames_of (came ++ x ∷ []) names ≡ frames_of came names
frames_same came x names below = map_cong _ _ names (λ i d lt. ap (λ (r : Request). r.frame) (request_before came x _ (below i d lt)))

bare_same : (came : List Request) (x : Request) (names : List ℕ) → All (λ k. k < length came) names
    → bare_frames (came ++ x ∷ []) names ≡ bare_frames came names
bare_same came x names below = map_cong _ _ names (λ i d lt. ap (λ (r : Request). bare r.frame) (request_before came x _ (below i d lt)))

others_same : (past : Past) (x : Request) (names : List ℕ) → Below past names → others (past.came ++ x ∷ []) names ≡ others past.came names
others_same past x names below = filter_cong _ _ names (λ i d lt. ap (λ (r : Request). not (is_command r.frame)) (request_before past.came x _ (below i d lt)))

counted_same : (past : Past) (x : Request) (names : List ℕ) → Below past names → counted (past.came ++ x ∷ []) names ≡ counted past.came names
counted_same past x names below = grind (arith, filter_cong, request_before)

pub counted_append : (came : List Request) (a b : List ℕ) → counted came (a ++ b) ≡ counted came a + counted came b
counted_append came a b = grind (arith, filter-append, length-append)

-- ---- a table of what is held, one of which is set

same_range : {A : Type 0} (f h : ℕ → A) (a n : ℕ) → ((j : ℕ) → a ≤ j → h j ≡ f j) → map f (range_with_len a n) ≡ map h (range_with_len a n)
same_range f h a zero same = refl
same_range f h a (suc n) same = rw (same a (omega arith), same_range f h (a + 1) n (λ j le. same j (omega arith))) refl

set_range : {A : Type 0} (f h : ℕ → A) (v : A) (a n i k : ℕ) → i < n → k ≡ a + i → h k ≡ v → ((j : ℕ) → j ≢ k → h j ≡ f j)
    → set (map f (range_with_len a n)) i v ≡ map h (range_with_len a n)
set_range f h v a zero i k lt at is same = absurd (omega arith)
set_range f h v a (suc n) zero k lt at is same = grind (arith, same_range)
set_range f h v a (suc n) (suc i) k lt at is same = grind (arith, set_range f h v (a + 1) n i k (omega arith) (omega arith) is same)

-- which of them have come
pub marks_are : (came : List Request) (a n : ℕ) → map is_some (map (frame_numbered came) (range_with_len a n)) ≡ map (order.has_come (numbered came))
    (range_with_len a n)
marks_are came a n = grind (arith, map-map, map_cong, frame_marked)

-- ---- numbers are taken

takes_one : (past : Past) (h : ℕ) (line : List Frame) → counted past.came (over past) ≤ h → order.has_come (numbered past.came) (h + window) ≡ false
    → takes_next (tasks_with past h line) ≡ tasks_with past (suc h) (line ++ filter_map (λ o. o) (frame_numbered (standing past) h ∷ []))
takes_one past h line few beyond =
    let next : ((past.params.first_cmd_sn + h) % 2 ^ 32 + 1) % 2 ^ 32 ≡ (past.params.first_cmd_sn + suc h) % 2 ^ 32 = omega arith in
    let more : h - counted past.came (over past) + 1 ≡ suc h - counted past.came (over past) = omega arith in
    let turned : map (frame_numbered (standing past)) (range_with_len (h + 1) 31) ++ None ∷ []
    ≡ map (frame_numbered (standing past)) (range_with_len (suc h) window) =
    ap (λ (o : Option Frame). map (frame_numbered (standing past)) (range_with_len (h + 1) 31) ++ o ∷ [])
    (sym (frame_missing (standing past) (h + window) (ap (λ (l : List ℕ). order.has_come l (h + window)) (numbered_standing past) ∙ beyond)))
    ∙ sym (map-range_with_len_more (frame_numbered (standing past)) (h + 1) 31 (h + window) (omega arith))
    ∙ ap (λ (k : ℕ). map (frame_numbered (standing past)) (range_with_len k window)) (add-one h) in
    rw (next, more, turned) refl

pub takes_many : (past : Past) (d h : ℕ) (line : List Frame) → counted past.came (over past) ≤ h
    → ((k : ℕ) → h ≤ k → order.has_come (numbered past.came) (k + window) ≡ false)
    → takes d (tasks_with past h line) ≡ tasks_with past (h + d) (line ++ filter_map (λ o. o) (map (frame_numbered (standing past)) (range_with_len h d)))
takes_many past zero h line few beyond = grind (arith, append-nil)
takes_many past (suc d) h line few beyond =
    let more = line ++ filter_map (λ o. o) (frame_numbered (standing past) h ∷ []) in
    let at : suc h + d ≡ h + suc d = omega arith in
    let frames : more ++ filter_map (λ o. o) (map (frame_numbered (standing past)) (range_with_len (suc h) d)) ≡ line ++ filter_map (λ o. o)
    (map (frame_numbered (standing past)) (range_with_len h (suc d))) =
    append_assoc line (filter_map (λ o. o) (frame_numbered (standing past) h ∷ []))
    (filter_map (λ o. o) (map (frame_numbered (standing past)) (range_with_len (suc h) d)))
    ∙ ap (λ (l : List Frame). line ++ l)
    (sym (filter_map-append (λ (o : Option Frame). o) (frame_numbered (standing past) h ∷ []) (map (frame_numbered (standing past)) (range_with_len (suc h) d)))
    ∙ ap (λ (k : ℕ). filter_map (λ (o : Option Frame). o) (frame_numbered (standing past) h ∷ map (frame_numbered (standing past)) (range_with_len k d)))
    (sym (add-one h))) in
    ap (takes d) (takes_one past h line few (beyond h (omega arith)))
    ∙ takes_many past d (suc h) more (omega arith) (λ k le. beyond k (omega arith))
    ∙ ap (λ (l : List Frame). tasks_with past (suc h + d) l) frames
    ∙ ap (λ (n : ℕ). tasks_with past n (line ++ filter_map (λ o. o) (map (frame_numbered (standing past)) (range_with_len h (suc d))))) at

module _ (past : Past) (lawful : IsLawful past) where
  pub finished_below : Below past past.finished
  finished_below = λ i d lt. below_of (length past.came) _ past.acted lawful.below (lawful.acted i d lt)

  pub removed_below : Below past past.removed
  removed_below = lawful.removed_below

  over_below : Below past (over past)
  over_below = All-append (λ k. k < length past.came) (left (pending past) past.finished) _ (settled_below past finished_below)
      (All-filter (λ k. is_in k past.removed) (λ k. k < length past.came) past.acted lawful.below)

  pub due_is : due past ≡ left past.acted (taken past.came)
  unfolding due
  due_is = refl

  pub queue_is : queue past ≡ left past.removed (left past.finished (commands past.came past.acted))
  unfolding queue
  queue_is = refl

  pub acted_taken : (k : ℕ) → is_in k past.acted ≡ true → is_in k (taken past.came) ≡ true
  acted_taken k e = ap (λ (l : List ℕ). is_in k l) lawful.in_order ∙ in_front k past.acted (due past) e

  -- what it takes is due after what was due
  pub due_more : (x : Request) → due (joined x past) ≡ due past ++ taken_at (past.came ++ x ∷ []) (length past.came)
  unfolding due
  due_more x =
      let new = taken_at (past.came ++ x ∷ []) (length past.came) in
      let distinct : AreDistinct (taken past.came ++ new) = subst AreDistinct (taken_more past.came x) (distinct_taken (past.came ++ x ∷ [])) in
      let fresh : All (λ k. is_in k past.acted ≡ false) new =
      λ i d lt. not_by _ past.acted (taken past.came) (acted_taken _) (apart_behind _ (taken past.came) new distinct (in_at new i d lt)) in
      ap (left past.acted) (taken_more past.came x) ∙ left_append past.acted (taken past.came) new
      ∙ ap (λ (l : List ℕ). l ++ left past.acted new) (sym due_is) ∙ ap (λ (l : List ℕ). due past ++ l) (left_all past.acted new fresh)

  pub queue_same : (x : Request) → queue (joined x past) ≡ queue past
  unfolding queue
  queue_same x = ap (λ (l : List ℕ). left past.removed (left past.finished l)) (kind_same is_command past x past.acted lawful.below)

  pub in_queue : (k : ℕ) → is_in k (queue past) ≡ true → is_in k past.acted ≡ true
  in_queue k e = grind (arith, in_left, queue_is, in_filter)

  queue_below : Below past (queue past)
  queue_below = λ i d lt. below_of (length past.came) _ past.acted lawful.below (in_queue _ (in_at (queue past) i d lt))

  due_below : Below past (due past)
  due_below = λ i d lt. below_of (length past.came) _ (taken past.came) (taken_below past.came)
      (in_left _ past.acted (taken past.came) (ap (λ (l : List ℕ). is_in (get_or (due past) i d) l) (sym due_is) ∙ in_at (due past) i d lt))

  functions_joined : (x : Request) → functions (joined x past) ≡ functions past ++ cond (is_function x.frame) (length past.came ∷ []) []
  functions_joined x = functions_with _ past x refl finished_below removed_below

  function_tags_joined : (x : Request) → HasFreeTag past x.frame → AreDistinct (map (tag_of (past.came ++ x ∷ [])) (functions (joined x past)))
  function_tags_joined x free = grind (arith, functions_joined, tags_with, functions_below)

  -- what is remembered of them
  pub functions_of_joined : (x : Request) → functions_of (joined x past) ≡ functions_of past ++ cond (is_function x.frame) (x.frame.header ∷ []) []
  unfolding functions_of
  functions_of_joined x = grind (arith, functions_joined, map-append, map_cong, request_before, functions_below, request_new)

  -- ---- it stays lawful

  lawful_joined : (x : Request) → windows.IsLawful (numbers (joined x past)) → AreDistinct (numbered (past.came ++ x ∷ [])) → IsDelivered x
      → HasFreeTag past x.frame
      → counted (past.came ++ x ∷ []) (taken_at (past.came ++ x ∷ []) (length past.came)) + first_of past.came ≡ first_of (past.came ++ x ∷ [])
      → IsLawful (joined x past)
  lawful_joined x window distinct delivered free more =
      let came = past.came ++ x ∷ [] in
      let new = taken_at came (length past.came) in
      record {
        window = window;
        distinct = distinct;
        delivered = All-push IsDelivered past.came x lawful.delivered delivered;
        in_order = grind (arith, taken_more, append_assoc, due_more);
        below = λ i d lt. (let le = lawful.below i d lt in omega (arith, length-append past.came (x ∷ [])));
        acted = lawful.acted;
        queued = rw (kind_same is_command past x past.finished finished_below, queue_same x, kind_same is_command past x past.acted lawful.below) lawful.queued;
        at_once = rw (others_same past x past.finished finished_below, others_same past x past.acted lawful.below) lawful.at_once;
        handed = ap (counted came) (taken_more past.came x) ∙ counted_append came (taken past.came) new
            ∙ (let same = counted_same past x (taken past.came) (taken_below past.came)
            in omega (arith, same, lawful.handed, handed_is past, handed_is (joined x past), more));
        fed = λ i d lt. (let le = lawful.fed i d lt in omega (arith, length-append past.came (x ∷ [])));
        asked = λ i d lt. (let le = lawful.asked i d lt in omega (arith, length-append past.came (x ∷ [])));
        tags = tags_joined (is_command x.frame) past x refl finished_below removed_below lawful.tags free.command;
        function_tags = function_tags_joined x free;
        removed_below = λ i d lt. (let le = lawful.removed_below i d lt in omega (arith, length-append past.came (x ∷ [])));
        removed_commands = grind (arith, request_before);
        apart = lawful.apart;
        drained = drained_joined past x lawful.drained finished_below;
      }

  -- ---- what is remembered, where so many numbers are taken

  -- the numbers and the queue are the same
  same_tasks : (x : Request) (handed : ℕ) (line : List Frame)
      → tasks_with past handed line
      ≡ record (tasks_with (joined x past) handed line) { held = map (frame_numbered (standing past)) (range_with_len handed window) }
  same_tasks x handed line = grind (arith, counted_same, over_below, joined, queue_same, bare_same, queue_below)

  -- ---- as they stand

  standing_with : (x : Request) → standing (joined x past) ≡ standing past ++ bared x ∷ []
  standing_with x = standing_joined past x lawful.removed_below

  standing_new : (x : Request) → request_at (standing past ++ x ∷ []) (length past.came) ≡ x
  standing_new x = ap (request_at (standing past ++ x ∷ [])) (sym (length_standing past)) ∙ request_new (standing past) x

  due_stands : All (λ k. k < length (standing past)) (due past)
  due_stands = subst (λ (n : ℕ). All (λ k. k < n) (due past)) (sym (length_standing past)) due_below

  -- ---- one for immediate delivery

  numbered_now : (frame : Frame) → numbered (past.came ++ now frame ∷ []) ≡ numbered past.came
  numbered_now frame = filter_map-append (λ (r : Request). r.number) past.came (now frame ∷ []) ∙ append-nil (numbered past.came)

  first_now : (frame : Frame) → first_of (past.came ++ now frame ∷ []) ≡ first_of past.came
  first_now frame = ap front (numbered_now frame)

  taken_just : (frame : Frame) → taken_at (past.came ++ now frame ∷ []) (length past.came) ≡ length past.came ∷ []
  taken_just frame = grind (arith, first_now, first_of, taken_now)

  numbers_now : (frame : Frame) → numbers (joined (now frame) past) ≡ numbers past
  unfolding taken_numbers
  numbers_now frame = rw (numbered_now frame, counted_same past (now frame) (over past) over_below) refl

  pub lawful_now : (frame : Frame) → is_immediate frame.header ≡ true → HasFreeTag past frame → IsLawful (joined (now frame) past)
  lawful_now frame h free =
      lawful_joined (now frame) (subst windows.IsLawful (sym (numbers_now frame)) lawful.window)
      (subst AreDistinct (sym (numbered_now frame)) lawful.distinct) (rw h refl) free
      (let none : counted (past.came ++ now frame ∷ []) (taken_at (past.came ++ now frame ∷ []) (length past.came)) ≡ 0 =
      ap (counted (past.came ++ now frame ∷ [])) (taken_just frame) ∙ rw (request_new past.came (now frame)) refl in let e = first_now frame in omega arith)

  pub admitted : (frame : Frame) → record (tasks_of past) { due = (tasks_of past).due ++ bare frame ∷ [] } ≡ tasks_of (joined (now frame) past)
  unfolding tasks_of
  admitted frame =
      let x = now frame in
      let kept = bared x in
      let st = standing past in
      let stands = standing (joined x past) in
      let line = frames_of st (due past) in
      let handed : (numbers past).handed ≡ (numbers (joined x past)).handed = ap (λ (p : order.Past). p.handed) (sym (numbers_now frame)) in
      let dues : line ++ kept.frame ∷ [] ≡ frames_of stands (due (joined x past)) =
      grind (arith, frames_same, due_stands, standing_new, map-append, due_more, taken_just, joined, standing_with) in
      let held : map (frame_numbered st) (range_with_len (numbers past).handed window) ≡ map (frame_numbered stands)
      (range_with_len (numbers past).handed window) =
      map_cong (frame_numbered st) (frame_numbered (st ++ kept ∷ [])) (range_with_len (numbers past).handed window)
      (λ i d lt. sym (frame_other st kept (get_or (range_with_len (numbers past).handed window) i d) refl))
      ∙ ap (λ (l : List Request). map (frame_numbered l) (range_with_len (numbers past).handed window)) (sym (standing_with x)) in
      ap (λ (t : TaskLists). record t { due = line ++ kept.frame ∷ [] }) (same_tasks x (numbers past).handed line)
      ∙ ap (λ (l : List (Option Frame)). record (tasks_with (joined x past) (numbers past).handed (line ++ kept.frame ∷ [])) { held = l }) held
      ∙ ap (λ (l : List Frame). tasks_with (joined x past) (numbers past).handed l) dues
      ∙ ap (λ (n : ℕ). tasks_with (joined x past) n (frames_of stands (due (joined x past)))) handed

  -- ---- one with a number

  -- the number of so many ahead of those taken, which has not come
  pub record IsAhead (k ahead : ℕ) : Type 0 where
    pub number : k ≡ (numbers past).handed + ahead
    pub near : ahead + ((numbers past).handed - (numbers past).finished) < window
    pub missing : order.has_come (numbered past.came) k ≡ false

  numbered_with : (k : ℕ) (frame : Frame) → numbered (past.came ++ with k frame ∷ []) ≡ numbered past.came ++ k ∷ []
  numbered_with k frame = filter_map-append (λ (r : Request). r.number) past.came (with k frame ∷ [])

  first_with : (k : ℕ) (frame : Frame) → first_of past.came ≤ first_of (past.came ++ with k frame ∷ [])
  first_with k frame = omega (arith, ap front (numbered_with k frame), front_more (numbered past.came) k)

  window_lawful : (k ahead : ℕ) (frame : Frame) → IsAhead k ahead → windows.IsLawful (numbers (joined (with k frame) past))
  window_lawful k ahead frame at =
      grind (
        arith,
        window_with (numbers past) ahead lawful.window at.near,
        first_with k frame,
        handed_is past,
        handed_is (joined (with k frame) past),
        counted_same past (with k frame) (over past) over_below,
        handed_le (joined (with k frame) past),
        numbered_with,
      )

  pub lawful_with : (k ahead : ℕ) (frame : Frame) → is_immediate frame.header ≡ false → IsAhead k ahead → HasFreeTag past frame
      → IsLawful (joined (with k frame) past)
  lawful_with k ahead frame h at free =
      let came = past.came ++ with k frame ∷ [] in
      let more = first_with k frame in
      let d = first_of came - first_of past.came in
      let each = counted_places came (first_of past.came) d (λ j le lt. front_come (numbered came) j (omega arith)) in
      let new : counted came (taken_at came (length past.came)) ≡ d = ap (counted came) (taken_now past.came (with k frame) more) ∙ each in
      lawful_joined (with k frame) (window_lawful k ahead frame at)
      (subst AreDistinct (sym (numbered_with k frame)) (distinct_push (numbered past.came) k lawful.distinct at.missing)) (rw h refl) free (omega arith)

  pub held_now : (k ahead n : ℕ) (frame : Frame) → IsAhead k ahead → ahead ≡ distance (tasks_of past).next n
      → takes_all (holding n (bare frame) (tasks_of past)) ≡ tasks_of (joined (with k frame) past)
  unfolding tasks_of taken_numbers
  held_now k ahead n frame at place =
      let x = with k frame in
      let came = past.came ++ x ∷ [] in
      let kept = bared x in
      let st = standing past in
      let stands = st ++ kept ∷ [] in
      let f = (numbers past).handed in
      let g = (numbers (joined x past)).handed in
      let line = frames_of st (due past) in
      let more = first_with k frame in
      let e = handed_is past in
      let after = window_lawful k ahead frame at in
      let same = counted_same past x (over past) over_below in
      let numbers_same : numbered stands ≡ numbered came = ap numbered (sym (standing_with x)) ∙ numbered_standing (joined x past) in
      let all : (j : ℕ) → f ≤ j → j < g → order.has_come (numbered came) j ≡ true = λ j le lt. front_come (numbered came) j (omega arith) in
      let beyond : (j : ℕ) → f ≤ j → order.has_come (numbered came) (j + window) ≡ false = grind (arith, false_from_ne_true) in
      let none : frame_numbered st k ≡ None = frame_missing st k (ap (λ (l : List ℕ). order.has_come l k) (numbered_standing past) ∙ at.missing) in
      let held : set (map (frame_numbered st) (range_with_len f window)) ahead (Some kept.frame) ≡ map (frame_numbered stands) (range_with_len f window) =
      set_range (frame_numbered st) (frame_numbered stands) (Some kept.frame) f window ahead k (let near = at.near in omega arith) at.number
      (frame_now st kept k (eq-eqb k k refl) none) (λ j ne. frame_other st kept j (ne_eqb k j (λ e. absurd (ne (sym e))))) in
      let held_there : set (map (frame_numbered st) (range_with_len f window)) ahead (Some kept.frame)
      ≡ map (frame_numbered (standing (joined x past))) (range_with_len f window) =
      held ∙ ap (λ (l : List Request). map (frame_numbered l) (range_with_len f window)) (sym (standing_with x)) in
      let start : holding n kept.frame (tasks_with past f line) ≡ tasks_with (joined x past) f line =
      ap (λ (i : ℕ). record (tasks_with past f line) { held = set (map (frame_numbered st) (range_with_len f window)) i (Some kept.frame) }) (sym place)
      ∙ ap (λ (t : TaskLists). record t { held = set (map (frame_numbered st) (range_with_len f window)) ahead (Some kept.frame) }) (same_tasks x f line)
      ∙ ap (λ (l : List (Option Frame)). record (tasks_with (joined x past) f line) { held = l }) held_there in
      let count : prefix_len (λ o. is_some o) (map (frame_numbered (standing (joined x past))) (range_with_len f window)) ≡ g - f =
      prefix_marks (map (frame_numbered (standing (joined x past))) (range_with_len f window))
      ∙ ap (prefix_len (λ b. b)) (marks_are (standing (joined x past)) f window
      ∙ ap (λ (l : List ℕ). map (order.has_come l) (range_with_len f window)) (numbered_standing (joined x past)))
      ∙ prefix_range (order.has_come (numbered came)) f window (g - f) (let short = front_within (numbers (joined x past)) after
      in omega arith) (λ j lt. front_come (numbered came) j (omega arith))
      (λ lt. ap (order.has_come (numbered came)) (let sum : f + (g - f) ≡ first_of came = omega arith in sum) ∙ front_missing (numbered came)) in
      let places : map (place_of stands) (range_with_len f (g - f)) ≡ map (place_of came) (range_with_len f (g - f)) =
      map_cong (place_of stands) (place_of came) (range_with_len f (g - f))
      (λ i d lt. ap (λ (l : List Request). place_of l (get_or (range_with_len f (g - f)) i d)) (sym (standing_with x)) ∙ place_standing (joined x past) _) in
      let frames : line ++ filter_map (λ o. o) (map (frame_numbered (standing (joined x past))) (range_with_len f (g - f)))
      ≡ frames_of (standing (joined x past)) (due (joined x past)) =
      ap (λ (l : List Request). line ++ filter_map (λ o. o) (map (frame_numbered l) (range_with_len f (g - f)))) (standing_with x)
      ∙ ap (λ (l : List Frame). line ++ l) (frames_come stands f (g - f)
      (λ j le lt. ap (λ (l : List ℕ). order.has_come l j) numbers_same ∙ all j (omega arith) (omega arith)))
      ∙ ap (λ (l : List Frame). l ++ map (frame_of stands) (map (place_of stands) (range_with_len f (g - f))))
      (sym (frames_same st kept (due past) due_stands))
      ∙ sym (map-append (frame_of stands) (due past) (map (place_of stands) (range_with_len f (g - f))))
      ∙ ap (λ (l : List ℕ). frames_of stands (due past ++ l)) (places ∙ sym (taken_now past.came x more))
      ∙ ap (frames_of stands) (sym (due_more x))
      ∙ ap (λ (l : List Request). frames_of l (due (joined x past))) (sym (standing_with x)) in
      ap takes_all start
      ∙ ap (λ (m : ℕ). takes m (tasks_with (joined x past) f line)) count
      ∙ takes_many (joined x past) (g - f) f line (omega arith) beyond
      ∙ ap (λ (m : ℕ). tasks_with (joined x past) m (line ++ filter_map (λ o. o) (map (frame_numbered (standing (joined x past))) (range_with_len f (g - f)))))
      (let sum : f + (g - f) ≡ g = omega arith in sum)
      ∙ ap (λ (l : List Frame). tasks_with (joined x past) g l) frames
