-- SCSI Commands that are not finished are removed: what the session remembers, and that its past stays lawful.
use Rattle.std.proofs.Common.{◌≡◌, ℕ, ◌+◌, ◌-◌, ◌<◌, ◌≤◌, List, [], ◌∷◌, ◌++◌, length, map, get_or, Bool, true, false, not, ◌&&◌, Some, refl, sym, ap, ◌∙◌, arith}
use mathlib.Core.List.{map-map}
use Rattle.std.specs.Prelude.{All, filter, is_some, option_map}
use Rattle.std.specs.List.{range_with_len}
use Rattle.std.proofs.lemmas.Bool.{false_from_ne_true}
use Rattle.std.proofs.lemmas.List.FromFn.{get_or-range_with_len, length-range_with_len}
use Rattle.std.proofs.lemmas.List.Elements.{All-append}
use Rattle.iscsi_pdu.specs.Frames.{Frame}
use Rattle.iscsi_order.specs.Window as order
use Rattle.iscsi_order.specs.Window.{taken as taken_numbers, window}
use Rattle.iscsi_order.proofs.Front.{front_missing}
use Rattle.iscsi_requests.specs.Requests.{Past, request_at, frame_of, frames_of, is_in, left, is_command, is_function, commands, counted, over, numbered, place_of, taken, numbers, due, queue, unfinished, pending, functions, removing}
use Rattle.iscsi_requests.specs.Transfers.{task_at, outs_of, tags_of}
use Rattle.iscsi_requests.specs.Functions.{FunctionReach, reaches, reached}
use Rattle.iscsi_requests.specs.State.{SessionState, TransferList, Stands, IsDelivered, IsLawful, standing, bare, bare_frames, frame_numbered, tasks_of, transfers_of, functions_of, void_if, stays, counts_out, reaches_frame, without, transfers_without}
use Rattle.iscsi_requests.proofs.Left.{filter_cong, filter_filter, map_cong, left_more, left_append, left_all, in_at, in_filter, in_filter_back, in_left, passes_in, not_gone, not_in, is_in_append, below_of, distinct_map_filter}
use Rattle.iscsi_requests.proofs.Places.{count_map}
use Rattle.iscsi_session.proofs.Kept.{function_no_command, in_kept, function_in, drained_removing, unfinished_came, unfinished_command, queue_unfinished}
use Rattle.iscsi_session.proofs.Standing.{numbered_standing, place_standing, length_standing, standing_at}
use Rattle.iscsi_session.proofs.Taken.{beyond_not_taken, taken_below, first_of, frame_come, frame_missing, place_come, place_missing, moment_above}
use Rattle.iscsi_session.proofs.Accepted.{handed_is, counted_append, due_is, in_queue, acted_taken}
use Rattle.iscsi_session.proofs.Over.{split, acted_counted, lawful_step}
use Rattle.iscsi_session.proofs.Parts.{parts, stands_parts, exchange_as}

pub filter_map_names : {X Y : Type 0} (p : Y → Bool) (f : X → Y) (names : List X) → filter p (map f names) ≡ map f (filter (λ k. p (f k)) names)
filter_map_names p f [] = refl
filter_map_names {Y = Y} p f (k ∷ names) = grind (arith, filter_map_names p f names)

and_false : (a b : Bool) → (a ≡ true → b ≡ false) → (a && b) ≡ false
and_false a b e = grind arith

module _ (reach : FunctionReach) (past : Past) (lawful : IsLawful past) where
  abbrev hit : ℕ → Bool
  hit k = reaches reach (frame_of past.came k).header

  abbrev gone : List ℕ
  gone = reached reach past

  abbrev after : Past
  after = removing (reached reach past) past

  -- ---- which they are

  gone_unfinished : (k : ℕ) → is_in k gone ≡ true → is_in k (unfinished past) ≡ true
  unfolding reached
  gone_unfinished k e = in_filter k hit (unfinished past) e

  gone_hit : (k : ℕ) → is_in k gone ≡ true → hit k ≡ true
  unfolding reached
  gone_hit k e = passes_in k hit (unfinished past) e

  hit_gone : (k : ℕ) → is_in k (unfinished past) ≡ true → hit k ≡ true → is_in k gone ≡ true
  unfolding reached
  hit_gone k there e = in_filter_back k hit (unfinished past) there e

  -- of one that is not finished
  gone_is : (k : ℕ) → is_in k (unfinished past) ≡ true → is_in k gone ≡ hit k
  gone_is k there = grind (arith, hit_gone, false_from_ne_true, gone_hit)

  not_there : (k : ℕ) → is_in k (unfinished past) ≡ false → is_in k gone ≡ false
  not_there k none = false_from_ne_true (is_in k gone) (λ h. let no = sym (gone_unfinished k h) ∙ none in absurd cc)

  left_hit : (l : List ℕ) → All (λ k. is_in k (unfinished past) ≡ true) l → left gone l ≡ filter (λ k. not (hit k)) l
  unfolding left
  left_hit l all = filter_cong _ _ l (λ i d lt. ap not (gone_is _ (all i d lt)))

  in_queue_unfinished : All (λ k. is_in k (unfinished past) ≡ true) (queue past)
  in_queue_unfinished = λ i d lt. queue_unfinished past _ lawful.below (in_at (queue past) i d lt)

  -- ---- the lines

  queue_gone : queue after ≡ left gone (queue past)
  unfolding queue
  queue_gone = left_more past.removed gone (left past.finished (commands past.came past.acted))

  pub queue_hit : queue after ≡ filter (λ k. not (hit k)) (queue past)
  queue_hit = queue_gone ∙ left_hit (queue past) in_queue_unfinished

  unfinished_gone : unfinished after ≡ left gone (unfinished past)
  unfolding unfinished
  unfinished_gone = left_more past.removed gone (left past.finished (commands past.came (range_with_len 0 (length past.came))))

  pub unfinished_hit : unfinished after ≡ filter (λ k. not (hit k)) (unfinished past)
  unfinished_hit = unfinished_gone ∙ left_hit (unfinished past) (λ i d lt. in_at (unfinished past) i d lt)

  no_function : (k : ℕ) → is_function (frame_of past.came k) ≡ true → is_in k gone ≡ false
  no_function k f = not_there k (false_from_ne_true (is_in k (unfinished past)) (λ h.
      let no = sym (unfinished_command past k h) ∙ function_no_command (frame_of past.came k) f in absurd cc))

  functions_gone : functions after ≡ left gone (functions past)
  unfolding functions
  functions_gone = grind (arith, left_more)

  pub functions_same : functions after ≡ functions past
  functions_same = functions_gone ∙ left_all gone (functions past) (λ i d lt. no_function _ (function_in past _ (in_at (functions past) i d lt)))

  pub due_same : due after ≡ due past
  unfolding due
  due_same = refl

  -- ---- how many are over

  unfinished_open : (k : ℕ) → is_in k (unfinished past) ≡ true → is_in k past.finished ≡ false
  unfolding unfinished
  unfinished_open k h = not_gone k past.finished _ (in_left k past.removed _ h)

  finished_apart : (k : ℕ) → is_in k past.finished ≡ true → is_in k gone ≡ false
  finished_apart k e = not_there k (false_from_ne_true (is_in k (unfinished past)) (λ h. let no = sym e ∙ unfinished_open k h in absurd cc))

  finished_stay : left gone (commands past.came past.finished) ≡ commands past.came past.finished
  finished_stay = left_all gone (commands past.came past.finished) (λ i d lt. finished_apart _
      (in_filter _ (λ k. is_command (frame_of past.came k)) past.finished (in_at (commands past.came past.finished) i d lt)))

  commands_left : left (past.removed ++ gone) (commands past.came past.acted) ≡ commands past.came past.finished ++ queue after
  commands_left = grind (arith, left_more, left_append, finished_stay, queue_gone)

  pub handed_same : (numbers after).handed ≡ (numbers past).handed
  unfolding taken_numbers
  handed_same = refl

  gone_below : All (λ k. k < length past.came) gone
  gone_below = λ i d lt. unfinished_came past _ (gone_unfinished _ (in_at gone i d lt))

  gone_commands : All (λ k. is_command (frame_of past.came k) ≡ true) gone
  gone_commands = λ i d lt. unfinished_command past _ (gone_unfinished _ (in_at gone i d lt))

  all_commands : All (λ k. is_command (frame_of past.came k) ≡ true) (past.removed ++ gone)
  all_commands = All-append (λ k. is_command (frame_of past.came k) ≡ true) past.removed gone lawful.removed_commands gone_commands

  pub over_more : counted past.came (over after) ≡ counted past.came (over past) + counted past.came (filter hit (queue past))
  over_more =
      let came = past.came in
      let a = acted_counted past lawful.removed_commands in
      let b = acted_counted after all_commands in
      let c = ap (counted came) (sym lawful.queued) ∙ counted_append came (commands came past.finished) (queue past) in
      let d = ap (counted came) commands_left ∙ counted_append came (commands came past.finished) (queue after) in
      let e = split hit came (queue past) in
      let f = ap (counted came) queue_hit in
      let g = counted_append came (left (pending past) past.finished) (filter (λ k. is_in k past.removed) past.acted) in
      let h = counted_append came (left (pending past) past.finished) (filter (λ k. is_in k (past.removed ++ gone)) past.acted) in
      omega arith

  pub lawful_removing : IsLawful after
  lawful_removing =
      let in_order : taken past.came ≡ past.acted ++ due after = lawful.in_order ∙ ap (λ (l : List ℕ). past.acted ++ l) (sym due_same) in
      let below = All-append (λ k. k < length past.came) past.removed gone lawful.removed_below gone_below in
      let drained = drained_removing past gone lawful.drained in
      lawful_step past past.acted past.finished (past.removed ++ gone) past.drains past.answered lawful
      (grind (arith, over_more, commands_left, unfinished_hit, distinct_map_filter, functions_same, all_commands, is_in_append, finished_apart, in_at))

  -- ---- as they stand

  still_there : (k : ℕ) → k < length past.came → is_in k past.finished ≡ false → is_in k past.removed ≡ false → is_command (frame_of past.came k) ≡ true
      → is_in k (unfinished past) ≡ true
  unfolding unfinished
  still_there k lt un e h = in_kept is_command past k lt h un e

  stands_at : (a b c : Bool) (k : ℕ) → k < length past.came → is_in k past.finished ≡ false → is_in k past.removed ≡ a → is_in k gone ≡ b
      → is_command (frame_of past.came k) ≡ c
      → frame_of (standing after) k ≡ void_if reach (frame_of (standing past) k)
  stands_at true b c k lt un e f g = grind (arith, is_in_append, standing_at)
  stands_at false true c k lt un e f g = grind (arith, is_in_append, unfinished_command, gone_unfinished, gone_hit, standing_at)
  stands_at false false c k lt un e f g = grind (arith, is_in_append, and_false, gone_is, still_there, standing_at)

  pub voids_here : (k : ℕ) → k < length past.came → is_in k past.finished ≡ false
      → frame_of (standing after) k ≡ void_if reach (frame_of (standing past) k)
  voids_here k lt un = stands_at _ _ _ k lt un refl refl refl

  -- those that are due
  due_open : (k : ℕ) → is_in k (due past) ≡ true → (k < length past.came) × (is_in k past.finished ≡ false)
  due_open k e =
      let there : is_in k (left past.acted (taken past.came)) ≡ true = ap (λ (l : List ℕ). is_in k l) (sym (due_is past lawful)) ∙ e in (
        below_of (length past.came) k (taken past.came) (taken_below past.came) (in_left k past.acted (taken past.came) there),
        not_in k past.finished past.acted lawful.acted (not_gone k past.acted (taken past.came) there),
      )

  due_voids : frames_of (standing after) (due after) ≡ map (void_if reach) (frames_of (standing past) (due past))
  due_voids =
      ap (frames_of (standing after)) due_same
      ∙ map_cong _ _ (due past) (λ i d lt. let o = due_open _ (in_at (due past) i d lt) in voids_here _ o.0 o.1)
      ∙ sym (map-map (void_if reach) (frame_of (standing past)) (due past))

  -- those that are held
  held_open : (n : ℕ) → (numbers past).handed ≤ n → place_of past.came n < length past.came → is_in (place_of past.came n) past.finished ≡ false
  held_open n le lt =
      let e = handed_is past in
      let missing = place_missing past.came (first_of past.came) (front_missing (numbered past.came)) in
      let above = moment_above past.came (first_of past.came) n (omega arith) in
      let p = place_of past.came n in
      let none : is_in p (taken past.came) ≡ false = beyond_not_taken past.came n lt (omega arith) in
      not_in p past.finished past.acted lawful.acted
      (false_from_ne_true (is_in p past.acted) (λ h. let no = sym (acted_taken past lawful p h) ∙ none in absurd cc))

  held_by : (b : Bool) (n : ℕ) → order.has_come (numbered past.came) n ≡ b → (numbers past).handed ≤ n
      → frame_numbered (standing after) n ≡ option_map (void_if reach) (frame_numbered (standing past) n)
  held_by true n h le =
      let lt = place_come past.came n h in
      let p = place_of past.came n in
      let here : (p0 : Past) → length (standing p0) ≡ length past.came → place_of (standing p0) n ≡ p
      → frame_numbered (standing p0) n ≡ Some (frame_of (standing p0) p) =
      λ p0 long at. frame_come (standing p0) n (omega (arith, long, at)) ∙ ap (λ (m : ℕ). Some (frame_of (standing p0) m)) at in
      here after (length_standing after) (place_standing after n)
      ∙ ap (λ (f : Frame). Some f) (voids_here p lt (held_open n le lt))
      ∙ ap (option_map (void_if reach)) (sym (here past (length_standing past) (place_standing past n)))
  held_by false n h le = grind (arith, frame_missing, numbered_standing)

  held_range : (a n : ℕ) → (numbers past).handed ≤ a
      → map (frame_numbered (standing after)) (range_with_len a n) ≡ map (option_map (void_if reach))
      (map (frame_numbered (standing past)) (range_with_len a n))
  held_range a n le =
      map_cong _ _ (range_with_len a n) (λ i d lt.
      let at = get_or-range_with_len a n i d (omega (arith, length-range_with_len a n)) in
      held_by _ (get_or (range_with_len a n) i d) refl (omega arith))
      ∙ sym (map-map (option_map (void_if reach)) (frame_numbered (standing past)) (range_with_len a n))

  -- those in the queue
  queue_command : (k : ℕ) → is_in k (queue past) ≡ true → is_command (frame_of past.came k) ≡ true
  queue_command k e = unfinished_command past k (queue_unfinished past k lawful.below e)

  reached_in_queue : (k : ℕ) → is_in k (queue past) ≡ true → reaches_frame reach (frame_of past.came k) ≡ hit k
  reached_in_queue k e = rw (queue_command k e) refl

  queue_stays : filter (stays reach) (bare_frames past.came (queue past)) ≡ bare_frames past.came (queue after)
  queue_stays = grind (arith, filter_map_names, filter_cong, reached_in_queue, in_at, queue_hit)

  counts_queue : length (filter (counts_out reach) (bare_frames past.came (queue past))) ≡ counted past.came (filter hit (queue past))
  counts_queue =
      count_map (counts_out reach) (λ k. bare (frame_of past.came k)) (queue past)
      ∙ ap (λ (l : List ℕ). length l) (filter_cong _ _ (queue past) each)
      ∙ ap (λ (l : List ℕ). length l) (sym (filter_filter (λ k. is_some (request_at past.came k).number) hit (queue past)))
    where
      each : All (λ k. counts_out reach (frame_of past.came k) ≡ (hit k && is_some (request_at past.came k).number)) (queue past)
      each = λ i d lt.
          let k = get_or (queue past) i d in
          let there = in_at (queue past) i d lt in
          let came = below_of (length past.came) k past.acted lawful.below (in_queue past lawful k there) in
          let told : IsDelivered (request_at past.came k) = lawful.delivered k _ came in
          rw (reached_in_queue k there, told) refl

  pub tasks_removing : without reach (tasks_of past) ≡ tasks_of after
  unfolding tasks_of
  tasks_removing =
      let fewer : (numbers past).handed - counted past.came (over past) - length (filter (counts_out reach) (bare_frames past.came (queue past)))
      ≡ (numbers after).handed - counted past.came (over after) = omega (arith, counts_queue, over_more, handed_same) in
      let held : map (option_map (void_if reach)) (map (frame_numbered (standing past)) (range_with_len (numbers past).handed window))
      ≡ map (frame_numbered (standing after)) (range_with_len (numbers after).handed window) =
      sym (held_range (numbers past).handed window (omega arith))
      ∙ ap (λ (h : ℕ). map (frame_numbered (standing after)) (range_with_len h window)) (sym handed_same) in
      rw (fewer, held, ← due_voids, queue_stays, ← handed_same) refl

  -- ---- their data

  pub transfers_removing : record (transfers_of past) { list = transfers_without reach (transfers_of past).list } ≡ transfers_of after
  unfolding transfers_of task_at outs_of tags_of
  transfers_removing = grind (arith, filter_map_names, map_cong, unfinished_hit)

  pub functions_removing : functions_of past ≡ functions_of after
  unfolding functions_of
  functions_removing = ap (map (λ k. (frame_of past.came k).header)) (sym functions_same)

-- a session whose commands were removed
pub stands_removing : (reach : FunctionReach) (past : Past) (state : SessionState) → Stands past state
    → Stands (removing (reached reach past) past) (record state {
      tasks = without reach state.tasks;
      transfers = record state.transfers { list = transfers_without reach state.transfers.list };
    })
stands_removing reach past state s =
    let p = parts past state s in
    stands_parts past (removing (reached reach past) past) state (without reach state.tasks) _ state.functions state.exchange s
    (lawful_removing reach past s.lawful) refl refl
    (ap (without reach) p.tasks_is ∙ tasks_removing reach past s.lawful)
    (ap (λ (t : TransferList). record t { list = transfers_without reach t.list }) p.transfers_is ∙ transfers_removing reach past s.lawful)
    (p.functions_is ∙ functions_removing reach past s.lawful) (p.exchange_is ∙ sym (exchange_as past (removing (reached reach past) past) refl refl refl))
