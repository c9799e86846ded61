-- A request acts, and a command is finished: what the session remembers, and that its past stays lawful.
use Rattle.std.proofs.Common.{◌≡◌, ℕ, ◌+◌, ◌<◌, List, [], ◌∷◌, ◌++◌, length, map, get_or, true, false, not, refl, sym, ap, subst, ◌∙◌, arith, append_assoc}
use Rattle.std.specs.Prelude.{All}
use Rattle.std.proofs.lemmas.List.{append-nil, map-append}
use Rattle.std.proofs.lemmas.List.Elements.{filter-append, All-push, All-nil, All-cons}
use Rattle.iscsi_order.specs.Window.{taken as taken_numbers}
use Rattle.iscsi_requests.specs.Requests.{Past, pending, frame_of, is_in, left, is_command, commands, others, counted, over, taken, due, queue, unfinished, is_function, functions, frames_of, finished}
use Rattle.iscsi_requests.specs.Transfers.{tag_of, task_at, outs_of, tags_of}
use Rattle.iscsi_requests.specs.State.{standing, bare, bare_frames, tasks_of, transfer_of, transfers_of, functions_of, AreDistinct, IsLawful, one_fewer}
use Rattle.iscsi_requests.proofs.Left.{left_append, left_all, left_more, left_swap, left_first, left_one, left_passes, in_at, in_front, in_back, in_left, passes_in, not_gone, not_by, not_in, below_of, distinct_left, distinct_filter, distinct_front}
use Rattle.iscsi_session.proofs.Taken.{taken_below, distinct_taken}
use Rattle.iscsi_session.proofs.Kept.{tags_left, command_no_function, function_no_command, functions_without, functions_other, in_functions, open_not_pending, command_not_pending, drained_finished, drained_acted, unfinished_without, unfinished_other}
use Rattle.iscsi_session.proofs.Standing.{standing_immediate}
use Rattle.iscsi_session.proofs.Accepted.{counted_append, due_is, queue_is, in_queue}
use Rattle.iscsi_requests.proofs.Heads.{one_fewer_by}
use Rattle.iscsi_session.proofs.Over.{not_removed, lawful_step, unfinished_less, over_same, over_gone, over_other, over_finished, over_more}

-- ---- Task Management Function Requests

-- what is remembered of those that are left
pub functions_left : (past : Past) (k : ℕ) → is_in k (pending past) ≡ false
    → map (λ a. (frame_of past.came a).header) (left (k ∷ []) (functions past)) ≡ functions_of (finished k past)
unfolding functions_of
functions_left past k free = ap (map (λ a. (frame_of past.came a).header)) (sym (functions_without past k free))

pub functions_kept : (past : Past) (k : ℕ) → is_in k (pending past) ≡ false → is_function (frame_of past.came k) ≡ false
    → functions_of (finished k past) ≡ functions_of past
unfolding functions_of
functions_kept past k free e = ap (map (λ a. (frame_of past.came a).header)) (functions_other past k free e)

module _ (past : Past) (lawful : IsLawful past) where
  pub distinct_acted : AreDistinct past.acted
  distinct_acted = distinct_front past.acted (due past) (subst AreDistinct lawful.in_order (distinct_taken past.came))

  -- ---- the first that is due acts

  module _ (k : ℕ) (rest : List ℕ) (is : due past ≡ k ∷ rest) where
    in_due : is_in k (due past) ≡ true
    in_due = ap (λ (l : List ℕ). is_in k l) is ∙ in_at (k ∷ rest) 0 0 (omega arith)

    pub due_came : k < length past.came
    due_came = below_of (length past.came) k (taken past.came) (taken_below past.came)
        (in_left k past.acted (taken past.came) (ap (λ (l : List ℕ). is_in k l) (sym (due_is past lawful)) ∙ in_due))

    not_acted : is_in k past.acted ≡ false
    not_acted =
        let none : is_in (get_or (left past.acted (taken past.came)) 0 k) past.acted ≡ false = grind (arith, left_passes, due_is) in
        ap (λ (n : ℕ). is_in n past.acted) (ap (λ (l : List ℕ). get_or l 0 k) (sym (sym (due_is past lawful) ∙ is))) ∙ none

    pub not_finished : is_in k past.finished ≡ false
    not_finished = not_in k past.finished past.acted lawful.acted not_acted

    distinct_here : AreDistinct (k ∷ rest)
    distinct_here = subst AreDistinct (sym (due_is past lawful) ∙ is) (distinct_left past.acted (taken past.came) (distinct_taken past.came))

    -- the others are due, in the same order
    pub due_after : due (record past { acted = past.acted ++ k ∷ [] }) ≡ rest
    unfolding due
    due_after = grind (arith, left_more, due_is, left_first, distinct_here)

    in_order_after : taken past.came ≡ (past.acted ++ k ∷ []) ++ rest
    in_order_after = lawful.in_order ∙ ap (λ (l : List ℕ). past.acted ++ l) is ∙ sym (append_assoc past.acted (k ∷ []) rest)

    below_after : All (λ a. a < length past.came) (past.acted ++ k ∷ [])
    below_after = All-push (λ a. a < length past.came) past.acted k lawful.below due_came

    acted_after : All (λ a. is_in a (past.acted ++ k ∷ []) ≡ true) past.finished
    acted_after = λ i d lt. in_front (get_or past.finished i d) past.acted (k ∷ []) (lawful.acted i d lt)

    -- ---- a SCSI Command acts

    abbrev with_command : Past
    with_command = record past { acted = past.acted ++ k ∷ [] }

    commands_one : is_command (frame_of past.came k) ≡ true → commands past.came (past.acted ++ k ∷ []) ≡ commands past.came past.acted ++ k ∷ []
    commands_one e = filter-append (λ a. is_command (frame_of past.came a)) past.acted (k ∷ []) ∙ rw e refl

    others_none : is_command (frame_of past.came k) ≡ true → others past.came (past.acted ++ k ∷ []) ≡ others past.came past.acted
    others_none e = filter-append (λ a. not (is_command (frame_of past.came a))) past.acted (k ∷ []) ∙ rw e (append-nil (others past.came past.acted))

    left_commands : is_command (frame_of past.came k) ≡ true
        → left past.removed (commands past.came (past.acted ++ k ∷ [])) ≡ left past.removed (commands past.came past.acted) ++ left past.removed (k ∷ [])
    left_commands e = ap (left past.removed) (commands_one e) ∙ left_append past.removed (commands past.came past.acted) (k ∷ [])

    -- it joins the queue, where it was not removed
    queue_by : is_command (frame_of past.came k) ≡ true → queue with_command ≡ queue past ++ left past.removed (k ∷ [])
    unfolding queue
    queue_by e = grind (arith, commands_one, left_append, left_all, not_finished)

    pub transfers_command : transfers_of with_command ≡ transfers_of past
    unfolding transfers_of unfinished task_at outs_of tags_of
    transfers_command = refl

    pub functions_command : functions_of with_command ≡ functions_of past
    unfolding functions_of functions
    functions_command = refl

    pub lawful_command : is_command (frame_of past.came k) ≡ true → IsLawful with_command
    unfolding unfinished functions
    lawful_command e =
        grind (
          arith,
          in_order_after,
          due_after,
          queue_by,
          append_assoc,
          left_commands,
          others_none,
          lawful_step,
          over_more,
          below_after,
          acted_after,
          drained_acted,
        )

    -- one that is not removed
    module _ (stays : is_in k past.removed ≡ false) where
      kept_one : left past.removed (k ∷ []) ≡ k ∷ []
      kept_one = left_all past.removed (k ∷ []) (All-cons (λ a. is_in a past.removed ≡ false) k [] stays (All-nil (λ a. is_in a past.removed ≡ false)))

      pub queue_joined : is_command (frame_of past.came k) ≡ true → queue with_command ≡ queue past ++ k ∷ []
      queue_joined e = queue_by e ∙ ap (λ (l : List ℕ). queue past ++ l) kept_one

      pub tasks_command : is_command (frame_of past.came k) ≡ true
          → record (tasks_of past) { due = frames_of (standing past) rest; queue = (tasks_of past).queue ++ bare (frame_of past.came k) ∷ [] }
          ≡ tasks_of with_command
      unfolding tasks_of standing
      tasks_command e = grind (arith, map-append, queue_joined, due_after, over_same)

    -- one that was removed
    module _ (gone : is_in k past.removed ≡ true) where
      dropped_one : left past.removed (k ∷ []) ≡ []
      unfolding left
      dropped_one = rw gone refl

      pub queue_gone : is_command (frame_of past.came k) ≡ true → queue with_command ≡ queue past
      queue_gone e = queue_by e ∙ ap (λ (l : List ℕ). queue past ++ l) dropped_one ∙ append-nil (queue past)

      one_over : counted past.came (over with_command) ≡ counted past.came (over past) + counted past.came (k ∷ [])
      one_over = ap (counted past.came) (over_gone past k gone) ∙ counted_append past.came (over past) (k ∷ [])

      pub tasks_gone : is_command (frame_of past.came k) ≡ true
          → one_fewer (frame_of (standing past) k) (record (tasks_of past) { due = frames_of (standing past) rest }) ≡ tasks_of with_command
      unfolding tasks_of standing taken_numbers
      tasks_gone e = grind (arith, one_fewer_by, standing_immediate, due_came, unfinished_less, one_over, due_after, queue_gone)

    -- ---- every other request is finished at once

    abbrev with_other : Past
    with_other = finished k (record past { acted = past.acted ++ k ∷ [] })

    commands_none : (names : List ℕ) → is_command (frame_of past.came k) ≡ false → commands past.came (names ++ k ∷ []) ≡ commands past.came names
    commands_none names e = filter-append (λ a. is_command (frame_of past.came a)) names (k ∷ []) ∙ rw e (append-nil (commands past.came names))

    others_one : (names : List ℕ) → is_command (frame_of past.came k) ≡ false → others past.came (names ++ k ∷ []) ≡ others past.came names ++ k ∷ []
    others_one names e = filter-append (λ a. not (is_command (frame_of past.came a))) names (k ∷ []) ∙ rw e refl

    pub due_other : due with_other ≡ rest
    unfolding due
    due_other = due_after

    pub queue_other : is_command (frame_of past.came k) ≡ false → queue with_other ≡ queue past
    unfolding queue
    queue_other e = grind (arith, not_by, in_queue, not_acted, commands_none, left_more, left_swap, queue_is, left_one)

    pub not_pending : is_in k (pending past) ≡ false
    not_pending = open_not_pending past k lawful.drained not_finished

    unfinished_with_other : is_command (frame_of past.came k) ≡ false → unfinished with_other ≡ unfinished past
    unfolding unfinished
    unfinished_with_other e = unfinished_other past k e

    pub functions_acted : functions_of (finished k past) ≡ functions_of with_other
    unfolding functions_of functions
    functions_acted = refl

    -- a function that is due is not finished
    pub due_function : is_function (frame_of past.came k) ≡ true → is_in k (functions past) ≡ true
    due_function e = grind (arith, in_functions, due_came, not_by, in_left, not_finished, not_removed, function_no_command)

    pub transfers_other : is_command (frame_of past.came k) ≡ false → transfers_of with_other ≡ transfers_of past
    unfolding transfers_of task_at outs_of tags_of
    transfers_other e = rw (unfinished_with_other e) refl

    pub stays_other : is_command (frame_of past.came k) ≡ false → is_in k past.removed ≡ false
    stays_other e = not_removed past k lawful.removed_commands e

    pub lawful_other : is_command (frame_of past.came k) ≡ false → IsLawful with_other
    unfolding functions
    lawful_other e =
        let in_order : taken past.came ≡ (past.acted ++ k ∷ []) ++ due with_other = grind (arith, in_order_after, due_other) in
        let queued : commands past.came (past.finished ++ k ∷ []) ++ queue with_other ≡ left past.removed (commands past.came (past.acted ++ k ∷ [])) =
        rw (commands_none past.finished e, queue_other e, commands_none past.acted e) lawful.queued in
        let at_once : others past.came (past.finished ++ k ∷ []) ≡ others past.came (past.acted ++ k ∷ []) = grind (arith, others_one) in
        let function_tags = subst (λ (l : List ℕ). AreDistinct (map (tag_of past.came) l)) (sym (functions_without past k not_pending))
        (tags_left past k (functions past) lawful.function_tags) in
        let last = in_back k past.acted (k ∷ []) (in_at (k ∷ []) 0 0 (omega arith)) in
        let acted = All-push (λ a. is_in a (past.acted ++ k ∷ []) ≡ true) past.finished k acted_after last in
        let apart = All-push (λ a. is_in a past.removed ≡ false) past.finished k lawful.apart (stays_other e) in
        let drained = drained_finished past (past.acted ++ k ∷ []) k lawful.drained in
        lawful_step past (past.acted ++ k ∷ []) (past.finished ++ k ∷ []) past.removed past.drains past.answered lawful
        (grind (arith, over_other, below_after, unfinished_with_other, not_pending, stays_other))

    pub tasks_other : is_command (frame_of past.came k) ≡ false
        → one_fewer (frame_of past.came k) (record (tasks_of past) { due = frames_of (standing past) rest }) ≡ tasks_of with_other
    unfolding tasks_of standing taken_numbers
    tasks_other e = grind (arith, one_fewer_by, unfinished_less, due_came, over_other, stays_other, not_pending, due_other, queue_other)

  -- ---- the first of the queue is finished

  module _ (k : ℕ) (rest : List ℕ) (is : queue past ≡ k ∷ rest) where
    queued_here : is_in k (queue past) ≡ true
    queued_here = ap (λ (l : List ℕ). is_in k l) is ∙ in_at (k ∷ rest) 0 0 (omega arith)

    pub has_acted : is_in k past.acted ≡ true
    has_acted = in_queue past lawful k queued_here

    pub queue_came : k < length past.came
    queue_came = below_of (length past.came) k past.acted lawful.below has_acted

    pub queue_stays : is_in k past.removed ≡ false
    unfolding queue
    queue_stays = not_gone k past.removed (left past.finished (commands past.came past.acted)) queued_here

    pub is_done : is_command (frame_of past.came k) ≡ true
    is_done = grind (arith, passes_in, in_left, queue_is, queued_here)

    is_not_pending : is_in k (pending past) ≡ false
    is_not_pending = command_not_pending past k lawful.drained is_done

    distinct_queue : AreDistinct (k ∷ rest)
    distinct_queue = grind (arith, queue_is, distinct_left, distinct_filter, distinct_acted)

    -- the others are to be done, in the same order
    pub queue_after : queue (finished k past) ≡ rest
    unfolding queue
    queue_after = grind (arith, left_more, left_swap, queue_is, left_first, distinct_queue)

    due_finished : due (finished k past) ≡ due past
    unfolding due
    due_finished = refl

    functions_finished : functions (finished k past) ≡ functions past
    functions_finished = functions_other past k is_not_pending (command_no_function (frame_of past.came k) is_done)

    pub functions_of_finished : functions_of (finished k past) ≡ functions_of past
    unfolding functions_of
    functions_of_finished = ap (map (λ a. (frame_of past.came a).header)) functions_finished

    pub lawful_finished : IsLawful (finished k past)
    unfolding due
    lawful_finished =
        let one : commands past.came (past.finished ++ k ∷ []) ≡ commands past.came past.finished ++ k ∷ [] = grind (arith, filter-append, is_done) in
        let none : others past.came (past.finished ++ k ∷ []) ≡ others past.came past.finished = grind (arith, filter-append, is_done, append-nil) in
        let queued : commands past.came (past.finished ++ k ∷ []) ++ queue (finished k past) ≡ left past.removed (commands past.came past.acted) =
        grind (arith, queue_after, append_assoc) in
        let at_once : others past.came (past.finished ++ k ∷ []) ≡ others past.came past.acted = none ∙ lawful.at_once in
        let acted = All-push (λ a. is_in a past.acted ≡ true) past.finished k lawful.acted has_acted in
        let apart = All-push (λ a. is_in a past.removed ≡ false) past.finished k lawful.apart queue_stays in
        let drained = drained_finished past past.acted k lawful.drained in
        lawful_step past past.acted (past.finished ++ k ∷ []) past.removed past.drains past.answered lawful
        (grind (arith, over_finished, is_not_pending, unfinished_without, tags_left, functions_finished))

    pub transfers_finished : transfers_of (finished k past) ≡ record (transfers_of past) { list = map (transfer_of past) (left (k ∷ []) (unfinished past)) }
    unfolding transfers_of task_at outs_of tags_of
    transfers_finished = rw (unfinished_without past k) refl

    pub tasks_finished : one_fewer (frame_of past.came k) (record (tasks_of past) { queue = bare_frames past.came rest }) ≡ tasks_of (finished k past)
    unfolding tasks_of standing taken_numbers
    tasks_finished = grind (arith, one_fewer_by, unfinished_less, queue_came, over_finished, is_not_pending, due_finished, queue_after)
