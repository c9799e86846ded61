-- How many numbers are over: of the requests that are finished, and of those that were removed and whose turn has come.
use Rattle.std.proofs.Common.{◌≡◌, ℕ, ◌+◌, ◌-◌, ◌<◌, ◌≤◌, List, [], ◌∷◌, ◌++◌, length, Bool, true, false, not, cond, refl, sym, ap, ◌∙◌, arith, append_assoc, map}
use Rattle.std.specs.Prelude.{All, filter}
use Rattle.std.proofs.lemmas.Bool.{false_from_ne_true, not-true}
use Rattle.std.proofs.lemmas.List.{append-nil}
use Rattle.std.proofs.lemmas.List.Elements.{filter-append, filter_passes}
use Rattle.iscsi_pdu.specs.Header.{is_immediate}
use Rattle.iscsi_order.specs.Window.{taken as taken_numbers}
use Rattle.iscsi_requests.specs.Requests.{Request, Past, frame_of, is_in, left, is_command, commands, others, counted, over, pending, taken, numbers, due, queue, Drain, functions, unfinished}
use Rattle.iscsi_requests.specs.State.{IsLawful, AreDistinct, AreDrained}
use Rattle.iscsi_requests.proofs.Left.{filter_filter, filter_cong, left_all, all_in}
use Rattle.iscsi_session.proofs.Kept.{left_push}
use Rattle.iscsi_requests.specs.Transfers.{tag_of}
use Rattle.iscsi_session.proofs.Accepted.{counted_append, handed_le}

filter_swap : (p q : ℕ → Bool) (names : List ℕ) → filter p (filter q names) ≡ filter q (filter p names)
filter_swap p q names = grind (arith, filter_filter, filter_cong)

-- those for which it holds, and the others
pub split : (q : ℕ → Bool) (came : List Request) (names : List ℕ)
    → counted came names ≡ counted came (filter q names) + counted came (filter (λ a. not (q a)) names)
split q came [] = refl
split q came (k ∷ names) = grind (arith, split q came names)

-- what was removed is a SCSI Command
pub removed_command : (past : Past) → IsLawful past → (k : ℕ) → is_in k past.removed ≡ true → is_command (frame_of past.came k) ≡ true
removed_command past lawful k e = all_in (λ a. is_command (frame_of past.came a) ≡ true) k past.removed lawful.removed_commands e

pub not_removed : (past : Past) (k : ℕ) → All (λ a. is_command (frame_of past.came a) ≡ true) past.removed → is_command (frame_of past.came k) ≡ false
    → is_in k past.removed ≡ false
not_removed past k all e = false_from_ne_true (is_in k past.removed) (λ h. let yes = all_in (λ a. is_command (frame_of past.came a) ≡ true) k past.removed all h
    in absurd (let no = sym yes ∙ e in cc))

others_stay : (past : Past) (names : List ℕ) → All (λ a. is_command (frame_of past.came a) ≡ true) past.removed
    → left past.removed (others past.came names) ≡ others past.came names
others_stay past names all = grind (arith, left_all, not_removed, not-true, filter_passes)

-- of those that acted: the removed ones, the SCSI Commands that were not removed, and the other requests
pub acted_counted : (past : Past) → All (λ a. is_command (frame_of past.came a) ≡ true) past.removed
    → counted past.came past.acted ≡ counted past.came (filter (λ k. is_in k past.removed) past.acted)
    + (counted past.came (left past.removed (commands past.came past.acted)) + counted past.came (others past.came past.acted))
unfolding left
acted_counted past all = grind (arith, split, filter_swap, others_stay)

-- no more numbers are over than are taken
pub few_over : (past : Past) → taken past.came ≡ past.acted ++ due past
    → commands past.came past.finished ++ queue past ≡ left past.removed (commands past.came past.acted)
    → others past.came past.finished ≡ others past.came past.acted → All (λ a. is_command (frame_of past.came a) ≡ true) past.removed
    → counted past.came (taken past.came) ≡ (numbers past).handed → counted past.came (over past) ≤ (numbers past).handed
unfolding left
few_over past in_order queued at_once all handed = grind (arith, split, acted_counted, counted_append)

-- ---- one more is over

-- of so many that are handed over, one more is over
pub unfinished_less : (past : Past) (handed n m k : ℕ) → IsLawful past → k < length past.came → m ≡ n + counted past.came (k ∷ [])
    → cond (is_immediate (frame_of past.came k).header) (handed - n) (handed - n - 1) ≡ handed - m
unfinished_less past handed n m k lawful lt is = grind arith

-- ---- which are over, where one acts

over_by : (b : Bool) (past : Past) (k : ℕ) (finished : List ℕ) → is_in k past.removed ≡ b
    → finished ++ filter (λ a. is_in a past.removed) (past.acted ++ k ∷ [])
    ≡ (finished ++ filter (λ a. is_in a past.removed) past.acted) ++ cond b (k ∷ []) []
over_by true past k finished e = grind (arith, filter-append, append_assoc)
over_by false past k finished e = grind (arith, filter-append, append_assoc)

pub over_more : (past : Past) (k : ℕ) → counted past.came (over past) ≤ counted past.came (over (record past { acted = past.acted ++ k ∷ [] }))
over_more past k =
    let e = ap (counted past.came) (over_by _ past k (left (pending past) past.finished) refl) in
    let f = counted_append past.came (over past) (cond (is_in k past.removed) (k ∷ []) []) in
    omega arith

-- one that is not removed
pub over_same : (past : Past) (k : ℕ) → is_in k past.removed ≡ false → over (record past { acted = past.acted ++ k ∷ [] }) ≡ over past
over_same past k e = over_by false past k (left (pending past) past.finished) e ∙ append-nil (over past)

-- one that was removed
pub over_gone : (past : Past) (k : ℕ) → is_in k past.removed ≡ true → over (record past { acted = past.acted ++ k ∷ [] }) ≡ over past ++ k ∷ []
over_gone past k e = over_by true past k (left (pending past) past.finished) e

-- one that is finished at once
pub over_other : (past : Past) (k : ℕ) → is_in k past.removed ≡ false → is_in k (pending past) ≡ false
    → counted past.came (over (record past { acted = past.acted ++ k ∷ []; finished = past.finished ++ k ∷ [] }))
    ≡ counted past.came (over past) + counted past.came (k ∷ [])
over_other past k e free =
    let came = past.came in
    let done = left (pending past) past.finished in
    let gone = filter (λ a. is_in a past.removed) past.acted in
    let a = ap (counted came)
    (ap (λ (l : List ℕ). l ++ filter (λ a. is_in a past.removed) (past.acted ++ k ∷ [])) (left_push (pending past) past.finished k free)
    ∙ over_by false past k (done ++ k ∷ []) e ∙ append-nil ((done ++ k ∷ []) ++ gone)) in
    let b = counted_append came (done ++ k ∷ []) gone in
    let c = counted_append came done (k ∷ []) in
    let d = counted_append came done gone in
    omega arith

-- one of the queue is finished
pub over_finished : (past : Past) (k : ℕ) → is_in k (pending past) ≡ false → counted past.came (over (record past { finished = past.finished ++ k ∷ [] }))
    ≡ counted past.came (over past) + counted past.came (k ∷ [])
over_finished past k free = grind (arith, left_push, counted_append)

-- ---- a step in which no request comes

pub due_as : (past after : Past) → after.came ≡ past.came → after.acted ≡ past.acted → due after ≡ due past
unfolding due
due_as past after came acted = rw (came, acted) refl

-- what is to be shown of it
pub record IsLawfulStep (past after : Past) : Type 0 where
  pub over : counted past.came (over past) ≤ counted past.came (over after)
  pub in_order : taken past.came ≡ after.acted ++ due after
  pub below : All (λ k. k < length past.came) after.acted
  pub acted : All (λ k. is_in k after.acted ≡ true) after.finished
  pub queued : commands past.came after.finished ++ queue after ≡ left after.removed (commands past.came after.acted)
  pub at_once : others past.came after.finished ≡ others past.came after.acted
  pub tags : AreDistinct (map (tag_of past.came) (unfinished after))
  pub function_tags : AreDistinct (map (tag_of past.came) (functions after))
  pub removed_below : All (λ k. k < length past.came) after.removed
  pub removed_commands : All (λ k. is_command (frame_of past.came k) ≡ true) after.removed
  pub apart : All (λ k. is_in k after.removed ≡ false) after.finished
  pub drained : AreDrained after

pub lawful_step : (past : Past) (acted finished removed : List ℕ) (drains : List Drain) (answered : List ℕ) → IsLawful past
    → IsLawfulStep past (record past { acted = acted; finished = finished; removed = removed; drains = drains; answered = answered })
    → IsLawful (record past { acted = acted; finished = finished; removed = removed; drains = drains; answered = answered })
unfolding taken_numbers
lawful_step past acted finished removed drains answered lawful step =
    let after : Past = record past { acted = acted; finished = finished; removed = removed; drains = drains; answered = answered } in
    let few = few_over after step.in_order step.queued step.at_once step.removed_commands lawful.handed in
    record {
      window = record { finished = few; handed = handed_le after; within = λ j come. (let lt = lawful.window.within j come in omega arith) };
      distinct = lawful.distinct;
      delivered = lawful.delivered;
      in_order = step.in_order;
      below = step.below;
      acted = step.acted;
      queued = step.queued;
      at_once = step.at_once;
      handed = lawful.handed;
      fed = lawful.fed;
      asked = lawful.asked;
      tags = step.tags;
      function_tags = step.function_tags;
      removed_below = step.removed_below;
      removed_commands = step.removed_commands;
      apart = step.apart;
      drained = step.drained;
    }
