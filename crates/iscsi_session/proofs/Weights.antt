-- How many acts can follow at most.
use Rattle.std.proofs.Common.{◌≡◌, ℕ, zero, suc, ◌+◌, ◌*◌, ◌<◌, ◌≤◌, List, [], ◌∷◌, ◌++◌, length, map, set, take, drop, Bool, true, cond, Option, Some, None, refl, sym, ap, ◌∙◌, arith, append-nil}
use Rattle.std.specs.Prelude.{filter, filter_map, option_map, is_some, IfSome, IfNone}
use Rattle.std.specs.List.{range_with_len}
use Rattle.std.proofs.lemmas.List.{length-map}
use Rattle.std.proofs.lemmas.List.Elements.{filter_map-append}
use Rattle.iscsi_pdu.specs.Frames.{Frame}
use Rattle.iscsi_order.specs.Window as order
use Rattle.iscsi_order.specs.Window.{window}
use Rattle.iscsi_requests.specs.Requests.{Past, is_function, numbered, numbers, held, place_of}
use Rattle.iscsi_requests.specs.Functions.{FunctionReach}
use Rattle.iscsi_requests.specs.State.{TaskLists, standing, frame_numbered, tasks_of, one_fewer, holding, takes_next, takes, takes_all, void_if, plugged_behind, without, weight, weigh, waiting}
use Rattle.iscsi_session.specs.Steps.{waiting_in}
use Rattle.iscsi_session.proofs.Standing.{numbered_standing}
use Rattle.iscsi_session.proofs.Taken.{frame_marked}

pub weight_by : (b : Bool) (frame : Frame) → is_function frame ≡ b → weight frame ≡ cond b 2 1
weight_by b frame e = grind arith

pub weight_some : (frame : Frame) → 1 ≤ weight frame
weight_some frame = grind arith

weigh_append : (a b : List Frame) → weigh (a ++ b) ≡ weigh a + weigh b
weigh_append [] b = omega arith
weigh_append (frame ∷ a) b = omega (arith, weigh_append a b)

weigh_few : (l : List Frame) → weigh l ≤ length l * 2
weigh_few [] = omega arith
weigh_few (frame ∷ l) = grind (arith, weigh_few l)

abbrev pub there : List (Option Frame) → List Frame
there l = filter_map (λ o. o) l

-- ---- requests are taken, or held: by what each list of them measures, where lists one after the other add up

there_push : (l : List (Option Frame)) → there (l ++ None ∷ []) ≡ there l
there_push l = filter_map-append (λ (o : Option Frame). o) l (None ∷ []) ∙ append-nil (there l)

module _ (m : List Frame → ℕ) (append : (a b : List Frame) → m (a ++ b) ≡ m a + m b) where
  turned_by : (l : List (Option Frame)) (line : List Frame) → m (there (drop 1 l ++ None ∷ [])) + m (line ++ there (take 1 l)) ≡ m (there l) + m line
  turned_by [] line = omega (arith, append line [], append [] [])
  turned_by (None ∷ l) line = omega (arith, append line [], append [] [], ap m (there_push l))
  turned_by (Some frame ∷ l) line = omega (arith, append line (frame ∷ []), append (frame ∷ []) (there l), ap m (there_push l))

  taken_measure : (n : ℕ) (tasks : TaskLists) → m (there (takes n tasks).held) + m (takes n tasks).due ≡ m (there tasks.held) + m tasks.due
  taken_measure zero tasks = refl
  taken_measure (suc n) tasks = taken_measure n (takes_next tasks) ∙ turned_by tasks.held tasks.due

  held_more : (l : List (Option Frame)) (i : ℕ) (frame : Frame) → m (there (set l i (Some frame))) ≤ m (there l) + m (frame ∷ [])
  held_more [] i frame = omega arith
  held_more (None ∷ l) zero frame = omega (arith, append (frame ∷ []) (there l))
  held_more (Some other ∷ l) zero frame = omega (arith, append (frame ∷ []) (there l), append (other ∷ []) (there l))
  held_more (None ∷ l) (suc i) frame = held_more l i frame
  held_more (Some other ∷ l) (suc i) frame =
      omega (arith, held_more l i frame, append (other ∷ []) (there l), append (other ∷ []) (there (set l i (Some frame))))

  pub held_measure : (n : ℕ) (frame : Frame) (tasks : TaskLists)
      → m (there (takes_all (holding n frame tasks)).held) + m (takes_all (holding n frame tasks)).due ≤ m (there tasks.held) + m tasks.due + m (frame ∷ [])
  held_measure n frame tasks = grind (arith, taken_measure, held_more)

pub waiting_held : (n : ℕ) (frame : Frame) (tasks : TaskLists) → waiting (takes_all (holding n frame tasks)) ≤ waiting tasks + weight frame
waiting_held n frame tasks = omega (arith, held_measure weigh weigh_append n frame tasks)

-- ---- one that is due is finished

pub waiting_first : (frame : Frame) (others : List Frame) (tasks : TaskLists) → tasks.due ≡ frame ∷ others
    → waiting tasks ≡ weight frame + waiting (record tasks { due = others })
waiting_first frame others tasks is = omega (arith, ap weigh is)

pub finishes_one : (frame : Frame) (old new : TaskLists) → old.due ≡ frame ∷ drop 1 old.due
    → new ≡ one_fewer frame (record old { due = drop 1 old.due }) → waiting new < waiting old
finishes_one frame old new is same = grind (arith, waiting_first, weight_some)

pub queues_one : (frame : Frame) (others queue : List Frame) (old new : TaskLists) → old.due ≡ frame ∷ others
    → new ≡ record old { due = others; queue = queue } → waiting new < waiting old
queues_one frame others queue old new is same = omega (arith, ap waiting same, waiting_first frame others old is, weight_some frame)

pub waiting_some : (tasks : TaskLists) → 0 < length tasks.due → 0 < waiting tasks
waiting_some tasks some = by_line tasks.due refl
  where
    by_line : (l : List Frame) → tasks.due ≡ l → 0 < waiting tasks
    by_line [] e = absurd (omega (arith, ap (λ (l : List Frame). length l) e))
    by_line (frame ∷ others) e = omega (arith, waiting_first frame others tasks e, weight_some frame)

-- ---- a number is plugged

pub waiting_plugged : (n : ℕ) (frame : Frame) (others : List Frame) (tasks : TaskLists) → tasks.due ≡ frame ∷ others → is_function frame ≡ true
    → waiting (plugged_behind n tasks (frame ∷ others)) < waiting tasks
waiting_plugged n frame others tasks is function = grind (arith, waiting_held, waiting_first, weight_by)

-- ---- SCSI Commands are removed

same_weight : (reach : FunctionReach) (frame : Frame) → weight (void_if reach frame) ≡ weight frame
same_weight reach frame = grind arith

weigh_voids : (reach : FunctionReach) (l : List Frame) → weigh (map (void_if reach) l) ≡ weigh l
weigh_voids reach [] = refl
weigh_voids reach (frame ∷ l) = omega (arith, same_weight reach frame, weigh_voids reach l)

weigh_held_voids : (reach : FunctionReach) (l : List (Option Frame)) → weigh (there (map (option_map (void_if reach)) l)) ≡ weigh (there l)
weigh_held_voids reach [] = refl
weigh_held_voids reach (None ∷ l) = weigh_held_voids reach l
weigh_held_voids reach (Some frame ∷ l) = omega (arith, same_weight reach frame, weigh_held_voids reach l)

pub waiting_without : (reach : FunctionReach) (tasks : TaskLists) → waiting (without reach tasks) ≡ waiting tasks
waiting_without reach tasks = omega (arith, weigh_held_voids reach tasks.held, weigh_voids reach tasks.due)

-- ---- what the past has of it

length_there : (f : ℕ → Option Frame) (q : ℕ → Bool) (l : List ℕ) → ((k : ℕ) → is_some (f k) ≡ q k) → length (there (map f l)) ≡ length (filter q l)
length_there f q [] same = refl
length_there f q (k ∷ l) same = grind (arith, length_there f q l same)

pub held_length : (past : Past) → length (there (map (frame_numbered (standing past)) (range_with_len (numbers past).handed window))) ≡ length (held past)
unfolding held
held_length past =
    length_there (frame_numbered (standing past)) (order.has_come (numbered past.came)) (range_with_len (numbers past).handed window)
    (λ k. frame_marked (standing past) k ∙ ap (λ (l : List ℕ). order.has_come l k) (numbered_standing past))
    ∙ sym (length-map (filter (order.has_come (numbered past.came)) (range_with_len (numbers past).handed window)) (place_of past.came))

pub waiting_fits : (past : Past) → waiting (tasks_of past) ≤ waiting_in past
unfolding tasks_of
waiting_fits past = grind (arith, weigh_few, held_length, length-map)

-- a line that has some has a first
pub given_frame : (r : Option Frame) (line : List Frame) {P Q : Frame → Type 0} → IfSome r P → IfSome r Q → IfNone r (line ≡ []) → 0 < length line
    → (frame : Frame) × P frame × Q frame
given_frame None line p q none some = absurd (omega (arith, some, ap (λ (l : List Frame). length l) none))
given_frame (Some frame) line p q none some = (frame, p, q)
