-- A read into the lent buffer of a half-read PDU.
use Rattle.std.proofs.Common.{◌≡◌, ℕ, ◌≤◌, ◌+◌, List, ◌++◌, length, take, drop, Bool, sym, ap, ◌∙◌, subst, arith}
use Rattle.std.proofs.lemmas.List.{length-drop, length-take-le, take-take}
use Rattle.iscsi_framer.specs.declared.frame_buffer.FrameRoom.{FrameRoom}
use Rattle.iscsi_target.specs.Feeding.{LacksRoom}
use Rattle.iscsi_target.specs.Machine.{Machine, link_at}
use Rattle.iscsi_target.specs.Rooms.{filled_in}
use Rattle.iscsi_ports.specs.Log.{Entry}
use Rattle.iscsi_serve.specs.Progress.{StepsBy}
use Rattle.iscsi_serve.specs.Turn.{Moment}

-- the bytes that had come stay in front
pub lacks_after : (c : ℕ) (lent filled : FrameRoom) (before now : Machine) → filled.from ≡ lent.from
    → take lent.from filled.buffer.items ≡ take lent.from lent.buffer.items → LacksRoom c lent before now → LacksRoom c filled before now
lacks_after c lent filled before now from front lacks = record {
  is = lacks.is;
  same = lacks.same;
  bytes = lacks.bytes ∙ ap (λ (x : List ℕ). (link_at now c).half ++ x)
      (sym front ∙ ap (λ n. take n filled.buffer.items) (sym from));
}

-- as many bytes were filled in as were told
pub filled_count : (lent : FrameRoom) (count room : ℕ) → count ≤ room → lent.from + room ≤ length lent.buffer.items
    → length (filled_in lent count) ≡ count
filled_count lent count room some within =
    length-take-le count (drop lent.from lent.buffer.items)
    (omega (arith, some, within, length-drop lent.from lent.buffer.items))

-- they are the first of the room
pub filled_front : (lent : FrameRoom) (count room : ℕ) → count ≤ room → take count (take room (drop lent.from lent.buffer.items)) ≡ filled_in lent count
filled_front lent count room some = take-take count room (drop lent.from lent.buffer.items) some

-- the target is as it was before the buffer was lent
module _ {R : Moment → Moment → Type 0} {tells tells_then : Bool} {log log_then : List Entry} {ended ended_then : List Bool} where
  pub steps_to : (before now : Machine) → now ≡ before → StepsBy R tells tells_then log log_then before before ended ended_then
      → StepsBy R tells tells_then log log_then before now ended ended_then
  steps_to before now same steps =
      subst (λ (m : Machine). StepsBy R tells tells_then log log_then before m ended ended_then) (sym same) steps

  pub steps_from : (before now after : Machine) → now ≡ before → StepsBy R tells tells_then log log_then now after ended ended_then
      → StepsBy R tells tells_then log log_then before after ended ended_then
  steps_from before now after same steps =
      subst (λ (m : Machine). StepsBy R tells tells_then log log_then m after ended ended_then) same steps
