use Rattle.iscsi_order.specs.Window.{Past, taken}
use Rattle.iscsi_order.specs.Laws.{IsFront}
use Rattle.iscsi_order.proofs.Front.{front, front_come, front_missing, front_run}
use Rattle.iscsi_order.proofs.laws.taken_is_the_front.Goals as goal

is_front : (past : Past) → IsFront past (front past.came)
unfolding taken
is_front past = record { order = front_run past.came; come = front_come past.came; missing = front_missing past.came }

pub returns : goal.returns
unfolding taken
returns c past = is_front past
