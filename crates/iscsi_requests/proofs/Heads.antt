-- The first request of a line, and a request whose number is finished.
use Rattle.std.proofs.Common.{◌≡◌, ◌-◌, List, ◌∷◌, Bool, cond, sym, ◌∙◌, arith}
use Rattle.iscsi_pdu.specs.Header.{is_immediate}
use Rattle.iscsi_pdu.specs.Frames.{Frame}
use Rattle.iscsi_requests.specs.State.{TaskLists, one_fewer}

pub same_head : (a b : Frame) (x y l : List Frame) → l ≡ a ∷ x → l ≡ b ∷ y → a ≡ b
same_head a b x y l p q = let both : a ∷ x ≡ b ∷ y = sym p ∙ q in cc

pub same_tail : (a b : Frame) (x y l : List Frame) → l ≡ a ∷ x → l ≡ b ∷ y → x ≡ y
same_tail a b x y l p q = let both : a ∷ x ≡ b ∷ y = sym p ∙ q in cc

pub one_fewer_by : (b : Bool) (frame : Frame) (tasks : TaskLists) → is_immediate frame.header ≡ b
    → one_fewer frame tasks ≡ record tasks { unfinished = cond b tasks.unfinished (tasks.unfinished - 1) }
one_fewer_by b frame tasks e = grind arith
