-- The write of a connection on which bytes wait, and none of them is taken.
use Rattle.std.proofs.Common.{◌≡◌, ℕ, ◌<◌, zero, suc, List, [], ◌∷◌, ◌++◌, length, take, get_or, Bool, true, false, ◌||◌, ◌&&◌, eqb, refl, ◌∙◌, arith}
use Rattle.iscsi_outbox.specs.Offered.{EndsPdu}
use Rattle.iscsi_target.specs.History.{connection_limit}
use Rattle.iscsi_target.specs.Machine.{Machine, link_at, is_open_at, is_closing}
use Rattle.iscsi_ports.specs.Log.{Bytes, Entry, Wrote}
use Rattle.iscsi_serve.specs.Served.{MayHappen, MayComeOut}
use Rattle.iscsi_serve.specs.Turn.{Writes}
use Rattle.iscsi_serve.specs.Progress.{StepsBy, KeepsOthers, is_to_close}
use Rattle.iscsi_serve.proofs.Closing.{sent_none, others_same, due_open}
use Rattle.iscsi_serve.proofs.Fronts.{not_zero}
use Rattle.iscsi_serve.proofs.Goings.{write_some}
use Rattle.iscsi_serve.proofs.Keeping.{nothing_stays}

pub nothing_written : (tells tells_then : Bool) (log log_then : List Entry) (target after : Machine) (ended : List Bool) (c : ℕ) (offered : List ℕ)
    → c < connection_limit → is_open_at target c ≡ true → offered ≡ take (length offered) (link_at target c).waiting
    → EndsPdu (link_at target c).waiting offered → 0 < length offered → (tells_then ≡ true → tells ≡ true)
    → (tells_then ≡ true → log_then ≡ log ++ Wrote c (length offered) (Bytes []) ∷ []) → after ≡ target
    → StepsBy (Writes c) tells tells_then log log_then target after ended ended
nothing_written tells tells_then log log_then target after ended c offered lt open_ front ends some back e same = rw same record {
  keeps = record {
    back = back;
    each = λ number sound. sound;
    sure = λ sure. sure;
    served = λ t sound. nothing_stays MayHappen log log_then target c offered lt open_ front (e t);
    came = λ t. nothing_stays (MayComeOut target) log log_then target c offered lt open_ front (e t);
    bounded = λ bounded. bounded;
  };
  goes = λ t. write_some log log_then target target ended c 0 offered open_ front ends some (omega arith) (e t) (sent_none target c);
}

pub others_kept : (target after : Machine) (ended : List Bool) (c : ℕ) → after ≡ target → KeepsOthers c target after ended ended
others_kept target after ended c same = rw same (others_same target ended c)

-- it is closed only if it has ended
pub due_waiting : (target : Machine) (ended : List Bool) (c : ℕ) (due : Bool) → is_open_at target c ≡ true → 0 < length (link_at target c).waiting
    → due ≡ get_or ended c false → due ≡ is_to_close ended target c
due_waiting target ended c due open_ some e = let link = link_at target c in
    due_open target ended c due open_
    (e ∙ only_ended (get_or ended c false) (is_closing link.phase) (eqb (length link.waiting) 0) (not_none (length link.waiting) some))
  where
    only_ended : (has_ended closing none : Bool) → none ≡ false → has_ended ≡ (has_ended || closing && none)
    only_ended has_ended closing true e = absurd cc
    only_ended true closing false e = refl
    only_ended false true false e = refl
    only_ended false false false e = refl

    not_none : (n : ℕ) → 0 < n → eqb n 0 ≡ false
    not_none zero lt = absurd (omega (arith, lt))
    not_none (suc n) lt = not_zero n
