-- What holds of all progress, as clauses see it.
use Rattle.std.proofs.Common.{◌≡◌, ℕ, ◌+◌, ◌≤◌, length, sym, ap, subst}
use Rattle.std.proofs.lemmas.List.{length-replicate}
use Rattle.iscsi_transfer.specs.WriteData.{WriteDataState, bursts_in, filled}
use Rattle.iscsi_transfer.specs.Counted.{IsCounted}
use Rattle.iscsi_transfer.specs.declared.progress.Progress.TheInside.{Inside}
use Rattle.iscsi_transfer.specs.contracts.progress.Progress.{the_view}

pub record Seen (task : WriteDataState) : Type 0 where
  pub some_burst : 1 ≤ task.burst
  pub behind : task.unsolicited ≤ length task.payload
  pub few : task.outstanding ≤ 4
  pub counted : task.sent ≡ filled task + length task.open_tags

pub filled_is : (inside : Inside)
    → bursts_in inside.is_open inside.length inside.unsolicited inside.burst ≡ filled (the_view inside)
filled_is inside = ap (λ (n : ℕ). bursts_in inside.is_open n inside.unsolicited inside.burst) (sym (length-replicate inside.length 0))

pub seen : (inside : Inside) (task : WriteDataState) → IsCounted inside → the_view inside ≡ task → Seen task
seen inside task is same = subst Seen same (record {
  some_burst = is.some_burst;
  behind = subst (λ (n : ℕ). inside.unsolicited ≤ n) (sym (length-replicate inside.length 0)) is.behind;
  few = is.few;
  counted = ap (λ (n : ℕ). n + length inside.open_tags.items) (filled_is inside);
})
