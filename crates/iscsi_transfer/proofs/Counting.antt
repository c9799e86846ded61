-- A Data-Out with which nothing is wrong can be counted.
use Rattle.std.proofs.Common.{◌≡◌, ℕ, ◌+◌, ◌≤◌, List, length, None, arith}
use Rattle.std.proofs.lemmas.List.{length-replicate}
use Rattle.iscsi_pdu.specs.DataOut.{data_sn}
use Rattle.iscsi_transfer.specs.WriteData.{WriteDataState, fault_of}
use Rattle.iscsi_transfer.specs.Counted.{brought, Takes}
use Rattle.iscsi_transfer.proofs.Inside.{Seen}
use Rattle.iscsi_transfer.proofs.Lawful.{fits, takes, within_expected}

pub record Counts (task : WriteDataState) (header : List ℕ) (size : ℕ) : Type 0 where
  pub numbered : data_sn header ≡ task.sequence_length
  pub short : length task.payload + size ≤ task.expected
  pub takes : Takes task (brought header size)

pub counts : (task : WriteDataState) (header : List ℕ) (size : ℕ) → Seen task → fault_of task (brought header size) ≡ None → Counts task header size
counts task header size is lawful =
    let within = within_expected task (brought header size) is.some_burst is.behind lawful in
    record {
      numbered = (fits task (brought header size) lawful).numbered;
      short = omega (arith, within, length-replicate {A = ℕ} size 0);
      takes = takes task (brought header size) is.some_burst is.behind is.counted lawful;
    }
