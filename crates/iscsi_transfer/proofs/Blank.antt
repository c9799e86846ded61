-- Only how long the payload is counts for the rules of a command's data.
use Rattle.std.proofs.Common.{◌≡◌, ℕ, ◌+◌, List, ◌++◌, length, replicate, refl, sym, ap, ◌∙◌}
use Rattle.std.proofs.lemmas.List.{length-append, length-replicate}
use Rattle.iscsi_pdu.specs.Frames.{Frame}
use Rattle.iscsi_transfer.specs.Counted.{brought}
use Rattle.iscsi_transfer.specs.WriteData.{WriteDataState, blank, filled, due_asks, is_asked, fault_of, with_data, with_asked}

pub long_of : (zeros items : List ℕ) → zeros ≡ replicate (length items) 0 → length zeros ≡ length items
long_of zeros items e = ap length e ∙ length-replicate (length items) 0

pub fault_same : (task : WriteDataState) (items : List ℕ) (out : Frame) → length task.payload ≡ length items
    → fault_of (record task { payload = items }) out ≡ fault_of task out
unfolding fault_of
fault_same task items out long = rw (← long) refl

pub with_same : (task : WriteDataState) (items : List ℕ) (out : Frame) → length task.payload ≡ length items
    → record (blank (with_data task out)) { payload = items ++ out.body } ≡ with_data (record task { payload = items }) out
unfolding with_data
with_same task items out long = rw (length-append task.payload out.body, length-append items out.body, long) refl

pub due_same : (task : WriteDataState) (items : List ℕ) → length task.payload ≡ length items
    → due_asks (record task { payload = items }) ≡ due_asks task
due_same task items long = rw (← long) refl

pub asked_same : (task : WriteDataState) (items tags : List ℕ) → length task.payload ≡ length items
    → record (with_asked tags task) { payload = items } ≡ with_asked tags (record task { payload = items })
unfolding with_asked
asked_same task items tags long = rw (← long) refl

blank_long : (task : WriteDataState) → length task.payload ≡ length (blank task).payload
blank_long task = sym (length-replicate (length task.payload) 0)

pub fault_blank : (task : WriteDataState) (out : Frame) → fault_of (blank task) out ≡ fault_of task out
fault_blank task out = fault_same task (blank task).payload out (blank_long task)

pub filled_blank : (task : WriteDataState) → filled (blank task) ≡ filled task
filled_blank task = rw (← blank_long task) refl

pub asked_blank : (task : WriteDataState) → is_asked (blank task) ≡ is_asked task
asked_blank task = rw (← blank_long task) refl

pub with_blank : (task : WriteDataState) (out : Frame) → blank (with_data (blank task) out) ≡ blank (with_data task out)
unfolding with_data
with_blank task out = rw (length-append (blank task).payload out.body, length-append task.payload out.body, ← blank_long task) refl

-- what does not change
pub asked_payload : (task : WriteDataState) (tags : List ℕ) → (with_asked tags task).payload ≡ task.payload
unfolding with_asked
asked_payload task tags = refl

-- and how long it is
pub with_zeros : (task : WriteDataState) (out : Frame) (n : ℕ) → length task.payload + length out.body ≡ n
    → (blank (with_data task out)).payload ≡ replicate n 0
unfolding with_data
with_zeros task out n e = ap (λ (k : ℕ). replicate k 0) (length-append task.payload out.body ∙ e)

-- and of a Data-Out only how much it brings
with_brought : (task : WriteDataState) (out : Frame) → blank (with_data task (brought out.header (length out.body))) ≡ blank (with_data task out)
unfolding with_data
with_brought task out = rw (length-append task.payload (replicate (length out.body) 0), length-append task.payload out.body, length-replicate {A = ℕ} (length out.body) 0) refl

pub brought_is : (task : WriteDataState) (out : Frame) (header : List ℕ) (size : ℕ) → header ≡ out.header → size ≡ length out.body
    → blank (with_data task (brought header size)) ≡ blank (with_data task out)
brought_is task out header size same long = rw (same, long) (with_brought task out)

pub fault_brought : (task : WriteDataState) (out : Frame) (header : List ℕ) (size : ℕ) → header ≡ out.header → size ≡ length out.body
    → fault_of task (brought header size) ≡ fault_of task out
unfolding fault_of
fault_brought task out header size same long = rw (same, long, length-replicate {A = ℕ} (length out.body) 0) refl
