-- What is open after one R2T more, or one Data-Out more.
use Rattle.std.proofs.Common.{◌≡◌, ℕ, ◌+◌, ◌-◌, List, [], ◌∷◌, ◌++◌, length, drop, ap, ◌∙◌, arith, length-append, length-drop}
use Rattle.iscsi_pdu.specs.Frames.{Frame}
use Rattle.iscsi_transfer.specs.WriteData.{WriteDataState, filled, blank, grown, with_data, with_asked}
use Rattle.iscsi_transfer.specs.Counted.{Takes}
use Rattle.iscsi_transfer.proofs.Blank.{filled_blank}
use Rattle.iscsi_transfer.proofs.Bursts.{filled_more}

-- one R2T more, where k have what they ask for
pub pushed : (task : WriteDataState) (k tag : ℕ) (tags : List ℕ) → k ≡ filled task → task.sent ≡ k + length task.open_tags
    → tags ≡ task.open_tags ++ tag ∷ [] → record task { sent = k + length tags; open_tags = tags } ≡ with_asked (tag ∷ []) task
unfolding with_asked
pushed task k tag tags is counted more =
    ap (λ (ts : List ℕ). let t : WriteDataState = record task { sent = k + length ts; open_tags = ts } in t) more
    ∙ ap (λ (n : ℕ). let t : WriteDataState = record task { sent = n; open_tags = task.open_tags ++ tag ∷ [] } in t)
    {x = k + length (task.open_tags ++ tag ∷ [])} {y = task.sent + 1} (omega (arith, counted, length-append task.open_tags (tag ∷ [])))
    ∙ ap (λ (n : ℕ). let t : WriteDataState = record task { sent = task.sent + 1; open_tags = task.open_tags ++ drop n (tag ∷ []) } in t)
    {x = 0} {y = filled task - task.sent} (omega (arith, is, counted))

-- one Data-Out more, after which k have it
pub reached : (old new : WriteDataState) (out : Frame) → record new { sent = old.sent } ≡ blank (grown old out) → filled new ≡ filled (grown old out)
reached old new out is = ap filled is ∙ filled_blank (grown old out)

pub left_open : (old new : WriteDataState) (out : Frame) (k : ℕ) (tags : List ℕ) → record new { sent = old.sent } ≡ blank (grown old out)
    → k ≡ filled new → old.sent ≡ filled old + length old.open_tags → Takes old out
    → tags ≡ drop (k - filled old) old.open_tags → record new { sent = k + length tags; open_tags = tags } ≡ blank (with_data old out)
unfolding with_data
left_open old new out k tags is now counted takes left =
    let here : k ≡ filled (grown old out) = now ∙ reached old new out is in
    let long : length tags ≡ length old.open_tags - (k - filled old) = ap length left ∙ length-drop (k - filled old) old.open_tags in
    ap (λ (n : ℕ). let t : WriteDataState = record new { sent = n; open_tags = tags } in t) {x = k + length tags} {y = old.sent}
    (omega (arith, long, here, counted, filled_more old out, takes.opened))
    ∙ ap (λ (t : WriteDataState). let s : WriteDataState = record t { open_tags = tags } in s) is
    ∙ ap (λ (ts : List ℕ). let t : WriteDataState = record (blank (grown old out)) { open_tags = ts } in t)
    (left ∙ ap (λ (n : ℕ). drop (n - filled old) old.open_tags) here)
