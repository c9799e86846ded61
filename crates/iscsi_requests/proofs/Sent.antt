-- What R2Ts for some parts of the data of a command make of its task.
use Rattle.std.proofs.Common.{◌≡◌, ℕ, zero, suc, ◌+◌, ◌-◌, ◌%◌, List, [], ◌∷◌, ◌++◌, length, drop, refl, ap, ◌∙◌, arith, append-nil, append_assoc}
use Rattle.std.proofs.lemmas.List.{drop_all}
use Rattle.iscsi_pdu.specs.declared.r2t.R2t.{R2t}
use Rattle.iscsi_pdu.specs.declared.stamp.Stamp.{Stamp}
use Rattle.iscsi_transfer.specs.WriteData.{WriteDataState, due_asks, with_asked}
use Rattle.iscsi_transfer.specs.declared.progress.Ask.{Ask}
use Rattle.iscsi_transfer.proofs.Due.{sent_is_due_no_more}
use Rattle.iscsi_requests.specs.Transfers.{r2ts_for}

abbrev pub transfer_tag : R2t → ℕ
transfer_tag r2t = r2t.target_transfer_tag

pub length-r2ts : (header : List ℕ) (tag : ℕ) (numbers : Stamp) (asks : List Ask) → length (r2ts_for header tag numbers asks) ≡ length asks
length-r2ts header tag numbers [] = refl
length-r2ts header tag numbers (ask ∷ asks) = ap suc (length-r2ts header ((tag + 1) % 0xFFFFFFFF) numbers asks)

-- ---- what a task makes of them

abbrev no_tags : List ℕ
no_tags = []

pub sent_none : (task : WriteDataState) → with_asked [] task ≡ task
unfolding with_asked
sent_none task = grind (arith, drop_all, append-nil)

after_one : (n m : ℕ) (open_tags : List ℕ) (tag : ℕ) (tags : List ℕ) → m ≡ n - 1
    → (open_tags ++ drop n (tag ∷ [])) ++ drop m tags ≡ open_tags ++ drop n (tag ∷ tags)
after_one zero m open_tags tag tags e = grind (arith, append_assoc)
after_one (suc n) m open_tags tag tags e = grind (arith, drop_all, append-nil)

pub sent_then : (task : WriteDataState) (tag : ℕ) (tags : List ℕ) → with_asked tags (with_asked (tag ∷ []) task) ≡ with_asked (tag ∷ tags) task
unfolding with_asked
sent_then task tag tags = grind (arith, after_one)

pub one_less : (task : WriteDataState) (ask : Ask) (asks : List Ask) (tag : ℕ) → due_asks task ≡ ask ∷ asks → due_asks (with_asked (tag ∷ []) task) ≡ asks
one_less task ask asks tag e = sent_is_due_no_more task tag ∙ ap (drop 1) e
