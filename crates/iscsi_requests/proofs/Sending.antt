-- The R2Ts that are due of one command are sent, one after the other.
use Rattle.std.proofs.Common.{◌≡◌, ℕ, zero, suc, ◌+◌, ◌*◌, ◌%◌, ◌<◌, ◌≤◌, List, [], ◌∷◌, ◌++◌, length, map, set, get_or, Some, None, refl, sym, ap, ◌∙◌, arith, append-nil, append_assoc}
use Rattle.std.specs.Prelude.{flat_map}
use Rattle.std.proofs.lemmas.List.{length-set}
use Rattle.iscsi_pdu.specs.Answer.{spelling}
use Rattle.iscsi_pdu.specs.declared.answer.Answer.TheVariants as answers
use Rattle.iscsi_pdu.specs.declared.r2t.R2t.{R2t}
use Rattle.iscsi_pdu.specs.declared.stamp.Stamp.{Stamp}
use Rattle.iscsi_transfer.specs.WriteData.{WriteDataState, first, due_asks, with_asked}
use Rattle.iscsi_transfer.specs.declared.progress.Ask.{Ask}
use Rattle.iscsi_requests.specs.declared.transfers.Transfer.{Transfer}
use Rattle.iscsi_requests.specs.Drained.{Drained}
use Rattle.iscsi_requests.specs.Transfers.{r2t_for, r2ts_for, r2t_answers}
use Rattle.iscsi_requests.specs.State.{TransferList, transfer_at, r2ts_at, sent_at, sent_to}
use Rattle.iscsi_requests.proofs.Sent.{transfer_tag, length-r2ts, sent_none, sent_then, one_less}

-- ---- at one place of the list

same_there : (l : List Transfer) (i : ℕ) → set l i (transfer_at l i) ≡ l
same_there [] i = refl
same_there (x ∷ l) zero = refl
same_there (x ∷ l) (suc i) = ap (λ (rest : List Transfer). x ∷ rest) (same_there l i)

twice : (l : List Transfer) (i : ℕ) (a b : Transfer) → set (set l i a) i b ≡ set l i b
twice [] i a b = refl
twice (x ∷ l) zero a b = refl
twice (x ∷ l) (suc i) a b = ap (λ (rest : List Transfer). x ∷ rest) (twice l i a b)

pub there_now : (l : List Transfer) (i : ℕ) (a : Transfer) → i < length l → transfer_at (set l i a) i ≡ a
there_now [] i a lt = absurd (omega (arith, lt))
there_now (x ∷ l) zero a lt = refl
there_now (x ∷ l) (suc i) a lt = there_now l i a (omega (arith, lt))

-- ---- none, and one more

no_first : (asks : List Ask) → first asks ≡ None → asks ≡ []
no_first [] e = refl
no_first (ask ∷ asks) e = absurd cc

a_first : (asks : List Ask) (ask : Ask) → first asks ≡ Some ask → (rest : List Ask) × (asks ≡ ask ∷ rest)
a_first [] ask e = absurd cc
a_first (other ∷ asks) ask e = let same : other ≡ ask = cc in (asks, ap (λ (a : Ask). a ∷ asks) same)

none_sent : (transfer : Transfer) → sent_to [] transfer ≡ transfer
none_sent transfer = ap (λ (t : WriteDataState). record transfer { task = t }) (sent_none transfer.task)

pub sent_nothing : (i : ℕ) (transfers : TransferList) → transfers.next_tag < 0xFFFFFFFF → sent_at i [] transfers ≡ transfers
sent_nothing i transfers below = grind (arith, none_sent, same_there)

both_sent : (r2t : R2t) (r2ts : List R2t) (transfer : Transfer) → sent_to r2ts (sent_to (r2t ∷ []) transfer) ≡ sent_to (r2t ∷ r2ts) transfer
both_sent r2t r2ts transfer =
    ap (λ (t : WriteDataState). record transfer { task = t }) (sent_then transfer.task r2t.target_transfer_tag (map transfer_tag r2ts))

pub sent_behind : (i : ℕ) (r2t : R2t) (r2ts : List R2t) (transfers : TransferList) → i < length transfers.list
    → sent_at i r2ts (sent_at i (r2t ∷ []) transfers) ≡ sent_at i (r2t ∷ r2ts) transfers
sent_behind i r2t r2ts transfers lt = grind (arith, there_now, twice, both_sent)

-- ---- the first that is due

-- it is sent, and the others are due
pub sent_first : (transfers : TransferList) (numbers : Stamp) (i : ℕ) (ask : Ask) → i < length transfers.list
    → first (due_asks (transfer_at transfers.list i).task) ≡ Some ask
    → let r2t = r2t_for (transfer_at transfers.list i).header transfers.next_tag numbers ask in
    r2ts_at transfers numbers i ≡ r2t ∷ r2ts_at (sent_at i (r2t ∷ []) transfers) numbers i
sent_first transfers numbers i ask lt e =
    let transfer = transfer_at transfers.list i in
    let due = a_first (due_asks transfer.task) ask e in
    let tag = transfers.next_tag in
    let r2t = r2t_for transfer.header tag numbers ask in
    ap (r2ts_for transfer.header tag numbers) due.1
    ∙ ap (λ (asks : List Ask). r2t ∷ r2ts_for transfer.header ((tag + 1) % 0xFFFFFFFF) numbers asks) (sym (one_less transfer.task ask due.0 tag due.1))
    ∙ ap (λ (t : Transfer). r2t ∷ r2ts_for t.header ((tag + 1) % 0xFFFFFFFF) numbers (due_asks t.task))
    (sym (there_now transfers.list i (sent_to (r2t ∷ []) transfer) lt))

pub same_place : (l : List Transfer) (i : ℕ) (d : Transfer) → i < length l → get_or l i d ≡ transfer_at l i
same_place [] i d lt = absurd (omega (arith, lt))
same_place (x ∷ l) zero d lt = refl
same_place (x ∷ l) (suc i) d lt = same_place l i d (omega (arith, lt))

-- the same by what each call left
pub sent_rest : (next : ℕ) (items : List Transfer) (drains : List Drained) (tag i : ℕ) (numbers : Stamp) (ask : Ask) (transfer : Transfer)
    {task : WriteDataState} {r2t : R2t} → i < length items → first (due_asks (transfer_at items i).task) ≡ Some ask → transfer ≡ transfer_at items i
    → task ≡ with_asked (tag ∷ []) transfer.task → next ≡ (tag + 1) % 0xFFFFFFFF → r2t ≡ r2t_for transfer.header tag numbers ask
    → r2ts_at (record { next_tag = tag; list = items; drains = drains }) numbers i
    ≡ r2t ∷ r2ts_at (record { next_tag = next; list = set items i (record { header = transfer.header; task = task }); drains = drains }) numbers i
sent_rest next items drains tag i numbers ask transfer lt due at task_is next_is r2t_is =
    rw (r2t_is, task_is, next_is, at) (sent_first (record { next_tag = tag; list = items; drains = drains }) numbers i ask lt due)

-- ---- one after the other

-- what is left to be sent completes what was to be sent at first, and there is room for it
pub record IsSent (i : ℕ) (numbers : Stamp) (old now : TransferList) (before items : List ℕ) (spare : ℕ) : Type 0 where
  pub there : i < length now.list
  pub rest : sent_at i (r2ts_at now numbers i) now ≡ sent_at i (r2ts_at old numbers i) old
  pub written : items ++ flat_map spelling (r2t_answers (r2ts_at now numbers i)) ≡ before ++ flat_map spelling (r2t_answers (r2ts_at old numbers i))
  pub room : length (r2ts_at now numbers i) * 48 ≤ spare

pub sending_begins : (i : ℕ) (numbers : Stamp) (old : TransferList) (before : List ℕ) (spare : ℕ) → i < length old.list
    → length (due_asks (transfer_at old.list i).task) ≤ 4 → 192 ≤ spare → IsSent i numbers old old before before spare
sending_begins i numbers old before spare lt few room = grind (arith, length-r2ts)

pub sending_more : {i : ℕ} {numbers : Stamp} {old now next : TransferList} {before items more : List ℕ} {spare less : ℕ} (r2t : R2t)
    → IsSent i numbers old now before items spare → r2ts_at now numbers i ≡ r2t ∷ r2ts_at next numbers i → next ≡ sent_at i (r2t ∷ []) now
    → more ≡ items ++ spelling (answers.R2t r2t) → spare ≤ less + 48 → IsSent i numbers old next before more less
sending_more {i} {numbers} {old} {now} {next} {before} {items} {more} {spare} {less} r2t so_far is sent put room = record {
  there = omega (arith, so_far.there, ap (λ (t : TransferList). length t.list) sent, length-set now.list i (sent_to (r2t ∷ []) (transfer_at now.list i)));
  rest = ap (sent_at i (r2ts_at next numbers i)) sent ∙ sent_behind i r2t (r2ts_at next numbers i) now so_far.there
      ∙ ap (λ (l : List R2t). sent_at i l now) (sym is) ∙ so_far.rest;
  written = ap (λ (l : List ℕ). l ++ flat_map spelling (r2t_answers (r2ts_at next numbers i))) put
      ∙ append_assoc items (spelling (answers.R2t r2t)) (flat_map spelling (r2t_answers (r2ts_at next numbers i)))
      ∙ ap (λ (l : List R2t). items ++ flat_map spelling (r2t_answers l)) (sym is) ∙ so_far.written;
  room = (let was = so_far.room in omega (arith, was, room, ap (λ (l : List R2t). length l) is));
}

-- none is due any more
pub sending_ends : {i : ℕ} {numbers : Stamp} {old now : TransferList} {before items : List ℕ} {spare : ℕ} → IsSent i numbers old now before items spare
    → now.next_tag < 0xFFFFFFFF → first (due_asks (transfer_at now.list i).task) ≡ None
    → (items ≡ before ++ flat_map spelling (r2t_answers (r2ts_at old numbers i))) × (now ≡ sent_at i (r2ts_at old numbers i) old)
sending_ends {i} {numbers} {old} {now} {before} {items} {spare} sent below none = grind (arith, no_first, append-nil, sent_nothing)
