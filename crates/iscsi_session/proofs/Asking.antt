-- The R2Ts that are due of a command are sent, and a command of the queue is done where its data is whole.
use Rattle.std.proofs.Common.{◌≡◌, ◌≢◌, ◌==◌, ℕ, ◌+◌, ◌%◌, ◌<◌, List, [], ◌∷◌, ◌++◌, length, map, set, Bool, true, false, Option, Some, None, refl, sym, ap, subst, ◌∙◌, arith, append-nil, append_assoc}
use Rattle.std.specs.Prelude.{All, filter, find, is_some, slice_get}
use Rattle.std.proofs.lemmas.Bool.{eq-eqb, ne_eqb}
use Rattle.std.proofs.lemmas.List.{length-append, length-map, map-append}
use Rattle.std.proofs.lemmas.List.Elements.{All-push, filter-append}
use Rattle.iscsi_pdu.specs.declared.r2t.R2t.{R2t}
use Rattle.iscsi_pdu.specs.declared.stamp.Stamp.{Stamp}
use Rattle.iscsi_transfer.specs.WriteData.{WriteDataState, remembered as task_of, due_asks, is_due, with_asked}
use Rattle.iscsi_transfer.specs.declared.progress.Ask.{Ask}
use Rattle.iscsi_transfer.proofs.Standing.{remembered-asked}
use Rattle.iscsi_requests.specs.declared.transfers.Transfer.{Transfer}
use Rattle.iscsi_requests.specs.Requests.{Past, SentR2t, frame_of, is_in, due, queue, unfinished, stamp, statuses, bearing, functions}
use Rattle.iscsi_requests.specs.Transfers.{outs_of, tags_of, data_past, task_at, asks_of, is_due_of, asking, next_transfer_tag, drains_of, r2ts_for, r2ts_of, r2t_answers, sent_for, asked, asked_by, r2ts_by}
use Rattle.iscsi_requests.specs.State.{SessionState, AreDrained, drained_of, IsLawful, Stands, tasks_of, transfers_of, transfer_of, transfer_at, no_transfer, asking_place, r2ts_at, sent_at, sent_to, functions_of, standing}
use Rattle.iscsi_session.specs.Steps.{ready, ready_in}
use Rattle.iscsi_session.specs.Laws.{R2tsAreSentAtOnce}
use Rattle.iscsi_order.specs.Stat.{stat_sn}
use Rattle.iscsi_requests.proofs.Sent.{transfer_tag, length-r2ts, sent_none, sent_then, one_less}
use Rattle.iscsi_requests.proofs.Left.{in_at, in_filter}
use Rattle.iscsi_requests.proofs.Places.{in_get, Located, located, index_map, first_passes, none_passes}
use Rattle.iscsi_session.proofs.Kept.{unfinished_came}
use Rattle.iscsi_session.proofs.Parts.{parts}
use Rattle.iscsi_session.proofs.Feeding.{list_is, list_changed, drains_kept}
use Rattle.iscsi_session.proofs.Runs.{lawful_data, statuses_answering}
use Rattle.iscsi_requests.specs.Texts.{exchange_of}

pub r2ts_counted : (past : Past) (k : ℕ) → length (r2ts_of past k) ≡ length (asks_of past k)
unfolding r2ts_of
r2ts_counted past k = length-r2ts (frame_of past.came k).header (next_transfer_tag past) (stamp past) (asks_of past k)

-- where all that are due are sent, none is due
pub all_sent : (task : WriteDataState) (asks : List Ask) (tags : List ℕ) → due_asks task ≡ asks → length tags ≡ length asks
    → due_asks (with_asked tags task) ≡ []
all_sent task [] [] e same = ap due_asks (sent_none task) ∙ e
all_sent task [] (tag ∷ tags) e same = absurd (omega (arith, same))
all_sent task (ask ∷ asks) [] e same = absurd (omega (arith, same))
all_sent task (ask ∷ asks) (tag ∷ tags) e same =
    grind (arith, all_sent (with_asked (tag ∷ []) task) asks tags (one_less task ask asks tag e) (omega (arith, same)), sent_then, one_less)

-- ---- what a command remembers of them

abbrev named : ℕ → SentR2t → Bool
named k r2t = r2t.command == k

tags_there : (k : ℕ) (r2ts : List R2t) → map (λ r. r.tag) (filter (named k) (map (sent_for k) r2ts)) ≡ map transfer_tag r2ts
tags_there k [] = refl
tags_there k (r2t ∷ r2ts) = rw (eq-eqb k k refl) (ap (λ (l : List ℕ). r2t.target_transfer_tag ∷ l) (tags_there k r2ts))

tags_elsewhere : (k j : ℕ) (r2ts : List R2t) → (k == j) ≡ false → map (λ r. r.tag) (filter (named j) (map (sent_for k) r2ts)) ≡ []
tags_elsewhere k j [] e = refl
tags_elsewhere k j (r2t ∷ r2ts) e = rw e (tags_elsewhere k j r2ts e)

tags_more : (past : Past) (k j : ℕ) → tags_of (asked k past) j ≡ tags_of past j ++ map (λ r. r.tag) (filter (named j) (map (sent_for k) (r2ts_of past k)))
unfolding tags_of
tags_more past k j = grind (arith, filter-append, map-append)

abbrev from_tags : Past → ℕ → List ℕ → Transfer
from_tags past k tags = record {
  header = (frame_of past.came k).header;
  task = task_of (record { values = past.params.values; command = frame_of past.came k; outs = outs_of past k; tags = tags });
}

tags_grown : (past : Past) (k j : ℕ) (tags : List ℕ) → tags_of (asked k past) j ≡ tags → transfer_of (asked k past) j ≡ from_tags past j tags
unfolding task_at outs_of
tags_grown past k j tags e = ap (from_tags past j) e

pub asked_there : (past : Past) (k : ℕ) → transfer_of (asked k past) k ≡ sent_to (r2ts_of past k) (transfer_of past k)
unfolding task_at
asked_there past k =
    tags_grown past k k _ (tags_more past k k ∙ ap (λ (l : List ℕ). tags_of past k ++ l) (tags_there k (r2ts_of past k)))
    ∙ ap (λ (t : WriteDataState). record (transfer_of past k) { task = t }) (remembered-asked (data_past past k) (map transfer_tag (r2ts_of past k)))

pub asked_elsewhere : (past : Past) (k j : ℕ) → j ≢ k → transfer_of (asked k past) j ≡ transfer_of past j
unfolding task_at
asked_elsewhere past k j differ = grind (arith, tags_grown, tags_more, tags_elsewhere, ne_eqb, append-nil)

-- none is due of it after them
pub asks_gone : (past : Past) (k : ℕ) → asks_of (asked k past) k ≡ []
asks_gone past k =
    ap (λ (t : Transfer). due_asks t.task) (asked_there past k)
    ∙ all_sent (task_at past k) (asks_of past k) (map transfer_tag (r2ts_of past k)) refl
    (length-map (r2ts_of past k) transfer_tag ∙ r2ts_counted past k)

pub unfinished_asked : (past : Past) (k : ℕ) → unfinished (asked k past) ≡ unfinished past
unfolding unfinished
unfinished_asked past k = refl

-- ---- which command is asked

asking_in : (past : Past) (state : SessionState) → Stands past state
    → Located (λ transfer. is_due transfer.task) (transfer_of past) (unfinished past) (asking_place state.transfers.list)
asking_in past state s =
    subst (λ (l : List Transfer). Located (λ transfer. is_due transfer.task) (transfer_of past) (unfinished past) (asking_place l))
    (sym (list_is past state s)) (located (λ (transfer : Transfer). is_due transfer.task) (transfer_of past) (unfinished past))

pub asking_came : (past : Past) (k : ℕ) (rest : List ℕ) → asking past ≡ k ∷ rest → k < length past.came
unfolding asking
asking_came past k rest is = unfinished_came past k (in_filter k (is_due_of past) (unfinished past)
    (ap (λ (l : List ℕ). is_in k l) is ∙ in_at (k ∷ rest) 0 0 (omega arith)))

none_asking : (past : Past) → find (is_due_of past) (unfinished past) ≡ None → asking past ≡ []
unfolding asking
none_asking past e = none_passes (is_due_of past) (unfinished past) e

one_asking : (past : Past) (k : ℕ) → find (is_due_of past) (unfinished past) ≡ Some k → (others : List ℕ) × (asking past ≡ k ∷ others)
unfolding asking
one_asking past k e = first_passes (is_due_of past) k (unfinished past) e

-- ---- what is remembered after it

asked_list : (past : Past) (k i : ℕ) → slice_get (unfinished past) i ≡ Some k
    → set (map (transfer_of past) (unfinished past)) i (sent_to (r2ts_of past k) (transfer_at (map (transfer_of past) (unfinished past)) i))
    ≡ map (transfer_of (asked k past)) (unfinished past)
asked_list past k i at =
    list_changed past (asked k past) k i _ at
    (ap (sent_to (r2ts_of past k)) (index_map (transfer_of past) no_transfer (unfinished past) i k at) ∙ sym (asked_there past k))
    (λ j differ. asked_elsewhere past k j differ)

asked_drains : (past : Past) (k i : ℕ) → AreDrained past → slice_get (unfinished past) i ≡ Some k
    → map (drained_of past) (drains_of past) ≡ map (drained_of (asked k past)) (drains_of (asked k past))
asked_drains past k i drained at =
    drains_kept past (asked k past) k drained (in_get (unfinished past) i k at) refl (λ j differ. asked_elsewhere past k j differ)

next_behind : (past : Past) (k : ℕ) → (next_transfer_tag past + length (r2ts_of past k)) % 0xFFFFFFFF ≡ next_transfer_tag (asked k past)
next_behind past k =
    omega (arith, length-append past.r2ts (map (sent_for k) (r2ts_of past k)), length-map (r2ts_of past k) (sent_for k))

asked_transfers : (past : Past) (k i : ℕ) → AreDrained past → slice_get (unfinished past) i ≡ Some k
    → sent_at i (r2ts_of past k) (transfers_of past) ≡ transfers_of (asked k past)
unfolding transfers_of
asked_transfers past k i drained at = grind (arith, next_behind, asked_list, unfinished_asked, asked_drains)

r2ts_bear_none : (r2ts : List R2t) → bearing (r2t_answers r2ts) ≡ 0
r2ts_bear_none [] = refl
r2ts_bear_none (r2t ∷ r2ts) = r2ts_bear_none r2ts

statuses_asked : (past : Past) (k : ℕ) → statuses (asked k past) ≡ statuses past
statuses_asked past k = grind (arith, statuses_answering, r2ts_bear_none)

-- ---- the numbers that they carry

alike : (header : List ℕ) (tag : ℕ) (numbers : Stamp) (asks : List Ask) → All (λ r2t. r2t.stamp ≡ numbers) (r2ts_for header tag numbers asks)
alike header tag numbers [] = λ i d lt. absurd (omega (arith, lt))
alike header tag numbers (ask ∷ asks) = grind (arith, alike header ((tag + 1) % 0xFFFFFFFF) numbers asks)

stamps_alike : (past : Past) (k : ℕ) → All (λ r2t. r2t.stamp ≡ stamp past) (r2ts_of past k)
unfolding r2ts_of
stamps_alike past k = alike (frame_of past.came k).header (next_transfer_tag past) (stamp past) (asks_of past k)

stamp_unused : (past : Past) (k : ℕ) → stamp (asked k past) ≡ stamp past
unfolding stamp
stamp_unused past k = ap (λ (n : ℕ). record (stamp past) { stat_sn = stat_sn n }) (statuses_asked past k)

pub r2ts_are_sent_at_once : R2tsAreSentAtOnce
r2ts_are_sent_at_once past k = record { stamps = stamps_alike past k; unused = stamp_unused past k; none_left = asks_gone past k }

all_of_command : (n k : ℕ) (r2ts : List R2t) (l : List SentR2t) → k < n → All (λ r. r.command < n) l → All (λ r. r.command < n) (l ++ map (sent_for k) r2ts)
all_of_command n k [] l lt all = subst (All (λ (r : SentR2t). r.command < n)) (sym (append-nil l)) all
all_of_command n k (r2t ∷ r2ts) l lt all =
    subst (All (λ (r : SentR2t). r.command < n)) (append_assoc l (sent_for k r2t ∷ []) (map (sent_for k) r2ts))
    (all_of_command n k r2ts (l ++ sent_for k r2t ∷ []) lt (All-push (λ (r : SentR2t). r.command < n) l (sent_for k r2t) all lt))

pub lawful_asked : (past : Past) (k : ℕ) → k < length past.came → IsLawful past → IsLawful (asked k past)
lawful_asked past k lt lawful =
    lawful_data past past.data_outs (past.r2ts ++ map (sent_for k) (r2ts_of past k)) (past.answers ++ r2t_answers (r2ts_of past k)) lawful lawful.fed
    (all_of_command (length past.came) k (r2ts_of past k) past.r2ts lt lawful.asked)

stands_one : (past : Past) (state : SessionState) (k i : ℕ) (others : List ℕ) → Stands past state → asking past ≡ k ∷ others
    → slice_get (unfinished past) i ≡ Some k → Stands (asked k past) (record state { transfers = sent_at i (r2ts_of past k) state.transfers })
unfolding tasks_of functions_of exchange_of due queue standing functions
stands_one past state k i others s is at = grind (arith, lawful_asked, asking_came, asked_transfers, statuses_asked)

-- ---- what is sent

r2ts_there : (past : Past) (state : SessionState) (numbers : Stamp) (k i : ℕ) → Stands past state → numbers ≡ stamp past
    → slice_get (unfinished past) i ≡ Some k → r2ts_at state.transfers numbers i ≡ r2ts_of past k
unfolding r2ts_of transfers_of
r2ts_there past state numbers k i s same at = grind (arith, parts past state s, index_map (transfer_of past) no_transfer (unfinished past) i k at)

-- the R2Ts that the command at this place is sent are those of the first that is to be asked
pub record SendsAll (past : Past) (state : SessionState) (r2ts : List R2t) (i : ℕ) : Type 0 where
  pub stands : Stands (asked_by (asking past) past) (record state { transfers = sent_at i r2ts state.transfers })
  pub r2ts_are : r2t_answers r2ts ≡ r2ts_by (asking past) past

sends_one : (past : Past) (state : SessionState) (numbers : Stamp) (at : Option ℕ) (i : ℕ) → Stands past state → numbers ≡ stamp past → at ≡ Some i
    → Located (λ transfer. is_due transfer.task) (transfer_of past) (unfinished past) at
    → SendsAll past state (r2ts_at state.transfers numbers i) i
sends_one past state numbers None i s same is found = absurd cc
sends_one past state numbers (Some j) i s same is found =
    let here : j ≡ i = cc in
    let k = found.0 in
    let one = one_asking past k found.1 in
    let place : slice_get (unfinished past) i ≡ Some k = ap (slice_get (unfinished past)) (sym here) ∙ found.2 in
    let are = r2ts_there past state numbers k i s same place in
    let sent = sent_at i (r2ts_of past k) state.transfers in
    subst (λ (r2ts : List R2t). SendsAll past state r2ts i) (sym are) (record {
      stands = subst (λ (l : List ℕ). Stands (asked_by l past) (record state { transfers = sent })) (sym one.1) (stands_one past state k i one.0 s one.1 place);
      r2ts_are = ap (λ (l : List ℕ). r2ts_by l past) (sym one.1);
    })

pub sends_all : (past : Past) (state : SessionState) (numbers : Stamp) (i : ℕ) → Stands past state → numbers ≡ stamp past
    → asking_place state.transfers.list ≡ Some i → SendsAll past state (r2ts_at state.transfers numbers i) i
sends_all past state numbers i s same is = sends_one past state numbers (asking_place state.transfers.list) i s same is (asking_in past state s)

-- whether there is one
there_by : (past : Past) (at : Option ℕ) → Located (λ transfer. is_due transfer.task) (transfer_of past) (unfinished past) at
    → (is_some at ≡ true → (k : ℕ) × (others : List ℕ) × (asking past ≡ k ∷ others)) × (is_some at ≡ false → asking past ≡ [])
there_by past None found = (λ e. absurd cc, λ e. none_asking past found)
there_by past (Some i) found = (λ e. (let one = one_asking past found.0 found.1 in (found.0, one.0, one.1)), λ e. absurd cc)

pub asking_there : (past : Past) (state : SessionState) → Stands past state
    → (is_some (asking_place state.transfers.list) ≡ true → (k : ℕ) × (others : List ℕ) × (asking past ≡ k ∷ others))
    × (is_some (asking_place state.transfers.list) ≡ false → asking past ≡ [])
asking_there past state s = grind (arith, there_by, asking_in)

-- ---- a command that can be done is the first of the queue

ready_from : (past : Past) (k : ℕ) (rest l : List ℕ) → ready_in past l ≡ k ∷ rest → l ≡ k ∷ rest
ready_from past k rest [] is = absurd cc
ready_from past k rest (a ∷ l) is = grind arith

pub ready_queue : (past : Past) (k : ℕ) (rest : List ℕ) → ready past ≡ k ∷ rest → queue past ≡ k ∷ rest
unfolding ready
ready_queue past k rest is = ready_from past k rest (queue past) is
