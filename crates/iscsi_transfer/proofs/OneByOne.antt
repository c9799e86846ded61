-- Where one R2T may be open, it is due as the payload comes to its offset.
use Rattle.std.proofs.Common.{◌≡◌, ℕ, ◌+◌, ◌-◌, ◌*◌, ◌<◌, ◌≤◌, min, List, [], ◌∷◌, ◌++◌, length, map, Bool, true, false, not, ◌&&◌, ◌||◌, None, refl, sym, ap, ◌∙◌, inl, inr, arith, length-append}
use Rattle.std.specs.Prelude.{◌==◌, if◌then◌else◌}
use Rattle.std.specs.List.{range_with_len}
use Rattle.std.proofs.lemmas.Bool.{eq-eqb, cases_Bool, cond-false}
use Rattle.std.proofs.lemmas.Bool.Decides.{eqb_tells}
use Rattle.iscsi_pdu.specs.Frames.{Frame}
use Rattle.iscsi_transfer.specs.Payload.{is_last}
use Rattle.iscsi_transfer.specs.declared.progress.Ask.{Ask}
use Rattle.iscsi_transfer.specs.WriteData.{WriteDataState, ask, filled, next_ask, bursts_wanted, due_asks, lacks_data, sequence_end, fault_of, grown, with_data}
use Rattle.iscsi_transfer.specs.WriteDataLaws.{asks_one_by_one, CommandAsksOneByOne, DataAsksOneByOne}
use Rattle.iscsi_transfer.proofs.Bursts.{none_come}
use Rattle.iscsi_transfer.proofs.Standing.{at_first, remembered-begun}
use Rattle.iscsi_transfer.proofs.Due.{lacks_shut, fewer_than_wanted}
use Rattle.iscsi_transfer.proofs.Lawful.{fits, solicited, end_shut, filled_open, filled_shut}

never : (x y : Bool) (asks : List Ask) → [] ≡ (if true && x && y && false then asks else [])
never true true asks = refl
never true false asks = refl
never false y asks = refl

-- k R2Ts have what they ask for, s were sent, and all are wanted
record Alone (k s all q offset length : ℕ) : Type 0 where
  fewer : k < all
  sent : k ≤ s
  here : k ≡ s → (q ≡ 0) × (offset ≡ length)

one_by : (b : Bool) (f : ℕ → Ask) (k s all q o p : ℕ) → (b ≡ true → Alone k s all q o p)
    → (if b then map f (range_with_len s (min all (k + 1) - s)) else []) ≡ (if b && q == 0 && o == p && k == s then f k ∷ [] else [])
one_by false f k s all q o p alone = refl
one_by true f k s all q o p alone = elim (eqb_tells k s) [
  | inl same ↦
      let e = same.1 in
      let at = (alone refl).here e in
      ap (λ (n : ℕ). map f (range_with_len s n)) {x = min all (k + 1) - s} {y = 1} (omega (arith, e, (alone refl).fewer))
      ∙ ap (λ (n : ℕ). f n ∷ []) (sym e) ∙ rw (eq-eqb q 0 at.0, eq-eqb o p at.1, same.0) refl
  | inr differ ↦
      let ne = differ.1 in
      let le = (alone refl).sent in
      ap (λ (n : ℕ). map f (range_with_len s n)) {x = min all (k + 1) - s} {y = 0} (omega (arith, le)) ∙ rw differ.0 (never (q == 0) (o == p) (f k ∷ []))
]

one_alone : (task : WriteDataState) → task.outstanding ≡ 1
    → (lacks_data task ≡ true → Alone (filled task) task.sent (bursts_wanted task) task.sequence_length (next_ask task).offset (length task.payload))
    → due_asks task ≡ asks_one_by_one task
one_alone task one alone = rw one (one_by (lacks_data task) (ask task) (filled task) task.sent (bursts_wanted task) task.sequence_length
    (next_ask task).offset (length task.payload) alone)

-- ---- the command

pub command_asks_one_by_one : CommandAsksOneByOne
command_asks_one_by_one values command some one =
    let task = at_first values command in
    rw (remembered-begun values command) (one_alone task one (λ lacks.
    let shut = (lacks_shut task.is_open (length task.payload) _ lacks).0 in
    let none : filled task ≡ 0 = rw shut (none_come (length command.body) values.max_burst_length) in
    record {
      fewer = fewer_than_wanted task some (omega arith) lacks;
      sent = omega (arith, none);
      here = λ _. (refl, rw none (omega arith));
    }))

-- ---- a Data-Out

last_of : (opened last at_end : Bool) → opened ≡ false → (opened || (if last then at_end else not at_end)) ≡ true → at_end ≡ true → last ≡ true
last_of true last at_end shut ends at = absurd cc
last_of false true at_end shut ends at = refl
last_of false false true shut ends at = absurd cc
last_of false false false shut ends at = absurd cc

last_now : (opened last : Bool) → opened ≡ true → (opened && not last) ≡ false → last ≡ true
last_now true true e shut = refl
last_now true false e shut = absurd cc
last_now false last e shut = absurd cc

start_of : (opened : Bool) (u n : ℕ) → u ≤ n → (if opened then n else u) ≤ n
start_of true u n le = omega arith
start_of false u n le = le

data_alone : (task : WriteDataState) (out : Frame) → 1 ≤ task.burst → task.unsolicited ≤ length task.payload → fault_of task out ≡ None
    → lacks_data (grown task out) ≡ true → Alone (filled (grown task out)) task.sent (bursts_wanted (grown task out))
    (grown task out).sequence_length (next_ask (grown task out)).offset (length (grown task out).payload)
data_alone task out some behind lawful lacks =
    let after = grown task out in
    let n = length (task.payload ++ out.body) in
    let long = length-append task.payload out.body in
    let shut = (lacks_shut after.is_open n _ lacks).0 in
    let fewer = fewer_than_wanted after some (start_of task.is_open task.unsolicited n (omega (arith, behind, long))) lacks in
    elim (cases_Bool task.is_open) [
      | inl is_open ↦
          let none = filled_open task out is_open in
          let last = last_now task.is_open (is_last out) is_open shut in
          record { fewer = fewer; sent = omega (arith, none); here = λ _. (rw last refl, rw (none, is_open) (omega arith)) }
      | inr open_no ↦
          let f = fits task out lawful in
          let s = solicited task out some behind open_no f in
          let now = filled_shut task out open_no in
          record {
            fewer = fewer;
            sent = omega (arith, now, s.more.one, s.asked);
            here = λ e.
                let next : filled after ≡ filled task + 1 = omega (arith, now, s.more.one, s.asked, e) in
                let came = sym now ∙ next in
                let at_end = eq-eqb (length task.payload + length out.body) (sequence_end task) (s.more.ends came ∙ sym (end_shut task open_no)) in
                let last = last_of task.is_open (is_last out) _ open_no f.ends at_end in (
                  rw last refl,
                  ap (λ (m : ℕ). m + filled after * task.burst) (cond-false task.is_open n task.unsolicited open_no)
                      ∙ ap (λ (m : ℕ). task.unsolicited + m * task.burst) next ∙ s.more.reach came ∙ sym long,
                );
          }
    ]

pub data_asks_one_by_one : DataAsksOneByOne
unfolding with_data
data_asks_one_by_one task out some one behind lawful = one_alone (with_data task out) one (data_alone task out some behind lawful)
