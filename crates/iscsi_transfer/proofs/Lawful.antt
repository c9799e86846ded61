-- What holds of a Data-Out with which nothing is wrong.
use Rattle.std.proofs.Common.{◌≡◌, ℕ, ◌+◌, ◌-◌, ◌/◌, ◌<◌, ◌≤◌, min, ◌++◌, length, Bool, true, false, not, ◌&&◌, ◌||◌, Some, None, refl, subst, inl, inr, arith, length-append}
use Rattle.std.specs.Prelude.{nat_lt, nat_le, ◌==◌, if◌then◌else◌, Option}
use Rattle.std.proofs.lemmas.Bool.{eqb-true, ltb-true, ltb-false, and_parts, cases_Bool, cond-true, cond-false}
use Rattle.iscsi_pdu.specs.Frames.{Frame}
use Rattle.iscsi_pdu.specs.DataOut.{target_transfer_tag, data_sn, buffer_offset}
use Rattle.iscsi_transfer.specs.Payload.{is_last}
use Rattle.iscsi_transfer.specs.WriteData.{WriteDataState, bursts_in, filled, next_ask, most_wanted, sequence_tag, wanted, is_asked, lacks_data, has_sequence, sequence_end, ends_rightly, fault_of, grown}
use Rattle.iscsi_transfer.specs.Counted.{Takes}
use Rattle.iscsi_transfer.specs.declared.fault.DataFault.{DataFault}
use Rattle.iscsi_transfer.specs.declared.fault.DataFault.TheVariants as faults
use Rattle.iscsi_transfer.proofs.Due.{lacks_shut}
use Rattle.iscsi_transfer.proofs.Bursts.{OneMore, one_more, none_come}

-- ---- what it has passed

record Passed (a b c d e : Bool) : Type 0 where
  tag : a ≡ false
  sn : b ≡ false
  offset : c ≡ false
  within : d ≡ false
  final : e ≡ false

abbrev first_of_five : Bool → Bool → Bool → Bool → Bool → Option DataFault
first_of_five a b c d e =
    if a then Some faults.TransferTag
    else if b then Some faults.DataSn
    else if c then Some faults.BufferOffset
    else if d then Some faults.TooMuch
    else if e then Some faults.Final
    else None

passed : (a b c d e : Bool) → first_of_five a b c d e ≡ None → Passed a b c d e
passed true b c d e h = absurd (cc)
passed false true c d e h = absurd (cc)
passed false false true d e h = absurd (cc)
passed false false false true e h = absurd (cc)
passed false false false false true h = absurd (cc)
passed false false false false false h = record { tag = refl; sn = refl; offset = refl; within = refl; final = refl }

not_false : (b : Bool) → not b ≡ false → b ≡ true
not_false true h = refl
not_false false h = absurd (cc)

both : (a b : Bool) → (a && b) ≡ true → a ≡ true
both true b h = refl
both false b h = absurd (cc)

pub record Fits (task : WriteDataState) (out : Frame) : Type 0 where
  pub sequence : has_sequence task ≡ true
  pub numbered : data_sn out.header ≡ task.sequence_length
  pub within : length task.payload + length out.body ≤ sequence_end task
  pub ends : ends_rightly task out ≡ true

pub fits : (task : WriteDataState) (out : Frame) → fault_of task out ≡ None → Fits task out
unfolding fault_of
fits task out lawful =
    let p = passed (not (has_sequence task && target_transfer_tag out.header == sequence_tag task)) (not (data_sn out.header == task.sequence_length))
    (not (buffer_offset out.header == length task.payload)) (nat_lt (sequence_end task) (length task.payload + length out.body)) (not (ends_rightly task out))
    lawful in
    record {
      sequence = both (has_sequence task) (target_transfer_tag out.header == sequence_tag task) (not_false _ p.tag);
      numbered = eqb-true _ _ (not_false (data_sn out.header == task.sequence_length) p.sn);
      within = (let h = ltb-false (sequence_end task) (length task.payload + length out.body) p.within in omega arith);
      ends = not_false (ends_rightly task out) p.final;
    }

-- ---- data that an R2T asked for

-- what an open R2T leaves of the payload, and how far a Data-Out for it goes
pub record Solicited (task : WriteDataState) (out : Frame) : Type 0 where
  pub lacks : length task.payload < wanted task
  pub asked : filled task < task.sent
  pub more : OneMore (length task.payload) task.unsolicited task.burst (wanted task) (length out.body) (filled task)

asked_alone : (opened asked : Bool) → opened ≡ false → (opened || asked) ≡ true → asked ≡ true
asked_alone true asked shut e = absurd cc
asked_alone false asked shut e = e

pub end_shut : (task : WriteDataState) → task.is_open ≡ false → sequence_end task ≡ (next_ask task).offset + (next_ask task).length
end_shut task shut = cond-false task.is_open _ _ shut

pub solicited : (task : WriteDataState) (out : Frame) → 1 ≤ task.burst → task.unsolicited ≤ length task.payload → task.is_open ≡ false → Fits task out
    → Solicited task out
solicited task out some behind shut f =
    let parts = and_parts (lacks_data task) (nat_lt (filled task) task.sent) (asked_alone task.is_open (is_asked task) shut f.sequence) in
    let less = (lacks_shut task.is_open (length task.payload) (wanted task) parts.0).1 in
    record {
      lacks = less;
      asked = ltb-true (filled task) task.sent parts.1;
      more = one_more (length task.payload) task.unsolicited task.burst (wanted task) (length out.body) (filled task) some behind less
          (cond-false task.is_open 0 ((length task.payload - task.unsolicited) / task.burst) shut)
          (subst (λ (m : ℕ). length task.payload + length out.body ≤ m) (end_shut task shut) f.within);
    }

-- ---- it brings no more than is left of one R2T

grown_open : (opened still : Bool) (u burst n : ℕ) → opened ≡ true → bursts_in (opened && still) n (if opened then n else u) burst ≡ 0
grown_open false still u burst n e = absurd cc
grown_open true true u burst n e = refl
grown_open true false u burst n e = none_come n burst

grown_shut : (opened still : Bool) (u burst n : ℕ) → opened ≡ false
    → bursts_in (opened && still) n (if opened then n else u) burst ≡ (n - u) / burst
grown_shut true still u burst n e = absurd cc
grown_shut false still u burst n e = refl

pub filled_open : (task : WriteDataState) (out : Frame) → task.is_open ≡ true → filled (grown task out) ≡ 0
filled_open task out is_open = grown_open task.is_open (not (is_last out)) task.unsolicited task.burst (length (task.payload ++ out.body)) is_open

pub filled_shut : (task : WriteDataState) (out : Frame) → task.is_open ≡ false
    → filled (grown task out) ≡ (length task.payload + length out.body - task.unsolicited) / task.burst
filled_shut task out shut = rw (← length-append task.payload out.body)
    (grown_shut task.is_open (not (is_last out)) task.unsolicited task.burst (length (task.payload ++ out.body)) shut)

pub takes : (task : WriteDataState) (out : Frame) → 1 ≤ task.burst → task.unsolicited ≤ length task.payload
    → task.sent ≡ filled task + length task.open_tags → fault_of task out ≡ None → Takes task out
takes task out some behind counted lawful = elim (cases_Bool task.is_open) [
  | inl is_open ↦ let none = filled_open task out is_open in record { step = omega (arith, none); opened = omega (arith, none) }
  | inr shut ↦
      let s = solicited task out some behind shut (fits task out lawful) in
      let now = filled_shut task out shut in
      record { step = omega (arith, now, s.more.one); opened = omega (arith, now, s.more.one, s.asked, counted) }
]

-- ---- and no more than the command takes

within_wanted : (b : Bool) (start expected p n : ℕ) → start ≤ p → p < (if b then expected else start) → n ≤ (if b then expected else start) → n ≤ expected
within_wanted true start expected p n behind less le = le
within_wanted false start expected p n behind less le = absurd (omega (arith, behind, less))

within_limit : (first expected n : ℕ) → n ≤ min first expected → n ≤ expected
within_limit first expected n le = omega (arith, le)

pub within_expected : (task : WriteDataState) (out : Frame) → 1 ≤ task.burst → task.unsolicited ≤ length task.payload → fault_of task out ≡ None
    → length task.payload + length out.body ≤ task.expected
within_expected task out some behind lawful = elim (cases_Bool task.is_open) [
  | inl is_open ↦ within_limit task.first_burst task.expected (length task.payload + length out.body)
      (subst (λ (m : ℕ). length task.payload + length out.body ≤ m) (cond-true task.is_open _ _ is_open) (fits task out lawful).within)
  | inr shut ↦
      let s = solicited task out some behind shut (fits task out lawful) in
      within_wanted (nat_le task.expected most_wanted) task.unsolicited task.expected (length task.payload) (length task.payload + length out.body)
      behind s.lacks s.more.within
]
