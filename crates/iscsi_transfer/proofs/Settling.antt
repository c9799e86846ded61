-- Where a sequence ends, an R2T is due or open, or the payload is whole.
use Rattle.std.proofs.Common.{◌≡◌, ℕ, ◌+◌, ◌<◌, ◌≤◌, min, ◌++◌, length, Bool, true, false, not, ◌&&◌, ◌||◌, Some, None, refl, sym, ◌∙◌, inl, inr, arith, length-append}
use Rattle.std.specs.Prelude.{nat_lt, nat_le, ◌==◌, if◌then◌else◌}
use Rattle.std.proofs.lemmas.Bool.{lt-ltb, le-ltb, ltb-false, cases_Bool}
use Rattle.std.proofs.lemmas.Bool.Decides.{eqb_tells}
use Rattle.iscsi_pdu.specs.Frames.{Frame}
use Rattle.iscsi_pdu.specs.ScsiCommand.{is_write}
use Rattle.iscsi_login.specs.declared.values.Values.{Values}
use Rattle.iscsi_transfer.specs.Payload.{is_last, announces, expected}
use Rattle.iscsi_transfer.specs.WriteData.{WriteDataState, filled, command_fault, unsolicited_limit, most_wanted, wanted, lacks_data, is_due, is_asked, is_whole, with_data}
use Rattle.iscsi_transfer.specs.declared.fault.DataFault.TheVariants as faults
use Rattle.iscsi_transfer.specs.WriteDataLaws.{CommandIsWholeOrAsks, SequenceIsWholeOrAsks}
use Rattle.iscsi_transfer.proofs.Standing.{at_first, remembered-begun}
use Rattle.iscsi_transfer.proofs.Due.{due_or_asked}
use Rattle.iscsi_transfer.proofs.Lawful.{Fits, fits, solicited}

lacks_is : (p w : ℕ) → p ≤ w → (true && nat_lt p w) ≡ not (true && (p == w))
lacks_is p w within = elim (eqb_tells p w) [
  | inl same ↦ rw (le-ltb p w (let e = same.1 in omega arith), same.0) refl
  | inr differ ↦
      let ne = differ.1 in
      let less : p < w = omega arith in
      rw (lt-ltb p w less, differ.0) refl
]

lacks_or_whole : (task : WriteDataState) → task.is_open ≡ false → length task.payload ≤ wanted task → lacks_data task ≡ not (is_whole task)
lacks_or_whole task shut within = rw shut (lacks_is (length task.payload) (wanted task) within)

settled : (task : WriteDataState) → 1 ≤ task.burst → 1 ≤ task.outstanding → task.unsolicited ≤ length task.payload → task.is_open ≡ false
    → length task.payload ≤ wanted task → (is_due task || is_asked task) ≡ not (is_whole task)
settled task some one behind shut within = due_or_asked task some one behind ∙ lacks_or_whole task shut within

-- ---- unsolicited data ends

above_least : (p m n : ℕ) → p ≤ min m n → p ≤ n
above_least p m n h = omega arith

open_within : (b : Bool) (p e : ℕ) → p ≤ e → p ≤ (if b then e else p)
open_within true p e le = le
open_within false p e le = omega arith

shut_now : (b : Bool) → (b && false) ≡ false
shut_now true = refl
shut_now false = refl

opened : (task : WriteDataState) (out : Frame) → 1 ≤ task.burst → 1 ≤ task.outstanding → task.is_open ≡ true → Fits task out → is_last out ≡ true
    → (is_due (with_data task out) || is_asked (with_data task out)) ≡ not (is_whole (with_data task out))
unfolding with_data
opened task out some one is_open f last =
    let p = length (task.payload ++ out.body) in
    let le : p ≤ task.expected = rw (length-append task.payload out.body)
    (above_least (length task.payload + length out.body) task.first_burst task.expected (rw is_open at f.within)) in
    settled (with_data task out) some one (rw is_open (omega arith)) (rw last (shut_now task.is_open))
    (rw is_open (open_within (nat_le task.expected most_wanted) p task.expected le))

-- ---- what an R2T asked for ends

closed : (task : WriteDataState) (out : Frame) → 1 ≤ task.burst → 1 ≤ task.outstanding → task.unsolicited ≤ length task.payload → task.is_open ≡ false
    → Fits task out → is_last out ≡ true
    → (is_due (with_data task out) || is_asked (with_data task out)) ≡ not (is_whole (with_data task out))
unfolding with_data
closed task out some one behind shut f last =
    let s = solicited task out some behind shut f in
    settled (with_data task out) some one (rw (shut, length-append task.payload out.body) (omega (arith, behind))) (rw last (shut_now task.is_open))
    (rw (shut, length-append task.payload out.body) s.more.within)

pub sequence_is_whole_or_asks : SequenceIsWholeOrAsks
sequence_is_whole_or_asks task out some one behind lawful last = elim (cases_Bool task.is_open) [
  | inl is_open ↦ opened task out some one is_open (fits task out lawful) last
  | inr shut ↦ closed task out some one behind shut (fits task out lawful) last
]

-- ---- the command alone

third : (a b c : Bool)
    → (if a then Some faults.ImmediateData else if b then Some faults.UnsolicitedData else if c then Some faults.TooMuch else None) ≡ None
    → c ≡ false
third true b c h = absurd (cc)
third false true c h = absurd (cc)
third false false true h = absurd (cc)
third false false false h = refl

pub few_enough : (values : Values) (command : Frame) → command_fault values command ≡ None → length command.body ≤ expected command
few_enough values command lawful =
    above_least (length command.body) values.first_burst_length (expected command)
    (ltb-false (unsolicited_limit values.first_burst_length (expected command)) (length command.body)
    (third (nat_lt 0 (length command.body) && not (is_write command.header && values.immediate_data)) (announces command && values.initial_r2t) _ lawful))

none_asked : (b : Bool) (k : ℕ) → (b && nat_lt k 0) ≡ false
none_asked true k = le-ltb k 0 (omega arith)
none_asked false k = refl

due_alone : (d o w : Bool) → o ≡ false → (d || o) ≡ w → d ≡ w
due_alone true o w none e = e
due_alone false o w none e = sym none ∙ e

pub command_is_whole_or_asks : CommandIsWholeOrAsks
command_is_whole_or_asks values command some one lawful ends =
    let task = at_first values command in
    let le = few_enough values command lawful in
    rw (remembered-begun values command) (due_alone (is_due task) (is_asked task) (not (is_whole task)) (none_asked (lacks_data task) (filled task))
    (settled task some one (omega arith) ends
    (open_within (nat_le (expected command) most_wanted) (length command.body) (expected command) le)))
