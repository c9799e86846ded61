-- How many bursts have come.
use Rattle.std.proofs.Common.{◌≡◌, ℕ, zero, suc, ◌+◌, ◌-◌, ◌*◌, ◌/◌, ◌%◌, ◌<◌, ◌≤◌, min, ◌++◌, length, Bool, true, false, not, ◌&&◌, ap, ◌∙◌, arith, length-append}
use Rattle.std.specs.Prelude.{if◌then◌else◌}
use Rattle.std.specs.Int.{div_ceil}
use Rattle.std.proofs.Math.Nat.{add-mul, div-mul-le_self, lt_of_mul-lt-mul_right}
use Rattle.std.proofs.lemmas.Nat.{div-add-mod', le-div}
use Rattle.std.proofs.lemmas.Grind.{div_ceil_times}
use Rattle.iscsi_pdu.specs.Frames.{Frame}
use Rattle.iscsi_transfer.specs.Payload.{is_last}
use Rattle.iscsi_transfer.specs.WriteData.{WriteDataState, bursts_in, filled, grown}

-- ---- more data has no fewer

div_more : (less more burst : ℕ) → less ≤ more → less / burst ≤ more / burst
div_more less more zero le = omega arith
div_more less more (suc k) le = le-div (less / suc k) more (suc k) (omega arith) (omega (arith, div-mul-le_self less (suc k), le))

more_by : (opened still : Bool) (p u burst n : ℕ) → p ≤ n → bursts_in opened p u burst ≤ bursts_in (opened && still) n (if opened then n else u) burst
more_by true still p u burst n le = omega arith
more_by false still p u burst n le = div_more (p - u) (n - u) burst (omega (arith, le))

pub filled_more : (task : WriteDataState) (out : Frame) → filled task ≤ filled (grown task out)
filled_more task out =
    more_by task.is_open (not (is_last out)) (length task.payload) task.unsolicited task.burst (length (task.payload ++ out.body))
    (omega (arith, length-append task.payload out.body))

-- ---- where unsolicited data ends, none has come

pub none_come : (start burst : ℕ) → (start - start) / burst ≡ 0
none_come start burst = omega (arith, div-mul-le_self (start - start) burst)

-- ---- one burst more at a time

pub record OneMore (p start burst end n k : ℕ) : Type 0 where
  pub one : (p + n - start) / burst ≤ k + 1
  pub reach : (p + n - start) / burst ≡ k + 1 → start + (k + 1) * burst ≡ p + n
  pub within : p + n ≤ end
  pub ends : (p + n - start) / burst ≡ k + 1 → p + n ≡ start + k * burst + min burst (end - (start + k * burst))

-- data after k bursts, up to the end of the next at the most
pub one_more : (p start burst end n k : ℕ) → 1 ≤ burst → start ≤ p → p < end → k ≡ (p - start) / burst
    → p + n ≤ start + k * burst + min burst (end - (start + k * burst)) → OneMore p start burst end n k
one_more p start burst end n k some behind less is within =
    let parts : k * burst + (p - start) % burst ≡ p - start = ap (λ (m : ℕ). m * burst + (p - start) % burst) is ∙ div-add-mod' (p - start) burst in
    let later : (p + n - start) / burst * burst + (p + n - start) % burst ≡ p + n - start = div-add-mod' (p + n - start) burst in
    let step = add-mul k 1 burst in
    let again = add-mul (k + 1) 1 burst in
    record {
      one = (
          let below : (p + n - start) / burst * burst < (k + 2) * burst = omega (arith, later, within, step, again, behind, some) in
          let fewer = lt_of_mul-lt-mul_right burst below in
          omega (arith, fewer));
      reach = λ e. (
          let whole = ap (λ (m : ℕ). m * burst) e in
          omega (arith, later, within, step, whole, behind));
      within = omega (arith, parts, within, less, behind);
      ends = λ e. (
          let whole = ap (λ (m : ℕ). m * burst) e in
          omega (arith, later, within, step, whole, behind, parts));
    }

-- ---- not all have come where data is lacking

pub not_all : (p start burst end : ℕ) → 1 ≤ burst → start ≤ p → p < end → (p - start) / burst < div_ceil (end - start) burst
not_all p start burst end some behind less =
    let reach : end - start ≤ div_ceil (end - start) burst * burst = (div_ceil_times (end - start) burst (omega arith)).0 in
    let low = div-mul-le_self (p - start) burst in
    let below : (p - start) / burst * burst < div_ceil (end - start) burst * burst = omega (arith, reach, low, behind, less) in
    lt_of_mul-lt-mul_right burst below
