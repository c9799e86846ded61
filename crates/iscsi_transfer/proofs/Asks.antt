-- Each byte is asked for once.
use Rattle.std.proofs.Common.{ℕ, ◌+◌, ◌-◌, ◌*◌, ◌/◌, ◌%◌, ◌<◌, ◌≤◌, inl, inr, arith}
use Rattle.std.proofs.Math.Nat.{add-mul, mul-le-mul_right}
use Rattle.std.proofs.lemmas.Nat.{div-add-mod'}
use Rattle.std.proofs.lemmas.Bool.{cases_lt}
use Rattle.iscsi_transfer.specs.WriteDataLaws.{AsksFor, EachByteIsAskedFor, NoByteIsAskedForTwice, NothingElseIsAskedFor}

pub each_byte_is_asked_for : EachByteIsAskedFor
each_byte_is_asked_for start burst end i some behind before =
    let parts = div-add-mod' (i - start) burst in
    let low : (i - start) % burst < burst = omega arith in
    ((i - start) / burst, record { from = omega (arith, parts); below = omega (arith, parts, low) })

-- the bytes of a later R2T are after those of an earlier one
in_order : (start burst end i k l : ℕ) → k < l → AsksFor start burst end k i → AsksFor start burst end l i → ⊥
in_order start burst end i k l lt first second =
    let next : (k + 1) * burst ≤ l * burst = mul-le-mul_right burst (omega arith) in
    let step = add-mul k 1 burst in
    let below = first.below in
    let from = second.from in
    omega (arith, next, step, below, from)

pub no_byte_is_asked_for_twice : NoByteIsAskedForTwice
no_byte_is_asked_for_twice start burst end i k l first second = elim (cases_lt k l) [
  | inl less ↦ absurd (in_order start burst end i k l less first second)
  | inr not_less ↦ elim (cases_lt l k) [
    | inl more ↦ absurd (in_order start burst end i l k more second first)
    | inr not_more ↦ omega arith
  ]
]

pub nothing_else_is_asked_for : NothingElseIsAskedFor
nothing_else_is_asked_for start burst end i k asks =
    let from = asks.from in
    let below = asks.below in
    (omega (arith, from, below), omega (arith, from, below))
