use Rattle.std.proofs.Common.{◌≡◌, ◌+◌, ◌-◌, ◌*◌, ◌≤◌, ◌++◌, length, slice_range, drop, List, ℕ, ap, sym, ◌∙◌, refl, arith, append_assoc}
use Rattle.std.proofs.Math.Nat.{mul-le-mul_right}
use Rattle.std.proofs.lemmas.List.{append-nil, length-take-le, length-drop}
use Rattle.byteorder.specs.Endian.{big_bytes}
use Rattle.media_tape.specs.Items.{spelling}
use Rattle.media_tape.specs.Fixed.{blocks_of}
use Rattle.media_tape.proofs.Spelled.{spelling-more}
use Rattle.media_tape.proofs.write.spelled.Goals as goal

pub loop-i-preserved : goal.loop-i-preserved
loop-i-preserved c =
    let i = c.loop-i.i in
    let n = c.args.block_length in
    let bytes = c.args.bytes.now in
    let from : ℕ = i * n in
    let block = slice_range bytes from (from + n) in
    let around = c.write_u32.new.buf in
    let head = big_bytes 4 n in
    let before = spelling (blocks_of i n bytes) in
    let below : (i + 1) * n ≤ c.args.count * n = mul-le-mul_right n (omega (arith, c.loop-i-test.true)) in
    let next : (i + 1) * n ≡ i * n + n = grind arith in
    let count : from + n - from ≡ n = omega arith in
    let long : length block ≡ n = length-take-le (from + n - from) (drop from bytes)
    (omega (arith, below, next, c.requires.enough, length-drop from bytes)) ∙ count in
    let around_is : around ≡ head = c.write_u32.ensures ∙ append-nil head in
    let first = c.in_ok-extend_from_slice.ensures.items in
    let second = c.in_ok-extend_from_slice-2.ensures.items in
    let third = c.in_ok-extend_from_slice-3.ensures.items in
    third ∙ ap (λ (xs : List ℕ). xs ++ around) second ∙ ap (λ (xs : List ℕ). (xs ++ block) ++ around) first
    ∙ ap (λ (xs : List ℕ). ((xs ++ around) ++ block) ++ around) c.loop-i.invariant
    ∙ ap (λ (xs : List ℕ). ((before ++ xs) ++ block) ++ xs) around_is
    ∙ append_assoc (before ++ head) block head ∙ append_assoc before head (block ++ head)
    ∙ ap (λ (k : ℕ). before ++ (big_bytes 4 k ++ (block ++ big_bytes 4 k))) (sym long)
    ∙ spelling-more i n from bytes refl
