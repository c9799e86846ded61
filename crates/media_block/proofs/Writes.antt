-- What calls on a store do to the blocks of its content.
use Rattle.std.proofs.Common.{◌≡◌, ℕ, ◌+◌, ◌-◌, ◌*◌, ◌≤◌, min, nat_lt, true, List, [], ◌∷◌, ◌++◌, length, take, drop, slice_range, refl, ap, sym, ◌∙◌, arith, rules, Bool, Result, Ok, Err, is_ok, OnOk, OnErr}
use Rattle.std.proofs.lemmas.List.{append-nil, take_all, take-append-drop, length-append, length-take, length-drop}
use Rattle.media_store.specs.Content.{written, KeepsOutside}
use Rattle.media_store.specs.Honesty.{HasAgreed}
use Rattle.media_block.specs.Blocks.{block_length, blocks_of, data_of, replaced, KeepsOthers}
use Rattle.media_block.proofs.Blocks.{data_of-blocks_of, blocks_of-replaced, KeepsOthers-blocks_of}

-- a write within the content
pub written-within : (at : ℕ) (bytes content : List ℕ) → at + length bytes ≤ length content
    → written at bytes content ≡ take at content ++ (bytes ++ drop (at + length bytes) content)
written-within at [] content within =
    let here : at + 0 ≡ at = omega arith in
    rw here (sym (take-append-drop at content))
written-within at (byte ∷ bytes) content within =
    let some : nat_lt 0 (length (byte ∷ bytes)) ≡ true = search rules in
    let none : at - length content ≡ 0 = omega arith in
    rw (some, none, append-nil (take at content)) refl

pub length-written : (at : ℕ) (bytes content : List ℕ) → at + length bytes ≤ length content → length (written at bytes content) ≡ length content
length-written at bytes content within =
    rw (written-within at bytes content within) (simp (length-append, length-take, length-drop) (omega arith))

length-torn : (at n : ℕ) (old new : List ℕ) → at + n ≤ length old → KeepsOutside at n old new → length new ≡ length old
length-torn at n old new within kept = omega (arith, kept.no_shorter, kept.no_longer)

-- a write within the content keeps its length, also where it failed
pub length-kept : {E : Type 0} (result : Result (Unit {0}) E) (at n : ℕ) (bytes old new : List ℕ) → length bytes ≡ n → at + n ≤ length old
    → OnOk result (new ≡ written at bytes old) → OnErr result (KeepsOutside at n old new) → length new ≡ length old
length-kept (Ok value) at n bytes old new long within is torn = ap length is ∙ length-written at bytes old (omega arith)
length-kept (Err fault) at n bytes old new long within is torn = length-torn at n old new within torn

-- the bytes that are read
pub read-blocks : (first count n long : ℕ) (content : List ℕ) → first + count ≤ n → long ≡ block_length * count
    → slice_range content (block_length * first) (block_length * first + long) ≡ data_of (blocks_of n content) first count
read-blocks first count n long content within is =
    let many : block_length * first + long - block_length * first ≡ block_length * count = omega arith in
    rw many (sym (data_of-blocks_of first count n content within))

-- a whole read that agrees with the blocks agrees with the content
pub read-agreed : {E : Type 0} (result : Result (Unit {0}) E) (first count n : ℕ) (content buffer : List ℕ) (old new : Bool)
    → first + count ≤ n → length buffer ≡ block_length * count
    → HasAgreed content (block_length * first) buffer (is_ok result) old new
    → OnOk result (buffer ≡ data_of (blocks_of n content) first count → new ≡ old)
read-agreed (Ok value) first count n content buffer old new within is agreed = λ same.
    let all : agreed.count ≡ length buffer = agreed.whole refl in
    let front : take agreed.count buffer ≡ buffer = take_all agreed.count buffer (omega arith) in
    let place = block_length * first in
    let slice : slice_range content place (place + agreed.count) ≡ data_of (blocks_of n content) first count =
    read-blocks first count n agreed.count content within (all ∙ is) in
    agreed.same (front ∙ same ∙ sym slice)
read-agreed (Err fault) first count n content buffer old new within is agreed = tt

-- a write of whole blocks
pub written-blocks : (first count n : ℕ) (bytes old new : List ℕ) → first + count ≤ n → length old ≡ block_length * n → length bytes ≡ block_length * count
    → new ≡ written (block_length * first) bytes old → blocks_of n new ≡ replaced first (blocks_of count bytes) (blocks_of n old)
written-blocks first count n bytes old new within long whole is =
    let place : block_length * (first + count) ≡ block_length * first + block_length * count = omega arith in
    blocks_of-replaced first count n bytes old new within (omega arith) whole
    (is ∙ written-within (block_length * first) bytes old (omega arith) ∙ rw whole refl)

-- a write of whole blocks that failed
pub torn-blocks : (first count n many : ℕ) (old new : List ℕ) → first + count ≤ n → length old ≡ block_length * n → many ≡ block_length * count
    → KeepsOutside (block_length * first) many old new → KeepsOthers first count (blocks_of n old) (blocks_of n new)
torn-blocks first count n many old new within long whole kept =
    let below : min (block_length * first) (length old) ≡ block_length * first = omega arith in
    KeepsOthers-blocks_of first count n old new within (rw below at kept.before) (rw whole at kept.behind)

-- no block in the place of others
pub replaced-none : (first : ℕ) (blocks : List (List ℕ)) → blocks ≡ replaced first [] blocks
replaced-none first blocks =
    let here : first + 0 ≡ first = omega arith in
    rw here (sym (take-append-drop first blocks))
