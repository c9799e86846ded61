-- Blocks of a content: how many there are, those before a place, from a place on, and in a range.
use Rattle.std.proofs.Common.{◌≡◌, ℕ, zero, suc, ◌+◌, ◌-◌, ◌*◌, ◌≤◌, List, ◌∷◌, ◌++◌, length, take, drop, refl, ap, sym, ◌∙◌, arith, length-drop}
use Rattle.std.specs.List.{concat}
use Rattle.std.proofs.Math.Seq.{take-add}
use Rattle.std.proofs.lemmas.List.{take-take, drop-take, drop-drop, take-append-drop, take_at, drop_at, length-take-le}
use Rattle.media_block.specs.Blocks.{block_length, blocks_of, data_of, replaced, AreWhole, KeepsOthers}

pub length-blocks_of : (count : ℕ) (content : List ℕ) → length (blocks_of count content) ≡ count
unfolding blocks_of
length-blocks_of zero content = refl
length-blocks_of (suc count) content = ap suc (length-blocks_of count (drop block_length content))

-- joined, they are the front of the content
pub concat-blocks_of : (count : ℕ) (content : List ℕ) → concat (blocks_of count content) ≡ take (block_length * count) content
unfolding blocks_of
concat-blocks_of zero content = refl
concat-blocks_of (suc count) content =
    let whole : block_length * suc count ≡ block_length + block_length * count = omega arith in
    rw (whole, take-add block_length (block_length * count) content, concat-blocks_of count (drop block_length content)) refl

pub take-blocks_of : (k count : ℕ) (content : List ℕ) → k ≤ count → take k (blocks_of count content) ≡ blocks_of k content
unfolding blocks_of
take-blocks_of zero count content within = refl
take-blocks_of (suc k) zero content within = absurd (omega arith)
take-blocks_of (suc k) (suc count) content within = ap (λ (blocks : List (List ℕ)). take block_length content ∷ blocks)
    (take-blocks_of k count (drop block_length content) (omega arith))

pub drop-blocks_of : (k count : ℕ) (content : List ℕ) → k ≤ count → drop k (blocks_of count content) ≡ blocks_of (count - k) (drop (block_length * k) content)
unfolding blocks_of
drop-blocks_of zero count content within = let all : count - 0 ≡ count = omega arith in rw all refl
drop-blocks_of (suc k) zero content within = absurd (omega arith)
drop-blocks_of (suc k) (suc count) content within =
    let whole : block_length * suc k ≡ block_length + block_length * k = omega arith in
    let less : suc count - suc k ≡ count - k = omega arith in
    drop-blocks_of k count (drop block_length content) (omega arith) ∙ rw (less, whole, drop-drop (block_length * k) block_length content) refl

-- they are those of the front
pub blocks_of-take : (count m : ℕ) (content : List ℕ) → count ≤ m → blocks_of count (take (block_length * m) content) ≡ blocks_of count content
unfolding blocks_of
blocks_of-take zero m content within = refl
blocks_of-take (suc count) m content within =
    let whole : block_length * m ≡ block_length + block_length * (m - 1) = omega arith in
    let first : take block_length (take (block_length * m) content) ≡ take block_length content =
    take-take block_length (block_length * m) content (omega arith) in
    let rest : drop block_length (take (block_length * m) content) ≡ take (block_length * (m - 1)) (drop block_length content) =
    rw whole (drop-take block_length (block_length * (m - 1)) content) in
    rw (first, rest, blocks_of-take count (m - 1) (drop block_length content) (omega arith)) refl

-- equal fronts have equal blocks
pub blocks_of-same : (count : ℕ) (old new : List ℕ) → take (block_length * count) new ≡ take (block_length * count) old
    → blocks_of count new ≡ blocks_of count old
blocks_of-same count old new same =
    sym (blocks_of-take count count new (omega arith)) ∙ ap (blocks_of count) same ∙ blocks_of-take count count old (omega arith)

-- the blocks before a place and those from it on
blocks_of-split : (k count : ℕ) (content : List ℕ) → k ≤ count → blocks_of count content ≡ blocks_of k content
    ++ blocks_of (count - k) (drop (block_length * k) content)
blocks_of-split k count content within =
    sym (take-append-drop k (blocks_of count content)) ∙ rw (take-blocks_of k count content within, drop-blocks_of k count content within) refl

-- the bytes of a range of blocks
pub data_of-blocks_of : (first count n : ℕ) (content : List ℕ) → first + count ≤ n
    → data_of (blocks_of n content) first count ≡ take (block_length * count) (drop (block_length * first) content)
data_of-blocks_of first count n content within =
    let many : first + count - first ≡ count = omega arith in
    rw (many, drop-blocks_of first n content (omega arith), take-blocks_of count (n - first) (drop (block_length * first) content) (omega arith))
    (concat-blocks_of count (drop (block_length * first) content))

-- which is as long as so many blocks, where the content is
pub whole-blocks_of : (n : ℕ) (content : List ℕ) → length content ≡ block_length * n → AreWhole (blocks_of n content)
whole-blocks_of n content long first count within =
    let below : first + count ≤ n = omega (arith, within, length-blocks_of n content) in
    let place = length-drop (block_length * first) content in
    ap length (data_of-blocks_of first count n content below)
    ∙ length-take-le (block_length * count) (drop (block_length * first) content) (omega (arith, place, long, below))

-- as many bytes as blocks come first, and then others
pub blocks_of-append : (count rest : ℕ) (bytes content : List ℕ) → length bytes ≡ block_length * count
    → blocks_of (count + rest) (bytes ++ content) ≡ blocks_of count bytes ++ blocks_of rest content
blocks_of-append count rest bytes content long =
    let others : count + rest - count ≡ rest = omega arith in
    let front : take (block_length * count) (bytes ++ content) ≡ bytes = take_at bytes content (block_length * count) long in
    let behind : drop (block_length * count) (bytes ++ content) ≡ content = drop_at bytes content (block_length * count) long in
    let same : blocks_of count (bytes ++ content) ≡ blocks_of count bytes = rw front at (sym (blocks_of-take count count (bytes ++ content) (omega arith))) in
    blocks_of-split count (count + rest) (bytes ++ content) (omega arith) ∙ rw (others, behind, same) refl

-- the blocks after a range
drop-range : (first count n : ℕ) (content : List ℕ) → first + count ≤ n
    → drop (first + count) (blocks_of n content) ≡ blocks_of (n - (first + count)) (drop (block_length * first + block_length * count) content)
drop-range first count n content within =
    let place : block_length * (first + count) ≡ block_length * first + block_length * count = omega arith in
    drop-blocks_of (first + count) n content within ∙ rw place refl

-- bytes of whole blocks in the place of others
pub blocks_of-replaced : (first count n : ℕ) (bytes old new : List ℕ) → first + count ≤ n → block_length * n ≤ length old → length bytes ≡ block_length * count
    → new ≡ take (block_length * first) old ++ (bytes ++ drop (block_length * first + block_length * count) old)
    → blocks_of n new ≡ replaced first (blocks_of count bytes) (blocks_of n old)
blocks_of-replaced first count n bytes old new within long whole is =
    let front = take (block_length * first) old in
    let behind = drop (block_length * first + block_length * count) old in
    let rest = n - (first + count) in
    let as_long : length front ≡ block_length * first = length-take-le (block_length * first) old (omega arith) in
    let parts : n ≡ first + (count + rest) = omega arith in
    let cut : blocks_of n new ≡ blocks_of first front ++ (blocks_of count bytes ++ blocks_of rest behind) =
    ap (λ (m : ℕ). blocks_of m new) parts ∙ rw (
      is,
      blocks_of-append first (count + rest) front (bytes ++ behind) as_long,
      blocks_of-append count rest bytes behind whole,
    ) refl in
    let before : take first (blocks_of n old) ≡ blocks_of first front = take-blocks_of first n old (omega arith)
    ∙ sym (blocks_of-take first first old (omega arith)) in
    cut ∙ rw (length-blocks_of count bytes, before, drop-range first count n old within) refl

-- bytes outside a range of whole blocks that are as before
pub KeepsOthers-blocks_of : (first count n : ℕ) (old new : List ℕ) → first + count ≤ n
    → take (block_length * first) new ≡ take (block_length * first) old
    → drop (block_length * first + block_length * count) new ≡ drop (block_length * first + block_length * count) old
    → KeepsOthers first count (blocks_of n old) (blocks_of n new)
KeepsOthers-blocks_of first count n old new within front behind =
    record {
      before = take-blocks_of first n new (omega arith) ∙ blocks_of-same first old new front ∙ sym (take-blocks_of first n old (omega arith));
      behind = drop-range first count n new within ∙ ap (blocks_of (n - (first + count))) behind ∙ sym (drop-range first count n old within);
    }
