-- Blocks that are read in pieces, each after room for a header.
use Rattle.std.proofs.Common.{◌≡◌, ℕ, zero, suc, ◌+◌, ◌-◌, ◌*◌, ◌<◌, ◌≤◌, min, List, [], ◌∷◌, ◌++◌, length, take, drop, Bool, IsTrue, refl, ap, sym, ◌∙◌, inl, inr, arith}
use Rattle.std.specs.Int.{div_ceil}
use Rattle.std.specs.List.{concat}
use Rattle.std.proofs.Math.Nat.{add-mul, mul-add, zero-mul, mul-le-mul_right}
use Rattle.std.proofs.Math.Numerals.{suc-eq-add-one}
use Rattle.std.proofs.Math.Seq.{take-add}
use Rattle.std.proofs.lemmas.Bool.{cases_lt}
use Rattle.std.proofs.lemmas.Grind.{div_ceil_times}
use Rattle.std.proofs.lemmas.List.{append_assoc, append-nil, length-drop, drop-drop, take_all, take-take, drop-take}
use Rattle.media_block.specs.Blocks.{DiskState, block_length, data_of}
use Rattle.scsi_sense.specs.Given.{headroom, gathered, IsLaid}
use Rattle.scsi_sense.proofs.Laid.{gathered_long}

-- one more of something
times_more : (n each : ℕ) → suc n * each ≡ n * each + each
times_more n each = omega (arith, add-mul n 1 each)

-- ---- pieces that lie in bytes

-- the last piece comes after the others
gathered_more : (piece n : ℕ) (items : List ℕ)
    → gathered piece (suc n) items ≡ gathered piece n items ++ take piece (drop (headroom + n * (headroom + piece)) items)
gathered_more piece zero items =
    append-nil (take piece (drop headroom items)) ∙ ap (λ (m : ℕ). take piece (drop (headroom + m) items)) (sym (zero-mul (headroom + piece)))
gathered_more piece (suc n) items =
    let each = headroom + piece in
    let place : each + (headroom + n * each) ≡ headroom + suc n * each = omega (arith, times_more n each) in
    ap (λ (xs : List ℕ). take piece (drop headroom items) ++ xs) (gathered_more piece n (drop each items))
    ∙ sym (append_assoc (take piece (drop headroom items)) (gathered piece n (drop each items)) _)
    ∙ ap (λ (xs : List ℕ). gathered piece (suc n) items ++ take piece xs) (drop-drop (headroom + n * each) each items ∙ ap (λ (m : ℕ). drop m items) place)

-- what stands after them does not count
gathered_front : (piece n : ℕ) (items : List ℕ) → gathered piece n (take (n * (headroom + piece)) items) ≡ gathered piece n items
gathered_front piece zero items = refl
gathered_front piece (suc n) items =
    let each = headroom + piece in
    let whole : suc n * each ≡ each + n * each = omega (arith, times_more n each) in
    let apart : suc n * each ≡ headroom + (piece + n * each) = omega (arith, times_more n each) in
    let first : take piece (drop headroom (take (suc n * each) items)) ≡ take piece (drop headroom items) =
    ap (λ (m : ℕ). take piece (drop headroom (take m items))) apart
    ∙ ap (take piece) (drop-take headroom (piece + n * each) items)
    ∙ take-take piece (piece + n * each) (drop headroom items) (omega arith) in
    let rest : gathered piece n (drop each (take (suc n * each) items)) ≡ gathered piece n (drop each items) =
    ap (λ (m : ℕ). gathered piece n (drop each (take m items))) whole
    ∙ ap (gathered piece n) (drop-take each (n * each) items) ∙ gathered_front piece n (drop each items) in
    ap (λ (xs : List ℕ). xs ++ gathered piece n (drop each (take (suc n * each) items))) first
    ∙ ap (λ (xs : List ℕ). take piece (drop headroom items) ++ xs) rest

-- a piece is appended to whole ones
gathered_next : (piece n : ℕ) (old new : List ℕ) → length old ≡ n * (headroom + piece) → take (length old) new ≡ old
    → gathered piece (n + 1) new ≡ gathered piece n old ++ take piece (drop (length old + headroom) new)
gathered_next piece n old new long front =
    let each = headroom + piece in
    let place : headroom + n * each ≡ length old + headroom = omega (arith, long) in
    ap (λ (m : ℕ). gathered piece m new) (sym (suc-eq-add-one n)) ∙ gathered_more piece n new
    ∙ ap (λ (m : ℕ). gathered piece n new ++ take piece (drop m new)) place
    ∙ ap (λ (xs : List ℕ). xs ++ take piece (drop (length old + headroom) new))
    (sym (gathered_front piece n new) ∙ ap (λ (m : ℕ). gathered piece n (take m new)) (sym long) ∙ ap (gathered piece n) front)

-- ---- blocks

-- blocks one after another
concat_more : (first rest : List (List ℕ)) → concat (first ++ rest) ≡ concat first ++ concat rest
concat_more [] rest = refl
concat_more (block ∷ blocks) rest =
    ap (λ (xs : List ℕ). block ++ xs) (concat_more blocks rest) ∙ sym (append_assoc block (concat blocks) (concat rest))

-- the data of blocks, and of those behind them
data_more : (blocks : List (List ℕ)) (first a b : ℕ) → data_of blocks first (a + b) ≡ data_of blocks first a ++ data_of blocks (first + a) b
data_more blocks first a b =
    let all : first + (a + b) - first ≡ a + b = omega arith in
    let front : first + a - first ≡ a = omega arith in
    let rest : first + a + b - (first + a) ≡ b = omega arith in
    rw (all, front, rest)
    (ap concat (take-add a b (drop first blocks)) ∙ concat_more (take a (drop first blocks)) (take b (drop a (drop first blocks)))
    ∙ ap (λ (xs : List (List ℕ)). concat (take a (drop first blocks)) ++ concat (take b xs)) (drop-drop a first blocks))

-- ---- a READ, piece by piece

-- a disk of which at most the honesty has changed, twice
pub still_same : (old mid new : DiskState) → mid ≡ record old { honest = mid.honest } → new ≡ record mid { honest = new.honest }
    → new ≡ record old { honest = new.honest }
still_same old mid new first second = second ∙ ap (λ (disk : DiskState). record disk { honest = new.honest }) first

-- pieces up to the last but one do not reach the end
piece_within : (count piece number : ℕ) → 1 ≤ piece → number < div_ceil count piece → number * piece < count
piece_within count piece number some below =
    let above : div_ceil count piece * piece < count + piece = (div_ceil_times count piece (omega arith)).1 in
    let next : (number + 1) * piece ≤ div_ceil count piece * piece = mul-le-mul_right piece (omega arith) in
    omega (arith, above, next, add-mul number 1 piece)

-- how many blocks lie in so many pieces
abbrev pub blocks_in : ℕ → ℕ → ℕ → ℕ
blocks_in piece count number = min (number * piece) count

-- so many pieces of a READ were read
pub record IsReadTo (piece count number : ℕ) (blocks : List (List ℕ)) (first : ℕ) (honest : Bool) (items : List ℕ) : Type 0 where
  pub long : length items ≡ headroom * number + block_length * blocks_in piece count number
  pub shown : IsTrue honest → gathered (block_length * piece) number items ≡ data_of blocks first (blocks_in piece count number)

-- the bytes of whole pieces
each_long : (number piece : ℕ) → number * (headroom + block_length * piece) ≡ headroom * number + block_length * (number * piece)
each_long number piece =
    let apart = mul-add number headroom (block_length * piece) in
    let product : number * (block_length * piece) ≡ block_length * (number * piece) = omega arith in
    omega (arith, apart, product)

-- one piece more was read
pub read_more : (piece count number first at k : ℕ) (blocks held : List (List ℕ)) (before after : Bool) (old new : List ℕ)
    → 1 ≤ piece → number < div_ceil count piece → k ≡ min piece (count - number * piece)
    → IsReadTo piece count number blocks first before old
    → take (length old) new ≡ old → length new ≡ length old + (headroom + block_length * k) → held ≡ blocks → (IsTrue after → IsTrue before)
    → (IsTrue after → drop (length old + headroom) new ≡ data_of held at k) → at ≡ first + number * piece
    → IsReadTo piece count (number + 1) blocks first after new
read_more piece count number first at k blocks held before after old new some below is so_far front long same back read place =
    let early = piece_within count piece number some below in
    let old_long = so_far.long in
    let next : (number + 1) * piece ≡ number * piece + piece = omega (arith, add-mul number 1 piece) in
    let here : blocks_in piece count number ≡ number * piece = omega (arith, early) in
    let there : blocks_in piece count (number + 1) ≡ number * piece + k = omega (arith, early, next, is) in
    let whole : length old ≡ number * (headroom + block_length * piece) = omega (arith, old_long, here, each_long number piece) in
    let got = drop (length old + headroom) new in
    let short : length got ≤ block_length * piece = omega (arith, long, is, length-drop (length old + headroom) new) in
    record {
      long = omega (arith, old_long, long, here, there);
      shown = λ honest.
          gathered_next (block_length * piece) number old new whole front
          ∙ ap (λ (xs : List ℕ). gathered (block_length * piece) number old ++ xs) (take_all (block_length * piece) got short)
          ∙ ap (λ (xs : List ℕ). xs ++ got) (so_far.shown (back honest) ∙ ap (data_of blocks first) here)
          ∙ ap (λ (xs : List ℕ). data_of blocks first (number * piece) ++ xs)
          (read honest ∙ ap (λ (others : List (List ℕ)). data_of others at k) same ∙ ap (λ (m : ℕ). data_of blocks m k) place)
          ∙ sym (data_more blocks first (number * piece) k) ∙ ap (data_of blocks first) (sym there);
    }

-- the data of all pieces is as long as its blocks
pub all_long : (piece count number first : ℕ) (blocks : List (List ℕ)) (honest : Bool) (items : List ℕ) → 0 < count → 1 ≤ piece
    → number ≡ div_ceil count piece → IsReadTo piece count number blocks first honest items
    → length (gathered (block_length * piece) number items) ≡ block_length * count
all_long piece count number first blocks honest items any some is so_far =
    let long = so_far.long in
    let times = div_ceil_times count piece (omega arith) in
    let product : number * piece ≡ div_ceil count piece * piece = ap (λ (n : ℕ). n * piece) is in
    let reach : count ≤ number * piece = omega (arith, times.0, product) in
    let most : number * piece < count + piece = omega (arith, times.1, product) in
    let all : blocks_in piece count number ≡ count = omega (arith, reach) in
    let laid : IsLaid (block_length * piece) number items = record {
      some = elim (cases_lt 0 number) [
        | inl more ↦ omega arith
        | inr none ↦ absurd (let low = mul-le-mul_right piece none in omega (arith, reach, low, zero-mul piece))
      ];
      full = omega (arith, long, all, most, each_long number piece);
      within = omega (arith, long, all, reach, each_long number piece);
    } in
    omega (arith, gathered_long (block_length * piece) number items laid, long, all)
