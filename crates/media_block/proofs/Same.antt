-- One block written to many places, part after part.
use Rattle.std.proofs.Common.{◌≡◌, ℕ, ◌+◌, ◌-◌, ◌*◌, ◌≤◌, List, ◌++◌, length, take, drop, replicate, refl, ap, sym, ◌∙◌, arith}
use Rattle.std.proofs.lemmas.List.{append_assoc, take_at, drop_at, take-take, drop-drop, length-append, length-take-le, length-replicate, replicate-append-replicate, replicate_more, take-replicate}
use Rattle.media_block.specs.Blocks.{block_length, blocks_of, replaced, KeepsOthers}
use Rattle.media_block.proofs.Blocks.{blocks_of-take, blocks_of-append, take-blocks_of}

-- a part of which each block is the same, and one block more
pub repeated-more : (k : ℕ) (block part rest : List ℕ) → length block ≡ block_length → block_length * k ≤ length part
    → blocks_of k part ≡ replicate k block
    → blocks_of (k + 1) (take (block_length * k) part ++ (block ++ rest)) ≡ replicate (k + 1) block
unfolding blocks_of
repeated-more k block part rest whole within same =
    let front : length (take (block_length * k) part) ≡ block_length * k = length-take-le (block_length * k) part within in
    blocks_of-append k 1 (take (block_length * k) part) (block ++ rest) front
    ∙ rw (blocks_of-take k k part (omega arith), same, take_at block rest block_length whole) (replicate_more k block)

-- the front of such a part
pub repeated-front : (n many : ℕ) (block part : List ℕ) → n ≤ many → blocks_of many part ≡ replicate many block
    → blocks_of n (take (block_length * n) part) ≡ replicate n block
repeated-front n many block part within same =
    blocks_of-take n n part (omega arith) ∙ sym (take-blocks_of n many part within) ∙ ap (take n) same ∙ take-replicate n many block within

-- the front with the first k blocks
front-same : (first k : ℕ) (block : List ℕ) (blocks : List (List ℕ)) → first + k ≤ length blocks
    → take (first + k) (replaced first (replicate k block) blocks) ≡ take first blocks ++ replicate k block
front-same first k block blocks within =
    let front = length-take-le first blocks (omega arith) in
    let long : length (take first blocks ++ replicate k block) ≡ first + k = simp (length-append, length-replicate, front) refl in
    rw (← append_assoc (take first blocks) (replicate k block) (drop (first + length (replicate k block)) blocks))
    (take_at (take first blocks ++ replicate k block) _ (first + k) long)

-- what lies after the first k blocks
behind-same : (first k m : ℕ) (block : List ℕ) (blocks : List (List ℕ)) → first + k ≤ length blocks
    → drop (first + k + m) (replaced first (replicate k block) blocks) ≡ drop (first + k + m) blocks
behind-same first k m block blocks within =
    let front = length-take-le first blocks (omega arith) in
    let long : length (take first blocks ++ replicate k block) ≡ first + k = simp (length-append, length-replicate, front) refl in
    let rest : drop (first + k) (replaced first (replicate k block) blocks) ≡ drop (first + k) blocks =
    rw (length-replicate k block, ← append_assoc (take first blocks) (replicate k block) (drop (first + k) blocks))
    (drop_at (take first blocks ++ replicate k block) (drop (first + k) blocks) (first + k) long) in
    sym (drop-drop m (first + k) (replaced first (replicate k block) blocks)) ∙ ap (drop m) rest ∙ drop-drop m (first + k) blocks

-- p places more
pub same-more : (first k p : ℕ) (block bytes : List ℕ) (blocks : List (List ℕ)) → first + (k + p) ≤ length blocks
    → blocks_of p bytes ≡ replicate p block
    → replaced (first + k) (blocks_of p bytes) (replaced first (replicate k block) blocks) ≡ replaced first (replicate (k + p) block) blocks
same-more first k p block bytes blocks within is =
    let place : first + (k + p) ≡ first + k + p = omega arith in
    rw (
      is,
      front-same first k block blocks (omega arith),
      length-replicate p block,
      behind-same first k p block blocks (omega arith),
      length-replicate (k + p) block,
      ← replicate-append-replicate k p block,
      place,
    )
    (simp append_assoc)

-- p places that failed
pub same-torn : (first count k p : ℕ) (block : List ℕ) (blocks new : List (List ℕ)) → first + count ≤ length blocks → k + p ≤ count
    → KeepsOthers (first + k) p (replaced first (replicate k block) blocks) new → KeepsOthers first count blocks new
same-torn first count k p block blocks new within below kept =
    let before : take (first + k) new ≡ take first blocks ++ replicate k block = kept.before ∙ front-same first k block blocks (omega arith) in
    let behind : drop (first + k + p) new ≡ drop (first + k + p) blocks = kept.behind ∙ behind-same first k p block blocks (omega arith) in
    let rest : first + count ≡ first + k + p + (count - k - p) = omega arith in
    record {
      before = sym (take-take first (first + k) new (omega arith)) ∙ ap (take first) before
          ∙ take_at (take first blocks) (replicate k block) first (length-take-le first blocks (omega arith));
      behind = rw rest (sym (drop-drop (count - k - p) (first + k + p) new) ∙ ap (drop (count - k - p)) behind
          ∙ drop-drop (count - k - p) (first + k + p) blocks);
    }
