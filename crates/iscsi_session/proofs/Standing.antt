-- The requests as they stand: SCSI Commands are bare, and those that were removed are voided. All keep their numbers.
use Rattle.std.proofs.Common.{◌≡◌, ℕ, zero, suc, ◌+◌, ◌<◌, List, [], ◌∷◌, ◌++◌, length, true, false, cond, refl, ap, arith}
use Rattle.std.specs.Prelude.{All}
use Rattle.std.proofs.lemmas.Bool.{false_from_ne_true}
use Rattle.iscsi_requests.specs.Requests.{Request, Past, is_command, request_at, frame_of, is_in, numbered, place_of}
use Rattle.iscsi_pdu.specs.Header.{opcode_number, is_immediate}
use Rattle.iscsi_pdu.specs.Frames.{Frame}
use Rattle.iscsi_requests.specs.State.{voided, bare, bare_command, bared, standing_from, standing}
use Rattle.iscsi_requests.proofs.Left.{below_of}

-- ---- without the data of SCSI Commands

pub bare_other : (frame : Frame) → is_command frame ≡ false → bare frame ≡ frame
bare_other frame e = rw e refl

pub bare_is : (frame : Frame) → is_command frame ≡ true → bare_command frame.header ≡ bare frame
bare_is frame e = rw e refl

-- ---- all of them

-- the numbers are the same
numbered_from : (removed : List ℕ) (k : ℕ) (came : List Request) → numbered (standing_from removed k came) ≡ numbered came
numbered_from removed k [] = refl
numbered_from removed k (r ∷ came) = grind (arith, numbered_from removed (suc k) came)

pub numbered_standing : (past : Past) → numbered (standing past) ≡ numbered past.came
unfolding standing
numbered_standing past = numbered_from past.removed 0 past.came

place_from : (removed : List ℕ) (k : ℕ) (came : List Request) (n : ℕ) → place_of (standing_from removed k came) n ≡ place_of came n
place_from removed k [] n = refl
place_from removed k (r ∷ came) n = grind (arith, place_from removed (suc k) came n)

pub place_standing : (past : Past) (n : ℕ) → place_of (standing past) n ≡ place_of past.came n
unfolding standing
place_standing past n = place_from past.removed 0 past.came n

length_from : (removed : List ℕ) (k : ℕ) (came : List Request) → length (standing_from removed k came) ≡ length came
length_from removed k [] = refl
length_from removed k (r ∷ came) = ap suc (length_from removed (suc k) came)

pub length_standing : (past : Past) → length (standing past) ≡ length past.came
unfolding standing
length_standing past = length_from past.removed 0 past.came

-- one request more
push_from : (removed : List ℕ) (k n : ℕ) (came : List Request) (x : Request) → n ≡ k + length came → is_in n removed ≡ false
    → standing_from removed k (came ++ x ∷ []) ≡ standing_from removed k came ++ bared x ∷ []
push_from removed k n [] x at fresh = grind arith
push_from removed k n (r ∷ came) x at fresh = grind (arith, push_from removed (suc k) n came x (omega arith) fresh)

pub standing_joined : (past : Past) (x : Request) → All (λ a. a < length past.came) past.removed
    → standing (record past { came = past.came ++ x ∷ [] }) ≡ standing past ++ bared x ∷ []
unfolding standing
standing_joined past x below =
    let n = length past.came in
    push_from past.removed 0 n past.came x (omega arith)
    (false_from_ne_true (is_in n past.removed) (λ h. let lt = below_of n n past.removed below h in absurd (omega arith)))

-- what stands at a name
at_from : (removed : List ℕ) (k i n : ℕ) (came : List Request) → i < length came → n ≡ k + i
    → request_at (standing_from removed k came) i ≡ cond (is_in n removed) (voided (request_at came i)) (bared (request_at came i))
at_from removed k i n [] lt at = absurd (omega arith)
at_from removed k zero n (r ∷ came) lt at = grind arith
at_from removed k (suc i) n (r ∷ came) lt at = at_from removed (suc k) i n came (omega arith) (omega arith)

pub standing_at : (past : Past) (k : ℕ) → k < length past.came
    → request_at (standing past) k ≡ cond (is_in k past.removed) (voided (request_at past.came k)) (bared (request_at past.came k))
unfolding standing
standing_at past k lt = at_from past.removed 0 k k past.came lt (omega arith)

-- of one that is not removed
pub standing_kept : (past : Past) (k : ℕ) → k < length past.came → is_in k past.removed ≡ false
    → frame_of (standing past) k ≡ bare (frame_of past.came k)
standing_kept past k lt none = grind (arith, standing_at)

-- it is for immediate delivery, or not, as it was
pub standing_immediate : (past : Past) (k : ℕ) → k < length past.came
    → is_immediate (frame_of (standing past) k).header ≡ is_immediate (frame_of past.came k).header
standing_immediate past k lt = grind (arith, standing_at)

-- ---- of which kind it is

-- a request of any other opcode was not removed
pub stands_as : (past : Past) (k : ℕ) → k < length past.came → (opcode_number (frame_of (standing past) k).header ≡ 0x3F → ⊥)
    → frame_of (standing past) k ≡ bare (frame_of past.came k)
stands_as past k lt other = grind (arith, standing_at, standing_kept)

-- one that was removed
pub stands_void : (past : Past) (k : ℕ) → k < length past.came → is_in k past.removed ≡ true → opcode_number (frame_of (standing past) k).header ≡ 0x3F
stands_void past k lt e = grind (arith, standing_at)
