-- Reading blocks goes by the sizes of the items.
use Rattle.std.proofs.Common.{◌≡◌, ℕ, zero, suc, ◌+◌, ◌-◌, ◌*◌, ◌≤◌, ◌<◌, List, [], ◌∷◌, ◌++◌, length, drop, sum}
use Rattle.std.proofs.Common.{Bool, true, false, ◌==◌, if◌then◌else◌, refl, ap, sym, ◌∙◌, arith, add_assoc, eq-eqb}
use Rattle.std.specs.Prelude.{replicate}
use Rattle.std.proofs.Math.Nat.{add-sub_cancel_left}
use Rattle.std.proofs.lemmas.Bool.{ne_eqb, eqb-true}
use Rattle.std.proofs.lemmas.List.{length-drop}
use Rattle.std.proofs.lemmas.List.Sums.{sum_by-cons}
use Rattle.tape_index.specs.Index.{mark_size, AreAlike, AreAhead}
use Rattle.tape_index.specs.declared.index.Ahead.{Ahead}
use Rattle.tape_index.specs.declared.outcome.Direction.TheVariants.{Forward}
use Rattle.tape_index.proofs.Alike.{alike-front}
use Rattle.tape_index.specs.SizeFixed.{behind, size_fixed, fixed_passed}
use Rattle.tape_index.specs.declared.outcome.FixedEnd.{FixedEnd}
use Rattle.tape_index.specs.declared.outcome.FixedEnd.TheVariants as end
use Rattle.tape_index.specs.declared.outcome.FixedRead.{FixedRead}

pub behind-behind : (m n : ℕ) (read : FixedRead) → behind m (behind n read) ≡ behind (m + n) read
behind-behind m n read = rw (add_assoc m n read.given) refl

pub behind-zero : (read : FixedRead) → behind 0 read ≡ read
behind-zero read = let e : 0 + read.given ≡ read.given = omega arith in rw e refl

-- a block is one more
pub fixed_next : (count block_length size : ℕ) (sizes : List ℕ) → 0 < block_length → size ≡ block_length + mark_size
    → size_fixed (suc count) block_length (size ∷ sizes) ≡ behind 1 (size_fixed count block_length sizes)
fixed_next count block_length size sizes some is =
    rw (ne_eqb size mark_size (λ e. omega arith), eq-eqb size (block_length + mark_size) is) refl

-- and so are those of a run
pub fixed_run : (many left block_length size : ℕ) (sizes : List ℕ) → 0 < block_length → size ≡ block_length + mark_size
    → size_fixed (many + left) block_length (replicate many size ++ sizes) ≡ behind many (size_fixed left block_length sizes)
fixed_run zero left block_length size sizes some is =
    ap (λ n. size_fixed n block_length sizes) (omega arith) ∙ sym (behind-zero (size_fixed left block_length sizes))
fixed_run (suc many) left block_length size sizes some is =
    let e : suc many + left ≡ suc (many + left) = omega arith in
    let one : 1 + many ≡ suc many = omega arith in
    rw e (fixed_next (many + left) block_length size (replicate many size ++ sizes) some is
    ∙ ap (behind 1) (fixed_run many left block_length size sizes some is)
    ∙ behind-behind 1 many (size_fixed left block_length sizes) ∙ ap (λ n. behind n (size_fixed left block_length sizes)) one)

-- a read has come over so many blocks
abbrev pub IsGiven : ℕ → ℕ → ℕ → List ℕ → ℕ → Type 0
IsGiven count block_length from sizes given =
    size_fixed count block_length (drop from sizes) ≡ behind given (size_fixed (count - given) block_length (drop (from + given) sizes))

pub given_run : (count block_length from given many : ℕ) (sizes : List ℕ) (ahead : Ahead) → IsGiven count block_length from sizes given
    → AreAhead Forward (from + given) sizes ahead → 0 < ahead.size - mark_size → ahead.size ≡ block_length + 8 → many ≤ ahead.many → many ≤ count - given
    → IsGiven count block_length from sizes (given + many)
given_run count block_length from given many sizes ahead is are some size_is short few =
    let at : ℕ = from + given in
    let left : ℕ = count - (given + many) in
    let rest = drop (from + (given + many)) sizes in
    let next : ℕ = at + ahead.many in
    let all : AreAlike sizes at next ahead.size = record {
      is = rw (add-sub_cancel_left at ahead.many) are.is;
      within = omega (arith, are.many, length-drop at sizes, are.some);
    } in
    let gone : from + (given + many) - at ≡ many = omega arith in
    let front = alike-front sizes at (from + (given + many)) next ahead.size all (omega arith) (omega arith) in
    let here : drop at sizes ≡ replicate many ahead.size ++ rest = rw gone at front.is in
    let whole : count - given ≡ many + left = omega arith in
    is ∙ ap (λ (xs : List ℕ). behind given (size_fixed (count - given) block_length xs)) here
    ∙ ap (λ n. behind given (size_fixed n block_length (replicate many ahead.size ++ rest))) whole
    ∙ ap (behind given) (fixed_run many left block_length ahead.size rest (omega arith) size_is)
    ∙ behind-behind given many (size_fixed left block_length rest)

-- what ends it
given_ended : (count block_length from given : ℕ) (sizes : List ℕ) (ended : FixedEnd) → IsGiven count block_length from sizes given
    → size_fixed (count - given) block_length (drop (from + given) sizes) ≡ record { given = 0; ended = ended }
    → record { given = given; ended = ended } ≡ size_fixed count block_length (drop from sizes)
given_ended count block_length from given sizes ended is last =
    let e : given + 0 ≡ given = omega arith in
    ap (λ n. record { given = n; ended = ended }) (sym e) ∙ sym (is ∙ ap (behind given) last)

first_ahead : (at : ℕ) (sizes : List ℕ) (ahead : Ahead) → AreAhead Forward at sizes ahead
    → drop at sizes ≡ ahead.size ∷ (replicate (ahead.many - 1) ahead.size ++ drop (at + ahead.many) sizes)
first_ahead at sizes ahead are =
    let some : ahead.many ≡ suc (ahead.many - 1) = omega (arith, are.some) in
    are.is ∙ ap (λ n. replicate n ahead.size ++ drop (at + ahead.many) sizes) some

at_mark : (left block_length size : ℕ) (sizes : List ℕ) → 0 < left → size ≡ mark_size
    → size_fixed left block_length (size ∷ sizes) ≡ record { given = 0; ended = end.Filemark }
at_mark zero block_length size sizes some mark = absurd (omega arith)
at_mark (suc left) block_length size sizes some mark = rw (eq-eqb size mark_size mark) refl

at_other : (left block_length size : ℕ) (sizes : List ℕ) → 0 < left → (size ≡ mark_size → ⊥) → (size ≡ block_length + mark_size → ⊥)
    → size_fixed left block_length (size ∷ sizes) ≡ record { given = 0; ended = end.Length (size - mark_size) }
at_other zero block_length size sizes some no_mark other = absurd (omega arith)
at_other (suc left) block_length size sizes some no_mark other = rw (ne_eqb size mark_size no_mark, ne_eqb size (block_length + mark_size) other) refl

pub given_to_mark : (count block_length from given : ℕ) (sizes : List ℕ) (ahead : Ahead) → IsGiven count block_length from sizes given → given < count
    → AreAhead Forward (from + given) sizes ahead → ahead.size ≡ mark_size
    → record { given = given; ended = end.Filemark } ≡ size_fixed count block_length (drop from sizes)
given_to_mark count block_length from given sizes ahead is less are mark =
    given_ended count block_length from given sizes end.Filemark is (rw (first_ahead (from + given) sizes ahead are)
    (at_mark (count - given) block_length ahead.size (replicate (ahead.many - 1) ahead.size ++ drop (from + given + ahead.many) sizes) (omega arith) mark))

pub given_to_other : (count block_length from given : ℕ) (sizes : List ℕ) (ahead : Ahead) → IsGiven count block_length from sizes given → given < count
    → AreAhead Forward (from + given) sizes ahead → mark_size < ahead.size → (ahead.size - mark_size ≡ block_length → ⊥)
    → record { given = given; ended = end.Length (ahead.size - mark_size) } ≡ size_fixed count block_length (drop from sizes)
given_to_other count block_length from given sizes ahead is less are some other =
    given_ended count block_length from given sizes (end.Length (ahead.size - mark_size)) is (rw (first_ahead (from + given) sizes ahead are)
    (at_other (count - given) block_length ahead.size (replicate (ahead.many - 1) ahead.size ++ drop (from + given + ahead.many) sizes) (omega arith)
    (λ e. omega arith) (λ e. other (omega arith))))

-- what holds where a block is next, and where none is
pub by_size : (P : FixedRead → Type 0) (is_mark is_block : Bool) (mark block other : FixedRead) → P mark → (is_block ≡ true → P block)
    → (is_block ≡ false → P other) → P (if is_mark then mark else if is_block then block else other)
by_size P true is_block mark block other at_mark at_block at_other = at_mark
by_size P false true mark block other at_mark at_block at_other = at_block refl
by_size P false false mark block other at_mark at_block at_other = at_other refl

-- no more blocks are given than asked for, and no more items passed than there are
pub record IsWithinFixed (count block_length : ℕ) (sizes : List ℕ) (read : FixedRead) : Type 0 where
  pub few : read.given ≤ count
  pub passed : fixed_passed read ≤ length sizes
  pub bytes : read.given * (block_length + 8) ≤ sum sizes

pub fixed-within : (count block_length : ℕ) (sizes : List ℕ) → IsWithinFixed count block_length sizes (size_fixed count block_length sizes)
fixed-within zero block_length sizes = record { few = omega arith; passed = omega arith; bytes = omega arith }
fixed-within (suc count) block_length [] = record { few = omega arith; passed = omega arith; bytes = omega arith }
fixed-within (suc count) block_length (size ∷ sizes) =
    let rest = fixed-within count block_length sizes in
    let read = size_fixed count block_length sizes in
    by_size (IsWithinFixed (suc count) block_length (size ∷ sizes)) (size == mark_size) (size == block_length + mark_size) _ _ _
    (record { few = omega arith; passed = omega arith; bytes = omega arith })
    (λ is.
    let more : (1 + read.given) * (block_length + 8) ≡ (block_length + 8) + read.given * (block_length + 8) = grind arith in
    record {
      few = omega (arith, rest.few);
      passed = omega (arith, rest.passed);
      bytes = omega (arith, more, rest.bytes, sum_by-cons (λ n. n) size sizes, eqb-true size (block_length + mark_size) is);
    })
    (λ other. record { few = omega arith; passed = omega arith; bytes = omega arith })
