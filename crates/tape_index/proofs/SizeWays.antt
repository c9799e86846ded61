-- Spacing goes through a run of items of one size, and past the records before a filemark.
use Rattle.std.proofs.Common.{◌≡◌, ℕ, zero, suc, ◌+◌, ◌-◌, ◌≤◌, ◌<◌, List, [], ◌∷◌, ◌++◌, length, drop}
use Rattle.std.proofs.Common.{refl, ap, sym, ◌∙◌, arith, Bool, true, false, ◌==◌, add_assoc, append_assoc, eq-eqb}
use Rattle.std.specs.Prelude.{replicate, if◌then◌else◌}
use Rattle.std.proofs.lemmas.Bool.{ne_eqb}
use Rattle.std.proofs.lemmas.List.{replicate-append-replicate}
use Rattle.tape_index.specs.Index.{mark_size}
use Rattle.tape_index.specs.SizeSpace.{further, size_way, leading_records}
use Rattle.tape_index.specs.Way.{Way}
use Rattle.tape_index.specs.declared.outcome.Over.{Over}
use Rattle.tape_index.specs.declared.outcome.Over.TheVariants.{Records, Filemarks}
use Rattle.tape_index.specs.declared.outcome.Direction.{Direction}
use Rattle.tape_index.specs.declared.outcome.Spaced.TheVariants as spaced

pub further-further : (m n : ℕ) (w : Way) → further m (further n w) ≡ further (m + n) w
further-further m n w = rw (add_assoc m n w.passed) refl

pub further-zero : (w : Way) → further 0 w ≡ w
further-zero w = let e : 0 + w.passed ≡ w.passed = omega arith in rw e refl

further-suc : (many : ℕ) (w : Way) → further 1 (further many w) ≡ further (suc many) w
further-suc many w = further-further 1 many w ∙ ap (λ n. further n w) (omega arith)

-- items of this size are counted
abbrev pub IsCounted : Over → ℕ → Type 0
IsCounted Records size = (size == mark_size) ≡ false
IsCounted Filemarks size = (size == mark_size) ≡ true

pub counts-record : (over : Over) (size : ℕ) → over ≡ Records → (size ≡ mark_size → ⊥) → IsCounted over size
counts-record over size e differs = rw e (ne_eqb size mark_size differs)

pub counts-mark : (over : Over) (size : ℕ) → over ≡ Filemarks → size ≡ mark_size → IsCounted over size
counts-mark over size e same = rw e (eq-eqb size mark_size same)

pub counted-all : (direction : Direction) (over : Over) (left many size : ℕ) (sizes : List ℕ) → IsCounted over size
    → size_way direction over (many + left) (replicate many size ++ sizes) ≡ further many (size_way direction over left sizes)
counted-all direction over left zero size sizes is = ap (λ n. size_way direction over n sizes) (omega arith)
    ∙ sym (further-zero (size_way direction over left sizes))
counted-all direction Records left (suc many) size sizes is =
    let e : suc many + left ≡ suc (many + left) = omega arith in
    rw (e, is) (ap (further 1) (counted-all direction Records left many size sizes is) ∙ further-suc many (size_way direction Records left sizes))
counted-all direction Filemarks left (suc many) size sizes is =
    let e : suc many + left ≡ suc (many + left) = omega arith in
    rw (e, is) (ap (further 1) (counted-all direction Filemarks left many size sizes is) ∙ further-suc many (size_way direction Filemarks left sizes))

pub counted-past : (direction : Direction) (over : Over) (left many size : ℕ) (sizes : List ℕ) → IsCounted over size → many ≤ left
    → size_way direction over left (replicate many size ++ sizes) ≡ further many (size_way direction over (left - many) sizes)
counted-past direction over left many size sizes is le =
    let e : left ≡ many + (left - many) = omega arith in
    ap (λ n. size_way direction over n (replicate many size ++ sizes)) e ∙ counted-all direction over (left - many) many size sizes is

pub counted-part : (direction : Direction) (over : Over) (left many size : ℕ) (sizes : List ℕ) → IsCounted over size → left ≤ many
    → size_way direction over left (replicate many size ++ sizes) ≡ record { passed = left; told = spaced.Whole }
counted-part direction over left many size sizes is le =
    let rest : ℕ = many - left in
    let whole : many ≡ left + rest = omega arith in
    let none : left + 0 ≡ left = omega arith in
    let here : replicate many size ++ sizes ≡ replicate left size ++ (replicate rest size ++ sizes) =
    ap (λ n. replicate n size ++ sizes) whole ∙ ap (λ l. l ++ sizes) (sym (replicate-append-replicate left rest size))
    ∙ append_assoc (replicate left size) (replicate rest size) sizes in
    let done : further left (size_way direction over 0 (replicate rest size ++ sizes)) ≡ record { passed = left; told = spaced.Whole } = rw none refl in
    ap (size_way direction over left) here ∙ ap (λ n. size_way direction over n (replicate left size ++ (replicate rest size ++ sizes))) (sym none)
    ∙ counted-all direction over 0 left size (replicate rest size ++ sizes) is ∙ done

-- records are passed where filemarks are counted
pub records-passed : (direction : Direction) (over : Over) (left many size : ℕ) (sizes : List ℕ) → over ≡ Filemarks → 0 < left → (size ≡ mark_size → ⊥)
    → size_way direction over left (replicate many size ++ sizes) ≡ further many (size_way direction over left sizes)
records-passed direction Records left many size sizes e some differs = absurd cc
records-passed direction Filemarks zero many size sizes e some differs = absurd (omega arith)
records-passed direction Filemarks (suc left) zero size sizes e some differs = sym (further-zero (size_way direction Filemarks (suc left) sizes))
records-passed direction Filemarks (suc left) (suc many) size sizes e some differs =
    rw (ne_eqb size mark_size differs)
    (ap (further 1) (records-passed direction Filemarks (suc left) many size sizes e some differs)
    ∙ further-suc many (size_way direction Filemarks (suc left) sizes))

-- ---- the records before the first filemark

pub leading-records : (many size : ℕ) (sizes : List ℕ) → (size ≡ mark_size → ⊥)
    → leading_records (replicate many size ++ sizes) ≡ many + leading_records sizes
leading-records zero size sizes differs = omega arith
leading-records (suc many) size sizes differs =
    rw (ne_eqb size mark_size differs) (omega (arith, leading-records many size sizes differs))

pub leading-marks : (many : ℕ) (sizes : List ℕ) → 0 < many → leading_records (replicate many mark_size ++ sizes) ≡ 0
leading-marks zero sizes some = absurd (omega arith)
leading-marks (suc many) sizes some = refl

pub leading_few : (sizes : List ℕ) → leading_records sizes ≤ length sizes
leading_few [] = omega arith
leading_few (size ∷ sizes) =
    let many = leading_records sizes in
    elim (size == mark_size) as (λ is. (if is then 0 else suc many) ≤ suc (length sizes)) [
      | true ↦ omega arith
      | false ↦ omega (arith, leading_few sizes)
    ]

-- spacing over filemarks goes past them
abbrev pub GoesPast : Direction → ℕ → List ℕ → Type 0
GoesPast direction left sizes =
    let many = leading_records sizes in
    size_way direction Filemarks left sizes ≡ further many (size_way direction Filemarks left (drop many sizes))

past-one : (direction : Direction) (left size : ℕ) (sizes : List ℕ) (is_mark : Bool) → (size == mark_size) ≡ is_mark
    → GoesPast direction (suc left) sizes → GoesPast direction (suc left) (size ∷ sizes)
past-one direction left size sizes true is rest =
    let none : leading_records (size ∷ sizes) ≡ 0 = rw is refl in
    rw none (sym (further-zero (size_way direction Filemarks (suc left) (size ∷ sizes))))
past-one direction left size sizes false is rest =
    let many = leading_records sizes in
    rw is (ap (further 1) rest ∙ further-suc many (size_way direction Filemarks (suc left) (drop many sizes)))

pub past-leading : (direction : Direction) (left : ℕ) (sizes : List ℕ) → 0 < left → GoesPast direction left sizes
past-leading direction zero sizes some = absurd (omega arith)
past-leading direction (suc left) [] some = sym (further-zero (size_way direction Filemarks (suc left) []))
past-leading direction (suc left) (size ∷ sizes) some =
    past-one direction left size sizes (size == mark_size) refl (past-leading direction (suc left) sizes some)
