-- Spacing goes on from one run to the next.
use Rattle.std.proofs.Common.{◌≡◌, ℕ, zero, suc, ◌+◌, ◌-◌, ◌≤◌, ◌<◌, List, [], ◌++◌}
use Rattle.std.proofs.Common.{length, take, drop, reverse, ap, sym, ◌∙◌, arith}
use Rattle.std.specs.Prelude.{replicate}
use Rattle.std.proofs.Math.Seq.{take-add}
use Rattle.std.proofs.lemmas.List.{length-append, length-replicate, length-drop, length-reverse, length-take-le}
use Rattle.std.proofs.lemmas.List.{drop_at, drop-drop, reverse-append}
use Rattle.tape_index.specs.Index.{mark_size, AreAhead, AreAlike, CanMove, sizes_ahead}
use Rattle.tape_index.specs.SizeSpace.{further, size_way, size_way_from, leading_records, past_records, HasEnded}
use Rattle.tape_index.specs.Way.{Way, edge, spaced_to}
use Rattle.tape_index.specs.declared.index.Ahead.{Ahead}
use Rattle.tape_index.specs.declared.outcome.Over.{Over}
use Rattle.tape_index.specs.declared.outcome.Over.TheVariants.{Filemarks}
use Rattle.tape_index.specs.declared.outcome.Direction.{Direction}
use Rattle.tape_index.specs.declared.outcome.Direction.TheVariants.{Forward, Backward}
use Rattle.tape_index.specs.declared.space.Ended.{Ended}
use Rattle.tape_index.proofs.Alike.{alike-back}
use Rattle.tape_index.proofs.SizeWays.{further-further, further-zero}
use Rattle.tape_index.proofs.SizeWays.{leading-records, leading-marks, leading_few, past-leading}

pub long-ahead : (toward : Direction) (at many : ℕ) (sizes : List ℕ) → at ≤ length sizes → many ≤ length (sizes_ahead toward at sizes)
    → spaced_to toward at many ≤ length sizes
long-ahead Forward at many sizes within few = omega (arith, few, length-drop at sizes)
long-ahead Backward at many sizes within few = omega arith

pub shorter : (toward : Direction) (at : ℕ) (sizes : List ℕ) (ahead : Ahead) → AreAhead toward at sizes ahead
    → length (sizes_ahead toward (spaced_to toward at ahead.many) sizes) < length (sizes_ahead toward at sizes)
shorter toward at sizes ahead are =
    let rest = sizes_ahead toward (spaced_to toward at ahead.many) sizes in
    omega (arith, ap length are.is, length-append (replicate ahead.many ahead.size) rest, length-replicate ahead.many ahead.size, are.some)

-- spacing has come to a position, and so much of the count is left
pub record IsOn (toward : Direction) (over : Over) (count from : ℕ) (sizes : List ℕ) (left at : ℕ) : Type 0 where
  pub gone : ℕ
  pub at_is : at ≡ spaced_to toward from gone
  pub within : at ≤ length sizes
  pub way : size_way_from toward over count from sizes ≡ further gone (size_way_from toward over left at sizes)

spaced-spaced : (toward : Direction) (from m n : ℕ) → spaced_to toward (spaced_to toward from m) n ≡ spaced_to toward from (m + n)
spaced-spaced Forward from m n = omega arith
spaced-spaced Backward from m n = omega arith

pub on_start : (toward : Direction) (over : Over) (count from : ℕ) (sizes : List ℕ) → from ≤ length sizes → IsOn toward over count from sizes count from
on_start Forward over count from sizes within =
    record { gone = 0; at_is = omega arith; within = within; way = sym (further-zero (size_way_from Forward over count from sizes)) }
on_start Backward over count from sizes within =
    record { gone = 0; at_is = omega arith; within = within; way = sym (further-zero (size_way_from Backward over count from sizes)) }

pub on_next : (toward : Direction) (over : Over) (count from : ℕ) (sizes : List ℕ) (left at rest now : ℕ) (ahead : Ahead)
    → IsOn toward over count from sizes left at → AreAhead toward at sizes ahead → now ≡ spaced_to toward at ahead.many
    → ((others : List ℕ) → size_way toward over left (replicate ahead.many ahead.size ++ others) ≡ further ahead.many (size_way toward over rest others))
    → IsOn toward over count from sizes rest now
on_next toward over count from sizes left at rest now ahead on are now_is way = record {
  gone = on.gone + ahead.many;
  at_is = now_is ∙ ap (λ n. spaced_to toward n ahead.many) on.at_is ∙ spaced-spaced toward from on.gone ahead.many;
  within = rw now_is (long-ahead toward at ahead.many sizes on.within are.many);
  way = rw now_is (on.way ∙ ap (λ l. further on.gone (size_way toward over left l)) are.is
      ∙ ap (further on.gone) (way (sizes_ahead toward (spaced_to toward at ahead.many) sizes))
      ∙ further-further on.gone ahead.many (size_way_from toward over rest (spaced_to toward at ahead.many) sizes));
}

pub has_ended : (toward : Direction) (over : Over) (count from : ℕ) (sizes : List ℕ) (left at passed : ℕ) (ended : Ended)
    → IsOn toward over count from sizes left at → size_way_from toward over left at sizes ≡ record { passed = passed; told = ended.told }
    → passed ≤ length (sizes_ahead toward at sizes) → ended.number ≡ spaced_to toward at passed → HasEnded toward over count from sizes ended
has_ended toward over count from sizes left at passed ended on is few number_is =
    let way = on.way ∙ ap (further on.gone) is in
    record {
      within = rw number_is (long-ahead toward at passed sizes on.within few);
      number = number_is ∙ ap (λ n. spaced_to toward n passed) on.at_is ∙ spaced-spaced toward from on.gone passed
          ∙ sym (ap (λ (w : Way). spaced_to toward from w.passed) way);
      told = sym (ap (λ (w : Way). w.told) way);
    }

pub spaced-none : (toward : Direction) (at : ℕ) → at ≡ spaced_to toward at 0
spaced-none Forward at = omega arith
spaced-none Backward at = omega arith

pub way-edge : (toward : Direction) (over : Over) (left at : ℕ) (sizes : List ℕ) → 0 < left → sizes_ahead toward at sizes ≡ []
    → size_way_from toward over left at sizes ≡ record { passed = 0; told = edge toward left }
way-edge direction over zero at sizes some none = absurd (omega arith)
way-edge direction over (suc left) at sizes some none = ap (size_way direction over (suc left)) none

pub can_less : (toward : Direction) (at many less : ℕ) → CanMove toward at many → less ≤ many → CanMove toward at less
can_less Forward at many less can le = omega arith
can_less Backward at many less can le = omega arith

-- ---- past the records before a filemark

drop-sizes_ahead : (toward : Direction) (at many : ℕ) (sizes : List ℕ) → at ≤ length sizes
    → many ≤ length (sizes_ahead toward at sizes)
    → drop many (sizes_ahead toward at sizes) ≡ sizes_ahead toward (spaced_to toward at many) sizes
drop-sizes_ahead Forward at many sizes within few = drop-drop many at sizes
drop-sizes_ahead Backward at many sizes within few =
    let first : ℕ = at - many in
    let there : first + many ≡ at = omega (arith, length-reverse (take at sizes), length-take-le at sizes within) in
    let front = take first sizes in
    let back = take many (drop first sizes) in
    let long : many ≤ length (drop first sizes) = omega (arith, length-drop first sizes, there) in
    ap (λ n. drop many (reverse (take n sizes))) (sym there)
    ∙ ap (λ l. drop many (reverse l)) (take-add first many sizes)
    ∙ ap (drop many) (reverse-append front back)
    ∙ drop_at (reverse back) (reverse front) many (length-reverse back ∙ length-take-le many (drop first sizes) long)

pub on_past : (toward : Direction) (count from : ℕ) (sizes : List ℕ) (left at now : ℕ) → 0 < left
    → IsOn toward Filemarks count from sizes left at → now ≡ past_records toward at sizes
    → IsOn toward Filemarks count from sizes left now
on_past direction count from sizes left at now some on is =
    let ahead = sizes_ahead direction at sizes in
    let many = leading_records ahead in
    let few = leading_few ahead in
    record {
      gone = on.gone + many;
      at_is = is ∙ ap (λ n. spaced_to direction n many) on.at_is ∙ spaced-spaced direction from on.gone many;
      within = rw is (long-ahead direction at many sizes on.within few);
      way = rw is (on.way ∙ ap (further on.gone) (past-leading direction left ahead some)
          ∙ ap (λ l. further on.gone (further many (size_way direction Filemarks left l)))
          (drop-sizes_ahead direction at many sizes on.within few)
          ∙ further-further on.gone many (size_way_from direction Filemarks left (spaced_to direction at many) sizes));
    }

pub no_longer : (toward : Direction) (at now : ℕ) (sizes : List ℕ) → at ≤ length sizes
    → now ≡ past_records toward at sizes
    → length (sizes_ahead toward now sizes) ≤ length (sizes_ahead toward at sizes)
no_longer direction at now sizes within is =
    let ahead = sizes_ahead direction at sizes in
    let many = leading_records ahead in
    rw (is, ← drop-sizes_ahead direction at many sizes within (leading_few ahead))
    (omega (arith, length-drop many ahead))

-- past a run of records
past-run : (toward : Direction) (at many size : ℕ) (sizes : List ℕ) → (size ≡ mark_size → ⊥)
    → sizes_ahead toward at sizes ≡ replicate many size ++ sizes_ahead toward (spaced_to toward at many) sizes
    → past_records toward at sizes ≡ past_records toward (spaced_to toward at many) sizes
past-run toward at many size sizes differs is =
    let rest = sizes_ahead toward (spaced_to toward at many) sizes in
    ap (λ l. spaced_to toward at (leading_records l)) is
    ∙ ap (spaced_to toward at) (leading-records many size rest differs)
    ∙ sym (spaced-spaced toward at many (leading_records rest))

pub past-forward : (sizes : List ℕ) (at next size : ℕ) → AreAlike sizes at next size → at ≤ next
    → (size ≡ mark_size → ⊥) → past_records Forward at sizes ≡ past_records Forward next sizes
past-forward sizes at next size are low differs =
    let there : at + (next - at) ≡ next = omega arith in
    rw there at (past-run Forward at (next - at) size sizes differs (rw there are.is))

pub past-backward : (sizes : List ℕ) (first at size : ℕ) → AreAlike sizes first at size → first ≤ at
    → (size ≡ mark_size → ⊥) → past_records Backward at sizes ≡ past_records Backward first sizes
past-backward sizes first at size are low differs =
    let there : at - (at - first) ≡ first = omega arith in
    let ahead = alike-back sizes first at size are low in
    rw there at (past-run Backward at (at - first) size sizes differs (rw there ahead))

-- and no further than a filemark
pub past-mark : (toward : Direction) (at many : ℕ) (sizes rest : List ℕ) → 0 < many
    → sizes_ahead toward at sizes ≡ replicate many mark_size ++ rest → past_records toward at sizes ≡ at
past-mark toward at many sizes rest some is =
    ap (λ l. spaced_to toward at (leading_records l)) is
    ∙ ap (spaced_to toward at) (leading-marks many rest some)
    ∙ sym (spaced-none toward at)

pub past-none : (toward : Direction) (at : ℕ) (sizes : List ℕ) → sizes_ahead toward at sizes ≡ []
    → past_records toward at sizes ≡ at
past-none toward at sizes is = ap (λ l. spaced_to toward at (leading_records l)) is ∙ sym (spaced-none toward at)
