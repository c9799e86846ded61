-- The short connections that a poll names.
use Rattle.std.proofs.Common.{◌≡◌, ℕ, ◌+◌, ◌-◌, ◌<◌, ◌≤◌, List, length, Bool, true, false, ◌&&◌, not, refl, sym, ap, subst, ◌∙◌, inl, inr, arith}
use Rattle.std.specs.Prelude.{nat_le, nat_lt, replicate, slice_set, if◌then◌else◌}
use Rattle.std.proofs.lemmas.Bool.{leb-true, leb-false, le-leb, lt-leb, ltb-true, ltb-false, cases_eq}
use Rattle.std.proofs.lemmas.List.{get_or-set_same, get_or-set_other, get_or-replicate, length-replicate, length-set}
use Rattle.iscsi_ports.specs.Flags.{flag_of}
use Rattle.iscsi_ports.specs.Turns.{is_short, is_before, short_from, start_of, IsPart, turns_to}
use Rattle.iscsi_ports.specs.declared.turns.Turns.{Turns}
use Rattle.iscsi_ports.proofs.TakingTurns.{by_test, le_or_lt, low, high, counted_here, counted_next}

pub start_in_range : (turns : Turns) → start_of turns < 64
start_in_range turns = by_test (nat_lt turns.first 64)
    (λ e. rw e (ltb-true turns.first 64 e))
    (λ e. rw e (omega arith))

never : (a b : Bool) → false ≡ (a && (b && not b))
never true true = refl
never true false = refl
never false b = refl

-- a number is as far from the next one as from this, but for itself
past_one : (i d : ℕ) → (i ≡ d → ⊥) → nat_le (i + 1) d ≡ nat_le i d
past_one i d other = elim (le_or_lt i d) [
  | inl le ↦ le-leb (i + 1) d (omega (arith, le, other)) ∙ sym (le-leb i d le)
  | inr lt ↦ lt-leb (i + 1) d (omega (arith, lt)) ∙ sym (lt-leb i d lt)
]

module _ (ready : List Bool) (turns : Turns) where
  -- of the short ones those are chosen from the start on and before this number
  pub record AreChosen (chosen : List Bool) (count i : ℕ) : Type 0 where
    pub names : (d : ℕ) → d < 64 → flag_of d chosen ≡ is_before ready turns i d
    pub counted : short_from ready turns (start_of turns) ≡ count + short_from ready turns i
    pub few : count + start_of turns ≤ i
    pub limited : count ≤ turns.more + 1
    pub all : length chosen ≡ 64

  pub none_chosen : AreChosen (replicate 64 false) 0 (start_of turns)
  none_chosen = record {
    names = λ d lt. get_or-replicate 64 d false false lt ∙ never (is_short ready turns d) (nat_le (start_of turns) d);
    counted = omega arith;
    few = omega arith;
    limited = omega arith;
    all = length-replicate 64 false;
  }

  module _ (chosen : List Bool) (count i : ℕ) (lt : i < 64) (was : AreChosen chosen count i) where
    abbrev short : ℕ → Bool
    short = is_short ready turns

    -- whether another number is chosen does not change
    other_stays : (d : ℕ) → d < 64 → (i ≡ d → ⊥) → flag_of d chosen ≡ is_before ready turns (i + 1) d
    other_stays d in_range other =
        was.names d in_range
        ∙ ap (λ b. short d && (nat_le (start_of turns) d && not b)) (sym (past_one i d other))

    pub one_more : short i ≡ true → count ≤ turns.more → AreChosen (slice_set chosen i true) (count + 1) (i + 1)
    one_more is few = record {
      names = λ d in_range. elim (cases_eq i d) [
        | inl same ↦ subst (λ k. flag_of k (slice_set chosen i true) ≡ is_before ready turns (i + 1) k) same here
        | inr other ↦ get_or-set_other chosen i d true false (λ same. other (sym same)) ∙ other_stays d in_range other
      ];
      counted = was.counted ∙ ap (λ n. count + n) (counted_here short i lt is) ∙ omega arith;
      few = omega (arith, was.few);
      limited = omega (arith, few);
      all = length-set chosen i true ∙ was.all;
    }
      where
        here : flag_of i (slice_set chosen i true) ≡ is_before ready turns (i + 1) i
        here =
            let from_start : start_of turns ≤ i = omega (arith, was.few) in
            get_or-set_same chosen i true false (omega (arith, lt, was.all))
            ∙ sym (rw (is, le-leb (start_of turns) i from_start, lt-leb (i + 1) i (omega arith)) refl)

    pub no_more : short i ≡ false → AreChosen chosen count (i + 1)
    no_more is = record {
      names = λ d in_range. elim (cases_eq i d) [
        | inl same ↦ subst (λ k. flag_of k chosen ≡ is_before ready turns (i + 1) k) same (was.names i lt ∙ rw is refl)
        | inr other ↦ other_stays d in_range other
      ];
      counted = was.counted ∙ ap (λ n. count + n) (counted_next short i lt is);
      few = omega (arith, was.few);
      limited = was.limited;
      all = was.all;
    }

    -- the one at this number is too many
    pub is_full : short i ≡ true → turns.more < count → IsPart ready turns (record { named = chosen; count = count; next = i })
    is_full is full = record {
      names = was.names;
      counted = was.counted;
      few = was.limited;
      full = λ less. (omega (arith, was.few, full), is, omega (arith, was.limited, full));
      within = omega (arith, lt);
      all = was.all;
    }

  pub is_whole : (chosen : List Bool) (count i : ℕ) → 64 ≤ i → AreChosen chosen count i
      → IsPart ready turns (record { named = chosen; count = count; next = 64 })
  is_whole chosen count i above was = record {
    names = λ d lt.
        let outside = lt-leb i d (omega (arith, lt, above)) ∙ sym (lt-leb 64 d lt) in
        was.names d lt ∙ ap (λ b. is_short ready turns d && (nat_le (start_of turns) d && not b)) outside;
    counted = was.counted ∙ ap (λ n. count + n) none_after;
    few = was.limited;
    full = λ less. absurd (omega (arith, less));
    within = omega arith;
    all = was.all;
  }
    where
      none_after : short_from ready turns i ≡ short_from ready turns 64
      none_after = let over : 64 - i ≡ 0 = omega (arith, above) in rw over refl

  -- where a poll begins at the front and all are few
  pub is_all : (short : List Bool) (count : ℕ) → length short ≡ 64 → start_of turns ≡ 0 → count ≡ short_from ready turns 0 → count ≤ turns.more
      → ((d : ℕ) → d < 64 → flag_of d short ≡ is_short ready turns d)
      → IsPart ready turns (record { named = short; count = count; next = 64 })
  is_all short count all start is few are = record {
    names = λ d lt. are d lt ∙ sym (rw (start, lt-leb 64 d lt, le-leb 0 d (omega arith)) (and_true (is_short ready turns d)));
    counted = rw start (sym is ∙ omega arith);
    few = omega (arith, few);
    full = λ less. absurd (omega (arith, less));
    within = omega arith;
    all = all;
  }
    where
      and_true : (b : Bool) → (b && true) ≡ b
      and_true true = refl
      and_true false = refl

-- ---- that it is fair

-- one that is left out is nearer to where the next poll begins
pub short_nearer : (start next c : ℕ) → c < 64 → start < 64 → (next < 64 → start < next)
    → (nat_le start c && not (nat_le next c)) ≡ false
    → turns_to c (if nat_lt next 64 then next else 0) < turns_to c start
short_nearer start next c in_range start_in later out = by_test (nat_lt next 64) goes_on begins_again
  where
    outside : nat_le start c ≡ true → next ≤ c
    outside e = leb-true next c (is_true (nat_le next c) (rw e at out))
      where
        is_true : (b : Bool) → not b ≡ false → b ≡ true
        is_true true e = refl
        is_true false e = absurd cc

    goes_on : nat_lt next 64 ≡ true → turns_to c (if nat_lt next 64 then next else 0) < turns_to c start
    goes_on e =
        let lt = later (ltb-true next 64 e) in
        let below = ltb-true next 64 e in
        rw e (by_test (nat_le start c)
        (λ from_start.
        let le = leb-true start c from_start in
        let past = outside from_start in
        rw (low c next past, low c start le) (omega (arith, lt, le, past)))
        (λ before.
        let less = leb-false start c before in
        rw (high c next (omega (arith, less, lt)), high c start less) (omega (arith, less, lt, below))))

    begins_again : nat_lt next 64 ≡ false → turns_to c (if nat_lt next 64 then next else 0) < turns_to c start
    begins_again e =
        let above = ltb-false next 64 e in
        rw e (by_test (nat_le start c)
        (λ from_start. let past = outside from_start in absurd (omega (arith, past, above, in_range)))
        (λ before.
        let less = leb-false start c before in
        rw (low c 0 (omega arith), high c start less) (omega (arith, less, start_in))))
