-- Whose turn it is, of the long connections that are ready.
use Rattle.std.proofs.Common.{◌≡◌, ℕ, zero, suc, ◌+◌, ◌-◌, ◌<◌, ◌≤◌, ◌⊎◌, min, List, ◌∷◌, length, Bool, true, false, ◌&&◌, not, Option, Some, None, find, refl, sym, ap, ◌∙◌, inl, inr, arith}
use Rattle.std.specs.Prelude.{nat_le, slice_set}
use Rattle.std.specs.List.{range_with_len, filter}
use Rattle.std.proofs.lemmas.Bool.{false≢true, leb-true, leb-false, le-leb, lt-leb, cases_eq}
use Rattle.std.proofs.lemmas.List.{get_or-set_same, get_or-set_other}
use Rattle.iscsi_ports.specs.Flags.{flag_of}
use Rattle.iscsi_ports.specs.Turns.{is_due, due_from, due_count, turn, turns_to}
use Rattle.iscsi_ports.specs.declared.turns.Turns.{Turns}

pub by_test : {P : Type 0} (b : Bool) → (b ≡ true → P) → (b ≡ false → P) → P
by_test true so other = so refl
by_test false so other = other refl

pub some_is : {X : Type 0} (x y : X) → Some x ≡ Some y → x ≡ y
some_is x y e = cc

-- of those before this one the long ones are passed over
pub record ArePassed (before long now : List Bool) (i : ℕ) : Type 0 where
  pub passed : (d : ℕ) → d < i → flag_of d now ≡ (flag_of d before && not (flag_of d long))
  pub ahead : (d : ℕ) → i ≤ d → flag_of d now ≡ flag_of d before

-- ---- a search through numbers

pub record Found (P : ℕ → Bool) (from c : ℕ) : Type 0 where
  pub holds : P c ≡ true
  pub from_here : from ≤ c
  pub first : (d : ℕ) → from ≤ d → d < c → P d ≡ false

range_next : (c : ℕ) → c < 64 → range_with_len c (64 - c) ≡ c ∷ range_with_len (c + 1) (64 - (c + 1))
range_next c lt =
    let more : 64 - c ≡ suc (64 - (c + 1)) = omega arith in
    ap (range_with_len c) more

pub found_next : (P : ℕ → Bool) (c : ℕ) → c < 64 → P c ≡ false → find P (range_with_len c (64 - c)) ≡ find P (range_with_len (c + 1) (64 - (c + 1)))
found_next P c lt e = rw (range_next c lt, e) refl

pub counted_here : (P : ℕ → Bool) (c : ℕ) → c < 64 → P c ≡ true
    → length (filter P (range_with_len c (64 - c))) ≡ suc (length (filter P (range_with_len (c + 1) (64 - (c + 1)))))
counted_here P c lt e = rw (range_next c lt, e) refl

pub counted_next : (P : ℕ → Bool) (c : ℕ) → c < 64 → P c ≡ false
    → length (filter P (range_with_len c (64 - c))) ≡ length (filter P (range_with_len (c + 1) (64 - (c + 1))))
counted_next P c lt e = rw (range_next c lt, e) refl

pub found : (P : ℕ → Bool) (n from c : ℕ) → find P (range_with_len from n) ≡ Some c → Found P from c × (c < from + n)
found P zero from c is = absurd cc
found P (suc n) from c is = by_test (P from)
    (λ e.
    let here : from ≡ c = some_is from c (rw e at is) in (
      record { holds = ap P (sym here) ∙ e; from_here = omega (arith, here); first = λ d le lt. absurd (omega (arith, here, le, lt)) },
      omega (arith, here),
    ))
    (λ e.
    let later = found P n (from + 1) c (rw e at is) in (
      record {
        holds = later.0.holds;
        from_here = omega (arith, later.0.from_here);
        first = λ d le lt. elim (cases_eq from d) [
          | inl same ↦ ap P (sym same) ∙ e
          | inr other ↦ later.0.first d (omega (arith, le, other)) lt
        ];
      },
      omega (arith, later.1),
    ))

pub none_found : (P : ℕ → Bool) (n from : ℕ) → find P (range_with_len from n) ≡ None → (d : ℕ) → from ≤ d → d < from + n → P d ≡ false
none_found P zero from is d le lt = absurd (omega (arith, le, lt))
none_found P (suc n) from is d le lt = by_test (P from)
    (λ e. let never : Some from ≡ None = rw e at is in absurd cc)
    (λ e. elim (cases_eq from d) [
      | inl same ↦ ap P (sym same) ∙ e
      | inr other ↦ none_found P n (from + 1) (rw e at is) d (omega (arith, le, other)) (omega (arith, lt))
    ])

none_counted : (P : ℕ → Bool) (n from : ℕ) → length (filter P (range_with_len from n)) ≡ 0 → (d : ℕ) → from ≤ d → d < from + n → P d ≡ false
none_counted P zero from is d le lt = absurd (omega (arith, le, lt))
none_counted P (suc n) from is d le lt = by_test (P from)
    (λ e. let never : suc (length (filter P (range_with_len (from + 1) n))) ≡ 0 = rw e at is in absurd cc)
    (λ e. elim (cases_eq from d) [
      | inl same ↦ ap P (sym same) ∙ e
      | inr other ↦ none_counted P n (from + 1) (rw e at is) d (omega (arith, le, other)) (omega (arith, lt))
    ])

not_there : (P : ℕ → Bool) (n from : ℕ) → ((d : ℕ) → from ≤ d → d < from + n → P d ≡ false) → find P (range_with_len from n) ≡ None
not_there P zero from none = refl
not_there P (suc n) from none =
    rw (none from (omega arith) (omega arith)) (not_there P n (from + 1) (λ d le lt. none d (omega (arith, le)) (omega (arith, lt))))

-- one more is passed over
pub passed_more : (before long now : List Bool) (i : ℕ) → i < length now → ArePassed before long now i
    → ArePassed before long (slice_set now i (flag_of i now && not (flag_of i long))) (i + 1)
passed_more before long now i lt was =
    let new : Bool = flag_of i now && not (flag_of i long) in
    record {
      passed = λ d less. elim (cases_eq i d) [
        | inl same ↦
            ap (λ k. flag_of k (slice_set now i new)) (sym same) ∙ get_or-set_same now i new false lt
            ∙ ap (λ b. b && not (flag_of i long)) (was.ahead i (omega arith)) ∙ ap (λ k. flag_of k before && not (flag_of k long)) same
        | inr other ↦ get_or-set_other now i d new false (λ same. other (sym same)) ∙ was.passed d (omega (arith, less, other))
      ];
      ahead = λ d le. get_or-set_other now i d new false (λ same. absurd (omega (arith, same, le))) ∙ was.ahead d (omega (arith, le));
    }

pub le_or_lt : (a b : ℕ) → (a ≤ b) ⊎ (b < a)
le_or_lt a b = by_test (nat_le a b) (λ e. inl (leb-true a b e)) (λ e. inr (leb-false a b e))

-- ---- the turn

pub low : (c cursor : ℕ) → cursor ≤ c → turns_to c cursor ≡ c - cursor
low c cursor le = rw (le-leb cursor c le) refl

pub high : (c cursor : ℕ) → c < cursor → turns_to c cursor ≡ (c + 64) - min cursor 64
high c cursor lt = rw (lt-leb cursor c lt) refl

module _ (ready : List Bool) (turns : Turns) where
  abbrev pub due : ℕ → Bool
  due = is_due ready turns

  pub no_turn : due_count ready turns ≡ 0 → turn ready turns ≡ None
  no_turn none =
      let never : (d : ℕ) → d < 64 → due d ≡ false = λ d lt. none_counted due 64 0 none d (omega arith) lt in
      rw (
        not_there due (64 - turns.cursor) turns.cursor (λ d le lt. never d (omega (arith, le, lt))),
        not_there due 64 0 (λ d le lt. never d lt),
      ) refl

  pub turn_found : (c : ℕ) → turn ready turns ≡ Some c → (due c ≡ true) × (c < 64)
  turn_found c is = go (due_from ready turns turns.cursor) refl
    where
      go : (seen : Option ℕ) → due_from ready turns turns.cursor ≡ seen → (due c ≡ true) × (c < 64)
      go (Some t) e =
          let here : t ≡ c = some_is t c (rw e at is) in
          let was = found due (64 - turns.cursor) turns.cursor c (e ∙ ap Some here) in
          (was.0.holds, omega (arith, was.1, was.0.from_here))
      go None e = let was = found due 64 0 c (rw e at is) in (was.0.holds, omega (arith, was.1))

  pub none_due : turn ready turns ≡ None → (d : ℕ) → d < 64 → due d ≡ false
  none_due is = go (due_from ready turns turns.cursor) refl
    where
      go : (seen : Option ℕ) → due_from ready turns turns.cursor ≡ seen → (d : ℕ) → d < 64 → due d ≡ false
      go (Some t) e = let never : Some t ≡ None = rw e at is in absurd cc
      go None e = λ d lt. none_found due 64 0 (rw e at is) d (omega arith) lt

  -- the others are nearer to theirs
  pub nearer : (t c : ℕ) → turn ready turns ≡ Some t → due c ≡ true → c < 64 → (c ≡ t → ⊥)
      → turns_to c (t + 1) < turns_to c turns.cursor
  nearer t c is here lt other = go (due_from ready turns turns.cursor) refl
    where
      go : (seen : Option ℕ) → due_from ready turns turns.cursor ≡ seen → turns_to c (t + 1) < turns_to c turns.cursor
      go (Some s) e =
          let same : s ≡ t = some_is s t (rw e at is) in
          let was = found due (64 - turns.cursor) turns.cursor t (e ∙ ap Some same) in
          elim (le_or_lt turns.cursor c) [
            | inl le ↦
                let outside : (c < t → ⊥) = λ less. false≢true (sym (was.0.first c le less) ∙ here) in
                let past : t < c = omega (arith, outside, other) in
                rw (low c (t + 1) (omega (arith, past)), low c turns.cursor le) (omega (arith, past, le, was.0.from_here))
            | inr lower ↦
                let above : c < t + 1 = omega (arith, lower, was.0.from_here) in
                rw (high c (t + 1) above, high c turns.cursor lower) (omega (arith, lower, was.0.from_here, was.1))
          ]
      go None e =
          let was = found due 64 0 t (rw e at is) in
          let outside : (c < t → ⊥) = λ less. false≢true (sym (was.0.first c (omega arith) less) ∙ here) in
          let past : t < c = omega (arith, outside, other) in
          let before : (turns.cursor ≤ c → ⊥) =
          λ le. false≢true (sym (none_found due (64 - turns.cursor) turns.cursor e c le (omega (arith, le, lt))) ∙ here) in
          let lower : c < turns.cursor = omega (arith, before) in
          rw (low c (t + 1) (omega (arith, past)), high c turns.cursor lower) (omega (arith, past, lower))
