-- That each connection that is ready has its turn.
use Rattle.std.proofs.Common.{◌≡◌, ℕ, ◌+◌, ◌<◌, List, Bool, true, false, ◌&&◌, ◌||◌, not, eq-eqb, Option, Some, None, refl, sym, ap, ◌∙◌, inl, inr}
use Rattle.std.specs.Prelude.{nat_le, nat_lt, slice_set, length, if◌then◌else◌}
use Rattle.std.proofs.lemmas.Bool.{false≢true, eqb-true, ne_eqb, cases_eq}
use Rattle.std.proofs.lemmas.List.{get_or-set_same, get_or-set_other}
use Rattle.target_limits.specs.Numbers.{connection_limit}
use Rattle.iscsi_ports.specs.Flags.{flag_of}
use Rattle.iscsi_ports.specs.Turns.{Names, NamesSome, IsFair, is_due, is_short, is_chosen, turn, start_of, cursor_for, cursor_after, turns_to}
use Rattle.iscsi_ports.specs.declared.readiness.Readiness.{Readiness}
use Rattle.iscsi_ports.specs.declared.turns.Turns.{Turns}
use Rattle.iscsi_ports.proofs.TakingTurns.{by_test, turn_found, none_due, nearer}
use Rattle.iscsi_ports.proofs.NamingShort.{short_nearer, start_in_range}

pub left : (a b : Bool) → (a && b) ≡ true → a ≡ true
left true b e = refl
left false b e = absurd cc

pub right : (a b : Bool) → (a && b) ≡ true → b ≡ true
right true b e = e
right false b e = absurd cc

neither : (a b : Bool) → (a || b) ≡ false → a ≡ false
neither true b e = absurd cc
neither false b e = refl

nor : (a b : Bool) → (a || b) ≡ false → b ≡ false
nor true b e = absurd cc
nor false b e = e

some_is : {X : Type 0} (x y : X) → Some x ≡ Some y → x ≡ y
some_is x y e = cc

or_true : (b : Bool) → (b || true) ≡ true
or_true true = refl
or_true false = refl

or_false : (b : Bool) → (b || false) ≡ b
or_false true = refl
or_false false = refl

-- ---- what is named: the part of the short ones, and the long one whose turn it is

module _ (ready : List Bool) (turns : Turns) (part : List Bool) where
  pub named_with : (c : ℕ) → turn ready turns ≡ Some c → length part ≡ 64
      → (d : ℕ) → d < 64 → flag_of d (slice_set part c true) ≡ (flag_of d part || is_chosen (turn ready turns) d)
  named_with c is all d lt = elim (cases_eq c d) [
    | inl same ↦
        let c_lt = (turn_found ready turns c is).1 in
        ap (λ k. flag_of k (slice_set part c true)) (sym same) ∙ get_or-set_same part c true false (rw all c_lt)
        ∙ sym (rw (is, eq-eqb d c (sym same)) (or_true (flag_of d part)))
    | inr other ↦
        get_or-set_other part c d true false (λ same. other (sym same))
        ∙ sym (rw (is, ne_eqb d c (λ same. other (sym same))) (or_false (flag_of d part)))
  ]

  pub named_without : turn ready turns ≡ None → (d : ℕ) → d < 64 → flag_of d part ≡ (flag_of d part || is_chosen (turn ready turns) d)
  named_without is d lt = sym (rw is (or_false (flag_of d part)))

-- ---- that it is fair

module _ (asked : Bool) (before seen after : Readiness) (turns : seen.turns ≡ before.turns) (names : Names asked seen after) where
  ready_is : after.ready ≡ seen.ready
  ready_is = ap (λ (r : Readiness). r.ready) names.same

  all_named : seen.turns.left_out ≡ true → IsFair before after
  all_named e =
      let named_is : after.named.connections ≡ after.ready.connections =
      (names.connections.all e).names ∙ sym (ap (λ (r : Readiness). r.ready.connections) names.same) in
      let left_out : before.turns.left_out ≡ true = sym (ap (λ (t : Turns). t.left_out) turns) ∙ e in
      record {
        ready = λ c lt named. ap (flag_of c) (sym named_is) ∙ named;
        all = λ _ c lt ready. ap (flag_of c) named_is ∙ ready;
        one = λ none. absurd (false≢true (sym none ∙ left_out));
        nearer = λ c lt ready out. absurd (false≢true (sym out ∙ ap (flag_of c) named_is ∙ ready));
      }

  module _ (none : seen.turns.left_out ≡ false) where
    some : NamesSome asked seen.ready.connections seen.turns after.turns after.named.connections
    some = names.connections.some none

    turn_is : (c : ℕ) (t : Option ℕ) → is_chosen t c ≡ true → t ≡ Some c
    turn_is c None e = absurd (false≢true e)
    turn_is c (Some t) e = ap Some (sym (eqb-true c t e))

    -- one that is named
    from_part : (c : ℕ) → c < connection_limit → flag_of c some.part.named ≡ true
        → (flag_of c seen.ready.connections && not (flag_of c seen.turns.long)) ≡ true
    from_part c lt e = left (is_short seen.ready.connections seen.turns c) _ (sym (some.is_part.names c lt) ∙ e)

    is_ready : (c : ℕ) → c < connection_limit → flag_of c after.named.connections ≡ true → flag_of c seen.ready.connections ≡ true
    is_ready c lt named = by_test (flag_of c some.part.named)
        (λ e. left (flag_of c seen.ready.connections) _ (from_part c lt e))
        (λ e.
        let is : is_chosen (turn seen.ready.connections seen.turns) c ≡ true = rw e at (sym (some.names c lt) ∙ named) in
        let due = (turn_found seen.ready.connections seen.turns c (turn_is c _ is)).0 in
        left (flag_of c seen.ready.connections) _ due)

    is_turn : (c : ℕ) → c < connection_limit → flag_of c after.named.connections ≡ true → flag_of c seen.turns.long ≡ true
        → turn seen.ready.connections seen.turns ≡ Some c
    is_turn c lt named is_long = by_test (flag_of c some.part.named)
        (λ e. absurd (no (flag_of c seen.ready.connections) (rw is_long at (from_part c lt e))))
        (λ e. turn_is c _ (rw e at (sym (some.names c lt) ∙ named)))
      where
        no : (b : Bool) → (b && false) ≡ true → ⊥
        no true e = false≢true e
        no false e = false≢true e

    cursor : seen.turns.cursor ≡ before.turns.cursor
    cursor = ap (λ (t : Turns). t.cursor) turns

    long_nearer : (c : ℕ) → c < connection_limit → flag_of c seen.ready.connections ≡ true → flag_of c seen.turns.long ≡ true
        → (t : Option ℕ) → turn seen.ready.connections seen.turns ≡ t → is_chosen t c ≡ false
        → turns_to c after.turns.cursor < turns_to c seen.turns.cursor
    long_nearer c lt ready long None is out =
        let due : is_due seen.ready.connections seen.turns c ≡ true = rw (ready, long) refl in
        absurd (false≢true (sym (none_due seen.ready.connections seen.turns is c lt) ∙ due))
    long_nearer c lt ready long (Some t) is out =
        let due : is_due seen.ready.connections seen.turns c ≡ true = rw (ready, long) refl in
        let other : (c ≡ t → ⊥) = λ same. false≢true (sym out ∙ eq-eqb c t same) in
        let after_is : after.turns.cursor ≡ t + 1 = some.cursor ∙ ap (λ (o : Option ℕ). cursor_after o seen.turns.cursor) is in
        rw after_is (nearer seen.ready.connections seen.turns t c is due lt other)

    short_left : (c : ℕ) → c < connection_limit → flag_of c seen.ready.connections ≡ true → flag_of c seen.turns.long ≡ false
        → flag_of c some.part.named ≡ false → turns_to c (start_of after.turns) < turns_to c (start_of seen.turns)
    short_left c lt ready short out =
        let outside : (nat_le (start_of seen.turns) c && not (nat_le some.part.next c)) ≡ false =
        rw (ready, short) at (sym (some.is_part.names c lt) ∙ out) in
        rw (some.first, start_again some.part.next)
        (short_nearer (start_of seen.turns) some.part.next c lt (start_in_range seen.turns) (λ less. (some.is_part.full less).0) outside)
      where
        start_again : (next : ℕ) → (if nat_lt (if nat_lt next 64 then next else 0) 64 then (if nat_lt next 64 then next else 0) else 0)
            ≡ (if nat_lt next 64 then next else 0)
        start_again next = by_test (nat_lt next 64) (λ e. rw (e, e) refl) (λ e. rw e refl)

    left_out_nearer : (c : ℕ) → c < connection_limit → flag_of c seen.ready.connections ≡ true → flag_of c after.named.connections ≡ false
        → turns_to c (cursor_for c after.turns) < turns_to c (cursor_for c before.turns)
    left_out_nearer c lt ready out =
        let neither_is : (flag_of c some.part.named || is_chosen (turn seen.ready.connections seen.turns) c) ≡ false =
        sym (some.names c lt) ∙ out in
        rw (some.long, sym turns) (by_test (flag_of c seen.turns.long)
        (λ long. rw long (long_nearer c lt ready long _ refl (nor (flag_of c some.part.named) _ neither_is)))
        (λ short. rw short (short_left c lt ready short (neither (flag_of c some.part.named) _ neither_is))))

    some_named : IsFair before after
    some_named = record {
      ready = λ c lt named. rw ready_is (is_ready c lt named);
      all = λ e. absurd (false≢true (sym none ∙ ap (λ (t : Turns). t.left_out) turns ∙ e));
      one = λ _ c d c_lt d_lt c_named c_long d_named d_long.
          some_is c d (sym (is_turn c c_lt c_named (rw some.long at c_long)) ∙ is_turn d d_lt d_named (rw some.long at d_long));
      nearer = λ c lt ready out. left_out_nearer c lt (rw ready_is at ready) out;
    }

  pub fair : IsFair before after
  fair = by_test seen.turns.left_out all_named some_named
