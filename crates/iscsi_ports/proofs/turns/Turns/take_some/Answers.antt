use Rattle.std.proofs.Common.{◌≡◌, ◌||◌, ℕ, Option, Some, None, refl, sym, ap, ◌∙◌}
use Rattle.std.specs.Prelude.{nat_lt}
use Rattle.iscsi_ports.specs.Turns.{turn, cursor_after}
use Rattle.iscsi_ports.proofs.TakingTurns.{no_turn}
use Rattle.iscsi_ports.proofs.Fairness.{named_with, named_without}
use Rattle.iscsi_ports.proofs.turns.Turns.take_some.Goals as goal

-- who is left out, by how many are due and short
left_out_is : (due due_is named short short_is : ℕ) → due ≡ due_is → short ≡ short_is
    → (nat_lt 1 due || nat_lt named short) ≡ (nat_lt 1 due_is || nat_lt named short_is)
left_out_is due due_is named short short_is e f = rw (e, f) refl

pub returns-then-due-eq0 : goal.returns-then-due-eq0
returns-then-due-eq0 c =
    let ready = c.args.ready.now in
    let turns = c.args.self.now in
    let none : turn ready turns ≡ None = no_turn ready turns (sym c.pass_over-due.ensures.count ∙ c.if-due-eq0.true) in
    record {
      part = c.part-part.result;
      is_part = c.part-part.ensures;
      names = named_without ready turns c.part-part.result.named none;
      cursor = sym (ap (λ (t : Option ℕ). cursor_after t turns.cursor) none);
      first = cc;
      more = c.more_after-self.ensures;
      left_out = left_out_is _ _ _ _ _ c.pass_over-due.ensures.count c.count_short-count.ensures;
      long = refl;
    }

pub returns-in-Some : goal.returns-in-Some
returns-in-Some c =
    let ready = c.args.ready.now in
    let turns = c.args.self.now in
    let is : turn ready turns ≡ Some c.in-Some.c = sym c.in-Some.ensures.turn in
    record {
      part = c.part-part.result;
      is_part = c.part-part.ensures;
      names = named_with ready turns c.part-part.result.named c.in-Some.c is c.part-part.ensures.all;
      cursor = sym (ap (λ (t : Option ℕ). cursor_after t turns.cursor) is);
      first = c.first_after-self.ensures;
      more = c.more_after-self.ensures;
      left_out = left_out_is _ _ _ _ _ c.pass_over-due.ensures.count c.count_short-count.ensures;
      long = refl;
    }

pub returns-in_default : goal.returns-in_default
returns-in_default c =
    let ready = c.args.ready.now in
    let turns = c.args.self.now in
    let none : turn ready turns ≡ None = sym c.turn.ensures.turn ∙ c.in_default.is in
    record {
      part = c.part-part.result;
      is_part = c.part-part.ensures;
      names = named_without ready turns c.part-part.result.named none;
      cursor = sym (ap (λ (t : Option ℕ). cursor_after t turns.cursor) none);
      first = c.first_after-self.ensures;
      more = c.more_after-self.ensures;
      left_out = left_out_is _ _ _ _ _ c.pass_over-due.ensures.count c.count_short-count.ensures;
      long = refl;
    }
