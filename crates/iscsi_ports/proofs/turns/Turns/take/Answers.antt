use Rattle.std.proofs.Common.{refl, sym, ◌∙◌}
use Rattle.std.proofs.lemmas.Bool.{false≢true}
use Rattle.iscsi_ports.proofs.turns.Turns.take.Goals as goal

pub returns-then-self : goal.returns-then-self
returns-then-self c = record {
  some = λ none. absurd (false≢true (sym none ∙ c.if-self.true));
  all = λ _. record { names = refl; same = refl };
}

pub returns : goal.returns
returns c = record {
  some = λ _. c.take_some.ensures;
  all = λ left_out. absurd (false≢true (sym c.if-self.false ∙ left_out));
}
