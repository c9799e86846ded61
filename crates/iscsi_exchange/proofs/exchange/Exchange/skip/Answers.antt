use Rattle.std.proofs.Common.{refl}
use Rattle.std.proofs.lemmas.List.{drop-drop}
use Rattle.iscsi_exchange.proofs.exchange.Exchange.skip.Goals as goal

pub returns-then-sent-len-clause-skipped : goal.returns-then-sent-len-clause-skipped
returns-then-sent-len-clause-skipped c = rw (← c.self.view_is, drop-drop) refl
