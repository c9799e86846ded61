use Rattle.std.proofs.Common.{arith}
use Rattle.std.proofs.lemmas.Grind.{common_steps}
use Rattle.iscsi_requests.proofs.placeholders.void_at.Goals as goal

pub returns-then-has_frame-clause-here : goal.returns-then-has_frame-clause-here
returns-then-has_frame-clause-here c = grind (arith, common_steps)
