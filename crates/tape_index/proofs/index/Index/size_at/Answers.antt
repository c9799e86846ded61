use Rattle.tape_index.proofs.Runs.{around-size}
use Rattle.tape_index.proofs.index.Index.size_at.Goals as goal

pub returns-clause-size : goal.returns-clause-size
returns-clause-size c = around-size _ _ _ c.run_at.ensures
