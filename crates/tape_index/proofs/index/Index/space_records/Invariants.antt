use Rattle.std.proofs.Common.{length}
use Rattle.tape_index.specs.Index.{sizes_ahead}
use Rattle.tape_index.specs.declared.outcome.Over.TheVariants.{Records}
use Rattle.tape_index.proofs.Spacing.{IsOn}
use Rattle.tape_index.proofs.index.Index.space_records.Given as goal

abbrev pub invariant-loop-left : goal.invariant-loop-left
invariant-loop-left l = IsOn l.toward Records l.fn.count l.fn.from l.self.sizes l.left l.at

abbrev pub decreases-loop-left : goal.decreases-loop-left
decreases-loop-left l = length (sizes_ahead l.toward l.at l.self.sizes)
