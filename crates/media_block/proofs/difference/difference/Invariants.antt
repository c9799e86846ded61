use Rattle.std.proofs.Common.{◌≡◌, ◌+◌, drop, option_map}
use Rattle.media_block.specs.Blocks.{first_difference}
use Rattle.media_block.proofs.difference.difference.Given as goal

abbrev pub invariant-loop-at : goal.invariant-loop-at
invariant-loop-at l = first_difference l.held l.bytes ≡ option_map (λ at. at + l.at) (first_difference (drop l.at l.held) (drop l.at l.bytes))
