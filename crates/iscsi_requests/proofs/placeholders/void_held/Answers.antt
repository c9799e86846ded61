use Rattle.std.proofs.Common.{arith}
use Rattle.iscsi_requests.proofs.Voiding.{voids_then, keys_more}
use Rattle.iscsi_requests.proofs.placeholders.void_held.Goals as goal

pub loop-key-preserved : goal.loop-key-preserved
loop-key-preserved c = grind (arith, keys_more, voids_then)
