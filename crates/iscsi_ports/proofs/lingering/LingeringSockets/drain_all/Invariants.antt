use Rattle.iscsi_ports.specs.Lingering.{AreDrained}
use Rattle.iscsi_ports.proofs.lingering.LingeringSockets.drain_all.Given as goal

abbrev pub invariant-loop-place : goal.invariant-loop-place
invariant-loop-place l =
    AreDrained l.place l.fn.self.places.items l.self.places.items l.fn.self.notes l.self.notes l.has_more
