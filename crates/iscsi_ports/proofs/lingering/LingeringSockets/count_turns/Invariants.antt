use Rattle.std.proofs.Common.{◌≡◌}
use Rattle.iscsi_ports.specs.Lingering.{turns_later}
use Rattle.iscsi_ports.proofs.LingeringPlaces.{IsWalked}
use Rattle.iscsi_ports.proofs.lingering.LingeringSockets.count_turns.Given as goal

abbrev pub invariant-loop-place : goal.invariant-loop-place
invariant-loop-place l = record {
  counted : IsWalked (λ place after. after ≡ turns_later l.turns place) l.fn.self.places.items l.self.places.items l.place;
  notes : l.self.notes ≡ l.fn.self.notes;
}
