use Rattle.std.proofs.Common.{◌≡◌, ◌-◌, find, is_none}
use Rattle.std.specs.List.{range_with_len}
use Rattle.target_limits.specs.Numbers.{connections}
use Rattle.iscsi_ports.specs.Lingering.{place_of}
use Rattle.iscsi_ports.proofs.lingering.LingeringSockets.free_place.Given as goal

-- none was free so far
abbrev pub invariant-loop-place : goal.invariant-loop-place
invariant-loop-place l =
    find (λ d. is_none (place_of d l.self.places.items)) connections
    ≡ find (λ d. is_none (place_of d l.self.places.items)) (range_with_len l.place (64 - l.place))
