use Rattle.std.proofs.Common.{◌≡◌, ◌-◌, length, true}
use Rattle.iscsi_connection.specs.Passing.{bytes_noted}
use Rattle.iscsi_connection.proofs.Counting.{Counting}
use Rattle.iscsi_connection.proofs.arriving.Arriving.count.Given as goal

-- so many bytes of the piece are counted
abbrev pub invariant-loop-more : goal.invariant-loop-more
invariant-loop-more l = Counting l.initial.self-inside.framer (bytes_noted l.initial.self-inside.noted.calls)
    l.self-inside.framer (bytes_noted l.self-inside.noted.calls) l.piece l.used × (l.self-inside.is_counted ≡ true)

-- each call counts some
abbrev pub decreases-loop-more : goal.decreases-loop-more
decreases-loop-more l = length l.piece - l.used
