use Rattle.std.proofs.Common.{◌≡◌, ◌-◌, ◌≤◌, length}
use Rattle.standard_streams.specs.Streams.{AreStreams, stream_count}
use Rattle.standard_streams.proofs.streams.Others.take.Given as goal

abbrev pub invariant-loop-options : goal.invariant-loop-options
invariant-loop-options g l = record {
  few : l.others.held ≤ stream_count;
  standard : AreStreams l.others.told;
  held : l.others.held ≡ length l.others.told;
}

abbrev pub decreases-loop-options : goal.decreases-loop-options
decreases-loop-options g l = stream_count - l.others.held
