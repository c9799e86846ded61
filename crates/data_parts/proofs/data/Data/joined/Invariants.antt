use Rattle.std.proofs.Common.{◌≡◌, take}
use Rattle.data_parts.specs.Joined.{joined}
use Rattle.data_parts.proofs.data.Data.joined.Given as goal

abbrev pub invariant-loop-buffer : goal.invariant-loop-buffer
invariant-loop-buffer l = l.room.items ≡ joined (take l.buffer-index l.self-inside.buffers.now)
