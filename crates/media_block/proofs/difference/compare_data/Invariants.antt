use Rattle.std.proofs.Common.{◌≡◌, ◌<◌, ◌≤◌, ◌+◌, ◌-◌, ◌++◌, length, drop, IsTrue}
use Rattle.media_store.specs.Reading.{IsOnlyRead}
use Rattle.media_block.proofs.Differences.{AreSame}
use Rattle.media_block.proofs.difference.compare_data.Given as goal

abbrev pub invariant-loop-done : goal.invariant-loop-done
invariant-loop-done g l = record {
  below : l.done ≤ l.count;
  lies : l.done < l.count → (l.front ++ l.behind ≡ drop l.done l.«data») × (0 < length l.front);
  room : length l.held ≡ length l.initial.held;
  read : IsOnlyRead g.S.Store l.initial.store l.store;
  failures : g.S.Store.failures l.store ≡ g.S.Store.failures l.initial.store;
  agrees : IsTrue (g.S.Store.steady l.initial.store) → l.at + l.count ≤ length (g.S.Store.content l.initial.store)
      → g.S.Store.honest l.store ≡ g.S.Store.honest l.initial.store;
  same : IsTrue (g.S.Store.honest l.store) → AreSame l.at l.done (g.S.Store.content l.initial.store) l.«data»;
}

abbrev pub decreases-loop-done : goal.decreases-loop-done
decreases-loop-done g l = l.count - l.done
