use Rattle.std.proofs.Common.{◌≡◌, ◌<◌, ◌≤◌, ◌-◌, ◌++◌, length, take, drop, false}
use Rattle.media_store.specs.Content.{written}
use Rattle.media_block.proofs.data.write_joined.Given as goal

abbrev pub invariant-loop-done : goal.invariant-loop-done
invariant-loop-done g l = record {
  below : l.done ≤ l.count;
  lies : l.front ++ l.behind ≡ drop l.done l.«data»;
  room : length l.room ≡ length l.initial.room;
  honest : g.S.Store.honest l.store ≡ g.S.Store.honest l.initial.store;
  steady : g.S.Store.steady l.store ≡ g.S.Store.steady l.initial.store;
  failures : g.S.Store.failures l.store ≡ g.S.Store.failures l.initial.store;
  synced : 0 < l.done → g.S.Store.synced l.store ≡ false;
  content : g.S.Store.content l.store ≡ written l.at (take l.done l.«data») (g.S.Store.content l.initial.store);
}

abbrev pub decreases-loop-done : goal.decreases-loop-done
decreases-loop-done g l = l.count - l.done
