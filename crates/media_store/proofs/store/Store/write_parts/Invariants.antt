use Rattle.std.proofs.Common.{◌≡◌, ◌<◌, ◌≤◌, ◌-◌, ◌++◌, length, take, drop, false}
use Rattle.media_store.specs.Content.{written}
use Rattle.media_store.proofs.store.Store.write_parts.Given as goal

abbrev pub invariant-loop-done : goal.invariant-loop-done
invariant-loop-done g l = record {
  below : l.done ≤ l.count;
  lies : l.done < l.count → (l.front ++ l.behind ≡ drop l.done l.«data») × (0 < length l.front);
  honest : g.Self.Store.honest l.self ≡ g.Self.Store.honest l.initial.self;
  steady : g.Self.Store.steady l.self ≡ g.Self.Store.steady l.initial.self;
  reach : g.Self.Store.reach l.self ≡ g.Self.Store.reach l.initial.self;
  atomic : g.Self.Store.atomic l.self ≡ g.Self.Store.atomic l.initial.self;
  failures : g.Self.Store.failures l.self ≡ g.Self.Store.failures l.initial.self;
  synced : 0 < l.done → g.Self.Store.synced l.self ≡ false;
  content : g.Self.Store.content l.self ≡ written l.at (take l.done l.«data») (g.Self.Store.content l.initial.self);
}

abbrev pub decreases-loop-done : goal.decreases-loop-done
decreases-loop-done g l = l.count - l.done
