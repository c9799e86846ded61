use Rattle.std.proofs.Common.{◌≡◌, ◌-◌, ◌≤◌, length, take, sum, All, IsTrue}
use Rattle.media_store.specs.Reading.{IsOnlyRead}
use Rattle.media_tape.specs.Items.{IsSize}
use Rattle.media_tape.specs.Window.{IsWindow, Shows}
use Rattle.media_tape.proofs.Walks.{IsWalked}
use Rattle.media_tape.proofs.walk.walk.Given as goal

abbrev pub invariant-loop-window : goal.invariant-loop-window
invariant-loop-window g l = record {
  within : sum l.index.sizes ≤ l.end;
  each : All IsSize l.index.sizes;
  read : IsOnlyRead g.S.Store l.initial.store l.store;
  failures : g.S.Store.failures l.store ≡ g.S.Store.failures l.initial.store;
  stays : IsTrue (g.S.Store.steady l.initial.store) → l.end ≤ length (g.S.Store.content l.initial.store)
      → g.S.Store.honest l.store ≡ g.S.Store.honest l.initial.store;
  window : IsWindow l.window;
  shows : IsTrue (g.S.Store.honest l.store) → l.end ≤ length (g.S.Store.content l.initial.store) → Shows (g.S.Store.content l.initial.store) l.window;
  is : IsTrue (g.S.Store.honest l.store) → l.end ≤ length (g.S.Store.content l.initial.store)
      → IsWalked (take l.end (g.S.Store.content l.initial.store)) l.index.sizes;
}

abbrev pub decreases-loop-window : goal.decreases-loop-window
decreases-loop-window g l = l.end - sum l.index.sizes
