use Rattle.std.proofs.Common.{◌≡◌, ◌≢◌, ◌-◌, ◌*◌, ◌≤◌, ◌++◌, ℕ, min, length, replicate, false}
use Rattle.media_tape.specs.Writing.{KeepsBefore}
use Rattle.media_tape.proofs.zeros.write_zeros.Given as goal

abbrev pub invariant-loop-done : goal.invariant-loop-done
invariant-loop-done g l = record {
  most : l.done ≤ l.size;
  honest : g.S.Store.honest l.store ≡ g.S.Store.honest l.initial.store;
  synced : 0 ≢ l.done → g.S.Store.synced l.store ≡ false;
  failures : g.S.Store.failures l.store ≡ g.S.Store.failures l.initial.store;
  steady : g.S.Store.steady l.store ≡ g.S.Store.steady l.initial.store;
  reach : g.S.Store.reach l.store ≡ g.S.Store.reach l.initial.store;
  atomic : g.S.Store.atomic l.store ≡ g.S.Store.atomic l.initial.store;
  parts : (parts : ℕ) × (l.done ≡ min (4096 * parts) l.size);
  keeps : KeepsBefore l.place (g.S.Store.content l.initial.store) (g.S.Store.content l.store);
  so_far : length (g.S.Store.content l.initial.store) ≡ l.place
      → g.S.Store.content l.store ≡ g.S.Store.content l.initial.store ++ replicate l.done 0;
}

abbrev pub decreases-loop-done : goal.decreases-loop-done
decreases-loop-done g l = l.size - l.done
