-- Runs: each has the number of items up to its last, where that ends, and the size of its own. They follow those of the
-- run before.
use Rattle.std.specs.Prelude.{◌≡◌, ◌≢◌, ℕ, ◌+◌, ◌-◌, ◌*◌, ◌≤◌, ◌<◌, List, [], ◌∷◌, ◌++◌}
use Rattle.std.specs.Prelude.{replicate, get_or, vec_len, vec_capacity}
use Rattle.tape_index.specs.Index.{Items, mark_size, most_size}
use Rattle.tape_index.specs.declared.run.Run.{Run}
use Rattle.tape_index.specs.declared.index.Index.TheInside.{Inside}

abbrev pub no_run : Run
no_run = record { count = 0; end = 0; size = 0 }

-- the run before this one, which is the last if there are this many
abbrev pub run_before : List Run → ℕ → Run
run_before runs i = get_or (no_run ∷ runs) i no_run

-- the size of the items of this run
abbrev pub run_size : List Run → ℕ → ℕ
run_size runs i = (get_or runs i no_run).size

-- the runs from one to another are of records
abbrev pub AreRecords : List Run → ℕ → ℕ → Type 0
AreRecords runs from to = (i : ℕ) → from ≤ i → i < to → run_size runs i ≢ mark_size

-- the sizes of their items, if this run is before them
abbrev pub sizes_of : Run → List Run → List ℕ
sizes_of before [] = []
sizes_of before (run ∷ runs) = replicate (run.count - before.count) run.size ++ sizes_of run runs

-- the items of a run follow those of another, and there is at least one
pub record Follows (before run : Run) : Type 0 where
  pub some : before.count < run.count
  pub end : before.end + (run.count - before.count) * run.size ≡ run.end
  pub least : mark_size ≤ run.size
  pub most : run.size ≤ most_size

abbrev pub AreRuns : Run → List Run → Type 0
AreRuns before [] = Unit {0}
AreRuns before (run ∷ runs) = Follows before run × AreRuns run runs

abbrev pub items_of : Inside → Items
items_of index = record { sizes = sizes_of no_run index.runs.items; room = vec_capacity index.runs - vec_len index.runs }

abbrev pub IsIndex : Inside → Type 0
IsIndex index = AreRuns no_run index.runs.items
