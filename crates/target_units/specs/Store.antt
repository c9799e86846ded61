-- What a store in memory or in a file shows of itself.
use Rattle.std.specs.Prelude.{ℕ, ◌*◌, false, replicate}
use Rattle.media_store.specs.States.{MemoryState}
use Rattle.media_block.specs.Blocks.{block_length}
use Rattle.target_units.specs.declared.store.MediumStore.{MediumStore}
use Rattle.target_units.specs.declared.store.MediumStore.TheVariants.{Memory, File}

-- the first for a store in memory, the second for a store in a file
abbrev pub by_kind : {F X : Type 0} → (MemoryState → X) → (F → X) → MediumStore F → X
by_kind memory file (Memory store) = memory store
by_kind memory file (File store) = file store

-- profile: `blocks` blocks of zeros in memory
abbrev pub zero_state : ℕ → MemoryState
zero_state blocks = record { content = replicate (block_length * blocks) 0; most = block_length * blocks; synced = false; failures = 0 }
