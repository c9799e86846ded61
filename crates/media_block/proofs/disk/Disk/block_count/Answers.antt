use Rattle.std.proofs.Common.{sym}
use Rattle.media_block.proofs.Blocks.{length-blocks_of, whole-blocks_of}
use Rattle.media_block.proofs.disk.Disk.block_count.Goals as goal

pub returns-clause-count : goal.returns-clause-count
returns-clause-count g c = rw (← c.self.view_is) (sym (length-blocks_of c.self.inside.block_count (g.S.Store.content c.self.inside.store)))

pub returns-clause-whole : goal.returns-clause-whole
returns-clause-whole g c =
    rw (← c.self.view_is) (λ honest. whole-blocks_of c.self.inside.block_count (g.S.Store.content c.self.inside.store) (c.self.invariant.1 honest))
