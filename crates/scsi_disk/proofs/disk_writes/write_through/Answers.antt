use Rattle.std.proofs.Common.{◌≡◌, ◌*◌, take, false}
use Rattle.std.proofs.lemmas.Bool.{lt-ltb}
use Rattle.media_block.specs.Blocks.{block_length, blocks_of}
use Rattle.media_block.proofs.Blocks.{length-blocks_of}
use Rattle.scsi_disk.proofs.DiskWrites.{on_err_always, not_none, write_done, write_torn, sync_torn}
use Rattle.scsi_disk.proofs.disk_writes.write_through.Goals as goal

pub returns-in_err-sync-clause-torn : goal.returns-in_err-sync-clause-torn
returns-in_err-sync-clause-torn g c =
    let count = c.args.count in
    let others = blocks_of count (take (block_length * count) c.args.«data».now) in
    let disk = c.args.disk.now in
    let done = c.in_ok-write_parts.ensures in
    let some = not_none count (lt-ltb 0 count c.requires.some) in
    on_err_always c.from_residual-in_err-sync.result
    (sync_torn c.args.first count others disk c.write_parts.new.self c.sync.new.self
    (write_done c.args.first count others disk disk c.write_parts.new.self (rw c.from.ensures at done.written) done.length
    (rw (c.from.ensures, some) at done.synced) done.failures done.honest done.steady)
    (length-blocks_of count (take (block_length * count) c.args.«data».now)) c.requires.range c.in_err-sync.ensures.disk)

pub returns-in_err-write_parts-clause-torn : goal.returns-in_err-write_parts-clause-torn
returns-in_err-write_parts-clause-torn g c =
    let count = c.args.count in
    let disk = c.args.disk.now in
    let failed = c.in_err-write_parts.ensures in
    let some = not_none count (lt-ltb 0 count c.requires.some) in
    on_err_always c.from_residual.result
    (write_torn c.args.first count (blocks_of count (take (block_length * count) c.args.«data».now)) disk disk c.write_parts.new.self (rw c.from.ensures at failed.torn) failed.length
    (rw (c.from.ensures, some) at failed.synced) failed.failures failed.honest failed.steady)

pub returns-else-force_unit_access-clause-written : goal.returns-else-force_unit_access-clause-written
returns-else-force_unit_access-clause-written g c =
    let count = c.args.count in
    let disk = c.args.disk.now in
    let done = c.in_ok-write_parts.ensures in
    let some = not_none count (lt-ltb 0 count c.requires.some) in
    let unsynced : c.args.force_unit_access ≡ false = cc in
    rw unsynced
    (write_done c.args.first count (blocks_of count (take (block_length * count) c.args.«data».now)) disk disk c.write_parts.new.self
    (rw c.from.ensures at done.written) done.length (rw (c.from.ensures, some) at done.synced) done.failures done.honest done.steady)
