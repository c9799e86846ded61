use Rattle.std.proofs.Common.{refl, ap, ◌∙◌}
use Rattle.media_store.specs.States.{MemoryState}
use Rattle.media_block.specs.Blocks.{disk_of}
use Rattle.target_units.proofs.OpenedUnits.{zero_opened}
use Rattle.target_units.proofs.opening.memory_disk.Goals as goal

pub returns : goal.returns
returns g c =
    let blocks = rw c.unwrap.ensures at c.open.ensures.blocks in
    let synced = rw c.unwrap.ensures at c.open.ensures.synced in
    let failures = rw c.unwrap.ensures at c.open.ensures.failures in
    let stays = rw c.unwrap.ensures at c.open.ensures.stays in
    let steady = rw c.unwrap.ensures at c.open.ensures.steady in
    let made = c.in_ok-store.ensures in
    zero_opened c.args.blocks.number c.unwrap.result (λ honest. blocks honest ∙ ap (λ (s : MemoryState). disk_of s.content) made)
    (synced ∙ ap (λ (s : MemoryState). s.synced) made) (failures ∙ ap (λ (s : MemoryState). s.failures) made) (stays refl) steady
