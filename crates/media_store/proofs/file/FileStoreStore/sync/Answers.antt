use Rattle.std.proofs.Common.{sym, ◌∙◌, rules}
use Rattle.media_store.specs.Replay.{origin_by}
use Rattle.media_store.proofs.Tries.{synced-content, synced-honest, synced-tested, synced-counted, failed-unsynced}
use Rattle.media_store.proofs.file.FileStoreStore.sync.Goals as goal

pub returns-clause-content : goal.returns-clause-content
returns-clause-content g c =
    let origin = origin_by g.S.Start.held g.S.Start.torn in
    rw (← c.self.view_is) (synced-content origin _ _ c.sync.result c.sync.ensures)

pub returns-clause-honest : goal.returns-clause-honest
returns-clause-honest g c =
    let origin = origin_by g.S.Start.held g.S.Start.torn in
    rw (← c.self.view_is) (synced-honest origin _ _ c.sync.result c.sync.ensures)

pub returns-clause-synced : goal.returns-clause-synced
returns-clause-synced g c =
    let origin = origin_by g.S.Start.held g.S.Start.torn in
    synced-tested origin _ _ c.sync.result (sym c.sync_has_failed.ensures ∙ c.if-sync_has_failed.false) c.sync.ensures

pub returns-then-sync_has_failed-clause-synced : goal.returns-then-sync_has_failed-clause-synced
returns-then-sync_has_failed-clause-synced g c =
    rw c.refuse_sync.ensures (failed-unsynced (g.C.FileCalls.calls c.self.inside.calls) (sym c.sync_has_failed.ensures ∙ c.if-sync_has_failed.true))

pub returns-clause-failures : goal.returns-clause-failures
returns-clause-failures g c =
    let origin = origin_by g.S.Start.held g.S.Start.torn in
    rw (← c.self.view_is) (synced-counted origin _ _ c.sync.result c.sync.ensures)

pub returns-clause-refused : goal.returns-clause-refused
returns-clause-refused g c = search rules
