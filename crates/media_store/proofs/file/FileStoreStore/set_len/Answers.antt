use Rattle.media_store.specs.Replay.{origin_by}
use Rattle.media_store.proofs.Tries.{tried-resized, tried-torn, tried-honest, tried-unsynced, tried-counted}
use Rattle.media_store.proofs.file.FileStoreStore.set_len.Goals as goal

pub returns-clause-resized : goal.returns-clause-resized
returns-clause-resized g c =
    let origin = origin_by g.S.Start.held g.S.Start.torn in
    rw (← c.self.view_is) (tried-resized origin c.args.len _ _ c.resize.result c.resize.ensures)

pub returns-clause-torn : goal.returns-clause-torn
returns-clause-torn g c =
    let origin = origin_by g.S.Start.held g.S.Start.torn in
    rw (← c.self.view_is) (tried-torn origin c.args.len _ _ c.resize.result c.resize.ensures)

pub returns-clause-honest : goal.returns-clause-honest
returns-clause-honest g c =
    let origin = origin_by g.S.Start.held g.S.Start.torn in
    rw (← c.self.view_is) (tried-honest origin c.args.len _ _ c.resize.result c.resize.ensures)

pub returns-clause-synced : goal.returns-clause-synced
returns-clause-synced g c =
    let origin = origin_by g.S.Start.held g.S.Start.torn in
    tried-unsynced origin c.args.len _ _ c.resize.result c.resize.ensures

pub returns-clause-failures : goal.returns-clause-failures
returns-clause-failures g c =
    let origin = origin_by g.S.Start.held g.S.Start.torn in
    rw (← c.self.view_is) (tried-counted origin c.args.len _ _ c.resize.result c.resize.ensures)

pub returns-clause-tried : goal.returns-clause-tried
returns-clause-tried g c = rw (← c.self.view_is) c.resize.ensures
