use Rattle.media_store.specs.Replay.{origin_by}
use Rattle.media_store.proofs.Tries.{measured-content, measured-synced, measured-counted, measured-len, measured-agreed, measured-failed, measured-back}
use Rattle.media_store.proofs.file.FileStoreStore.len.Goals as goal

pub returns-clause-len : goal.returns-clause-len
returns-clause-len g c =
    let origin = origin_by g.S.Start.held g.S.Start.torn in
    rw (← c.self.view_is) (measured-len origin _ _ c.measure.result c.measure.ensures)

pub returns-clause-agreed : goal.returns-clause-agreed
returns-clause-agreed g c =
    let origin = origin_by g.S.Start.held g.S.Start.torn in
    rw (← c.self.view_is) (measured-agreed origin _ _ c.measure.result c.measure.ensures)

pub returns-clause-failed : goal.returns-clause-failed
returns-clause-failed g c =
    let origin = origin_by g.S.Start.held g.S.Start.torn in
    rw (← c.self.view_is) (measured-failed origin _ _ c.measure.result c.measure.ensures)

pub returns-clause-back : goal.returns-clause-back
returns-clause-back g c =
    let origin = origin_by g.S.Start.held g.S.Start.torn in
    rw (← c.self.view_is) (measured-back origin _ _ c.measure.result c.measure.ensures)

pub returns-clause-content : goal.returns-clause-content
returns-clause-content g c =
    let origin = origin_by g.S.Start.held g.S.Start.torn in
    rw (← c.self.view_is) (measured-content origin _ _ c.measure.result c.measure.ensures)

pub returns-clause-synced : goal.returns-clause-synced
returns-clause-synced g c =
    let origin = origin_by g.S.Start.held g.S.Start.torn in
    rw (← c.self.view_is) (measured-synced origin _ _ c.measure.result c.measure.ensures)

pub returns-clause-failures : goal.returns-clause-failures
returns-clause-failures g c =
    let origin = origin_by g.S.Start.held g.S.Start.torn in
    rw (← c.self.view_is) (measured-counted origin _ _ c.measure.result c.measure.ensures)
