use Rattle.std.proofs.Common.{rules, ◌≡◌, length}
use Rattle.media_store.specs.Replay.{origin_by}
use Rattle.media_store.proofs.Ended.{HasEnded-counted}
use Rattle.media_store.proofs.Outcomes.{OnOk-tested, read-slice, read-back, read-agreed}
use Rattle.media_store.proofs.file.FileStoreStore.read_at.Goals as goal

pub returns-clause-read : goal.returns-clause-read
returns-clause-read g c =
    let origin = origin_by g.S.Start.held g.S.Start.torn in
    let long : length c.args.buf.now ≡ length c.read_whole.new.buf = search rules in
    rw (← c.self.view_is, long) (OnOk-tested c.read_whole.result (λ ok.
    read-slice origin _ _ _ _ _ (c.read_whole.ensures origin) ok))

pub returns-clause-agreed : goal.returns-clause-agreed
returns-clause-agreed g c =
    let origin = origin_by g.S.Start.held g.S.Start.torn in
    rw (← c.self.view_is) (read-agreed origin _ _ _ _ _ (c.read_whole.ensures origin))

pub returns-clause-back : goal.returns-clause-back
returns-clause-back g c =
    let origin = origin_by g.S.Start.held g.S.Start.torn in
    rw (← c.self.view_is) (read-back origin _ _ _ _ _ (c.read_whole.ensures origin))

pub returns-clause-content : goal.returns-clause-content
returns-clause-content g c =
    let origin = origin_by g.S.Start.held g.S.Start.torn in
    rw (← c.self.view_is) (c.read_whole.ensures origin).content

pub returns-clause-synced : goal.returns-clause-synced
returns-clause-synced g c =
    let origin = origin_by g.S.Start.held g.S.Start.torn in
    rw (← c.self.view_is) (c.read_whole.ensures origin).synced

pub returns-clause-failures : goal.returns-clause-failures
returns-clause-failures g c =
    let origin = origin_by g.S.Start.held g.S.Start.torn in
    rw (← c.self.view_is) (HasEnded-counted _ _ _ _ _ (c.read_whole.ensures origin).ended)

pub returns-clause-ended : goal.returns-clause-ended
returns-clause-ended g c =
    let origin = origin_by g.S.Start.held g.S.Start.torn in
    rw (← c.self.view_is) (c.read_whole.ensures origin).ended
