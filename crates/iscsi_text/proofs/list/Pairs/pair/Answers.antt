use Rattle.iscsi_text.proofs.StringList.{slice_get-pairs_of}
use Rattle.iscsi_text.proofs.list.Pairs.pair.Goals as goal

pub returns : goal.returns
returns c = rw (← c.self.view_is)
    (slice_get-pairs_of c.self.inside.strings c.args.at c.get.result.now c.get-2.result.now c.get.ensures c.get-2.ensures)
