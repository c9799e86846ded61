use Rattle.std.proofs.Common.{sym}
use Rattle.std.proofs.lemmas.List.{take_all}
use Rattle.scsi_disk.proofs.given.front.Goals as goal

pub returns-else-bytes-most-clause-value : goal.returns-else-bytes-most-clause-value
returns-else-bytes-most-clause-value c = sym (take_all c.args.most c.args.bytes.now c.if-bytes-most.false)
