use Rattle.std.proofs.Common.{sym}
use Rattle.iscsi_pdu.proofs.R2tHeader.{r2t_header-lun}
use Rattle.iscsi_pdu.proofs.r2t.R2t.header.Goals as goal

pub returns : goal.returns
returns c = rw (c.header_without_lun-header.ensures, c.copy_from_slice.ensures.after) (sym (r2t_header-lun c.args.self.now))
