use Rattle.std.proofs.Common.{sym}
use Rattle.iscsi_pdu.proofs.LoginHeader.{login_response_header-isid}
use Rattle.iscsi_pdu.proofs.login_response.LoginResponse.header.Goals as goal

pub returns : goal.returns
returns c =
    rw (c.header_without_isid-header.ensures, c.copy_from_slice.ensures.after) (sym (login_response_header-isid c.args.self.now))
