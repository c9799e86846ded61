use Rattle.std.proofs.Common.{◌≡◌, ◌≤◌, length, ap, ◌∙◌, subst}
use Rattle.iscsi_pdu.specs.Segment.{most_data}
use Rattle.iscsi_pdu.specs.Header.{data_length, opcode_number}
use Rattle.iscsi_pdu.specs.Frames.{Frame}
use Rattle.iscsi_connection.proofs.Whole.{header_of, opcode_of_out, size_of_body, fits_body}
use Rattle.iscsi_connection.proofs.passed.PassedDataOut.header.Goals as goal

pub returns-clause-header : goal.returns-clause-header
returns-clause-header c = header_of c.self.inside.header _ c.self.invariant ∙ ap (λ (frame : Frame). frame.header) c.self.view_is

pub returns-clause-out : goal.returns-clause-out
returns-clause-out c = subst (λ (frame : Frame). opcode_number frame.header ≡ 5) c.self.view_is (opcode_of_out _ c.self.invariant.out)

pub returns-clause-size : goal.returns-clause-size
returns-clause-size c =
    subst (λ (frame : Frame). length frame.body ≡ data_length frame.header) c.self.view_is (size_of_body _ c.self.invariant.whole)

pub returns-clause-short : goal.returns-clause-short
returns-clause-short c =
    subst (λ (frame : Frame). data_length frame.header ≤ most_data) c.self.view_is (fits_body _ c.self.invariant.whole)
