use Rattle.std.proofs.Common.{arith, refl, sym, ◌∙◌}
use Rattle.iscsi_connection.proofs.Ahead.{half_by}
use Rattle.iscsi_connection.proofs.connection.Connection.has_begun.Goals as goal

pub returns-then-data-le-MOST_DATA-clause-half : goal.returns-then-data-le-MOST_DATA-clause-half
returns-then-data-le-MOST_DATA-clause-half c = λ less.
    half_by c.args.self.now.half c.args.header c.want.result _ c.requires.header c.requires.there c.requires.part
    (sym c.is_data_out.ensures ∙ c.if-data-le-MOST_DATA.true.0) (omega (arith, c.data_length-data.ensures, c.if-data-le-MOST_DATA.true.1))
    c.want.ensures (rw (c.additional_length.ensures, c.padded.ensures, c.data_length-data.ensures) refl) less
