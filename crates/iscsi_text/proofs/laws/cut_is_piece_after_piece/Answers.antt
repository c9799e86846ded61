use Rattle.iscsi_text.proofs.Cuts.{long_is_cut, short_is_whole}
use Rattle.iscsi_text.proofs.laws.cut_is_piece_after_piece.Goals as goal

pub returns-clause-long : goal.returns-clause-long
returns-clause-long c = long_is_cut

pub returns-clause-short : goal.returns-clause-short
returns-clause-short c = short_is_whole
