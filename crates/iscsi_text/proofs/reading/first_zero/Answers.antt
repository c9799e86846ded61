use Rattle.std.proofs.Common.{rules, tests}
use Rattle.std.proofs.lemmas.Iterator.{YieldsList-from_slice}
use Rattle.std.proofs.lemmas.Iterator.Search.{position_from_yields_List}
use Rattle.iscsi_text.specs.Pairs.{is_zero}
use Rattle.iscsi_text.proofs.reading.first_zero.Goals as goal

pub returns : goal.returns
returns c = position_from_yields_List is_zero _ _ c.position.result c.position.ensures.ran
    (YieldsList-from_slice c.args.text.now c.iter.ensures.rest) (λ x b q k. search (rules, tests))
