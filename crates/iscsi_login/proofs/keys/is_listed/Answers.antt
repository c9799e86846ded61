use Rattle.std.proofs.Common.{rules, tests, lit<}
use Rattle.std.specs.Prelude.{bytes_eq}
use Rattle.std.proofs.lemmas.Iterator.Search.{any_from_yields_List}
use Rattle.std.proofs.lemmas.Iterator.Splits.{YieldsList-from_str_split}
use Rattle.iscsi_login.specs.Keys.{is_listed}
use Rattle.iscsi_login.proofs.keys.is_listed.Goals as goal

pub returns : goal.returns
unfolding is_listed
returns c =
    any_from_yields_List (bytes_eq c.args.word.now) _ _ _ c.any.ensures.ran
    (YieldsList-from_str_split 44 c.args.offer.now (lit< tt) c.split.ensures.text c.split.ensures.has_more c.split.ensures.pattern)
    (λ x b q k. search (rules, tests))
