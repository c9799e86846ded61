use Rattle.std.proofs.Common.{not, rules}
use Rattle.std.proofs.lemmas.Fn.{filter_same}
use Rattle.scsi_reserve.specs.News.{is_chosen}
use Rattle.scsi_conflict.specs.declared.registration.Row.{Row}
use Rattle.scsi_reserve.proofs.news.Others.take_out.Goals as goal

pub returns-clause-left : goal.returns-clause-left
returns-clause-left c =
    filter_same _ (λ (row : Row). not (is_chosen c.args.self c.args.nexus.now row)) _ (λ row keeps f called. search rules) _ _ c.retain.ensures.filtered
