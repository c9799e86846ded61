use Rattle.iscsi_transfer.proofs.Standing.{open_are_counted, few_at_first, few_where_fed}
use Rattle.iscsi_transfer.proofs.Due.{few_where_sent}
use Rattle.iscsi_transfer.proofs.laws.few_are_open.Goals as goal

pub returns-clause-counted : goal.returns-clause-counted
returns-clause-counted c = open_are_counted

pub returns-clause-first : goal.returns-clause-first
returns-clause-first c = few_at_first

pub returns-clause-sent : goal.returns-clause-sent
returns-clause-sent c = few_where_sent

pub returns-clause-fed : goal.returns-clause-fed
returns-clause-fed c = few_where_fed
