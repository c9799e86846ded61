use Rattle.iscsi_transfer.proofs.OneByOne.{command_asks_one_by_one, data_asks_one_by_one}
use Rattle.iscsi_transfer.proofs.laws.one_is_open_at_a_time.Goals as goal

pub returns-clause-command : goal.returns-clause-command
returns-clause-command c = command_asks_one_by_one

pub returns-clause-data : goal.returns-clause-data
returns-clause-data c = data_asks_one_by_one
