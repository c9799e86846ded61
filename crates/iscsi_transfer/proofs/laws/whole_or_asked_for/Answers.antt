use Rattle.iscsi_transfer.proofs.Settling.{command_is_whole_or_asks, sequence_is_whole_or_asks}
use Rattle.iscsi_transfer.proofs.laws.whole_or_asked_for.Goals as goal

pub returns-clause-command : goal.returns-clause-command
returns-clause-command c = command_is_whole_or_asks

pub returns-clause-sequence : goal.returns-clause-sequence
returns-clause-sequence c = sequence_is_whole_or_asks
