use Rattle.iscsi_world.proofs.Isolation.{targets_are_isolated, targets_see_their_own, strangers_are_alone}
use Rattle.iscsi_target.proofs.laws.targets_are_isolated.Goals as goal

pub returns-clause-selected : goal.returns-clause-selected
returns-clause-selected c = targets_are_isolated

pub returns-clause-named : goal.returns-clause-named
returns-clause-named c = targets_see_their_own

pub returns-clause-strangers : goal.returns-clause-strangers
returns-clause-strangers c = strangers_are_alone
