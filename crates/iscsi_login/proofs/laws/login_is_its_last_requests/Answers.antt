use Rattle.iscsi_login.proofs.Dialogue.{stage_is_last_agreed, kept_is_since_whole, due_is_the_rest}
use Rattle.iscsi_login.proofs.laws.login_is_its_last_requests.Goals as goal

pub returns-clause-stage : goal.returns-clause-stage
returns-clause-stage c = stage_is_last_agreed

pub returns-clause-kept : goal.returns-clause-kept
returns-clause-kept c = kept_is_since_whole

pub returns-clause-due : goal.returns-clause-due
returns-clause-due c = due_is_the_rest
