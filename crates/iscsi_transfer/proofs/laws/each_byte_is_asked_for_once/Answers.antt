use Rattle.iscsi_transfer.proofs.Asks.{each_byte_is_asked_for, no_byte_is_asked_for_twice, nothing_else_is_asked_for}
use Rattle.iscsi_transfer.proofs.Due.{due_rise_by_one, sent_is_due_no_more}
use Rattle.iscsi_transfer.proofs.laws.each_byte_is_asked_for_once.Goals as goal

pub returns-clause-each : goal.returns-clause-each
returns-clause-each c = each_byte_is_asked_for

pub returns-clause-once : goal.returns-clause-once
returns-clause-once c = no_byte_is_asked_for_twice

pub returns-clause-no_other : goal.returns-clause-no_other
returns-clause-no_other c = nothing_else_is_asked_for

pub returns-clause-rising : goal.returns-clause-rising
returns-clause-rising c = due_rise_by_one

pub returns-clause-sent : goal.returns-clause-sent
returns-clause-sent c = sent_is_due_no_more
