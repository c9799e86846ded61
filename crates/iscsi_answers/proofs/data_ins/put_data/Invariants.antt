use Rattle.iscsi_answers.specs.Answers.{data_answers}
use Rattle.iscsi_answers.proofs.Room.{IsWritten}
use Rattle.iscsi_answers.proofs.data_ins.put_data.Given as goal

-- the first Data-Ins are written
abbrev pub invariant-loop-data_sn : goal.invariant-loop-data_sn
invariant-loop-data_sn l = IsWritten (data_answers l.numbers l.values l.frame l.sent) l.data_sn l.out.items l.initial.out.items l.out.spare l.initial.out.spare
