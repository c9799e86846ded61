use Rattle.std.proofs.lemmas.Result.{IfOk-weaker}
use Rattle.scsi_tape.proofs.Trusted.{exact, sure, synced}
use Rattle.scsi_tape.proofs.tape_unit.TapeUnit.carry_out.Goals as goal

pub returns-clause-exact : goal.returns-clause-exact
returns-clause-exact g c =
    IfOk-weaker c.by_command.result _ _ (exact c.args.command c.args.«data».now c.args.self.now c.by_command.new.self) c.by_command.ensures.done

pub returns-clause-sure : goal.returns-clause-sure
returns-clause-sure g c =
    IfOk-weaker c.by_command.result _ _ (sure c.args.command c.args.«data».now c.args.self.now c.by_command.new.self) c.by_command.ensures.done

pub returns-clause-synced : goal.returns-clause-synced
returns-clause-synced g c =
    IfOk-weaker c.by_command.result _ _ (synced c.args.command c.args.«data».now c.args.self.now c.by_command.new.self) c.by_command.ensures.done
