use Rattle.media_tape.proofs.There.{there-and-back}
use Rattle.media_tape.proofs.laws.records_there_and_back.Goals as goal

pub returns : goal.returns
returns c count tape told = there-and-back count tape told
