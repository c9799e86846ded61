use Rattle.media_tape.proofs.There.{read-back}
use Rattle.media_tape.proofs.laws.written_is_read_back.Goals as goal

pub returns : goal.returns
returns c bytes tape some told = read-back bytes tape some told
