use Rattle.iscsi_world.proofs.Sound.{sound_of_sure}
use Rattle.iscsi_target.proofs.laws.sure_is_sound.Goals as goal

pub returns : goal.returns
returns c = sound_of_sure
