-- A target is sound before a call if it is sound after it and each of its targets was so.
use Rattle.std.proofs.Common.{ℕ, zero, suc, List, [], ◌∷◌, subst, arith}
use Rattle.std.specs.Prelude.{All, slice_index_or}
use Rattle.std.proofs.lemmas.List.{get_or_default}
use Rattle.scsi_unit.specs.Units.{UnitStates, AreSound}
use Rattle.iscsi_world.specs.Laws.{SoundTargetsWereSound}
use Rattle.iscsi_world.specs.Machine.{Machine, IsSound, IsSoundAt, ReflectsSoundness}

pub each_sound : (all : List UnitStates) → All AreSound all → (target : ℕ) → AreSound (slice_index_or all target [])
each_sound [] sound target = λ i d lt. absurd (omega (arith, lt))
each_sound (units ∷ all) sound zero = sound 0 [] (omega arith)
each_sound (units ∷ all) sound (suc target) = each_sound all (λ i d lt. sound (suc i) d (omega (arith, lt))) target

pub sound_at : (machine : Machine) → IsSound machine → (target : ℕ) → IsSoundAt target machine
sound_at machine sound target = each_sound machine.units sound target

pub sound_back : (old new : Machine) → ReflectsSoundness old new → IsSound new → IsSound old
sound_back old new back sound = λ i d lt. subst AreSound (get_or_default old.units i [] d lt) (back i (sound_at new sound i))

pub sound_targets_were_sound : SoundTargetsWereSound
sound_targets_were_sound = search (arith, sound_back)
