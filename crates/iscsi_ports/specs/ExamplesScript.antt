-- What the calls of a connection tell that follows a script, computed.
use Rattle.std.specs.Prelude.{◌≡◌, refl}
use Rattle.iscsi_ports.specs.Script.{told_at}
use Rattle.iscsi_ports.specs.declared.results.IoResult.TheVariants as told
use Rattle.iscsi_ports.specs.declared.script.Step.TheVariants as steps
use Rattle.iscsi_ports.specs.declared.script.Course.{Course}

-- two calls go as they can, the third takes nothing, and each later one takes one byte
course : Course
course = record { first = 2; next = steps.Moves 0; later = steps.Moves 1 }

second : told_at course 1 48 ≡ told.Bytes 48
unfolding course
second = refl

third : told_at course 2 48 ≡ told.Bytes 0
unfolding course
third = refl

fourth : told_at course 3 48 ≡ told.Bytes 1
unfolding course
fourth = refl
