-- The rows of a run, as the code keeps them.
use Rattle.iscsi_world.specs.Runs.{RowState}
use Rattle.iscsi_target.specs.declared.run.Row.{Row}

-- a row, without the place of its bytes in memory
abbrev pub seen : Row → RowState
seen row = record { connection = row.connection; bytes = row.bytes.items }
