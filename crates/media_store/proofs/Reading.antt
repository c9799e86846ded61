-- Calls that only read, one after the other.
use Rattle.std.proofs.Common.{◌∙◌}
use Rattle.media_store.specs.declared.store.Store.{Ghosts}
use Rattle.media_store.specs.Reading.{IsOnlyRead}

pub only_read_then : {S : Type 0} (g : Ghosts S) (first second third : S) → IsOnlyRead g first second → IsOnlyRead g second third
    → IsOnlyRead g first third
only_read_then g first second third one other = record {
  content = other.content ∙ one.content;
  synced = other.synced ∙ one.synced;
  steady = other.steady ∙ one.steady;
  reach = other.reach ∙ one.reach;
  atomic = other.atomic ∙ one.atomic;
  back = λ honest. one.back (other.back honest);
}
