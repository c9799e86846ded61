-- What a whole read or write is, that may take several calls of the system.
use Rattle.std.specs.Prelude.{◌≡◌, ◌≤◌, ℕ, Bool, false, ◌&&◌, IsTrue, List, length, take}
use Rattle.media_store.specs.Calls.{FileCall}
use Rattle.media_store.specs.Content.{written}
use Rattle.media_store.specs.Ends.{HasEnded}
use Rattle.media_store.specs.Replay.{Origin, content_of, agrees_at, is_honest, is_synced}

-- own: bytes came into the front of a buffer, and into all of it where the read succeeded; the file is as honest as
-- before exactly where they agree with its content
pub record HasRead (origin : Origin) (at : ℕ) (buffer : List ℕ) (ok : Bool) (old new : List FileCall) : Type 0 where
  pub count : ℕ
  pub within : count ≤ length buffer
  pub whole : IsTrue ok → count ≡ length buffer
  pub content : content_of origin new ≡ content_of origin old
  pub honest : is_honest origin new ≡ (is_honest origin old && agrees_at at (take count buffer) (content_of origin old))
  pub synced : is_synced new ≡ is_synced old
  -- a read that was short or interrupted goes on
  pub ended : HasEnded ok at (length buffer) old new

-- own: bytes were put into the range of a write, and exactly those to be written where it succeeded
pub record HasWritten (origin : Origin) (at : ℕ) (bytes : List ℕ) (ok : Bool) (old new : List FileCall) : Type 0 where
  pub put : List ℕ
  pub within : length put ≤ length bytes
  pub whole : IsTrue ok → put ≡ bytes
  pub content : content_of origin new ≡ written at put (content_of origin old)
  pub honest : is_honest origin new ≡ is_honest origin old
  pub synced : is_synced new ≡ false
  -- a write that was short or interrupted goes on
  pub ended : HasEnded ok at (length bytes) old new
