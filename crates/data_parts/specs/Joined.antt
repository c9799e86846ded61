-- The data of a command, in the buffers in which it came.
use Rattle.std.specs.Prelude.{ℕ, ◌<◌, List, length, flat_map}
use Rattle.std.specs.Global.{Vec}
use Rattle.std.specs.List.{All}

-- own: the bytes of buffers, one after the other
abbrev pub joined : List (Vec ℕ) → List ℕ
joined buffers = flat_map (λ buffer. buffer.items) buffers

-- own: no buffer is empty
abbrev pub AreSome : List (Vec ℕ) → Type 0
AreSome buffers = All (λ buffer. 0 < length buffer.items) buffers
