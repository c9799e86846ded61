-- Bytes of a store that were read ahead.
use Rattle.std.specs.Prelude.{◌≡◌, ℕ, ◌+◌, ◌≤◌, List, length, slice_range}
use Rattle.media_tape.specs.declared.window.Window.{Window}

-- there is room for a number
pub record IsWindow (window : Window) : Type 0 where
  pub room : 4 ≤ length window.bytes.items + window.bytes.spare

-- the four bytes at a place are among its bytes
pub record Holds (at : ℕ) (window : Window) : Type 0 where
  pub from : window.offset ≤ at
  pub to : at + 4 ≤ window.offset + length window.bytes.items

-- its bytes stand in this content
abbrev pub Shows : List ℕ → Window → Type 0
Shows content window = window.bytes.items ≡ slice_range content window.offset (window.offset + length window.bytes.items)
