-- What calls do to the bytes of a store.
use Rattle.std.specs.Prelude.{◌≡◌, ℕ, ◌+◌, ◌-◌, ◌≤◌, min, max, nat_lt, List, ◌++◌, length, take, drop, replicate, if◌then◌else◌}

-- POSIX ftruncate: the content with this length, cut or filled up with zeros
abbrev pub resized : ℕ → List ℕ → List ℕ
resized len content = take len content ++ replicate (len - length content) 0

-- POSIX pwrite: the content with these bytes at this offset; zeros stand between its end and the offset
abbrev pub overlaid : ℕ → List ℕ → List ℕ → List ℕ
overlaid at bytes content = resized at content ++ (bytes ++ drop (at + length bytes) content)

-- POSIX pwrite: the content after a write; writing no byte changes nothing
abbrev pub written : ℕ → List ℕ → List ℕ → List ℕ
written at bytes content = if nat_lt 0 (length bytes) then overlaid at bytes content else content

-- own: after a write of n bytes at an offset that failed, the bytes outside its range are as before
pub record KeepsOutside (at n : ℕ) (old new : List ℕ) : Type 0 where
  pub before : take (min at (length old)) new ≡ take at old
  pub behind : drop (at + n) new ≡ drop (at + n) old
  pub no_shorter : length old ≤ length new
  pub no_longer : length new ≤ max (length old) (at + n)

-- own: after a change of the length that failed, the bytes below both lengths are as before
pub record KeepsFront (len : ℕ) (old new : List ℕ) : Type 0 where
  pub front : take (min len (length old)) new ≡ take len old
  pub no_shorter : min len (length old) ≤ length new
  pub no_longer : length new ≤ max (length old) len
