-- What a store that lies once shows of itself.
use Rattle.std.specs.Prelude.{◌≡◌, ℕ, ◌-◌, ◌==◌, nat_lt, Bool, not, ◌&&◌, ◌||◌, if◌then◌else◌, List, [], ◌∷◌, bit_xor}
use Rattle.media_store.specs.declared.store.Store.{Ghosts}
use Rattle.media_store.specs.declared.lying.LyingStore.{LyingStore}

-- own: the bytes with the lowest bit of the first one turned
abbrev pub turned : List ℕ → List ℕ
turned [] = []
turned (byte ∷ bytes) = bit_xor byte 1 ∷ bytes

module _ {S : Type 0} {g : Ghosts S} where
  -- own: the store that it passes calls on to
  abbrev pub store_of : LyingStore S g → S
  store_of lying = lying.store

  -- own: whether it has lied
  abbrev pub has_lied : LyingStore S g → Bool
  has_lied lying = lying.has_lied

  -- own: how many reads it still answers truly
  abbrev pub left_of : LyingStore S g → ℕ
  left_of lying = lying.left

  -- own: whether a read into a buffer of this length is the one at which it lies, if it succeeds
  abbrev pub is_lie : ℕ → LyingStore S g → Bool
  is_lie length lying = nat_lt 0 length && not lying.has_lied && lying.left == 0

  -- own: after a read: it has lied where it was to lie, and one true read fewer is left
  pub record HasTold (length : ℕ) (ok : Bool) (old new : LyingStore S g) : Type 0 where
    pub lied : new.has_lied ≡ (old.has_lied || (ok && is_lie length old))
    pub left : new.left ≡ (if ok && nat_lt 0 length && not old.has_lied then old.left - 1 else old.left)

  -- own: after any other call
  pub record HasKept (old new : LyingStore S g) : Type 0 where
    pub lied : new.has_lied ≡ old.has_lied
    pub left : new.left ≡ old.left
