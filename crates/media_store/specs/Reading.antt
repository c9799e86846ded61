-- What a call that only reads keeps of a store.
use Rattle.std.specs.Prelude.{◌≡◌, IsTrue}
use Rattle.media_store.specs.declared.store.Store.{Ghosts}

module _ {S : Type 0} (g : Ghosts S) where
  -- own: all but the count of failures, and a store that is honest after it was so before it
  pub record IsOnlyRead (old new : S) : Type 0 where
    pub content : g.content new ≡ g.content old
    pub synced : g.synced new ≡ g.synced old
    pub steady : g.steady new ≡ g.steady old
    pub reach : g.reach new ≡ g.reach old
    pub atomic : g.atomic new ≡ g.atomic old
    pub back : IsTrue (g.honest new) → IsTrue (g.honest old)
