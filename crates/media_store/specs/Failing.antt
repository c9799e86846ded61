-- What a store that fails shows of itself.
use Rattle.std.specs.Prelude.{◌≡◌, ℕ, ◌-◌, Bool, true, false, ◌==◌, ◌&&◌, if◌then◌else◌, Option, Some, None}
use Rattle.media_store.specs.declared.fail.Call.{Call}
use Rattle.media_store.specs.declared.fail.Call.TheVariants.{Len, ReadAt, WriteAt, SetLen, Sync}
use Rattle.media_store.specs.declared.fail.FailStore.{FailStore}

-- own: the store that it passes calls on to
abbrev pub store_of : {S : Type 0} → FailStore S → S
store_of failing = failing.store

-- own: how many calls it failed, and whether a write, a cut or a sync was refused after which nothing was synced
abbrev pub failures_of : {S : Type 0} → FailStore S → ℕ
failures_of failing = failing.failures

abbrev pub is_torn : {S : Type 0} → FailStore S → Bool
is_torn failing = failing.torn

-- own: it refuses these calls after this number of them, and has refused none
pub record IsFresh {S : Type 0} (only : Option Call) (left : ℕ) (failing : FailStore S) : Type 0 where
  pub only_is : failing.only ≡ only
  pub left_is : failing.left ≡ left
  pub none_failed : failing.failures ≡ 0
  pub not_torn : failing.torn ≡ false

-- the number of a call, by which calls are told apart
abbrev pub call_number : Call → ℕ
call_number Len = 0
call_number ReadAt = 1
call_number WriteAt = 2
call_number SetLen = 3
call_number Sync = 4

-- own: whether a call is one of those that are counted
abbrev pub is_counted : Option Call → Call → Bool
is_counted None call = true
is_counted (Some only) call = call_number only == call_number call

-- own: whether a call is refused: it is one of those that are counted, and none is left to be passed on
abbrev pub is_refused : {S : Type 0} → Call → FailStore S → Bool
is_refused call failing = is_counted failing.only call && failing.left == 0

-- own: after a call, one fewer is left where it is one of those that are counted
pub record HasCounted {S : Type 0} (call : Call) (old new : FailStore S) : Type 0 where
  pub only : new.only ≡ old.only
  pub left : new.left ≡ (if is_counted old.only call then old.left - 1 else old.left)
