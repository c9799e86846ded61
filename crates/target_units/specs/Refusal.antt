-- What is left of the file of a unit that is not opened, as clauses see it.
use Rattle.std.specs.Prelude.{ℕ, List, Bool, true}
use Rattle.std.specs.declared.io.Error.{Error}
use Rattle.media_store.specs.Calls.{FileCall, calls_of}
use Rattle.media_store.specs.States.{FileState}
use Rattle.target_units.specs.Store.{by_kind}
use Rattle.target_units.specs.declared.refused.Refused.{Refused}
use Rattle.target_units.specs.declared.refused.Refused.TheVariants.{Nothing, Unopened, Unfit}
use Rattle.target_units.specs.declared.store.MediumStore.{MediumStore}

-- own: what is left of a file
pub data Refusal : Type 0 where
  -- none was refused
  NoRefusal : Refusal
  -- the error of the call that failed to open or lock the file, and the calls for it, the newest first
  ByCall : (error : Error) (calls : List FileCall) → Refusal
  -- the store of a file on which a call failed, or that is unfit for its medium
  ByStore : (store : MediumStore FileState) → Refusal

abbrev pub refusal_of : {S : Type 0} → Refused S → Refusal
refusal_of Nothing = NoRefusal
refusal_of (Unopened unopened) = ByCall unopened.error (calls_of unopened.noted.calls)
refusal_of (Unfit store) = ByStore store

-- what a store shows of itself; of a file its calls say it (`content_of`, `failed_calls`, `is_honest`)
abbrev pub content_in : MediumStore FileState → List ℕ
content_in store = by_kind (λ store. store.content) (λ store. store.content) store

abbrev pub failures_in : MediumStore FileState → ℕ
failures_in store = by_kind (λ store. store.failures) (λ store. store.failures) store

abbrev pub honest_in : MediumStore FileState → Bool
honest_in store = by_kind (λ _. true) (λ store. store.honest) store
