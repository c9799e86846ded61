-- What a parse that fails says of the words.
use Rattle.std.proofs.Common.{◌≡◌, inl, inr, List, [], ◌∷◌, true, false, refl, subst}
use Rattle.clap.specs.Words.{App, Text, fault_of, is_simple_and_free}
use Rattle.clap.specs.Kinds.{HasKind, IsAmong, Kinds}
use Rattle.clap.specs.Values.{kind_of}
use Rattle.clap.specs.declared.error.Error.{Error}
use Rattle.clap.specs.declared.error.kind.ErrorKind.{ErrorKind}
use Rattle.clap.specs.declared.error.kind.ErrorKind.TheVariants.{OutOfMemory}
use Rattle.command_line.specs.App.{app}
use Rattle.command_line.specs.Words.{is_faultless, is_taken}

-- what has a fault among it is not faultless
not_faultless : (kind : ErrorKind) (kinds : Kinds) → IsAmong kind kinds → is_faultless kinds ≡ false
not_faultless kind [] h = absurd h
not_faultless kind (first ∷ kinds) h = refl

-- a parse that fails, though not for memory, finds a fault
pub not_taken : (a : App) (words : List Text) (e : Error) → a ≡ app → (is_simple_and_free a ≡ true → HasKind (fault_of a words) e)
    → (kind_of e ≡ OutOfMemory → ⊥) → is_taken words ≡ false
not_taken a words e is kinds other =
    let kind = subst (λ (x : App). is_simple_and_free x ≡ true → HasKind (fault_of x words) e) is kinds refl in
    elim kind [
      | inl memory ↦ absurd (other memory)
      | inr among ↦ not_faultless (kind_of e) (fault_of app words) among
    ]
