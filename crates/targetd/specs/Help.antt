-- How a run ends if its words are no command.
use Rattle.std.specs.Prelude.{◌≡◌, ◌⊎◌, ℕ, List, ◌++◌, Bool, true, false, Option}
use Rattle.std.specs.Io.KnownBytes.{Appends, Keeps}
use Rattle.command_line.specs.Help.{usage_text}
use Rattle.target_serving.specs.declared.fault.Fault.{Fault}
use Rattle.target_serving.specs.declared.fault.Fault.TheVariants.{Usage, Output}

-- a text was printed as far as the output accepted it
abbrev pub PrintsFront : List ℕ → Option (List ℕ) → Option (List ℕ) → Type 0
PrintsFront text printed printed_then = (front : List ℕ) × (unprinted : List ℕ) × (text ≡ front ++ unprinted) × Appends printed printed_then front

-- profile: a call for help prints the usage, and any other words print nothing; both are a usage fault
abbrev pub RefusesWords : Option (List ℕ) → Option (List ℕ) → Bool → Fault → Type 0
RefusesWords printed printed_then true fault =
    ((fault ≡ Usage) × Appends printed printed_then usage_text) ⊎ ((fault ≡ Output) × PrintsFront usage_text printed printed_then)
RefusesWords printed printed_then false fault = (fault ≡ Usage) × Keeps printed printed_then
