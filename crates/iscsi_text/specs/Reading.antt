-- The result of a call that follows a definition, if an allocation may fail.
use Rattle.std.specs.Prelude.{◌≡◌, ◌⊎◌, Result, Ok, Err}
use Rattle.iscsi_text.specs.declared.fault.TextFault.{TextFault}
use Rattle.iscsi_text.specs.declared.fault.TextFault.TheVariants.{Memory}

-- profile: the value of the definition, or its fault, or out of memory
abbrev pub Gives : {X : Type 0} → Result X TextFault → Result X TextFault → Type 0
Gives (Ok value) said = said ≡ Ok value
Gives (Err fault) said = (fault ≡ Memory) ⊎ (said ≡ Err fault)
