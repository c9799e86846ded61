-- The values of a document, one after the other.
use Rattle.std.proofs.Common.{◌≡◌, List, ◌++◌, Option, Some, None, is_some, option_map, ok_or, Bor, sym, ap}
use Rattle.toml.specs.Data.{Data}
use Rattle.toml.specs.View.{view}
use Rattle.toml.specs.declared.value.Value.{Value}
use Rattle.target_config.specs.declared.fault.ConfigFault.TheVariants.{Field}
use Rattle.target_config.specs.Document.{Gives}

-- the value that a look-up found, or the fault
pub gives_member : (found : Option (Bor Value)) (read : Option Data) → option_map (λ v. view v.now) found ≡ read
    → Gives (λ (v : Bor Value). view v.now) (ok_or found Field) read
gives_member None read e = sym e
gives_member (Some v) read e = sym e

pub is_some-member : (found : Option (Bor Value)) (read : Option Data) → option_map (λ v. view v.now) found ≡ read
    → is_some found ≡ is_some read
is_some-member None read e = ap is_some e
is_some-member (Some v) read e = ap is_some e

-- what was read, and then the rest
abbrev pub behind : {Y : Type 0} → List Y → Option (List Y) → Option (List Y)
behind front rest = option_map (λ ys. front ++ ys) rest
