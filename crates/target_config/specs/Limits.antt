-- The limits that a configuration keeps.
use Rattle.std.specs.Prelude.{ℕ, ℤ, pos, List, length, Bool, not, ◌&&◌, ◌==◌, nat_le, int_le}
use Rattle.std.specs.List.{list_all}
use Rattle.target_config.specs.Configuration.{UnitEntry, TargetEntry, Document}

-- profile: 0 to 255
abbrev pub is_lun : ℤ → Bool
is_lun lun = int_le (pos 0) lun && int_le lun (pos 255)

abbrev pub is_printable : ℕ → Bool
is_printable byte = nat_le 0x20 byte && nat_le byte 0x7e

-- profile: 1 to 32 printable ASCII bytes
abbrev pub is_serial : List ℕ → Bool
is_serial text = not (length text == 0) && nat_le (length text) 32 && list_all is_printable text

abbrev pub unit_keeps : UnitEntry → Bool
unit_keeps unit = is_lun unit.lun && is_serial unit.serial

-- profile: a name of at most 223 bytes (RFC 7143 §4.2.7.1), and at most 16 units
abbrev pub target_keeps : TargetEntry → Bool
target_keeps target = nat_le (length target.name) 223 && nat_le (length target.units) 16 && list_all unit_keeps target.units

-- profile: at most 253 bytes, and at most 8 targets
abbrev pub keeps_limits : Document → Bool
keeps_limits document = nat_le (length document.listen) 253 && nat_le (length document.targets) 8 && list_all target_keeps document.targets
