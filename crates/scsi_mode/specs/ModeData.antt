-- The data of MODE SENSE.
use Rattle.std.specs.Prelude.{ℕ, ◌+◌, List, [], ◌∷◌, ◌++◌, length, Bool, Option, if◌then◌else◌}
use Rattle.std.specs.Int.{w16, to_be_bytes}
use Rattle.std.specs.List.{flat_map}
use Rattle.std.specs.Option.{option_map}
use Rattle.scsi_cdb.specs.declared.mode.ParameterHeader.{ParameterHeader}
use Rattle.scsi_cdb.specs.declared.mode.ParameterHeader.TheVariants.{Six, Ten}
use Rattle.scsi_cdb.specs.declared.mode.ModeSenseFields.{ModeSenseFields}
use Rattle.scsi_mode.specs.ModePages.{write_protect, pages_of, page_bytes}
use Rattle.scsi_mode.specs.Descriptor.{descriptor}
use Rattle.scsi_mode.specs.declared.page.ModePage.{ModePage}
use Rattle.scsi_mode.specs.declared.parameters.Parameters.{Parameters}

-- SBC-3, SSC-4 "Mode parameter header", DEVICE-SPECIFIC PARAMETER: DPOFUA of a disk, buffered mode 1 of a tape, and WP, which is SWP
abbrev pub device_parameter : Parameters → ℕ
device_parameter parameters = if write_protect parameters then 0x90 else 0x10

-- SPC-4 "Mode parameter header formats": the length of what follows, medium type 0, the device-specific parameter, the length of the
-- block descriptor; in the longer one the lengths have two bytes, and two zero bytes stand before the second. Then descriptor and pages.
abbrev pub with_header : ParameterHeader → ℕ → List ℕ → List ℕ → List ℕ
with_header Six parameter block pages = (3 + length block + length pages) ∷ 0 ∷ parameter ∷ length block ∷ block ++ pages
with_header Ten parameter block pages =
    to_be_bytes w16 (6 + length block + length pages) ++ 0 ∷ parameter ∷ 0 ∷ 0 ∷ to_be_bytes w16 (length block) ++ block ++ pages

-- the block descriptor if it is requested: DBD is 0
abbrev pub descriptor_if : Bool → Parameters → List ℕ
descriptor_if is_asked parameters = if is_asked then descriptor parameters else []

-- SPC-4 "MODE SENSE (6) command": the data with these pages
abbrev pub data_with : ModeSenseFields → Parameters → List ModePage → List ℕ
data_with fields parameters pages =
    with_header fields.header (device_parameter parameters) (descriptor_if fields.block_descriptor parameters)
    (flat_map (page_bytes fields.control parameters) pages)

-- SPC-4 "MODE SENSE (6) command": the data, or none if there is no such page
abbrev pub mode_data : ModeSenseFields → Parameters → Option (List ℕ)
mode_data fields parameters = option_map (data_with fields parameters) (pages_of fields.page parameters)
