-- Mode pages (SPC-4 "Mode parameters", SBC-3 "Mode parameters for direct access block devices").
use Rattle.std.specs.Prelude.{ℕ, List, [], ◌∷◌, filter, replicate, Bool, true, false, not, ◌||◌, ◌==◌, Option, Some, None, if◌then◌else◌}
use Rattle.media_block.specs.Blocks.{block_length as disk_block_length}
use Rattle.scsi_cdb.specs.declared.mode.PageControl.{PageControl}
use Rattle.scsi_cdb.specs.declared.mode.PageControl.TheVariants.{Current, Changeable, Default}
use Rattle.scsi_mode.specs.declared.page.ModePage.{ModePage}
use Rattle.scsi_mode.specs.declared.page.ModePage.TheVariants.{Caching, Control}
use Rattle.scsi_mode.specs.declared.parameters.Parameters.{Parameters}
use Rattle.scsi_mode.specs.declared.parameters.Parameters.TheVariants.{Disk, Tape}

-- SPC-4 "Control mode page": SWP, which a tape never has set (profile)
abbrev pub write_protect : Parameters → Bool
write_protect (Disk block_count is_protected) = is_protected
write_protect (Tape block_length) = false

-- SBC-3 "Short LBA mode parameter block descriptor", SSC-4 "Mode parameter block descriptor": BLOCK LENGTH
abbrev pub block_length_of : Parameters → ℕ
block_length_of (Disk block_count is_protected) = disk_block_length
block_length_of (Tape block_length) = block_length

-- SPC-4 "MODE SELECT (6) command": whether a parameter differs
abbrev pub differ : Parameters → Parameters → Bool
differ (Disk block_count is_protected) (Disk other_count is_other_protected) =
    not (block_count == other_count) || (if is_protected then not is_other_protected else is_other_protected)
differ (Tape block_length) (Tape other_length) = not (block_length == other_length)
differ (Disk block_count is_protected) (Tape block_length) = true
differ (Tape block_length) (Disk block_count is_protected) = true

-- SPC-4 "Mode page and subpage codes", SBC-3 "Mode page codes"
abbrev pub page_code : ModePage → ℕ
page_code Caching = 0x08
page_code Control = 0x0a

-- profile: the pages that a unit has, in rising order of their codes
abbrev pub all_pages : Parameters → List ModePage
all_pages (Disk block_count is_protected) = Caching ∷ Control ∷ []
all_pages (Tape block_length) = Control ∷ []

abbrev pub one_page : List ModePage → Option (List ModePage)
one_page [] = None
one_page (page ∷ pages) = Some (page ∷ [])

-- SPC-4 "MODE SENSE (6) command": the pages that a page code requests: 3Fh for all; own: 00h for none
abbrev pub pages_of : ℕ → Parameters → Option (List ModePage)
pages_of code parameters =
    if code == 0x00 then Some [] else if code == 0x3f then Some (all_pages parameters)
    else one_page (filter (λ page. page_code page == code) (all_pages parameters))

-- SBC-3 "Caching mode page", byte 2: WCE is 1 (profile), and cannot be changed
abbrev pub write_cache : PageControl → ℕ
write_cache Current = 0x04
write_cache Changeable = 0
write_cache Default = 0x04

-- SBC-3 "Caching mode page": 18 bytes follow the first two
abbrev pub caching_page : PageControl → List ℕ
caching_page control = 0x08 ∷ 0x12 ∷ write_cache control ∷ replicate 17 0

-- SPC-4 "Control mode page": 10 bytes follow the first two, and SWP is bit 3 of byte 4
abbrev pub control_page : Bool → List ℕ
control_page is_protected = 0x0a ∷ 0x0a ∷ 0 ∷ 0 ∷ (if is_protected then 0x08 else 0) ∷ replicate 7 0

-- SPC-4 "MODE SENSE (6) command", PC: SWP as it is; whether it can be changed, which a disk's can (profile); its default
abbrev pub shown_swp : PageControl → Parameters → Bool
shown_swp Current parameters = write_protect parameters
shown_swp Changeable (Disk block_count is_protected) = true
shown_swp Changeable (Tape block_length) = false
shown_swp Default parameters = false

-- a page with the values that PC requests
abbrev pub page_bytes : PageControl → Parameters → ModePage → List ℕ
page_bytes control parameters Caching = caching_page control
page_bytes control parameters Control = control_page (shown_swp control parameters)
