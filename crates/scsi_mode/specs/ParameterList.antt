-- The parameter list of MODE SELECT, judged part by part: the first fault counts.
use Rattle.std.specs.Prelude.{ℕ, zero, suc, ◌+◌, List, length, take, drop, Bool, true, false, ◌==◌, ◌&&◌, nat_lt, nat_le, Option, Some, None, Result, Ok, Err, if◌then◌else◌, slice_index, bit_and, bytes_eq}
use Rattle.byteorder.specs.Endian.{big_from}
use Rattle.scsi_sense.specs.Sense.{plain_sense}
use Rattle.scsi_sense.specs.declared.sense.Sense.{Sense}
use Rattle.scsi_sense.specs.declared.condition.Condition.TheVariants.{ParameterListLengthError, InvalidFieldInParameterList}
use Rattle.scsi_cdb.specs.declared.mode.PageControl.TheVariants.{Current}
use Rattle.scsi_cdb.specs.declared.mode.ParameterHeader.{ParameterHeader}
use Rattle.scsi_cdb.specs.declared.mode.ParameterHeader.TheVariants.{Six, Ten}
use Rattle.scsi_mode.specs.ModePages.{caching_page, control_page}
use Rattle.scsi_mode.specs.Descriptor.{described}
use Rattle.scsi_mode.specs.declared.list_fault.ListFault.{ListFault}
use Rattle.scsi_mode.specs.declared.list_fault.ListFault.TheVariants.{EndsEarly, InvalidField}
use Rattle.scsi_mode.specs.declared.parameters.Parameters.{Parameters}
use Rattle.scsi_mode.specs.declared.parameters.Parameters.TheVariants.{Disk, Tape}

-- 05/1A00, 05/2600
abbrev pub fault_sense : ListFault → Sense
fault_sense EndsEarly = plain_sense ParameterListLengthError
fault_sense InvalidField = plain_sense InvalidFieldInParameterList

-- SPC-4 "MODE SELECT (6) command": a page of the list is this one; bit 7 of its first byte (PS) is ignored
unfoldable pub is_page : List ℕ → List ℕ → Bool
is_page page expected = bit_and (slice_index page 0) 0x7f == slice_index expected 0 && bytes_eq (drop 1 page) (drop 1 expected)

-- own: the parameters after a page of the list: each page is as it is now, but a disk's SWP may have either value
unfoldable pub after_page : Parameters → List ℕ → Result Parameters ListFault
after_page (Disk block_count is_protected) page =
    if is_page page (caching_page Current) then Ok (Disk block_count is_protected)
    else if is_page page (control_page false) then Ok (Disk block_count false)
    else if is_page page (control_page true) then Ok (Disk block_count true) else Err InvalidField
after_page (Tape block_length) page = if is_page page (control_page false) then Ok (Tape block_length) else Err InvalidField

-- SPC-4 "Mode page format": byte 1 is the length of what follows in the page
abbrev pub page_length : List ℕ → ℕ
page_length bytes = 2 + slice_index bytes 1

-- the bytes begin with a whole page
unfoldable pub has_page : List ℕ → Bool
has_page bytes = nat_le 2 (length bytes) && nat_le (page_length bytes) (length bytes)

-- the length of the first page, if it is whole
abbrev pub page_if : List ℕ → Option ℕ
page_if bytes = if has_page bytes then Some (page_length bytes) else None

-- the result of f on what is Ok
abbrev pub and_then : (Parameters → Result Parameters ListFault) → Result Parameters ListFault → Result Parameters ListFault
and_then f (Ok parameters) = f parameters
and_then f (Err fault) = Err fault

-- own: the parameters after at most n pages: each is whole, and is then judged
abbrev pub pages_within : ℕ → Parameters → List ℕ → Result Parameters ListFault
pages_within zero parameters bytes = Ok parameters
pages_within (suc n) parameters bytes =
    if length bytes == 0 then Ok parameters else if has_page bytes
    then and_then (λ after. pages_within n after (drop (page_length bytes) bytes)) (after_page parameters (take (page_length bytes) bytes))
    else Err EndsEarly

-- own: the parameters after the pages of a list
unfoldable pub after_pages : Parameters → List ℕ → Result Parameters ListFault
after_pages parameters bytes = pages_within (length bytes) parameters bytes

-- SPC-4 "Mode parameter header formats"
abbrev pub header_length : ParameterHeader → ℕ
header_length Six = 4
header_length Ten = 8

-- SPC-4 "Mode parameter header formats": BLOCK DESCRIPTOR LENGTH
abbrev pub descriptor_length : ParameterHeader → List ℕ → ℕ
descriptor_length Six header = slice_index header 3
descriptor_length Ten header = big_from 6 2 header

-- own: pages after a block descriptor that is accepted
abbrev pub pages_behind : Option Parameters → List ℕ → Result Parameters ListFault
pages_behind None bytes = Err InvalidField
pages_behind (Some parameters) bytes = after_pages parameters bytes

-- own: a block descriptor, and then pages
unfoldable pub after_descriptor : Parameters → List ℕ → Result Parameters ListFault
after_descriptor parameters bytes =
    if nat_lt (length bytes) 8 then Err EndsEarly else pages_behind (described parameters bytes) (drop 8 bytes)

-- own: what comes after a header whose descriptor length is this
unfoldable pub after_header : Parameters → ℕ → List ℕ → Result Parameters ListFault
after_header parameters descriptor_length bytes =
    if descriptor_length == 0 then after_pages parameters bytes else if descriptor_length == 8
    then after_descriptor parameters bytes else Err InvalidField

-- SPC-4 "MODE SELECT (6) command": the parameters after a parameter list, or the first fault; an empty list changes
-- nothing
unfoldable pub selected : Parameters → ParameterHeader → List ℕ → Result Parameters ListFault
selected parameters header list =
    if length list == 0 then Ok parameters else if nat_lt (length list) (header_length header) then Err EndsEarly
    else after_header parameters (descriptor_length header list) (drop (header_length header) list)
