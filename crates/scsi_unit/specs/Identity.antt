-- What identifies a unit whatever its medium: INQUIRY, REPORT LUNS and REQUEST SENSE, even if there is no unit.
use Rattle.std.specs.Prelude.{ℕ, List, take, Bool, false, Option, Some, None, Result, Ok, Err, if◌then◌else◌, slice_index}
use Rattle.scsi_sense.specs.Sense.{plain_sense, sense_bytes}
use Rattle.scsi_sense.specs.Done.{Outcome, good_with, check_condition}
use Rattle.scsi_sense.specs.declared.sense.Sense.{Sense}
use Rattle.scsi_sense.specs.declared.condition.Condition.TheVariants.{UnitAttention, NoAdditionalSenseInformation, LogicalUnitNotSupported}
use Rattle.scsi_sense.specs.declared.condition.Attention.{Attention}
use Rattle.scsi_cdb.specs.Fault.{invalid_field, field_sense}
use Rattle.scsi_cdb.specs.Operation.{row_of, is_of_target}
use Rattle.scsi_cdb.specs.Command.{fields_of, report_luns_of}
use Rattle.scsi_cdb.specs.declared.operation.Kind.{Kind}
use Rattle.scsi_cdb.specs.declared.operation.Row.{Row}
use Rattle.scsi_cdb.specs.declared.command.Command.{Command}
use Rattle.scsi_cdb.specs.declared.command.Command.TheVariants as to
use Rattle.scsi_cdb.specs.declared.command.UnitCommand.TheVariants.{TestUnitReady, RequestSense, Inquiry, ModeSelect, ModeSense, ReportLuns}
use Rattle.scsi_cdb.specs.declared.command.UnitCommand.TheVariants.{ReserveIn, ReserveOut}
use Rattle.scsi_cdb.specs.declared.fault.FieldFault.{FieldFault}
use Rattle.scsi_cdb.specs.declared.report_luns.ReportLunsFields.{ReportLunsFields}
use Rattle.scsi_inquiry.specs.StandardData.{standard_data}
use Rattle.scsi_inquiry.specs.ProductData.{page_of, page_data}
use Rattle.scsi_inquiry.specs.Luns.{lun_data}
use Rattle.scsi_inquiry.specs.declared.peripheral.Peripheral.TheVariants as peripheral
use Rattle.scsi_inquiry.specs.declared.vpd_page.VpdPage.{VpdPage}

-- SPC-4 "INQUIRY command": a page that the unit has; any other is a refused field
abbrev pub page_outcome : Kind → List ℕ → ℕ → Option VpdPage → Outcome
page_outcome kind serial allocation_length None = check_condition invalid_field
page_outcome kind serial allocation_length (Some page) = good_with (take allocation_length (page_data kind serial page))

-- SPC-4 "INQUIRY command": standard INQUIRY data, or a page
unfoldable pub inquiry_outcome : Kind → List ℕ → Option ℕ → ℕ → Outcome
inquiry_outcome kind serial None allocation_length = good_with (take allocation_length (standard_data (peripheral.Unit kind)))
inquiry_outcome kind serial (Some code) allocation_length = page_outcome kind serial allocation_length (page_of code kind)

-- SPC-4 "REPORT LUNS command", for units of these numbers
unfoldable pub luns_outcome : List ℕ → ReportLunsFields → Outcome
luns_outcome numbers fields = good_with (take fields.allocation_length (lun_data fields.select numbers))

-- SPC-4 "REQUEST SENSE command": sense data is returned as data, with GOOD
unfoldable pub sense_outcome : Sense → ℕ → Outcome
sense_outcome sense allocation_length = good_with (take allocation_length (sense_bytes sense))

-- SPC-4 "REQUEST SENSE command": the attention that is pending, or that there is no sense
abbrev pub pending_sense : Option Attention → Sense
pending_sense None = plain_sense NoAdditionalSenseInformation
pending_sense (Some code) = plain_sense (UnitAttention code)

-- 05/2500
abbrev pub unsupported : Sense
unsupported = plain_sense LogicalUnitNotSupported

-- SPC-4 "INQUIRY command", "REQUEST SENSE command": the answer to a command if there is no unit, which has no pages
abbrev pub outcome_without_unit : Result Command FieldFault → Outcome
outcome_without_unit (Err fault) = check_condition (field_sense fault)
outcome_without_unit (Ok (to.Unit (Inquiry None allocation_length))) = good_with (take allocation_length (standard_data peripheral.NoUnit))
outcome_without_unit (Ok (to.Unit (Inquiry (Some code) allocation_length))) = check_condition invalid_field
outcome_without_unit (Ok (to.Unit (RequestSense allocation_length))) = sense_outcome unsupported allocation_length
outcome_without_unit (Ok (to.Unit TestUnitReady)) = check_condition unsupported
outcome_without_unit (Ok (to.Unit (ModeSelect fields))) = check_condition unsupported
outcome_without_unit (Ok (to.Unit (ModeSense fields))) = check_condition unsupported
outcome_without_unit (Ok (to.Unit (ReserveIn fields))) = check_condition unsupported
outcome_without_unit (Ok (to.Unit (ReserveOut fields))) = check_condition unsupported
outcome_without_unit (Ok (to.Unit (ReportLuns fields))) = check_condition unsupported
outcome_without_unit (Ok (to.Disk command)) = check_condition unsupported
outcome_without_unit (Ok (to.Tape command)) = check_condition unsupported

abbrev pub row_without_unit : Option Row → List ℕ → Outcome
row_without_unit None cdb = check_condition unsupported
row_without_unit (Some row) cdb =
    if row.passes_missing_unit then outcome_without_unit (fields_of row.operation cdb 0) else check_condition unsupported

-- the commands that work if there is no unit, by the table of operations; any other command is 05/2500
unfoldable pub without_unit : List ℕ → Outcome
without_unit cdb = row_without_unit (row_of (slice_index cdb 0)) cdb

abbrev pub is_row_of_target : Option Row → Bool
is_row_of_target None = false
is_row_of_target (Some row) = is_of_target row.operation

-- whether the target answers a command for all its units
abbrev pub is_for_target : List ℕ → Bool
is_for_target cdb = is_row_of_target (row_of (slice_index cdb 0))

abbrev pub report_outcome : List ℕ → Result ReportLunsFields FieldFault → Outcome
report_outcome numbers (Err fault) = check_condition (field_sense fault)
report_outcome numbers (Ok fields) = luns_outcome numbers fields

-- SPC-4 "REPORT LUNS command": the answer of a target whose units have these numbers
unfoldable pub reported_luns : List ℕ → List ℕ → Outcome
reported_luns numbers cdb = report_outcome numbers (report_luns_of cdb)
