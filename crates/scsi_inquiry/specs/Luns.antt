-- The logical units of a target, reported (SPC-4 "REPORT LUNS command").
use Rattle.std.specs.Prelude.{ℕ, ◌*◌, List, [], ◌∷◌, ◌++◌, length, filter, replicate, Bool, ◌==◌}
use Rattle.std.specs.Int.{w32, to_be_bytes}
use Rattle.std.specs.List.{list_any, flat_map, range_with_len}
use Rattle.scsi_cdb.specs.declared.report_luns.SelectReport.{SelectReport}
use Rattle.scsi_cdb.specs.declared.report_luns.SelectReport.TheVariants.{LogicalUnits, WellKnown, All}

-- whether there is a unit of this number
abbrev pub is_among : List ℕ → ℕ → Bool
is_among numbers number = list_any (λ n. n == number) numbers

-- own: the numbers of all units, rising
unfoldable pub rising : List ℕ → List ℕ
rising numbers = filter (is_among numbers) (range_with_len 0 256)

-- SPC-4 "REPORT LUNS command", SELECT REPORT: the numbers of the units to be reported; no unit is well known
abbrev pub reported : SelectReport → List ℕ → List ℕ
reported LogicalUnits numbers = rising numbers
reported WellKnown numbers = []
reported All numbers = rising numbers

-- SAM-5 "Single level LUN structure": byte 1 is the number, and all others are zero
abbrev pub lun_field : ℕ → List ℕ
lun_field number = 0 ∷ number ∷ replicate 6 0

-- SPC-4 "REPORT LUNS parameter data": LUN LIST LENGTH in bytes, four zero bytes, and each LUN
abbrev pub lun_list : List ℕ → List ℕ
lun_list numbers = to_be_bytes w32 (8 * length numbers) ++ replicate 4 0 ++ flat_map lun_field numbers

-- SPC-4 "REPORT LUNS parameter data"
abbrev pub lun_data : SelectReport → List ℕ → List ℕ
lun_data select numbers = lun_list (reported select numbers)
