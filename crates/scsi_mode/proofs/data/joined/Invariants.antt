use Rattle.std.proofs.Common.{◌≡◌, ◌≤◌, ◌*◌, length, take}
use Rattle.std.specs.List.{flat_map}
use Rattle.scsi_mode.specs.ModePages.{page_bytes}
use Rattle.scsi_mode.proofs.data.joined.Given as goal

-- the pages so far have been put
abbrev pub invariant-loop-page : goal.invariant-loop-page
invariant-loop-page l = record {
  pages : l.bytes.items ≡ flat_map (page_bytes l.control l.parameters) (take l.page-index l.pages);
  short : length l.bytes.items ≤ 20 * l.page-index;
}
