use Rattle.std.proofs.Common.{◌≡◌, take}
use Rattle.scsi_reserve.specs.News.{due_of}
use Rattle.scsi_reserve.proofs.news.News.due.Given as goal

-- the registrants so far
abbrev pub invariant-loop-row : goal.invariant-loop-row
invariant-loop-row l = l.list.items ≡ due_of l.self l.nexus (take l.row-index l.rows)
