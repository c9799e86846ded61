-- A piece was kept, and what was whole then was taken.
use Rattle.std.proofs.Common.{◌≡◌, ℕ, ◌<◌, List, length, true, sym, ap, subst}
use Rattle.std.specs.Prelude.{All, Result}
use Rattle.scsi_unit.specs.Units.{UnitStates, AreSure}
use Rattle.iscsi_world.specs.History.{connection_limit}
use Rattle.iscsi_world.specs.Machine.{Machine, link_at, is_reading}
use Rattle.iscsi_world.specs.Serving.{TakesBytes, first_starved, kept_piece}
use Rattle.iscsi_world.specs.declared.fault.Starved.{Starved}
use Rattle.iscsi_world.proofs.Apart.{part_as, part_halved, part_then}
use Rattle.iscsi_world.proofs.Feeding.{kept_feeds, kept_reads}
use Rattle.iscsi_world.proofs.Moving.{closing_if, feeds_then}
use Rattle.iscsi_world.proofs.Sound.{at_units}
use Rattle.iscsi_world.proofs.Starving.{bytes_all_came, bytes_ok_came, bytes_err_came, bytes_back, bytes_sure, bytes_feeds, bytes_part, bytes_closing, bytes_bounded}
use Rattle.iscsi_target.specs.Feeding.{TakesPiece}

pub takes_piece : (before kept now : Machine) (c : ℕ) (piece : List ℕ) (result : Result (Unit {0}) Starved) → c < connection_limit → c < length before.links
    → is_reading (link_at before c).phase ≡ true → kept ≡ kept_piece c piece before → TakesBytes c (first_starved result) kept now
    → TakesPiece c piece result before now
takes_piece before kept now c piece result in_range lt reads is takes = record {
  stands = bytes_ok_came before kept now c piece in_range reads is result takes;
  starved = bytes_err_came before kept now c piece in_range reads is result takes;
  came = bytes_all_came before kept now c piece in_range reads is result takes;
  each = λ target sound. at_units kept.units before target (ap (λ (m : Machine). m.units) is)
      (bytes_back c (first_starved result) kept now takes target sound);
  sure = λ sure. bytes_sure c (first_starved result) kept now takes
      (subst (λ (u : List UnitStates). All AreSure u) (sym (ap (λ (m : Machine). m.units) is)) sure);
  feeds = feeds_then c before kept now (kept_feeds before kept c piece lt reads is) (bytes_feeds c (first_starved result) kept now takes);
  part = part_then c before kept now (kept_reads before kept c piece lt reads is) (part_as c before _ kept is (part_halved before c _ lt))
      (bytes_part c (first_starved result) kept now takes);
  closing = closing_if result now (bytes_closing c (first_starved result) kept now takes);
  bounded = λ le bounded. bytes_bounded before kept now c piece (first_starved result) lt reads is takes le bounded;
}
