use Rattle.std.proofs.Common.{true, false, ◌≡◌, ◌<◌, length, arith, inr}
use Rattle.std.proofs.lemmas.Bool.Decides.{nat_tests}
use Rattle.std.proofs.lemmas.Result.{err_from_is_err_and}
use Rattle.std.specs.Prelude.{bytes_eq}
use Rattle.std.specs.List.{list_any}
use Rattle.iscsi_text.proofs.Pieces.{keys_of, fault_of-own, fault_of-twice, fault_of-none, ends_with_fault, goes_on, passes_over, ends}
use Rattle.iscsi_text.proofs.Keys.{keys_more}
use Rattle.iscsi_text.proofs.reading.pairs.Goals as goal

pub returns-in_err-key : goal.returns-in_err-key
returns-in_err-key c =
    let p = err_from_is_err_and c.from_residual.result c.from_residual.ensures.1 in
    let some : 0 < length c.first_piece-ended.result.0.now = grind (arith, nat_tests) in
    rw (p.1, p.2) (inr (ends_with_fault _ _ _ _ _ _ c.loop-rest.invariant.read (c.first_piece-ended.ensures.piece some)
    (fault_of-own _ _ _ c.in_err-key.ensures.fault)))

pub returns-then-not-branch : goal.returns-then-not-branch
returns-then-not-branch c =
    let some : 0 < length c.first_piece-ended.result.0.now = grind (arith, nat_tests) in
    let held : list_any (bytes_eq c.in_ok-key.key.now) (keys_of c.loop-rest.pairs) ≡ true = grind (arith, c.loop-rest.invariant.keys c.in_ok-key.key) in
    inr (ends_with_fault _ _ _ _ _ _ c.loop-rest.invariant.read (c.first_piece-ended.ensures.piece some)
    (fault_of-twice _ _ c.in_ok-key.ensures.whole (rw (← c.in_ok-key.ensures.key) held)))

pub loop-rest-preserved-in_ok-push : goal.loop-rest-preserved-in_ok-push
loop-rest-preserved-in_ok-push c =
    let some : 0 < length c.first_piece-ended.result.0.now = grind (arith, nat_tests) in
    let new : list_any (bytes_eq c.in_ok-key.key.now) (keys_of c.loop-rest.pairs) ≡ false = grind (arith, c.loop-rest.invariant.keys c.in_ok-key.key) in
    record {
      read = rw (c.in_ok-push.ensures.added, c.in_ok-key.ensures.key, c.in_ok-key.ensures.value)
          (goes_on _ _ _ _ _ c.loop-rest.invariant.read (c.first_piece-ended.ensures.piece some)
          (fault_of-none _ _ c.in_ok-key.ensures.whole (rw (← c.in_ok-key.ensures.key) new)));
      keys = rw c.in_ok-push.ensures.added (keys_more _ _ c.in_ok-key.key _ _ c.loop-rest.invariant.keys c.in_ok-insert.ensures.updates);
    }

pub loop-rest-preserved : goal.loop-rest-preserved
loop-rest-preserved c =
    let none : length c.first_piece-ended.result.0.now ≡ 0 = grind (arith, nat_tests) in
    record {
      read = passes_over _ _ _ _ c.loop-rest.invariant.read (c.first_piece-ended.ensures.empty none);
      keys = c.loop-rest.invariant.keys;
    }

pub returns : goal.returns
returns c =
    let none : length c.loop-rest.rest.now ≡ 0 = grind (arith, nat_tests) in
    ends _ _ _ c.loop-rest.invariant.read none
