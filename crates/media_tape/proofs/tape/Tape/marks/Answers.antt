use Rattle.std.proofs.Common.{◌≡◌, ◌*◌, ◌==◌, map, ℕ, false, ap, ◌∙◌, arith, rules}
use Rattle.std.proofs.lemmas.List.{length-replicate}
use Rattle.std.proofs.lemmas.Result.{IfOk-weaker, on_err_weaker}
use Rattle.media_tape.specs.Items.{size}
use Rattle.media_tape.proofs.Spelled.{items_of-zeros, sizes-filemarks}
use Rattle.media_tape.proofs.tape.Tape.marks.Goals as goal

pub put-requires : goal.put-requires
put-requires g c = record {
  sized = ap (map size) (items_of-zeros c.args.count) ∙ sizes-filemarks c.args.count;
  total = length-replicate {A = ℕ} (8 * c.args.count) 0 ∙ omega arith;
  some = omega arith;
  least = omega arith;
  most = omega arith;
}

pub returns-clause-told : goal.returns-clause-told
returns-clause-told g c =
    let some : (c.args.count == 0) ≡ false = search rules in
    let told = rw (length-replicate {A = ℕ} (8 * c.args.count) 0) at c.in_ok-done.ensures.told in
    rw some told

pub returns-clause-tape : goal.returns-clause-tape
returns-clause-tape g c =
    let some : (c.args.count == 0) ≡ false = search rules in
    let tape = rw (items_of-zeros c.args.count, length-replicate {A = ℕ} (8 * c.args.count) 0) at c.in_ok-done.ensures.tape in
    rw some tape

pub returns-clause-sized : goal.returns-clause-sized
returns-clause-sized g c =
    let some : (c.args.count == 0) ≡ false = search rules in
    let sized = rw (items_of-zeros c.args.count, length-replicate {A = ℕ} (8 * c.args.count) 0) at c.in_ok-done.ensures.sized in
    rw some sized

pub returns-clause-kept : goal.returns-clause-kept
returns-clause-kept g c = on_err_weaker c.in_ok-done.done (λ is some. is) c.in_ok-done.ensures.kept

pub returns-clause-failed : goal.returns-clause-failed
returns-clause-failed g c = on_err_weaker c.in_ok-done.done (λ is honest some. is honest) c.in_ok-done.ensures.failed

pub returns-clause-none : goal.returns-clause-none
returns-clause-none g c = IfOk-weaker c.in_ok-done.done _ _ (λ told is none. absurd (omega (arith, none))) c.in_ok-done.ensures.synced

pub returns-clause-none_failed : goal.returns-clause-none_failed
returns-clause-none_failed g c = on_err_weaker c.in_ok-done.done (λ is none. absurd (omega (arith, none))) c.in_ok-done.ensures.unsynced

pub returns-clause-fits : goal.returns-clause-fits
returns-clause-fits g c =
    let fits = rw (length-replicate {A = ℕ} (8 * c.args.count) 0) at c.in_ok-done.ensures.fits in
    on_err_weaker c.in_ok-done.done (λ is some. is) fits
