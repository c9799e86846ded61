use Rattle.std.proofs.Common.{◌≡◌, ◌+◌, ◌≤◌, ◌++◌, length, take, replicate, List, ℕ, ap, arith, ◌∙◌}
use Rattle.std.proofs.lemmas.List.{take-replicate, length-append, length-replicate, append_assoc, replicate-append-replicate}
use Rattle.media_tape.proofs.Writes.{KeepsBefore-trans, KeepsBefore-put, KeepsBefore-torn, written-behind}
use Rattle.media_store.proofs.Outcomes.{OnErr-always}
use Rattle.media_tape.proofs.zeros.write_zeros.Goals as goal

pub loop-done-preserved : goal.loop-done-preserved
loop-done-preserved g c =
    let c0 = g.S.Store.content c.args.store.now in
    let c1 = g.S.Store.content c.loop-done.store in
    let c2 = g.S.Store.content c.write_at.new.self in
    let kept = c.loop-done.invariant in
    let done = c.loop-done.done in
    let part = c.min-part.result in
    let told = c.in_ok-write_at.ensures in
    let few : part ≤ 4096 = omega arith in
    let zeros : take {A = ℕ} part (replicate 4096 0) ≡ replicate part 0 = take-replicate part 4096 0 few in
    let is = rw zeros at told.written in
    record {
      most = omega arith;
      honest = told.honest ∙ kept.honest;
      synced = λ some. told.synced;
      failures = told.failures ∙ kept.failures;
      steady = told.steady ∙ kept.steady;
      reach = told.reach ∙ kept.reach;
      atomic = told.atomic ∙ kept.atomic;
      parts = (kept.parts.0 + 1, omega (arith, kept.parts.1, kept.most));
      keeps = KeepsBefore-trans c.args.place c0 c1 c2 kept.keeps (KeepsBefore-put c.args.place (c.args.place + done) (replicate part 0) c1 c2 (omega arith) is);
      so_far = λ ends.
          let long : length c1 ≡ c.args.place + done = ap length (kept.so_far ends) ∙ length-append c0 (replicate done 0)
          ∙ omega (arith, ends, length-replicate {A = ℕ} done 0) in
          is ∙ written-behind (c.args.place + done) (replicate part 0) c1 long ∙ ap (λ (xs : List ℕ). xs ++ replicate part 0) (kept.so_far ends)
          ∙ append_assoc c0 (replicate done 0) (replicate part 0) ∙ ap (λ (xs : List ℕ). c0 ++ xs) (replicate-append-replicate done part 0);
    }

pub returns-in_err-write_at-clause-between : goal.returns-in_err-write_at-clause-between
returns-in_err-write_at-clause-between g c =
    let kept = c.loop-done.invariant in
    let content = g.S.Store.content c.args.store.now in
    OnErr-always c.from_residual.result (λ atomic ends. (
      kept.parts.0,
      c.in_err-write_at.ensures.undone (kept.atomic ∙ atomic) ∙ kept.so_far ends
          ∙ ap (λ (n : ℕ). content ++ replicate {A = ℕ} n 0) kept.parts.1,
    ))

pub returns-in_err-write_at-clause-keeps : goal.returns-in_err-write_at-clause-keeps
returns-in_err-write_at-clause-keeps g c =
    let c0 = g.S.Store.content c.args.store.now in
    let c1 = g.S.Store.content c.loop-done.store in
    let c2 = g.S.Store.content c.write_at.new.self in
    KeepsBefore-trans c.args.place c0 c1 c2 c.loop-done.invariant.keeps
    (KeepsBefore-torn c.args.place (c.args.place + c.loop-done.done) _ c1 c2 (omega arith) c.in_err-write_at.ensures.torn)
