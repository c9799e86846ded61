use Rattle.std.proofs.Common.{◌≡◌, ℕ, ◌*◌, ◌++◌, min, Result, Ok, Err, OnOk, OnErr, List, take, length, replicate, inl, inr, ap, sym, ◌∙◌, arith}
use Rattle.std.proofs.lemmas.List.{append-nil, length-take-le}
use Rattle.std.proofs.lemmas.Result.{on_ok_weaker, on_err_weaker}
use Rattle.media_store.proofs.Outcomes.{OnErr-always}
use Rattle.media_store.specs.Content.{written, KeepsOutside}
use Rattle.media_tape.specs.Writing.{KeepsBefore}
use Rattle.media_tape.proofs.Writes.{written-behind, KeepsBefore-trans, KeepsBefore-put, KeepsBefore-torn}
use Rattle.media_tape.proofs.write.write_objects.Goals as goal

pub returns-in_err-cut_at-clause-between : goal.returns-in_err-cut_at-clause-between
returns-in_err-cut_at-clause-between g c =
    OnErr-always c.from_residual.result (λ atomic below ends. inl (c.in_err-cut_at.ensures.undone atomic))

pub returns-in-Records-clause-written : goal.returns-in-Records-clause-written
returns-in-Records-clause-written g c =
    let place = c.args.place in
    let old = g.S.Store.content c.args.store.now in
    let bytes = c.deref.result.now in
    rw c.in-Records.is (on_ok_weaker c.write_at.result (λ is below ends.
    is ∙ ap (written place bytes) (c.in_ok-cut_at.ensures.cut below ends)
    ∙ written-behind place bytes (take place old) (length-take-le place old below)
    ∙ ap (λ (xs : List ℕ). take place old ++ xs) c.deref.ensures.value) c.write_at.ensures.written)

pub returns-in-Records-clause-between : goal.returns-in-Records-clause-between
returns-in-Records-clause-between g c =
    let old = g.S.Store.content c.args.store.now in
    on_err_weaker c.write_at.result (λ undone atomic below ends.
    inr (0, undone (c.in_ok-cut_at.ensures.atomic ∙ atomic) ∙ c.in_ok-cut_at.ensures.cut below ends ∙ sym (append-nil (take c.args.place old))))
    c.write_at.ensures.undone

pub returns-in-Filemarks-clause-between : goal.returns-in-Filemarks-clause-between
returns-in-Filemarks-clause-between g c =
    let place = c.args.place in
    let old = g.S.Store.content c.args.store.now in
    let count : ℕ = c.from.result in
    on_err_weaker c.write_zeros.result (λ between atomic below ends.
    let cut = c.in_ok-cut_at.ensures.cut below ends in
    let parts = between (c.in_ok-cut_at.ensures.atomic ∙ atomic) (ap length cut ∙ length-take-le place old below) in
    let many : min (4096 * parts.0) (8 * count) ≡ 8 * min (512 * parts.0) count = omega arith in
    inr (
      min (512 * parts.0) count,
      parts.1 ∙ ap (λ (xs : List ℕ). xs ++ replicate {A = ℕ} (min (4096 * parts.0) (8 * count)) 0) cut
          ∙ ap (λ (n : ℕ). take place old ++ replicate {A = ℕ} n 0) many,
    )) c.write_zeros.ensures.between

-- the front stays, whether the write succeeded or failed
keeps : {T E : Type 0} (result : Result T E) (place : ℕ) (bytes old new : List ℕ) → OnOk result (new ≡ written place bytes old)
    → OnErr result (KeepsOutside place (length bytes) old new) → KeepsBefore place old new
keeps (Ok value) place bytes old new done torn = KeepsBefore-put place place bytes old new (omega arith) done
keeps (Err fault) place bytes old new done torn = KeepsBefore-torn place place (length bytes) old new (omega arith) torn

pub returns-in-Records-clause-keeps : goal.returns-in-Records-clause-keeps
returns-in-Records-clause-keeps g c =
    KeepsBefore-trans c.args.place _ _ _ c.in_ok-cut_at.ensures.keeps
    (keeps c.write_at.result c.args.place c.deref.result.now _ _ c.write_at.ensures.written c.write_at.ensures.torn)

pub returns-in-Filemarks-clause-keeps : goal.returns-in-Filemarks-clause-keeps
returns-in-Filemarks-clause-keeps g c =
    KeepsBefore-trans c.args.place _ _ _ c.in_ok-cut_at.ensures.keeps c.write_zeros.ensures.keeps

pub returns-in-Records-clause-succeeds : goal.returns-in-Records-clause-succeeds
returns-in-Records-clause-succeeds g c =
    rw c.in-Records.is (λ steady fits. c.write_at.ensures.grows (c.in_ok-cut_at.ensures.steady ∙ steady)
    (omega (arith, fits, c.in_ok-cut_at.ensures.reach, ap length c.deref.ensures.value)))
