use Rattle.std.proofs.Common.{inr, refl, true, Some, ap, sym, subst, ◌∙◌, List, ℕ}
use Rattle.std.proofs.KnownBytes.{Keeps-refl}
use Rattle.target_config.specs.Loading.{told_of}
use Rattle.standard_streams.specs.Streams.{AreTaken}
use Rattle.targetd.proofs.Ending.{run_starves, run_lacks_streams, run_refused, none_named, replay_unread, serve_unread}
use Rattle.targetd.proofs.run.run.Goals as goal

pub returns-in_err-texts : goal.returns-in_err-texts
returns-in_err-texts g c = run_starves _ _ _ _ _ _ _ c.from_residual.result c.from_residual.ensures.1

pub returns-in-Err-Usage : goal.returns-in-Err-Usage
returns-in-Err-Usage g c =
    rw (← c.in_ok-texts.ensures, ← c.as_slice-texts.ensures.value)
    (run_refused _ _ _ _ _ _ _ _ c.refuse_words.result (none_named c.in-Err-Usage.field-0 _ c.in-Err-Usage.ensures c.in-Err-Usage.field-0-is)
    c.refuse_words.ensures)

pub returns-in-Err-Memory : goal.returns-in-Err-Memory
returns-in-Err-Memory g c = run_starves _ _ _ _ _ _ _ _ refl

pub returns-in_err-take_streams : goal.returns-in_err-take_streams
returns-in_err-take_streams g c =
    rw (← c.in_ok-texts.ensures, ← c.as_slice-texts.ensures.value, c.in-Ok.ensures)
    (run_lacks_streams _ _ _ _ _ true _ c.from_residual-in_err-take_streams.result c.in_err-take_streams.field-0.0
    c.from_residual-in_err-take_streams.ensures.1 c.in_err-take_streams.ensures.fault c.in_err-take_streams.ensures.lacking)

pub returns-in-Replay : goal.returns-in-Replay
returns-in-Replay g c =
    let loaded = rw c.take_streams.ensures.told at c.in_ok-contents-in-Replay.ensures in
    let told = c.replay_at.ensures.told ∙ loaded
    ∙ ap (λ (bytes : List ℕ). told_of c.in-Replay.config.now (Some bytes) c.args.left.now.told.calls) (sym c.as_slice.ensures.value) in
    let taken = subst AreTaken (sym c.replay_at.ensures.streams) c.in_ok-take_streams.ensures.taken in
    rw (← c.in_ok-texts.ensures, ← c.as_slice-texts.ensures.value, c.in-Ok.ensures, c.in-Replay.is)
    (inr (inr (taken, (Some c.as_slice.result.now, told, c.replay_at.ensures.ends))))

pub returns-in_err-contents-in-Replay : goal.returns-in_err-contents-in-Replay
returns-in_err-contents-in-Replay g c =
    rw (← c.in_ok-texts.ensures, ← c.as_slice-texts.ensures.value, c.in-Ok.ensures, c.in-Replay.is)
    (replay_unread _ _ _ _ _ _ true c.in-Replay.config.now c.from_residual-in_err-contents-in-Replay.result
    c.in_err-contents-in-Replay.field-0.0 c.from_residual-in_err-contents-in-Replay.ensures.1 c.take_streams.ensures.told
    c.in_err-contents-in-Replay.ensures c.in_ok-take_streams.ensures.taken)

pub returns-in_err-contents-in-Serve : goal.returns-in_err-contents-in-Serve
returns-in_err-contents-in-Serve g c =
    rw (← c.in_ok-texts.ensures, ← c.as_slice-texts.ensures.value, c.in-Ok.ensures, c.in-Serve.is)
    (serve_unread _ _ _ _ _ _ true c.in-Serve.config.now c.in-Serve.turns c.from_residual-in_err-contents-in-Serve.result c.in_err-contents-in-Serve.field-0.0
    c.from_residual-in_err-contents-in-Serve.ensures.1 c.take_streams.ensures.told c.in_err-contents-in-Serve.ensures c.in_ok-take_streams.ensures.taken)

pub returns : goal.returns
returns g c =
    let loaded = rw c.take_streams.ensures.told at c.in_ok-contents-in-Serve.ensures in
    let told = c.serve_at.ensures.told ∙ loaded
    ∙ ap (λ (bytes : List ℕ). told_of c.in-Serve.config.now (Some bytes) c.args.left.now.told.calls) (sym c.as_slice-in-Serve.ensures.value) in
    let taken = subst AreTaken (sym c.serve_at.ensures.streams) c.in_ok-take_streams.ensures.taken in
    rw (← c.in_ok-texts.ensures, ← c.as_slice-texts.ensures.value, c.in-Ok.ensures, c.in-Serve.is)
    (inr (inr (taken, (Keeps-refl _, (Some c.as_slice-in-Serve.result.now, told, c.serve_at.ensures.ends)))))
