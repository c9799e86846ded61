use Rattle.std.proofs.Common.{◌≡◌, length, take, drop, ◌∙◌, arith, rules, refl}
use Rattle.std.proofs.lemmas.List.{length-append, length-take-le, length-drop, drop-drop}
use Rattle.media_store.proofs.BySlice.{written-more, torn-more}
use Rattle.media_block.proofs.Results.{on_err_always}
use Rattle.media_block.proofs.data.write_joined.Goals as goal

pub returns-in_err-write_at-clause-torn : goal.returns-in_err-write_at-clause-torn
returns-in_err-write_at-clause-torn g c =
    let part : length (take c.min-part.result c.loop-done.room) ≡ c.min-part.result = length-take-le c.min-part.result c.loop-done.room (omega arith) in
    let long : length c.fill.new.room ≡ c.min-part.result = c.fill.auto.room ∙ part in
    on_err_always c.from_residual.result
    (torn-more c.args.at c.loop-done.done (length c.fill.new.room) c.args.count (take c.loop-done.done c.args.«data».now)
    (g.S.Store.content c.args.store.now) (g.S.Store.content c.write_at.new.self)
    (length-take-le c.loop-done.done c.args.«data».now (omega arith)) (omega (arith, long))
    (rw c.loop-done.invariant.content at c.in_err-write_at.ensures.torn))

pub loop-done-preserved : goal.loop-done-preserved
loop-done-preserved g c =
    let done = c.loop-done.done in
    let part = c.min-part.result in
    let room : length (take part c.loop-done.room) ≡ part = length-take-le part c.loop-done.room (omega arith) in
    let long : length c.fill.new.room ≡ part = c.fill.auto.room ∙ room in
    let bytes : c.fill.new.room ≡ take part (drop done c.args.«data».now) = c.fill.ensures.filled ∙ rw (room, c.loop-done.invariant.lies) refl in
    record {
      below = omega arith;
      lies = c.fill.ensures.joined ∙ rw (room, c.loop-done.invariant.lies) (drop-drop part done c.args.«data».now);
      room = simp (length-append, length-drop) (omega (arith, long, c.loop-done.invariant.room));
      honest = c.in_ok-write_at.ensures.honest ∙ c.loop-done.invariant.honest;
      steady = c.in_ok-write_at.ensures.steady ∙ c.loop-done.invariant.steady;
      failures = search rules;
      synced = λ _. c.in_ok-write_at.ensures.synced;
      content = c.in_ok-write_at.ensures.written ∙ rw c.loop-done.invariant.content
          (written-more c.args.at done part c.fill.new.room c.args.«data».now (g.S.Store.content c.args.store.now) (omega arith) bytes);
    }
