use Rattle.std.proofs.Common.{◌≡◌, ◌<◌, ◌≤◌, ◌+◌, length, take, drop, sym, ◌∙◌, arith, rules}
use Rattle.std.proofs.lemmas.List.{length-take-le, length-drop}
use Rattle.media_store.proofs.BySlice.{written-more, torn-more, front-slice, behind-slice}
use Rattle.media_store.proofs.Outcomes.{OnErr-always}
use Rattle.media_store.proofs.store.Store.write_parts.Goals as goal

pub returns-in_err-write_at-clause-torn : goal.returns-in_err-write_at-clause-torn
returns-in_err-write_at-clause-torn g c =
    let long = length-take-le c.min.result c.loop-done.front.now (omega arith) in
    OnErr-always c.from_residual.result
    (torn-more c.args.at c.loop-done.done (length (take c.min.result c.loop-done.front.now)) c.args.count (take c.loop-done.done c.args.«data».now)
    (g.Self.Store.content c.args.self.now) (g.Self.Store.content c.write_at.new.self)
    (length-take-le c.loop-done.done c.args.«data».now (omega arith)) (omega (arith, long))
    (rw c.loop-done.invariant.content at c.in_err-write_at.ensures.torn))

pub loop-done-preserved : goal.loop-done-preserved
loop-done-preserved g c =
    let done = c.loop-done.done in
    let bytes = take c.min.result c.loop-done.front.now in
    let lies = c.loop-done.invariant.lies c.loop-done-test.true in
    let long : length bytes ≡ c.min.result = length-take-le c.min.result c.loop-done.front.now (omega arith) in
    let below : done + length bytes ≤ c.args.count = omega (arith, long) in
    let enough : done + length bytes ≤ length c.args.«data».now = omega (arith, below) in
    record {
      below = below;
      lies = λ again.
          let whole : length c.loop-done.front.now ≡ length bytes = omega (arith, long, again) in
          let rest : c.loop-done.behind ≡ drop (done + length bytes) c.args.«data».now =
          behind-slice done (length bytes) c.loop-done.front.now c.loop-done.behind c.args.«data».now lies.0 whole in
          let left : 0 < length c.loop-done.behind = rw rest (omega (arith, length-drop (done + length bytes) c.args.«data».now, again)) in
          (sym c.split_front.ensures.joined ∙ rest, c.split_front.ensures.some left);
      honest = c.in_ok-write_at.ensures.honest ∙ c.loop-done.invariant.honest;
      steady = c.in_ok-write_at.ensures.steady ∙ c.loop-done.invariant.steady;
      reach = c.in_ok-write_at.ensures.reach ∙ c.loop-done.invariant.reach;
      atomic = c.in_ok-write_at.ensures.atomic ∙ c.loop-done.invariant.atomic;
      failures = search rules;
      synced = λ _. c.in_ok-write_at.ensures.synced;
      content = c.in_ok-write_at.ensures.written ∙ rw c.loop-done.invariant.content
          (written-more c.args.at done (length bytes) bytes c.args.«data».now (g.Self.Store.content c.args.self.now) enough
          (rw long (front-slice done c.min.result c.loop-done.front.now c.loop-done.behind c.args.«data».now lies.0 (omega arith))));
    }
