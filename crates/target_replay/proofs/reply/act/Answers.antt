use Rattle.std.proofs.Common.{◌∙◌, not, sym, ap}
use Rattle.target_replay.proofs.Comings.{fed}
use Rattle.target_replay.proofs.Joint.{open_same}
use Rattle.target_replay.proofs.Replies.{open_acts, bytes_act, gone_acts}
use Rattle.target_replay.proofs.reply.act.Goals as goal

pub returns-then-is_open-clause-allowed : goal.returns-then-is_open-clause-allowed
returns-then-is_open-clause-allowed g c =
    let lt = rw c.in-Open.is at c.requires in
    rw c.in-Open.is (λ s h stands. ap not (c.if-is_open.ensures ∙ open_same s _ _ c.args.target.now c.in-Open.c lt stands))

pub returns-then-not-is_open-clause-allowed : goal.returns-then-not-is_open-clause-allowed
returns-then-not-is_open-clause-allowed g c =
    let lt = rw c.in-Bytes.is at c.requires in
    rw c.in-Bytes.is (λ s h stands. c.if-not-is_open.ensures ∙ open_same s _ _ c.args.target.now c.in-Bytes.c lt stands)

pub returns-then-not-is_open-2-clause-allowed : goal.returns-then-not-is_open-2-clause-allowed
returns-then-not-is_open-2-clause-allowed g c =
    let lt = rw c.in-Gone.is at c.requires in
    rw c.in-Gone.is (λ s h stands. c.if-not-is_open-2.ensures ∙ open_same s _ _ c.args.target.now c.in-Gone.c lt stands)

pub returns-in_ok-open-in-Open-clause-allowed : goal.returns-in_ok-open-in-Open-clause-allowed
returns-in_ok-open-in-Open-clause-allowed g c =
    let lt = rw c.in-Open.is at c.requires in
    rw c.in-Open.is (λ s h stands. ap not (c.if-is_open.ensures ∙ open_same s _ _ c.args.target.now c.in-Open.c lt stands))

pub returns-in_ok-feed-in-Bytes-clause-allowed : goal.returns-in_ok-feed-in-Bytes-clause-allowed
returns-in_ok-feed-in-Bytes-clause-allowed g c =
    let lt = rw c.in-Bytes.is at c.requires in
    rw c.in-Bytes.is (λ s h stands. c.if-not-is_open.ensures ∙ open_same s _ _ c.args.target.now c.in-Bytes.c lt stands)

pub returns-else-not-is_open-2-clause-allowed : goal.returns-else-not-is_open-2-clause-allowed
returns-else-not-is_open-2-clause-allowed g c =
    let lt = rw c.in-Gone.is at c.requires in
    rw c.in-Gone.is (λ s h stands. c.if-not-is_open-2.ensures ∙ open_same s _ _ c.args.target.now c.in-Gone.c lt stands)

pub returns-in_ok-open-in-Open-clause-acted : goal.returns-in_ok-open-in-Open-clause-acted
returns-in_ok-open-in-Open-clause-acted g c =
    let lt = rw c.in-Open.is at c.requires in
    rw c.in-Open.is (λ _ kind is s h stands. open_acts kind s h c.in-Open.c c.args.target.now c.open.new.self lt (sym c.if-is_open.ensures)
    c.open.ensures.always stands)

pub returns-in_ok-feed-in-Bytes-clause-acted : goal.returns-in_ok-feed-in-Bytes-clause-acted
returns-in_ok-feed-in-Bytes-clause-acted g c =
    rw c.in-Bytes.is (λ _ kind is s h stands. bytes_act kind s h c.in-Bytes.c c.in-Bytes.piece.items c.feed.new.self
    (rw c.as_slice.ensures.value at (fed kind s _ h c.in-Bytes.c c.as_slice.result.now c.feed.new.self is (c.in_ok-feed-in-Bytes.ensures.came s _ h stands)
    (λ sound. c.in_ok-feed-in-Bytes.ensures.stands s _ h (λ _. stands) sound))))

pub returns-else-not-is_open-2-clause-acted : goal.returns-else-not-is_open-2-clause-acted
returns-else-not-is_open-2-clause-acted g c =
    rw c.in-Gone.is (λ _ kind is s h stands. gone_acts kind s h c.in-Gone.c c.args.target.now c.gone.new.self c.gone.ensures.always stands)
