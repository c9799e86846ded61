use Rattle.std.proofs.Common.{List, ℕ, ◌++◌, length, take, drop, sym, ap, ◌∙◌, arith}
use Rattle.std.proofs.lemmas.List.{length-take-le}
use Rattle.iscsi_pdu.specs.Frames.{Frame}
use Rattle.iscsi_exchange.specs.ExchangeState.{ExchangeState}
use Rattle.iscsi_exchange.proofs.GoingOn.{kept_on, sent_on, kept_told, sent_told, no_length, some_length}
use Rattle.iscsi_exchange.proofs.exchange.Exchange.go_on.Goals as goal

pub returns-then-is_empty-clause-told : goal.returns-then-is_empty-clause-told
returns-then-is_empty-clause-told c =
    let none = no_length _ _ c.due.ensures c.if-is_empty.ensures in
    kept_told c.args.self.now _ c.args.request.now c.args.params.now c.new-text.result.items
    (kept_on c.args.self.now c.args.request.now c.args.params.now c.requires none.0)
    (ap (λ (s : ExchangeState). s.is_open) c.self.view_is)
    (c.in_ok-extend_from_slice.ensures.items ∙ ap (λ (l : List ℕ). c.self.inside.kept.items ++ l) (c.as_slice.ensures.value ∙ ap (λ (f : Frame). f.body) c.request.view_is)
    ∙ ap (λ (s : ExchangeState). s.kept ++ c.args.request.now.body) c.self.view_is)
    (ap (λ (s : ExchangeState). s.due) c.self.view_is ∙ none.1) c.new-text.ensures.items

pub returns-then-is_empty-clause-text : goal.returns-then-is_empty-clause-text
returns-then-is_empty-clause-text c =
    let none = no_length _ _ c.due.ensures c.if-is_empty.ensures in
    rw ((kept_on c.args.self.now c.args.request.now c.args.params.now c.requires none.0).text, c.new-text.ensures.items) (omega arith)

pub slice_bounds-from_slice-end : goal.slice_bounds-from_slice-end
slice_bounds-from_slice-end c =
    let sent = sent_on c.args.self.now c.args.request.now c.args.params.now c.requires (some_length _ _ c.due.ensures c.if-is_empty.ensures) in
    sym (length-take-le c.piece_limit-limit.result c.due-2.result.now
    (rw c.due-2.ensures (omega (arith, sent.more, c.piece_limit-limit.ensures.value))))

pub skip-requires : goal.skip-requires
skip-requires c =
    let sent = sent_on c.args.self.now c.args.request.now c.args.params.now c.requires (some_length _ _ c.due.ensures c.if-is_empty.ensures) in
    omega (arith, sent.more, c.piece_limit-limit.ensures.value)

pub returns-clause-told : goal.returns-clause-told
returns-clause-told c =
    let sent = sent_on c.args.self.now c.args.request.now c.args.params.now c.requires (some_length _ _ c.due.ensures c.if-is_empty.ensures) in
    let skipped = c.self-2.view_is ∙ c.in_ok-skip.ensures.skipped in
    sent_told c.args.self.now _ c.args.request.now c.args.params.now c.in_ok-text.text.items sent
    (ap (λ (s : ExchangeState). s.is_open) skipped) c.new.ensures.items
    (ap (λ (s : ExchangeState). s.due) skipped ∙ ap (λ n. drop n c.args.self.now.due) c.piece_limit-limit.ensures.value)
    (c.in_ok-text.ensures.items ∙ ap (take c.piece_limit-limit.result) c.due-2.ensures ∙ ap (λ n. take n c.args.self.now.due) c.piece_limit-limit.ensures.value)

pub returns-clause-text : goal.returns-clause-text
returns-clause-text c =
    let sent = sent_on c.args.self.now c.args.request.now c.args.params.now c.requires (some_length _ _ c.due.ensures c.if-is_empty.ensures) in
    let few = length-take-le c.piece_limit-limit.result c.args.self.now.due (omega (arith, sent.more, c.piece_limit-limit.ensures.value)) in
    rw (sent.text) (ap length (c.in_ok-text.ensures.items ∙ ap (take c.piece_limit-limit.result) c.due-2.ensures) ∙ few ∙ c.piece_limit-limit.ensures.value)
