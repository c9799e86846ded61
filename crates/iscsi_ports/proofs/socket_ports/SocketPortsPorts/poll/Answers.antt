use Rattle.std.proofs.Common.{◌≡◌, true, false, sym, ap, rules, ◌∙◌}
use Rattle.std.specs.Prelude.{option_map}
use Rattle.std.specs.Duration.{as_nanos}
use Rattle.std.proofs.lemmas.Bool.{false≢true}
use Rattle.iscsi_ports.specs.Asking.{asks_now, rested, wait_now}
use Rattle.iscsi_ports.specs.Calls.{named_by}
use Rattle.iscsi_ports.specs.declared.readiness.Readiness.{Readiness}
use Rattle.iscsi_ports.proofs.Seeing.{seen_turns}
use Rattle.iscsi_ports.proofs.Fairness.{fair}
use Rattle.iscsi_ports.proofs.socket_ports.SocketPortsPorts.poll.Goals as goal

pub returns-then-not-asks-clause-fair : goal.returns-then-not-asks-clause-fair
returns-then-not-asks-clause-fair g c =
    let same : c.note_carried.new.self ≡ rested c.args.self.now = rw c.is_to_ask-asks.ensures.same at c.note_carried.ensures in
    fair false (rested c.args.self.now) c.note_carried.new.self c.name.new.self (ap (λ (r : Readiness). r.turns) same) c.name.ensures

pub returns-in-Ok-clause-fair : goal.returns-in-Ok-clause-fair
returns-in-Ok-clause-fair g c =
    let same : c.note_carried.new.self ≡ rested c.args.self.now = rw c.is_to_ask-asks.ensures.same at c.note_carried.ensures in
    let seen = seen_turns (g.K.SocketCalls.events c.poll-answer.new.self) c.note_carried.new.self in
    fair true (rested c.args.self.now) _ c.poll-answer.new.readiness (seen ∙ ap (λ (r : Readiness). r.turns) same) c.in-Ok.ensures.turn

pub returns-in-Ok-clause-asked : goal.returns-in-Ok-clause-asked
returns-in-Ok-clause-asked g c =
    let noted = c.poll-answer.ensures.noted in
    let limit : option_map as_nanos c.to_wait-wait.result ≡ wait_now c.args.self.now = search rules in
    λ _. (
      noted.0,
      rw limit at noted.1,
      λ rests. noted.2 (rw c.is_to_ask-asks.ensures.same rests) ∙ limit,
      (named_by c.poll-answer.result c.poll-answer.new.readiness.named, rw c.is_to_ask-asks.ensures.same at noted.3),
    )

pub returns-in-Err-clause-asked : goal.returns-in-Err-clause-asked
returns-in-Err-clause-asked g c =
    let noted = c.poll-answer.ensures.noted in
    let limit : option_map as_nanos c.to_wait-wait.result ≡ wait_now c.args.self.now = search rules in
    λ _. (
      noted.0,
      rw limit at noted.1,
      λ rests. noted.2 (rw c.is_to_ask-asks.ensures.same rests) ∙ limit,
      (named_by c.poll-answer.result c.poll-answer.new.readiness.named, rw c.is_to_ask-asks.ensures.same at noted.3),
    )

pub returns-then-not-asks-clause-known : goal.returns-then-not-asks-clause-known
returns-then-not-asks-clause-known g c = search rules

pub returns-then-not-asks-clause-asked : goal.returns-then-not-asks-clause-asked
returns-then-not-asks-clause-asked g c = λ asks.
    absurd (false≢true (sym c.if-not-asks.true ∙ c.is_to_ask-asks.ensures.asks ∙ asks))

pub returns-then-not-asks-clause-after_asking : goal.returns-then-not-asks-clause-after_asking
returns-then-not-asks-clause-after_asking g c = λ asks.
    absurd (false≢true (sym c.if-not-asks.true ∙ c.is_to_ask-asks.ensures.asks ∙ asks))

pub returns-then-not-asks-clause-turn : goal.returns-then-not-asks-clause-turn
returns-then-not-asks-clause-turn g c = λ asks.
    absurd (false≢true (sym c.if-not-asks.true ∙ c.is_to_ask-asks.ensures.asks ∙ asks))

pub returns-in-Ok-clause-unasked : goal.returns-in-Ok-clause-unasked
returns-in-Ok-clause-unasked g c = λ rests.
    let asks : asks_now c.restart.new.self.has_passed c.args.self.now ≡ true =
    ap (λ passed. asks_now passed c.args.self.now) c.restart.ensures ∙ sym c.is_to_ask-asks.ensures.asks ∙ c.if-not-asks.false in
    absurd (false≢true (sym rests ∙ asks))

pub returns-in-Ok-clause-after_naming : goal.returns-in-Ok-clause-after_naming
returns-in-Ok-clause-after_naming g c = λ rests.
    let asks : asks_now c.restart.new.self.has_passed c.args.self.now ≡ true =
    ap (λ passed. asks_now passed c.args.self.now) c.restart.ensures ∙ sym c.is_to_ask-asks.ensures.asks ∙ c.if-not-asks.false in
    absurd (false≢true (sym rests ∙ asks))

pub returns-in-Ok-clause-known : goal.returns-in-Ok-clause-known
returns-in-Ok-clause-known g c = λ rests.
    let asks : asks_now c.restart.new.self.has_passed c.args.self.now ≡ true =
    ap (λ passed. asks_now passed c.args.self.now) c.restart.ensures ∙ sym c.is_to_ask-asks.ensures.asks ∙ c.if-not-asks.false in
    absurd (false≢true (sym rests ∙ asks))

pub returns-in-Err-clause-unasked : goal.returns-in-Err-clause-unasked
returns-in-Err-clause-unasked g c = λ rests.
    let asks : asks_now c.restart.new.self.has_passed c.args.self.now ≡ true =
    ap (λ passed. asks_now passed c.args.self.now) c.restart.ensures ∙ sym c.is_to_ask-asks.ensures.asks ∙ c.if-not-asks.false in
    absurd (false≢true (sym rests ∙ asks))

pub returns-in-Err-clause-after_naming : goal.returns-in-Err-clause-after_naming
returns-in-Err-clause-after_naming g c = λ rests.
    let asks : asks_now c.restart.new.self.has_passed c.args.self.now ≡ true =
    ap (λ passed. asks_now passed c.args.self.now) c.restart.ensures ∙ sym c.is_to_ask-asks.ensures.asks ∙ c.if-not-asks.false in
    absurd (false≢true (sym rests ∙ asks))

pub returns-in-Err-clause-known : goal.returns-in-Err-clause-known
returns-in-Err-clause-known g c = λ rests.
    let asks : asks_now c.restart.new.self.has_passed c.args.self.now ≡ true =
    ap (λ passed. asks_now passed c.args.self.now) c.restart.ensures ∙ sym c.is_to_ask-asks.ensures.asks ∙ c.if-not-asks.false in
    absurd (false≢true (sym rests ∙ asks))
