use Rattle.std.proofs.Common.{◌≡◌, ap, sym, ◌∙◌, Some, not, length, ◌==◌, rules}
use Rattle.std.specs.Prelude.{nat_lt, option_map}
use Rattle.std.proofs.lemmas.Bool.{and_parts, eqb-true, lt-ltb}
use Rattle.std.specs.Duration.{as_nanos}
use Rattle.mio.specs.Events.{items}
use Rattle.iscsi_ports.specs.Polls.{waited_in}
use Rattle.iscsi_ports.specs.Spares.{wait_beside}
use Rattle.iscsi_ports.specs.Lingering.{place_of, turns_later, turns_for, is_at_once}
use Rattle.iscsi_ports.proofs.LingeringPlaces.{fewer}
use Rattle.iscsi_ports.proofs.Waiting.{shortly_a_second, limited_no_longer, limited_at_once}
use Rattle.iscsi_ports.proofs.mio_sockets.MioSocketsSocketCalls.poll.Goals as goal

pub returns-in-Err-clause-noted : goal.returns-in-Err-clause-noted
returns-in-Err-clause-noted c =
    let kept = length c.args.self.now.spares.buffers.items in
    let drained = option_map as_nanos c.drain-wait.result in
    let limited : option_map as_nanos c.wait_beside-wait.result ≡ wait_beside kept drained = c.wait_beside-wait.ensures in (
      option_map as_nanos c.wait_beside-wait.result,
      rw limited (limited_no_longer (nat_lt 0 kept) _ _ c.drain-wait.ensures.no_longer),
      λ rests.
          let both = and_parts _ (kept == 0) rests in
          limited ∙ ap (λ n. wait_beside n drained) (eqb-true kept 0 both.1)
          ∙ ap (option_map as_nanos) (c.drain-wait.ensures.as_told both.0),
      search rules,
    )

pub returns-clause-noted : goal.returns-clause-noted
returns-clause-noted c =
    let kept = length c.args.self.now.spares.buffers.items in
    let drained = option_map as_nanos c.drain-wait.result in
    let limited : option_map as_nanos c.wait_beside-wait.result ≡ wait_beside kept drained = c.wait_beside-wait.ensures in (
      option_map as_nanos c.wait_beside-wait.result,
      rw limited (limited_no_longer (nat_lt 0 kept) _ _ c.drain-wait.ensures.no_longer),
      λ rests.
          let both = and_parts _ (kept == 0) rests in
          limited ∙ ap (λ n. wait_beside n drained) (eqb-true kept 0 both.1)
          ∙ ap (option_map as_nanos) (c.drain-wait.ensures.as_told both.0),
      search rules,
    )

pub returns-in-Err-clause-shortly : goal.returns-in-Err-clause-shortly
returns-in-Err-clause-shortly c = λ some.
    rw (ap waited_in c.poll_failed.ensures, c.wait_beside-wait.ensures)
    (limited_no_longer (nat_lt 0 (length c.args.self.now.spares.buffers.items)) _ (Some 1000000000) (c.drain-wait.ensures.shortly some))

pub returns-clause-shortly : goal.returns-clause-shortly
returns-clause-shortly c = λ some.
    rw (ap waited_in c.polled.ensures, c.wait_beside-wait.ensures)
    (limited_no_longer (nat_lt 0 (length c.args.self.now.spares.buffers.items)) _ (Some 1000000000) (c.drain-wait.ensures.shortly some))

pub returns-in-Err-clause-shortly_with_spares : goal.returns-in-Err-clause-shortly_with_spares
returns-in-Err-clause-shortly_with_spares c = λ some.
    let is_kept = lt-ltb 0 (length c.args.self.now.spares.buffers.items) some in
    rw (ap waited_in c.poll_failed.ensures, c.wait_beside-wait.ensures, is_kept) (shortly_a_second (option_map as_nanos c.drain-wait.result))

pub returns-clause-shortly_with_spares : goal.returns-clause-shortly_with_spares
returns-clause-shortly_with_spares c = λ some.
    let is_kept = lt-ltb 0 (length c.args.self.now.spares.buffers.items) some in
    rw (ap waited_in c.polled.ensures, c.wait_beside-wait.ensures, is_kept) (shortly_a_second (option_map as_nanos c.drain-wait.result))

pub returns-in-Err-clause-drained : goal.returns-in-Err-clause-drained
returns-in-Err-clause-drained c =
    let at_once : is_at_once (waited_in c.poll_failed.new.self) ≡ is_at_once (option_map as_nanos c.drain-wait.result) =
    ap is_at_once (ap waited_in c.poll_failed.ensures ∙ c.wait_beside-wait.ensures)
    ∙ limited_at_once (nat_lt 0 (length c.args.self.now.spares.buffers.items)) (option_map as_nanos c.drain-wait.result) in
    rw at_once c.drain-wait.ensures.drains

pub returns-clause-lingering : goal.returns-clause-lingering
returns-clause-lingering c = λ d.
    fewer c.turns_of-turns.result c.args.self.now.lingering.places.items c.drain-wait.new.self.places.items
    c.count_turns.new.self.places.items c.args.self.now.lingering.notes c.drain-wait.new.self.notes _
    c.turns_of-turns.ensures.some c.drain-wait.ensures.drains d (c.count_turns.ensures.counts d)

pub returns-clause-idle : goal.returns-clause-idle
returns-clause-idle c =
    let waited : waited_in c.polled.new.self ≡ option_map as_nanos c.wait_beside-wait.result = ap waited_in c.polled.ensures in
    rw (waited, sym c.is_empty-met_event.ensures) c.drop_idle.ensures.idle

pub returns-clause-lingers : goal.returns-clause-lingers
returns-clause-lingers c =
    let waited : waited_in c.polled.new.self ≡ option_map as_nanos c.wait_beside-wait.result = ap waited_in c.polled.ensures in
    let turns : c.turns_of-turns.result ≡ turns_for (waited_in c.polled.new.self) (not (length (items c.poll.new.events) == 0)) =
    rw (waited, sym c.is_empty-met_event.ensures) c.turns_of-turns.ensures.value in
    let at_once : is_at_once (waited_in c.polled.new.self) ≡ is_at_once (option_map as_nanos c.drain-wait.result) =
    ap is_at_once (waited ∙ c.wait_beside-wait.ensures)
    ∙ limited_at_once (nat_lt 0 (length c.args.self.now.spares.buffers.items)) (option_map as_nanos c.drain-wait.result) in
    record {
      drained = c.drain-wait.new.self.places.items;
      reads = rw (at_once, c.count_turns.ensures.notes) c.drain-wait.ensures.drains;
      counted = λ d. c.count_turns.ensures.counts d ∙ ap (λ n. turns_later n (place_of d c.drain-wait.new.self.places.items)) turns;
    }
