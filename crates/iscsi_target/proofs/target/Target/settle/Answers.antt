use Rattle.std.proofs.Common.{◌≡◌, ℕ, ◌<◌, ◌≤◌, length, true, Some, sym, ap, ◌∙◌, subst, arith}
use Rattle.iscsi_world.specs.History.{connection_limit}
use Rattle.iscsi_world.specs.Machine.{Machine, link_at, is_settled}
use Rattle.iscsi_world.specs.Serving.{first_starved}
use Rattle.iscsi_world.proofs.Doing.{does_starved}
use Rattle.iscsi_world.proofs.Frames.{SettledBelow, none_settled, settled_next, all_settled}
use Rattle.iscsi_world.proofs.Skipping.{settled_skipped}
use Rattle.iscsi_world.proofs.Within.{within_none, within_then, within_as, within_starved}
use Rattle.iscsi_target.proofs.target.Target.settle.Goals as goal

pub loop-c-init : goal.loop-c-init
loop-c-init g c = (
  none_settled c.args.target c.args.self.now,
  within_none (Some c.args.target) c.args.self.now,
  c.requires,
  omega arith,
)

pub loop-c-preserved : goal.loop-c-preserved
loop-c-preserved g c =
    let target = c.args.target in
    let given = c.args.self.now in
    let middle = c.next_unsettled.new.self in
    let after = c.settle_one-settled.new.self in
    let starved = first_starved c.loop-c.outcome in
    let same : middle ≡ c.loop-c.self = c.next_unsettled.ensures.same in
    let found = c.in-Some.ensures.found in
    let links : length middle.links ≡ connection_limit = ap (λ (m : Machine). length m.links) same ∙ c.next_unsettled.ensures.count in
    let before : (d : ℕ) → c.loop-c.from ≤ d → d < c.in-Some.c → is_settled (link_at middle d).phase ≡ true =
    λ d from below. ap (λ (m : Machine). is_settled (link_at m d).phase) same ∙ c.in-Some.ensures.before d from below in
    let so_far = settled_skipped target c.loop-c.from c.in-Some.c starved given middle found.0 (omega (arith, found.1)) links before
    (subst (λ (m : Machine). SettledBelow target c.loop-c.from starved given m) (sym same) c.loop-c.invariant.0) in (
      does_starved _ _ _ _ _ _ _ (sym c.earlier_of-outcome.ensures)
          (settled_next target c.in-Some.c starved (first_starved c.settle_one-settled.result) given middle after
          (c.settle_one-settled.ensures.stays.moves 0).back so_far c.settle_one-settled.ensures.settles),
      within_starved (Some target) _ _ _ _ (sym c.earlier_of-outcome.ensures)
          (within_then (Some target) starved (first_starved c.settle_one-settled.result) given middle after
          (within_as (Some target) starved given c.loop-c.self middle (sym same) c.loop-c.invariant.1) c.settle_one-settled.ensures.stays),
      (let is = (c.settle_one-settled.ensures.stays.moves 0).units in
          let was = c.loop-c.invariant.2 in
          let kept : length middle.units ≡ length c.loop-c.self.units = ap (λ (m : Machine). length m.units) same in
          omega (arith, is, was, kept)),
      omega (arith, found.1),
    )

pub loop-c-smaller : goal.loop-c-smaller
loop-c-smaller g c = (let found = c.in-Some.ensures.found in omega (arith, found.0, found.1))

pub returns-clause-settles : goal.returns-clause-settles
returns-clause-settles g c =
    let target = c.args.target in
    let given = c.args.self.now in
    let after = c.next_unsettled.new.self in
    let starved = first_starved c.loop-c.outcome in
    let same : after ≡ c.loop-c.self = c.next_unsettled.ensures.same in
    let links : length after.links ≡ connection_limit = ap (λ (m : Machine). length m.links) same ∙ c.next_unsettled.ensures.count in
    let behind : (d : ℕ) → c.loop-c.from ≤ d → d < connection_limit → is_settled (link_at after d).phase ≡ true =
    λ d from below. ap (λ (m : Machine). is_settled (link_at m d).phase) same ∙ c.in_default.ensures.none d from below in
    all_settled target starved given after
    (settled_skipped target c.loop-c.from connection_limit starved given after c.loop-c.invariant.3 (omega arith) links behind
    (subst (λ (m : Machine). SettledBelow target c.loop-c.from starved given m) (sym same) c.loop-c.invariant.0))

pub returns-clause-stays : goal.returns-clause-stays
returns-clause-stays g c = within_as _ _ _ _ _ (sym c.next_unsettled.ensures.same) c.loop-c.invariant.1
