use Rattle.std.proofs.Common.{◌≡◌, ℕ, suc, List, length, true, Option, Some, None, refl, sym, ap, ◌∙◌, subst}
use Rattle.iscsi_login.specs.LoginState.{IsTargetBelow}
use Rattle.iscsi_login.specs.Session.{is_same_target}
use Rattle.scsi_unit.specs.Units.{UnitStates, AreSound, AreSure}
use Rattle.iscsi_world.specs.World.{units_at, carry_out_for}
use Rattle.iscsi_world.specs.Machine.{Machine, link_at, is_with}
use Rattle.iscsi_world.specs.Serving.{Preserves, CarriesOut, first_of, first_starved}
use Rattle.iscsi_world.proofs.Apart.{apart_then}
use Rattle.iscsi_world.proofs.Bounding.{adds_then}
use Rattle.iscsi_world.proofs.Doing.{does_starved}
use Rattle.iscsi_world.proofs.Frames.{finishes}
use Rattle.iscsi_world.proofs.Heavier.{apart_next}
use Rattle.iscsi_world.proofs.Moving.{moves_then, moves_starved, ended_units}
use Rattle.iscsi_world.proofs.SessionCalls.{session_in, is_called, link_only, serves_takes, called_moves, ended_moves, ended_called_apart, ended_adds}
use Rattle.iscsi_world.proofs.Within.{within_then}
use Rattle.iscsi_connection.specs.Arriving.{frame_of}
use Rattle.iscsi_target.proofs.target.Target.serve.Goals as goal

pub carry_out_for-requires : goal.carry_out_for-requires
carry_out_for-requires g c = subst (λ (n : ℕ). IsTargetBelow n c.target_at-target.result)
    (sym (ap (λ (m : Machine). length m.units) c.end_unless-served.ensures.same
    ∙ ended_units c.serve_session-goes_on.result c.args.c c.serve_session-goes_on.new.self
    ∙ ap (λ (m : Machine). length m.units) c.serve_session-goes_on.ensures.changes)) c.serve_session-goes_on.ensures.below

pub settle_for-settled-requires : goal.settle_for-settled-requires
settle_for-settled-requires g c = subst (λ (n : ℕ). IsTargetBelow n c.target_at-target.result)
    (sym ((c.carry_out_for.ensures.stays.moves 0).units ∙ ap (λ (m : Machine). length m.units) c.end_unless-served.ensures.same
    ∙ ended_units c.serve_session-goes_on.result c.args.c c.serve_session-goes_on.new.self
    ∙ ap (λ (m : Machine). length m.units) c.serve_session-goes_on.ensures.changes)) c.serve_session-goes_on.ensures.below

pub returns : goal.returns
returns g c =
    let given = c.args.self.now in
    let own = c.target_at-target.result in
    let call = c.serve_session-goes_on in
    let middle = call.new.self in
    let ended = c.end_unless-served.new.self in
    let carried = c.carry_out_for.new.self in
    let after = c.settle_for-settled.new.self in
    let failed = first_starved c.end_unless-served.result in
    let later = first_starved c.settle_for-settled.result in
    let at = session_in (link_at given c.args.c).phase c.requires.session in
    let k = is_called c.args.c own given middle c.requires.in_range call.ensures.count (at.0, at.1, at.2 ∙ sym c.target_at-target.ensures)
    (link_only given middle c.args.c own call.ensures.changes) in
    let l = call.ensures.calls.leaves at.0 at.1 in
    let units : middle.units ≡ given.units = ap (λ (m : Machine). m.units) call.ensures.changes in
    let first : Preserves c.args.c failed given ended = ended_moves c.args.c own given middle k l call.result c.args.c failed ended
    c.end_unless-served.ensures.value c.end_unless-served.ensures.same
    (called_moves c.args.c own given middle k l c.args.c call.ensures.below (λ other. absurd (other refl))
    (subst (λ (us : List UnitStates). AreSound (units_at own us)) units) (subst (λ (us : List UnitStates). AreSure (units_at own us)) (sym units))) in
    let carries = subst (λ (os : List (List ℕ)). CarriesOut (carry_out_for c.args.c own os) ended carried) c.as_slice.ensures.value
    c.carry_out_for.ensures.carries in
    let same : (target : ℕ) → is_with target (link_at given c.args.c).phase ≡ true → is_same_target own (Some target) ≡ true = λ target with_.
    ap (λ (o : Option ℕ). is_same_target o (Some target)) c.target_at-target.ensures ∙ with_ in
    let rest = within_then own None later ended carried after c.carry_out_for.ensures.stays c.settle_for-settled.ensures.stays in
    record {
      takes = does_starved _ _ _ _ _ _ _ (ap (λ (o : Option ℕ). first_of o later) (sym c.end_unless-served.ensures.value) ∙ sym c.earlier_of.ensures)
          (serves_takes call.result call.new.orders.items (frame_of c.args.arrived) c.args.c own given middle ended after later k call.ensures.changes l
          c.end_unless-served.ensures.same (rest.moves 0).back
          (finishes c.args.c own call.new.orders.items later ended carried after (c.settle_for-settled.ensures.stays.moves 0).back carries
          c.settle_for-settled.ensures.settles));
      moves = moves_starved c.args.c (first_of failed later) _ given after (sym c.earlier_of.ensures)
          (moves_then c.args.c failed later given ended after first (rest.moves c.args.c));
      part = λ target with_. apart_then target given ended after
          (ended_called_apart c.args.c own given middle k l call.result target ended (same target with_) c.end_unless-served.ensures.same)
          (rest.apart target (same target with_));
      loads = λ whole. adds_then 1 0 (link_at given c.args.c) (link_at ended c.args.c) (link_at after c.args.c)
          (ended_adds c.args.c own given middle k l call.result 1 ended c.end_unless-served.ensures.same
          (call.ensures.calls.loads (units_at own given.units) refl whole))
          ((rest.moves (suc c.args.c)).alters.eases c.args.c (apart_next c.args.c));
    }
