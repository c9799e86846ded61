-- What events leave of the turns.
use Rattle.std.proofs.Common.{◌≡◌, List, [], ◌∷◌, Bool, true, false, fold, refl, ◌∙◌}
use Rattle.std.specs.Prelude.{nat_lt, ◌==◌}
use Rattle.mio.specs.declared.event.event.Event.{Event}
use Rattle.mio.specs.Event.{event_token}
use Rattle.target_limits.specs.Numbers.{connection_limit}
use Rattle.iscsi_ports.specs.Readiness.{after_event}
use Rattle.iscsi_ports.specs.declared.readiness.Readiness.{Readiness}

after_one : (readiness : Readiness) (event : Event) → (after_event readiness event).turns ≡ readiness.turns
after_one readiness event = go ((event_token event).0 == connection_limit) (nat_lt (event_token event).0 connection_limit) refl refl
  where
    go : (b c : Bool) → ((event_token event).0 == connection_limit) ≡ b → nat_lt (event_token event).0 connection_limit ≡ c
        → (after_event readiness event).turns ≡ readiness.turns
    go true c e f = rw e refl
    go false true e f = rw (e, f) refl
    go false false e f = rw (e, f) refl

pub seen_turns : (events : List Event) (readiness : Readiness) → (fold after_event readiness events).turns ≡ readiness.turns
seen_turns [] readiness = refl
seen_turns (event ∷ events) readiness = seen_turns events (after_event readiness event) ∙ after_one readiness event
