-- What the Task Management Functions of one session do to the rest of its target, as calls of the target.
use Rattle.std.proofs.Common.{◌≡◌, ℕ, ◌+◌, ◌<◌, List, [], ◌∷◌, ◌++◌, ◌≤◌, length, take, get_or, Bool, true, false, not, eqb, Some, None, refl, sym, ap, ◌∙◌, arith}
use Rattle.std.specs.Prelude.{◌==◌}
use Rattle.std.specs.List.{fold, range_with_len}
use Rattle.std.proofs.lemmas.Bool.{eq-eqb}
use Rattle.std.proofs.lemmas.List.{append-nil, get_or-set_other, take_all, take_more}
use Rattle.std.proofs.lemmas.List.Sums.{fold-append}
use Rattle.iscsi_pdu.specs.Header.{lun_field}
use Rattle.iscsi_login.specs.Session.{is_same_target}
use Rattle.scsi_unit.specs.Units.{UnitStates}
use Rattle.iscsi_session.specs.Comings.{Coming, lend}
use Rattle.iscsi_session.specs.Requests.{Past, removing}
use Rattle.iscsi_session.specs.State.{SessionState, Stands}
use Rattle.iscsi_session.specs.Steps.{Work}
use Rattle.iscsi_session.specs.Runs.{output, Starts, Leaves, Runs}
use Rattle.iscsi_world.specs.History.{connection_limit, connections}
use Rattle.iscsi_world.specs.World.{Setting, World, present, past_of, units_at, changed_units, work_of, worked, function_of, reaches_others, lost, told_by, told_loss, losing, lost_by, lose_one, reset_by, reset, carry_out}
use Rattle.iscsi_world.specs.Machine.{Machine, KeepsApart, link_at, is_with}
use Rattle.iscsi_world.specs.SessionCalls.{LeavesSession, LosesCommands}
use Rattle.iscsi_world.specs.Stands.{machine_with}
use Rattle.iscsi_world.specs.Serving.{Serves, Preserves, StaysWithin, CarriesOut, kept, is_of_none}
use Rattle.iscsi_world.proofs.Choices.{cond_true, cond_false}
use Rattle.iscsi_world.proofs.Lists.{range_next}
use Rattle.iscsi_world.proofs.Lives.{present-lives}
use Rattle.iscsi_world.proofs.Walks.{on-fold, on-lose_one, on-carry_out, on-carry_all}
use Rattle.iscsi_world.proofs.Keeping.{Prolongs, goes_walk, on-reset}
use Rattle.iscsi_world.proofs.Comings.{comings_reset}
use Rattle.iscsi_world.proofs.Doing.{does_nothing, does_as, does_on, does_then}
use Rattle.iscsi_world.proofs.AtWork.{IsCalled, call_does}
use Rattle.iscsi_world.proofs.SessionCalls.{IsElsewhere, elsewhere}
use Rattle.iscsi_world.proofs.Moving.{alters_same}
use Rattle.iscsi_world.proofs.Sound.{reset_back, reset_sure, reset_units}

-- ---- one session loses commands

-- where its call left it
pub losing_leaves : (header : List ℕ) (work : Work) (state then_ : SessionState) (waiting : List ℕ) (units units_then : UnitStates) (comings : List Coming)
    → Starts work state (lend units comings)
    → Stands (removing (lost header units work.past) work.past) then_ → units_then ≡ told_loss header work.past units
    → Leaves work (losing header work) then_ (output waiting []) (output waiting []) (lend units_then comings)
losing_leaves header work state then_ waiting units units_then comings begin stands told = grind (arith, append-nil)

pub losing_runs : (header : List ℕ) (state then_ : SessionState) (waiting : List ℕ) (units units_then : UnitStates)
    → ((past : Past) → Stands past state → Stands (removing (lost header units past) past) then_)
    → ((past : Past) → Stands past state → units_then ≡ told_loss header past units)
    → (comings : List Coming)
    → Runs (λ fails place work. losing header work) None true state then_ (output waiting []) (output waiting []) (lend units comings) (lend units_then comings)
losing_runs header state then_ waiting units units_then stands told comings = record {
  leads = λ place fails work agree begin.
      (let s : Stands work.past state = record { lawful = begin.lawful; remembered = begin.remembered } in
      losing_leaves header work state then_ waiting units units_then comings begin (stands work.past s) (told work.past s));
  ends = λ place fails work agree begin. begin.goes_on;
  reached = λ place fails work agree begin. tt;
}

-- ---- the session of connection c itself, and what is no session of the target

own_same : (header : List ℕ) (target c d : ℕ) (w : World) → d ≡ c → lose_one header target c w d ≡ w
unfolding lose_one
own_same header target c d w e = cond_true (eqb d c) w (lost_by (past_of (present d w)) header target d w) (eq-eqb d c e)

pub loses_own : (machine : Machine) (header : List ℕ) (target c d : ℕ) → d ≡ c → CarriesOut (λ w. lose_one header target c w d) machine machine
loses_own machine header target c d e = grind (arith, does_nothing, own_same)

lose_other : (header : List ℕ) (target c d : ℕ) (w : World) → IsElsewhere target (past_of (present d w)) → lose_one header target c w d ≡ w
unfolding lose_one
lose_other header target c d w other = grind arith

pub loses_none : (machine : Machine) (header : List ℕ) (target c d : ℕ) → d < connection_limit → is_with target (link_at machine d).phase ≡ false
    → CarriesOut (λ w. lose_one header target c w d) machine machine
loses_none machine header target c d lt other = grind (arith, does_nothing, lose_other, elsewhere)

-- ---- another session of the target

lose_acts : (header : List ℕ) (target c d : ℕ) (w : World) (past : Past) → eqb d c ≡ false → past_of (present d w) ≡ Some past
    → past.params.target ≡ Some target → lose_one header target c w d ≡ worked d (losing header (work_of past w)) w
unfolding lose_one worked
lose_acts header target c d w past other at same = grind arith

pub loses_called : (header : List ℕ) (target c d : ℕ) (given after : Machine) (k : IsCalled d (Some target) given after) → eqb d c ≡ false
    → LeavesSession (λ then_ waiting. LosesCommands header (units_at (Some target) given.units) (units_at (Some target) after.units) k.session then_
    (link_at given d).waiting waiting) k.session (link_at given d) (link_at after d)
    → CarriesOut (λ w. lose_one header target c w d) given after
loses_called header target c d given after k other l =
    call_does (λ fails place. losing header) None true [] d (Some target) given after after k (record {
      session = l.session;
      is = l.is;
      params = l.params;
      grows = l.grows;
      does = record { came = []; own = tt; leads = λ comings ahead. l.does comings; plain = λ sound. tt };
    }) refl is_of_none (λ s marks place w. lose_one header target c w d)
    (λ s marks place w past there own. lose_acts header target c d w past other there own)
    (λ place marks work agree. refl) (λ place. refl)

-- ---- one after the other

pub carried_then : (f g : World → World) (given middle after : Machine) → ((w : World) → Prolongs w (f w)) → ((w : World) → Prolongs w (g w))
    → Preserves 0 None middle after
    → CarriesOut f given middle → CarriesOut g middle after → CarriesOut (λ w. g (f w)) given after
carried_then f g given middle after goes further moves first second =
    does_then is_of_none is_of_none is_of_none (λ s marks place w. f w) (λ s marks place w. g w) kept kept None None given middle after
    (λ place mark e. refl) (λ place mark e. refl) (λ place mark e. e) (λ place mark e. e) moves.back (λ s marks place w. goes w) (λ s marks place w. further w)
    first second

pub carried_as : (f g : World → World) (given after : Machine) → ((w : World) → g w ≡ f w) → CarriesOut f given after → CarriesOut g given after
carried_as f g given after same d =
    does_as is_of_none (λ s marks place w. f w) (λ s marks place w. g w) kept None given after (λ s sent half w place marks h. same w) d

pub carried_on : (f : World → World) (a b given after : Machine) → a ≡ given → b ≡ after → CarriesOut f a b → CarriesOut f given after
carried_on f a b given after e u d = does_on is_of_none (λ s marks place w. f w) kept None a b given after e u d

pub carried_none : (machine : Machine) → CarriesOut (λ w. w) machine machine
carried_none machine = does_nothing is_of_none (λ s marks place w. w) kept machine machine (λ s sent half w place marks agree h. (h, refl))

-- the sessions of the connections below one
abbrev pub lost_below : List ℕ → ℕ → ℕ → ℕ → World → World
lost_below header target c n w = fold (lose_one header target c) w (range_with_len 0 n)

pub none_lost : (header : List ℕ) (target c : ℕ) (machine : Machine) → CarriesOut (lost_below header target c 0) machine machine
none_lost header target c machine = carried_none machine

pub lost_next : (header : List ℕ) (target c d : ℕ) (given middle after : Machine) → Preserves 0 None middle after
    → CarriesOut (lost_below header target c d) given middle → CarriesOut (λ w. lose_one header target c w d) middle after
    → CarriesOut (lost_below header target c (d + 1)) given after
lost_next header target c d given middle after moves so_far one =
    carried_as (λ w. lose_one header target c (lost_below header target c d w) d) (lost_below header target c (d + 1)) given after
    (λ w. ap (fold (lose_one header target c) w) (range_next d) ∙ fold-append (lose_one header target c) w (range_with_len 0 d) (d ∷ []))
    (carried_then (lost_below header target c d) (λ w. lose_one header target c w d) given middle after
    (λ w. on-fold (goes_walk []) (lose_one header target c) w (range_with_len 0 d) (λ v e. on-lose_one (goes_walk []) header target c v e tt))
    (λ w. on-lose_one (goes_walk []) header target c w d tt) moves so_far one)

-- ---- a reset is told

machine_reset : (s : Setting) (sent : ℕ → ℕ) (half : ℕ → List ℕ) (w : World) (units : List UnitStates)
    → machine_with s sent half (record w { units = units }) ≡ record (machine_with s sent half w) { units = units }
unfolding machine_with present
machine_reset s sent half w units = refl

-- the target with the units that were told
abbrev pub reset_machine : List ℕ → ℕ → Machine → Machine
reset_machine header target machine =
    record machine { units = changed_units (reset_by (function_of header) (lun_field header)) (Some target) machine.units }

reset_serves : (s : Setting) (sent : ℕ → ℕ) (half : ℕ → List ℕ) (w : World) (machine : Machine) (header : List ℕ) (target : ℕ)
    → Serves s sent half w machine → Serves s sent half (reset header target w) (reset_machine header target machine)
unfolding reset
reset_serves s sent half w machine header target h = grind (arith, machine_reset, present-lives)

pub reset_does : (machine : Machine) (header : List ℕ) (target : ℕ) → CarriesOut (reset header target) machine (reset_machine header target machine)
reset_does machine header target = does_nothing is_of_none (λ s marks place w. reset header target w) kept machine (reset_machine header target machine)
    (λ s sent half w place marks agree h. (reset_serves s sent half w machine header target h, comings_reset header target w))

reset_moves : (b : ℕ) (machine : Machine) (header : List ℕ) (target : ℕ) → Preserves b None machine (reset_machine header target machine)
reset_moves b machine header target = search (arith, alters_same, reset_back, reset_sure, reset_units)

reset_apart : (machine : Machine) (header : List ℕ) (target t : ℕ) → is_same_target (Some target) (Some t) ≡ true
    → KeepsApart t machine (reset_machine header target machine)
unfolding changed_units
reset_apart machine header target t e = grind (arith, get_or-set_other)

pub reset_stays : (machine : Machine) (header : List ℕ) (target : ℕ) → StaysWithin (Some target) None machine (reset_machine header target machine)
reset_stays machine header target = search (arith, reset_apart, reset_moves)

-- ---- a function

pub carried_reset : (header : List ℕ) (c target : ℕ) (given middle after : Machine) → reaches_others (function_of header) ≡ true → Preserves 0 None middle after
    → CarriesOut (λ w. fold (lose_one header target c) w connections) given middle → CarriesOut (reset header target) middle after
    → CarriesOut (λ w. carry_out c target w header) given after
unfolding carry_out
carried_reset header c target given middle after reaches moves lose told =
    carried_as (λ w. reset header target (fold (lose_one header target c) w connections)) (λ w. carry_out c target w header) given after
    (λ w. cond_true (reaches_others (function_of header)) _ w reaches)
    (carried_then (λ w. fold (lose_one header target c) w connections) (reset header target) given middle after
    (λ w. on-fold (goes_walk []) (lose_one header target c) w connections (λ v e. on-lose_one (goes_walk []) header target c v e tt))
    (λ w. on-reset header target w) moves lose told)

pub not_carried : (header : List ℕ) (c target : ℕ) (machine : Machine) → reaches_others (function_of header) ≡ false
    → CarriesOut (λ w. carry_out c target w header) machine machine
unfolding carry_out
not_carried header c target machine other = search (arith, cond_false, carried_none)

-- ---- one after the other

pub carried_next : (c target : ℕ) (headers : List (List ℕ)) (i : ℕ) (header : List ℕ) (given middle after : Machine) → i < length headers
    → header ≡ get_or headers i header → Preserves 0 None middle after → CarriesOut (λ w. fold (carry_out c target) w (take i headers)) given middle
    → CarriesOut (λ w. carry_out c target w header) middle after
    → CarriesOut (λ w. fold (carry_out c target) w (take (i + 1) headers)) given after
carried_next c target headers i header given middle after lt is moves so_far one =
    carried_as (λ w. carry_out c target (fold (carry_out c target) w (take i headers)) header)
    (λ w. fold (carry_out c target) w (take (i + 1) headers)) given after
    (λ w. ap (fold (carry_out c target) w) (take_more headers i header lt
    ∙ ap (λ (h : List ℕ). take i headers ++ h ∷ []) (sym is)) ∙ fold-append (carry_out c target) w (take i headers) (header ∷ []))
    (carried_then (λ w. fold (carry_out c target) w (take i headers)) (λ w. carry_out c target w header) given middle after
    (λ w. on-carry_all (goes_walk []) c target w (take i headers) tt) (λ w. on-carry_out (goes_walk []) c target w header tt) moves so_far one)

pub carried_all : (c target : ℕ) (headers : List (List ℕ)) (i : ℕ) (given after : Machine) → length headers ≤ i
    → CarriesOut (λ w. fold (carry_out c target) w (take i headers)) given after → CarriesOut (λ w. fold (carry_out c target) w headers) given after
carried_all c target headers i given after whole d = grind (arith, carried_as, take_all)

-- ---- what a session that lost commands is told

pub told_some : (header : List ℕ) (past : Past) (units units_then : UnitStates) (b : Bool) → b ≡ not (length (lost header units past) == 0) → b ≡ true
    → units_then ≡ told_by (function_of header) (lun_field header) past.params.nexus units → units_then ≡ told_loss header past units
told_some header past units units_then b e is told = grind arith

pub told_none : (header : List ℕ) (past : Past) (units : UnitStates) (b : Bool) → b ≡ not (length (lost header units past) == 0) → b ≡ false
    → units ≡ told_loss header past units
told_none header past units b e is = grind arith
