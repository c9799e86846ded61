-- A relation between Worlds that each step keeps holds along all that a frame, and a piece of bytes, sets off.
use Rattle.std.proofs.Common.{◌≡◌, ℕ, List, [], ◌∷◌, Bool, true, false, cond, not, eqb, Option, Some, refl, arith}
use Rattle.std.specs.Prelude.{⊤}
use Rattle.std.specs.List.{AllByRecursion, fold}
use Rattle.iscsi_pdu.specs.Frames.{Frame}
use Rattle.iscsi_login.specs.Session.{is_same_target}
use Rattle.iscsi_session.specs.Requests.{Past}
use Rattle.iscsi_session.specs.Steps.{served, settled}
use Rattle.iscsi_world.specs.History.{Mark, Point, Arriving, AtEnd, Arrival, Whole, TooLong, connections}
use Rattle.iscsi_world.specs.Life.{Life, LoggingIn, FullFeature}
use Rattle.iscsi_world.specs.Laws.{LogsIn}
use Rattle.iscsi_world.specs.World.{Setting, World, present, past_of, reads_life, close, reaching, is_marked, take_step, log_in, fails, work_of, worked_on, worked, served_by, take_in, orders_in, function_of, reaches_others, losing, lost_by, lose_one, reset, carry_out, carry_out_for, settled_by, settle_one, settle, settle_for, serve, comes, arrive}

-- ---- a frame of a session

-- It is kept by the steps of a session, and by steps one after the other. Of the frame that a connection serves, and of its
-- target, this much is known.
pub record Walk (marks : List Mark) (R : World → World → Type 0) (IsKnown : ℕ → Frame → Type 0) (IsTarget : ℕ → Type 0) : Type 0 where
  pub same : (w : World) → R w w
  pub then_ : (w v u : World) → R w v → R v u → R w u
  pub serves : (c : ℕ) (past : Past) (frame : Frame) (place : ℕ) (w : World) → past_of (present c w) ≡ Some past
      → IsKnown c frame → R w (worked c (served (fails marks c) place frame (work_of past w)) w)
  pub settles : (c target : ℕ) (past : Past) (place : ℕ) (w : World) → past_of (present c w) ≡ Some past
      → is_same_target past.params.target (Some target) ≡ true → IsTarget target → R w (worked c (settled (fails marks c) place (work_of past w)) w)
  pub loses : (d target : ℕ) (past : Past) (header : List ℕ) (w : World) → past_of (present d w) ≡ Some past
      → is_same_target past.params.target (Some target) ≡ true → IsTarget target → R w (worked_on d (losing header (work_of past w)) w)
  pub resets : (header : List ℕ) (target : ℕ) (w : World) → IsTarget target → R w (reset header target w)

on-if : (R : World → World → Type 0) (b : Bool) (v u w : World) → (b ≡ true → R w v) → (b ≡ false → R w u) → R w (cond b v u)
on-if R b v u w on off = grind arith

module _ {marks : List Mark} {R : World → World → Type 0} {IsKnown : ℕ → Frame → Type 0} {IsTarget : ℕ → Type 0} (k : Walk marks R IsKnown IsTarget) where
  pub on-fold : {X : Type 0} (f : World → X → World) (w : World) (xs : List X) → ((v : World) (x : X) → R v (f v x)) → R w (fold f w xs)
  on-fold f w [] each = k.same w
  on-fold f w (x ∷ xs) each = k.then_ w (f w x) (fold f (f w x) xs) (each w x) (on-fold f (f w x) xs each)

  on-served_by : (o : Option Past) (c place : ℕ) (frame : Frame) (w : World) → past_of (present c w) ≡ o → IsKnown c frame
      → R w (served_by o marks c place frame w)
  on-served_by o c place frame w at known = grind arith

  pub on-take_in : (c place : ℕ) (frame : Frame) (w : World) → IsKnown c frame → R w (take_in marks c place frame w)
  unfolding take_in
  on-take_in c place frame w known = on-served_by (past_of (present c w)) c place frame w refl known

  on-lost_by : (o : Option Past) (header : List ℕ) (target d : ℕ) (w : World) → past_of (present d w) ≡ o → IsTarget target
      → R w (lost_by o header target d w)
  on-lost_by o header target d w at own = grind arith

  pub on-lose_one : (header : List ℕ) (target c : ℕ) (w : World) (d : ℕ) → IsTarget target → R w (lose_one header target c w d)
  unfolding lose_one
  on-lose_one header target c w d own = on-if R (eqb d c) w (lost_by (past_of (present d w)) header target d w) w (λ same. k.same w)
      (λ other. on-lost_by (past_of (present d w)) header target d w refl own)

  pub on-carry_out : (c target : ℕ) (w : World) (header : List ℕ) → IsTarget target → R w (carry_out c target w header)
  unfolding carry_out
  on-carry_out c target w header own =
      let v = fold (lose_one header target c) w connections in
      on-if R (reaches_others (function_of header)) (reset header target v) w w
      (λ yes. k.then_ w v (reset header target v) (on-fold (lose_one header target c) w connections (λ u d. on-lose_one header target c u d own))
      (k.resets header target v own)) (λ no. k.same w)

  pub on-carry_all : (c target : ℕ) (w : World) (headers : List (List ℕ)) → IsTarget target → R w (fold (carry_out c target) w headers)
  on-carry_all c target w headers own = on-fold (carry_out c target) w headers (λ v header. on-carry_out c target v header own)

  on-settled_by : (o : Option Past) (place target c : ℕ) (w : World) → past_of (present c w) ≡ o → IsTarget target
      → R w (settled_by o marks place target c w)
  on-settled_by o place target c w at own = grind arith

  pub on-settle_one : (place target : ℕ) (w : World) (c : ℕ) → IsTarget target → R w (settle_one marks place target w c)
  unfolding settle_one
  on-settle_one place target w c own = on-settled_by (past_of (present c w)) place target c w refl own

  on-settle : (place target : ℕ) (w : World) → IsTarget target → R w (settle marks place target w)
  unfolding settle
  on-settle place target w own = on-fold (settle_one marks place target) w connections (λ v c. on-settle_one place target v c own)

  -- of a session's target, where it has one
  pub on-carry_out_for : (c : ℕ) (o : Option ℕ) (headers : List (List ℕ)) (w : World) → ((target : ℕ) → o ≡ Some target → IsTarget target)
      → R w (carry_out_for c o headers w)
  on-carry_out_for c o headers w own = grind (arith, on-carry_all)

  pub on-settle_for : (place : ℕ) (o : Option ℕ) (w : World) → ((target : ℕ) → o ≡ Some target → IsTarget target)
      → R w (settle_for marks place o w)
  on-settle_for place o w own = grind (arith, on-settle)

  pub on-serve : (c place : ℕ) (o : Option ℕ) (frame : Frame) (w : World) → IsKnown c frame
      → ((target : ℕ) → o ≡ Some target → IsTarget target) → R w (serve marks c place o frame w)
  unfolding serve
  on-serve c place o frame w known own =
      let v = take_in marks c place frame w in
      let u = carry_out_for c o (orders_in marks c place frame w) v in
      k.then_ w v (settle_for marks place o u) (on-take_in c place frame w known)
      (k.then_ v u (settle_for marks place o u) (on-carry_out_for c o (orders_in marks c place frame w) v own) (on-settle_for place o u own))

-- ---- what becomes whole of a piece of bytes

-- any target
abbrev pub IsAny : ℕ → Type 0
IsAny target = ⊤

abbrev pub KnownArrival : (ℕ → Frame → Type 0) → ℕ → ℕ × Arrival → Type 0
KnownArrival IsKnown c (place, Whole frame) = IsKnown c frame
KnownArrival IsKnown c (place, TooLong) = ⊤

pub logs_there : (c : ℕ) (w : World) (life : Life) → present c w ≡ Some life → life.phase ≡ LoggingIn → LogsIn c w
logs_there c w life at is = grind arith

-- it is kept by what an arrival on this connection does in each phase
pub record EventWalk (s : Setting) (marks : List Mark) (c : ℕ) (R : World → World → Type 0) (IsKnown : ℕ → Frame → Type 0) : Type 0 where
  pub same : (w : World) → R w w
  pub then_ : (w v u : World) → R w v → R v u → R w u
  pub closes : (w : World) → R w (close c w)
  pub reaches : (points : List Point) (w : World) → R w (reaching c points w)
  pub logs_in : (request : Frame) (life : Life) (w : World) → present c w ≡ Some life → life.phase ≡ LoggingIn → R w (log_in s c request w)
  pub serves : (place : ℕ) (frame : Frame) (life : Life) (session : Past) (w : World) → present c w ≡ Some life → life.phase ≡ FullFeature session
      → IsKnown c frame → R w (serve marks c place session.params.target frame w)

module _ {s : Setting} {marks : List Mark} {c : ℕ} {R : World → World → Type 0} {IsKnown : ℕ → Frame → Type 0} (e : EventWalk s marks c R IsKnown) where
  on-comes : (place : ℕ) (arrival : Arrival) (w : World) → KnownArrival IsKnown c (place, arrival)
      → R w (comes s marks c place arrival w)
  on-comes place arrival w known = grind arith

  on-take_step : (point : Point) (act : World → World) (w : World) → ((v : World) → R v (act v)) → R w (take_step marks c point act w)
  unfolding take_step
  on-take_step point act w acts =
      let v = reaching c (point ∷ []) w in
      on-if R (not (reads_life (present c w))) w _ w (λ idle. e.same w)
      (λ reads. on-if R (is_marked marks c point) (close c v) (act v) w
      (λ marked. e.then_ w v (close c v) (e.reaches (point ∷ []) w) (e.closes v))
      (λ free. e.then_ w v (act v) (e.reaches (point ∷ []) w) (acts v)))

  pub on-arrive : (w : World) (arrival : ℕ × Arrival) → KnownArrival IsKnown c arrival → R w (arrive s marks c w arrival)
  unfolding arrive
  on-arrive w arrival known =
      on-take_step (Arriving arrival.0) (comes s marks c arrival.0 arrival.1) w (λ v. on-comes arrival.0 arrival.1 v known)

  pub on-arrivals : (w : World) (all : List (ℕ × Arrival)) → AllByRecursion (KnownArrival IsKnown c) all
      → R w (fold (arrive s marks c) w all)
  on-arrivals w [] known = e.same w
  on-arrivals w (a ∷ all) known =
      let v = arrive s marks c w a in
      e.then_ w v (fold (arrive s marks c) v all) (on-arrive w a known.0) (on-arrivals v all known.1)

  -- and the event's end
  pub on-brought : (w : World) (all : List (ℕ × Arrival)) → AllByRecursion (KnownArrival IsKnown c) all
      → R w (take_step marks c AtEnd (λ v. v) (fold (arrive s marks c) w all))
  on-brought w all known =
      let v = fold (arrive s marks c) w all in
      e.then_ w v (take_step marks c AtEnd (λ u. u) v) (on-arrivals w all known) (on-take_step AtEnd (λ u. u) v e.same)

-- ---- where nothing needs to be known

abbrev pub IsAnyFrame : ℕ → Frame → Type 0
IsAnyFrame c frame = ⊤

pub any_arrival : (c : ℕ) (arrival : ℕ × Arrival) → KnownArrival IsAnyFrame c arrival
any_arrival c arrival = grind arith

pub any_arrivals : (c : ℕ) (all : List (ℕ × Arrival)) → AllByRecursion (KnownArrival IsAnyFrame c) all
any_arrivals c [] = tt
any_arrivals c (a ∷ all) = (any_arrival c a, any_arrivals c all)
