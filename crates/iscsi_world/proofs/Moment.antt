-- Between two events nothing is due in any session.
use Rattle.std.proofs.Common.{◌≡◌, ℕ, zero, suc, ◌+◌, ◌<◌, List, [], ◌∷◌, Bool, true, false, cond, Option, Some, None, refl, sym, ap, ◌∙◌, subst, inl, inr, arith, ◌≤◌}
use Rattle.std.specs.Prelude.{◌⊎◌}
use Rattle.std.specs.List.{fold, range_with_len}
use Rattle.std.proofs.lemmas.List.Sums.{fold-append}
use Rattle.iscsi_pdu.specs.Frames.{Frame}
use Rattle.iscsi_login.specs.Session.{is_same_target}
use Rattle.iscsi_login.specs.declared.session_params.SessionParams.{SessionParams}
use Rattle.iscsi_session.specs.Requests.{Past, begun as begun_past}
use Rattle.iscsi_session.specs.Requests as requests
use Rattle.iscsi_session.specs.State.{IsLawful}
use Rattle.iscsi_session.specs.Laws.{NothingIsDue}
use Rattle.iscsi_session.specs.Steps.{Work, ready, served, settled}
use Rattle.iscsi_session.proofs.Due.{nothing_stays_due}
use Rattle.iscsi_session.proofs.Lawful.{steps_are_lawful}
use Rattle.iscsi_session.proofs.Steps.{served_extends}
use Rattle.iscsi_world.specs.History.{Mark, connection_limit}
use Rattle.iscsi_world.specs.World.{World, present, past_of, world, fails, work_of, worked, served_by, take_in, orders_in, lost, carry_out_for, settled_by, settle_one, settle, serve}
use Rattle.iscsi_world.specs.Moment.{IsAtRest, SessionsAreAtRest}
use Rattle.iscsi_world.proofs.Choices.{eqb_self}
use Rattle.iscsi_world.proofs.Framed.{Fits}
use Rattle.iscsi_world.proofs.Lawful.{lost_lawful}
use Rattle.iscsi_world.proofs.Lists.{range_next}
use Rattle.iscsi_world.proofs.EachSession.{Each, each_past, each_now, each_as, each_worked, each_walk, each_world}
use Rattle.iscsi_world.proofs.Walks.{Walk, IsAny, on-carry_out_for, on-serve}

-- ---- nothing has to act, to be sent or to be answered

abbrev IsIdle : ℕ → Past → Type 0
IsIdle d past = IsLawful past × NothingIsDue past

idle_walk : (marks : List Mark) → Walk marks (λ w v. Each IsIdle w → Each IsIdle v) (λ c frame. Fits frame) IsAny
idle_walk marks = each_walk IsIdle marks
    (λ c place frame work fits idle on. (
      steps_are_lawful.served (fails marks c) place frame work fits idle.0,
      nothing_stays_due.served (fails marks c) place frame work fits idle.0 idle.1 on,
    ))
    (λ c target place work own idle on. (
      steps_are_lawful.settled (fails marks c) place work idle.0,
      nothing_stays_due.settled (fails marks c) place work idle.0 idle.1,
    ))
    (λ d target header work same own idle. (
      lost_lawful header work idle.0,
      nothing_stays_due.removed (lost header work.units.states work.past) work.past idle.1,
    ))

-- ---- no command can be done

abbrev IsReady : Past → Type 0
IsReady past = ready past ≡ []

module _ (marks : List Mark) (place target : ℕ) where
  -- the session is one of this target, or none of its commands can be done; and none of those below connection n can
  abbrev Below : ℕ → ℕ → Past → Type 0
  Below n d past = IsLawful past × (d < connection_limit → (is_same_target past.params.target (Some target) ≡ true) ⊎ IsReady past)
      × (d < n → IsReady past)

  losing_walk : Walk [] (λ w v. Each (Below 0) w → Each (Below 0) v) (λ c frame. ⊥) (λ other. other ≡ target)
  losing_walk = each_walk (Below 0) []
      (λ c p frame work known below on. absurd known)
      (λ c other p work own below on. (let done = nothing_stays_due.done (fails [] c) p work below.0 on in
      (steps_are_lawful.settled (fails [] c) p work below.0, λ lt. inr done, λ lt. done)))
      (λ d other header work same own below. (
        lost_lawful header work below.0,
        λ lt. inl (ap (λ (t : ℕ). is_same_target work.past.params.target (Some t)) (sym own) ∙ same),
        λ lt. absurd (omega (arith, lt)),
      ))

  one_more : (n d : ℕ) (past : Past) → Below n d past → (d ≡ n → IsReady past) → Below (suc n) d past
  one_more n d past below here = grind arith

  module _ (n : ℕ) (w : World) (each : Each (Below n) w) (in_range : n < connection_limit) where
    unsettled : ((past : Past) → past_of (present n w) ≡ Some past → IsReady past) → Each (Below (suc n)) w
    unsettled here = each_now (Below n) (Below (suc n)) w each (λ d past is. one_more n d past (each_past (Below n) d w past each is)
        (λ same. here past (ap (λ (k : ℕ). past_of (present k w)) (sym same) ∙ is)))

    elsewhere : (past found : Past) → past ≡ found → is_same_target past.params.target (Some target) ≡ false
        → (is_same_target found.params.target (Some target) ≡ true) ⊎ IsReady found → IsReady found
    elsewhere past found same other ready = grind arith

    same_past : (x y : Past) → Some x ≡ Some y → x ≡ y
    same_past x y e = cc

    own_by : (b : Bool) (past : Past) → is_same_target past.params.target (Some target) ≡ b → past_of (present n w) ≡ Some past
        → Each (Below (suc n)) (cond b (worked n (settled (fails marks n) place (work_of past w)) w) w)
    own_by true past own at =
        let lawful = (each_past (Below n) n w past each at).0 in
        each_worked (Below n) (Below (suc n)) n w (λ d found differ below. one_more n d found below (λ same. absurd (differ same))) each _
        (λ on. (let done = nothing_stays_due.done (fails marks n) place (work_of past w) lawful on in
        (steps_are_lawful.settled (fails marks n) place (work_of past w) lawful, λ lt. inr done, λ lt. done)))
    own_by false past own at = unsettled (λ found is. elsewhere past found (same_past past found (sym at ∙ is)) own
        ((each_past (Below n) n w found each is).1 in_range))

    settled_here : (o : Option Past) → past_of (present n w) ≡ o → Each (Below (suc n)) (settled_by o marks place target n w)
    settled_here None at = unsettled (λ found is. absurd (cc (at, is)))
    settled_here (Some past) at = own_by (is_same_target past.params.target (Some target)) past refl at

    -- the session of one connection is settled
    one_ready : Each (Below (suc n)) (settle_one marks place target w n)
    unfolding settle_one
    one_ready = settled_here (past_of (present n w)) refl

  all_ready : (n : ℕ) (w : World) → n ≤ connection_limit → Each (Below 0) w → Each (Below n) (fold (settle_one marks place target) w (range_with_len 0 n))
  all_ready zero w le each = each
  all_ready (suc n) w le each =
      let one_more : suc n ≡ n + 1 = omega arith in
      let next : fold (settle_one marks place target) w (range_with_len 0 (suc n))
      ≡ settle_one marks place target (fold (settle_one marks place target) w (range_with_len 0 n)) n =
      ap (λ (k : ℕ). fold (settle_one marks place target) w (range_with_len 0 k)) one_more ∙ ap (fold (settle_one marks place target) w) (range_next n)
      ∙ fold-append (settle_one marks place target) w (range_with_len 0 n) (n ∷ []) in
      subst (Each (Below (suc n))) (sym next) (one_ready n _ (all_ready n w (omega (arith, le)) each) (omega (arith, le)))

  settle_ready : (w : World) → Each (Below 0) w → Each (Below connection_limit) (settle marks place target w)
  unfolding settle
  settle_ready w each = all_ready connection_limit w (omega arith) each

-- ---- a frame of a session

-- between two events: nothing is due, and no command can be done
abbrev Rests : ℕ → Past → Type 0
Rests d past = IsIdle d past × (d < connection_limit → IsReady past)

begun_ready : (session : SessionParams) → IsReady (begun_past session)
unfolding ready requests.queue requests.left
begun_ready session = refl

module _ (marks : List Mark) (c place : ℕ) (frame : Frame) (past : Past) (w : World) (at : past_of (present c w) ≡ Some past) (fits : Fits frame)
    (rest : Each Rests w) where
  abbrev work : Work
  work = served (fails marks c) place frame (work_of past w)

  here : Rests c past
  here = each_past Rests c w past rest at

  lawful : IsLawful work.past
  lawful = steps_are_lawful.served (fails marks c) place frame (work_of past w) fits here.0.0

  taken_is : take_in marks c place frame w ≡ worked c work w
  unfolding take_in
  taken_is = ap (λ (o : Option Past). served_by o marks c place frame w) at

  abbrev AreReady : ℕ → Past → Type 0
  AreReady d found = d < connection_limit → IsReady found

  serve_ready : (o : Option ℕ) → past.params.target ≡ o → Each AreReady (serve marks c place o frame w)
  unfolding serve
  serve_ready None own = subst (Each AreReady) (sym taken_is) (each_worked Rests AreReady c w (λ d found differ r. r.1) rest work
      (λ on lt. nothing_stays_due.discovery work.past lawful
      (nothing_stays_due.served (fails marks c) place frame (work_of past w) fits here.0.0 here.0.1 on)
      (ap (λ (p : SessionParams). p.target) (served_extends (fails marks c) place frame (work_of past w)).params ∙ own)))
  serve_ready (Some target) own =
      let v = take_in marks c place frame w in
      let taken : Each (Below marks place target 0) v = subst (Each (Below marks place target 0)) (sym taken_is)
      (each_worked Rests (Below marks place target 0) c w
      (λ d found differ r. (r.0.0, λ lt. inr (r.1 lt), λ lt. absurd (omega (arith, lt)))) rest work
      (λ on. (
        lawful,
        λ lt. inl (ap (λ (p : SessionParams). is_same_target p.target (Some target))
            (served_extends (fails marks c) place frame (work_of past w)).params ∙ ap (λ (o : Option ℕ). is_same_target o (Some target)) own ∙ eqb_self target),
        λ lt. absurd (omega (arith, lt)),
      ))) in
      each_as (Below marks place target connection_limit) AreReady _ (λ d found below. below.2)
      (settle_ready marks place target (carry_out_for c (Some target) (orders_in marks c place frame w) v)
      (on-carry_out_for (losing_walk marks place target) c (Some target) (orders_in marks c place frame w) v (λ t e. some_same target t e) taken))
    where
      some_same : (a b : ℕ) → Some a ≡ Some b → b ≡ a
      some_same a b e = cc

  serve_rests : Each Rests (serve marks c place past.params.target frame w)
  serve_rests =
      let v = serve marks c place past.params.target frame w in
      let idle = on-serve (idle_walk marks) c place past.params.target frame w fits (λ target own. tt) (each_as Rests IsIdle w (λ d found r. r.0) rest) in
      each_now IsIdle Rests v idle (λ d found is. (each_past IsIdle d v found idle is, each_past AreReady d v found (serve_ready past.params.target refl) is))

-- ---- the law

at_rest : (o : Option Past) → ((past : Past) → o ≡ Some past → NothingIsDue past × (ready past ≡ [])) → IsAtRest o
at_rest o known = grind arith

pub sessions_are_at_rest : SessionsAreAtRest
sessions_are_at_rest s h c lt bytes = at_rest (past_of (present c (world s h))) (λ past is. (let r = each_past Rests c (world s h) past
    (each_world Rests s (λ d session. ((steps_are_lawful.begun session, nothing_stays_due.begun session), λ below. begun_ready session))
    (λ marks d place frame session w at fits rest. serve_rests marks d place frame session w at fits rest) h bytes) is in (r.0.1, r.1 lt)))
