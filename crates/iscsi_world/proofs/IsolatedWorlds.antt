-- Two Worlds, of which the second has of the first the lives that are kept, and the same units of a target.
use Rattle.std.proofs.Common.{◌≡◌, ◌≢◌, ℕ, zero, suc, ◌-◌, ◌<◌, List, [], ◌∷◌, map, length, Bool, true, false, cond, ◌&&◌, eqb, Option, Some, None, refl, sym, ap, ◌∙◌, arith}
use Rattle.std.specs.Prelude.{slice_index_or, slice_set, find}
use Rattle.std.proofs.lemmas.Bool.{eqb-true, eq-eqb}
use Rattle.std.proofs.lemmas.List.{length-set, get_or-set_other}
use Rattle.std.proofs.lemmas.List.FromFn.{get_or-map-range_with_len, length-map-range_with_len}
use Rattle.std.proofs.lemmas.List.Quantifiers.{position-Some}
use Rattle.scsi_sense.specs.Nexus.{NexusName, same_nexus}
use Rattle.scsi_unit.specs.Units.{UnitStates}
use Rattle.iscsi_login.specs.Session.{is_same_target, is_of, named_by, older}
use Rattle.iscsi_login.specs.declared.session_params.SessionParams.{SessionParams}
use Rattle.iscsi_session.specs.Comings.{IsCalm}
use Rattle.iscsi_session.specs.Requests.{Past}
use Rattle.iscsi_world.specs.History.{connection_limit, connections}
use Rattle.iscsi_world.specs.Life.{Life}
use Rattle.iscsi_world.specs.World.{World, is_present, present, session_of, past_of, live, units_at, with_units}
use Rattle.iscsi_world.specs.Isolation.{kept_from}
use Rattle.iscsi_world.proofs.Choices.{and_false}
use Rattle.iscsi_world.proofs.Lives.{present_is}
use Rattle.iscsi_world.proofs.IsolatedLives.{AllFrom, Selection, HasTarget, Fits, number_of, find_kept, found_fits}
use Rattle.std.proofs.lemmas.Grind.{common_steps}

-- ---- units

set_alike : {X : Type 0} (xs ys : List X) (i : ℕ) (a d : X) → length xs ≡ length ys → slice_index_or xs i d ≡ slice_index_or ys i d
    → slice_index_or (slice_set xs i a) i d ≡ slice_index_or (slice_set ys i a) i d
set_alike xs ys i a d e same = grind (arith, common_steps)

-- the target has the same units in both, and there are as many targets
pub record UnitsAgree (g : Selection) (all some : List UnitStates) : Type 0 where
  pub units : slice_index_or some g.target [] ≡ slice_index_or all g.target []
  pub count : length some ≡ length all

pub units_own : (g : Selection) (o : Option ℕ) (all some : List UnitStates) → HasTarget g true o → UnitsAgree g all some → units_at o some ≡ units_at o all
unfolding HasTarget
units_own g None all some own agree = refl
units_own g (Some t) all some own agree =
    let same : t ≡ g.target = eqb-true t g.target (sym (own t refl)) in
    ap (λ (i : ℕ). slice_index_or some i []) same ∙ agree.units ∙ ap (λ (i : ℕ). slice_index_or all i []) (sym same)

-- units of the target itself are put in both
pub with_own : (g : Selection) (o : Option ℕ) (units : UnitStates) (all some : List UnitStates) → HasTarget g true o → UnitsAgree g all some
    → UnitsAgree g (with_units o units all) (with_units o units some)
unfolding HasTarget
with_own g None units all some own agree = agree
with_own g (Some t) units all some own agree =
    let same : t ≡ g.target = eqb-true t g.target (sym (own t refl)) in
    record {
      units = grind (arith, set_alike);
      count = length-set some t units ∙ agree.count ∙ sym (length-set all t units);
    }

-- units of another target are put in the first
pub with_other : (g : Selection) (o : Option ℕ) (units : UnitStates) (all some : List UnitStates) → HasTarget g false o → UnitsAgree g all some
    → UnitsAgree g (with_units o units all) some
unfolding HasTarget
with_other g None units all some other agree = agree
with_other g (Some t) units all some other agree =
    let differ : g.target ≢ t = λ same. (let own = other t refl in let here = eq-eqb t g.target (sym same) in absurd cc) in
    record { units = agree.units ∙ sym (get_or-set_other all t g.target units [] differ); count = agree.count ∙ sym (length-set all t units) }

-- ---- Worlds

pub record Agree (g : Selection) (w v : World) : Type 0 where
  pub lives : v.lives ≡ kept_from g.keeps 0 w.lives
  pub units : UnitsAgree g w.units v.units
  pub fits : AllFrom (Fits g) 0 w.lives
  -- no store of the target failed in the first, and none at all in the second
  pub calm : IsCalm g.target w.comings
  pub silent : v.comings ≡ []

-- the present life of a connection whose last life is kept
pub present_kept : (g : Selection) (c : ℕ) (w v : World) → Agree g w v → present c v ≡ cond (g.keeps_on c) (present c w) None
unfolding present
present_kept g c w v agree = ap (find (is_present c)) agree.lives ∙ find_kept g c 0 w.lives agree.fits

-- the number of a present life
pub present_fits : (g : Selection) (c : ℕ) (w v : World) (life : Life) → Agree g w v → present c w ≡ Some life
    → (k : ℕ) × Fits g k life × (g.keeps k ≡ g.keeps_on c)
unfolding present
present_fits g c w v life agree at =
    let found = found_fits (Fits g) c 0 w.lives life agree.fits at in
    (found.0, found.1, number_of g c found.0 life (present_is c w life at) found.1)

session_target_by : (g : Selection) (c : ℕ) (w v : World) (o : Option Life) (p : SessionParams) → Agree g w v → present c w ≡ o → session_of o ≡ Some p
    → HasTarget g (g.keeps_on c) p.target
session_target_by g c w v o p agree at e = grind (arith, present_fits)

-- the target of a session
pub session_target : (g : Selection) (c : ℕ) (w v : World) (p : SessionParams) → Agree g w v → session_of (present c w) ≡ Some p
    → HasTarget g (g.keeps_on c) p.target
session_target g c w v p agree e = session_target_by g c w v (present c w) p agree refl e

pub session_of_past : (o : Option Life) (past : Past) → past_of o ≡ Some past → session_of o ≡ Some past.params
session_of_past o past e = grind arith

pub past_target : (g : Selection) (c : ℕ) (w v : World) (past : Past) → Agree g w v → past_of (present c w) ≡ Some past
    → HasTarget g (g.keeps_on c) past.params.target
past_target g c w v past agree e = session_target g c w v past.params agree (session_of_past (present c w) past e)

-- ---- other sessions

-- of two targets
pub same_targets : (o : Option ℕ) (p : Option ℕ) → is_same_target o p ≡ true → (t : ℕ) × (o ≡ Some t) × (p ≡ Some t)
same_targets o p e = grind arith

pub one_target : (g : Selection) (a b : Bool) (o p : Option ℕ) → HasTarget g a o → HasTarget g b p → is_same_target o p ≡ true → a ≡ b
unfolding HasTarget
one_target g a b o p x y e = let s = same_targets o p e in x s.0 s.1 ∙ sym (y s.0 s.2)

-- a session of a life that is not kept is of no target of a life that is
other_is_none : (g : Selection) (nexus : NexusName) (o : Option ℕ) (q : Option SessionParams) → HasTarget g true o
    → ((p : SessionParams) → q ≡ Some p → HasTarget g false p.target) → is_of nexus o None ≡ is_of nexus o q
other_is_none g nexus o None own other = refl
other_is_none g nexus o (Some p) own other = by_target (is_same_target p.target o) refl
  where
    by_target : (b : Bool) → is_same_target p.target o ≡ b → is_of nexus o None ≡ is_of nexus o (Some p)
    by_target true e = let never : false ≡ true = one_target g false true p.target o (other p refl) own e in absurd cc
    by_target false e = sym (ap (λ (b : Bool). same_nexus p.nexus nexus && b) e ∙ and_false (same_nexus p.nexus nexus))

session_same : (g : Selection) (nexus : NexusName) (o : Option ℕ) (w v : World) (d : ℕ) → HasTarget g true o → Agree g w v
    → is_of nexus o (session_of (present d v)) ≡ is_of nexus o (session_of (present d w))
session_same g nexus o w v d own agree = grind (arith, present_kept g d w v agree, other_is_none, session_target)

map_at : (p : Option SessionParams → Bool) (f h : ℕ → Option SessionParams) (cs : List ℕ) (i : ℕ) → ((c : ℕ) → p (f c) ≡ p (h c))
    → p (slice_index_or (map f cs) i None) ≡ p (slice_index_or (map h cs) i None)
map_at p f h [] i same = refl
map_at p f h (c ∷ cs) zero same = same c
map_at p f h (c ∷ cs) (suc i) same = map_at p f h cs i same

named_by_cases : (b : Bool) (p : Option SessionParams → Bool) (x y : Option SessionParams) → p x ≡ p y → p (cond b None x) ≡ p (cond b None y)
named_by_cases b p x y e = grind arith

-- the session that a TSIH names
pub named_same : (g : Selection) (nexus : NexusName) (o : Option ℕ) (w v : World) (handle : ℕ) → HasTarget g true o → Agree g w v
    → is_of nexus o (named_by handle (live w)) ≡ is_of nexus o (named_by handle (live v))
unfolding live
named_same g nexus o w v handle own agree =
    named_by_cases (eqb handle 0) (is_of nexus o) (slice_index_or (live w) (handle - 1) None) (slice_index_or (live v) (handle - 1) None)
    (sym (map_at (is_of nexus o) (λ c. session_of (present c v)) (λ c. session_of (present c w)) connections (handle - 1)
    (λ d. session_same g nexus o w v d own agree)))

-- the older session
pub older_same : (g : Selection) (session : SessionParams) (w v : World) → HasTarget g true session.target → Agree g w v
    → older session (live v) ≡ older session (live w)
unfolding older live
older_same g session w v own agree = grind (arith, session_same)

-- a session of the same target is of a life that is kept too, or neither is
of_target : (q : Option SessionParams) (nexus : NexusName) (o : Option ℕ) → is_of nexus o q ≡ true
    → (p : SessionParams) × (q ≡ Some p) × (is_same_target p.target o ≡ true)
of_target q nexus o e = grind arith

pub older_on : (g : Selection) (b : Bool) (session : SessionParams) (w v : World) (d : ℕ) → HasTarget g b session.target → Agree g w v
    → older session (live w) ≡ Some d
    → g.keeps_on d ≡ b
unfolding older live
older_on g b session w v d own agree e =
    let f : ℕ → Option SessionParams = λ c. session_of (present c w) in
    let at = position-Some (is_of session.nexus session.target) (map f connections) d None e in
    let below : d < connection_limit = omega (arith, at.0, length-map-range_with_len f 0 connection_limit) in
    let is : is_of session.nexus session.target (f d) ≡ true =
    ap (is_of session.nexus session.target) (sym (get_or-map-range_with_len f 0 connection_limit d d None below (omega arith))) ∙ at.1 in
    let s = of_target (f d) session.nexus session.target is in
    one_target g (g.keeps_on d) b s.0.target session.target (session_target g d w v s.0 agree s.1) own s.2
