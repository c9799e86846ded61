-- A frame of a session, and what the Task Management Functions that acted in it do to the other sessions of its target, stay within the target.
use Rattle.std.proofs.Common.{◌≡◌, ℕ, List, [], ◌∷◌, Bool, true, cond, Option, Some, None, refl, ap, ◌∙◌, arith}
use Rattle.std.specs.List.{fold}
use Rattle.iscsi_pdu.specs.Header.{lun_field}
use Rattle.iscsi_pdu.specs.Frames.{Frame}
use Rattle.iscsi_login.specs.Session.{is_same_target}
use Rattle.iscsi_session.proofs.Calm.{quiet, calm_served, calm_settled, quiet_served, quiet_settled}
use Rattle.iscsi_session.specs.Requests.{Past}
use Rattle.iscsi_session.specs.Steps.{served, settled}
use Rattle.iscsi_session.proofs.Steps.{served_extends, settled_extends}
use Rattle.iscsi_world.specs.History.{Mark, connections}
use Rattle.iscsi_world.specs.World.{World, present, past_of, fails, work_of, worked_on, worked, served_by, take_in, orders_by, orders_in, function_of, losing, lost_by, lose_one, reset_by, reset, carry_out, carry_out_for, settled_by, settle_one, settle, settle_for, serve}
use Rattle.iscsi_world.proofs.IsolatedLives.{Selection, HasTarget}
use Rattle.iscsi_world.proofs.IsolatedWorlds.{units_own, Agree, present_kept, past_target, session_of_past, same_targets, one_target}
use Rattle.iscsi_world.proofs.IsolatedSteps.{agree-changed_units, session_own, agree-with, agree-then, agree-worked_on, agree-worked}

-- ---- the session's own steps

-- its target's units are the same
same_work : (g : Selection) (c : ℕ) (past : Past) (w v : World) → g.keeps_on c ≡ true → past_of (present c w) ≡ Some past → Agree g w v
    → work_of past v ≡ quiet (work_of past w)
same_work g c past w v on at agree =
    let own = session_own g true c w v on agree past.params (session_of_past (present c w) past at) in
    rw (units_own g past.params.target w.units v.units own agree.units, agree.silent)

same_served : (g : Selection) (marks : List Mark) (c place : ℕ) (frame : Frame) (past : Past) (w v : World) → g.keeps_on c ≡ true
    → past_of (present c w) ≡ Some past → Agree g w v
    → served (fails marks c) place frame (work_of past v) ≡ quiet (served (fails marks c) place frame (work_of past w))
same_served g marks c place frame past w v on at agree =
    ap (served (fails marks c) place frame) (same_work g c past w v on at agree) ∙ quiet_served (fails marks c) place frame (work_of past w)

agree-served_by : (g : Selection) (b : Bool) (o : Option Past) (marks : List Mark) (c place : ℕ) (frame : Frame) (w v : World) → g.keeps_on c ≡ b
    → past_of (present c w) ≡ o → Agree g w v → Agree g (served_by o marks c place frame w) (cond b (served_by o marks c place frame v) v)
agree-served_by g b None marks c place frame w v on at agree = grind arith
agree-served_by g b (Some past) marks c place frame w v on at agree =
    let both = agree-worked g b c past (served (fails marks c) place frame (work_of past w)) w v on at
    (served_extends (fails marks c) place frame (work_of past w)).params (calm_served g.target (fails marks c) place frame (work_of past w) agree.calm) agree in
    grind (arith, same_served)

agree-take_in : (g : Selection) (b : Bool) (marks : List Mark) (c place : ℕ) (frame : Frame) (w v : World) → g.keeps_on c ≡ b → Agree g w v
    → Agree g (take_in marks c place frame w) (cond b (take_in marks c place frame v) v)
unfolding take_in
agree-take_in g b marks c place frame w v on agree =
    let both = agree-served_by g b (past_of (present c w)) marks c place frame w v on refl agree in
    grind (arith, present_kept g c w v agree)

-- ---- the sessions of its target

-- what is done with the session of a connection, where it is with this target
module _ (g : Selection) (b : Bool) (t c : ℕ) (by : Option Past → World → World) (act : Past → World → World) (none : (w : World) → by None w ≡ w)
    (some : (past : Past) (w : World) → by (Some past) w ≡ cond (is_same_target past.params.target (Some t)) (act past w) w)
    (w v : World) (own : HasTarget g b (Some t)) (agree : Agree g w v)
    (acts : (past : Past) → g.keeps_on c ≡ b → past_of (present c w) ≡ Some past → is_same_target past.params.target (Some t) ≡ true
    → Agree g (act past w) (cond b (act past v) v)) where
  of_kept : (past : Past) → past_of (present c w) ≡ Some past → is_same_target past.params.target (Some t) ≡ true → g.keeps_on c ≡ b
  of_kept past at same = one_target g (g.keeps_on c) b past.params.target (Some t) (past_target g c w v past agree at) own same

  by_session : (o : Option Past) → past_of (present c w) ≡ o → Agree g (by o w) (cond b (by (past_of (present c v)) v) v)
  by_session None at = grind (arith, present_kept g c w v agree)
  by_session (Some past) at = grind (arith, of_kept past, present_kept g c w v agree)

  agree-of_target : Agree g (by (past_of (present c w)) w) (cond b (by (past_of (present c v)) v) v)
  agree-of_target = by_session (past_of (present c w)) refl

-- one of the target that is kept is with it
own_target : (g : Selection) (t : ℕ) (past : Past) → HasTarget g true (Some t) → is_same_target past.params.target (Some t) ≡ true
    → past.params.target ≡ Some g.target
unfolding HasTarget
own_target g t past own same =
    let both = same_targets past.params.target (Some t) same in
    grind (arith, own both.0 both.2)

same_settled : (g : Selection) (marks : List Mark) (c place t : ℕ) (past : Past) (w v : World) → g.keeps_on c ≡ true → past_of (present c w) ≡ Some past
    → HasTarget g true (Some t) → is_same_target past.params.target (Some t) ≡ true → Agree g w v
    → settled (fails marks c) place (work_of past v) ≡ quiet (settled (fails marks c) place (work_of past w))
same_settled g marks c place t past w v on at own same agree =
    ap (settled (fails marks c) place) (same_work g c past w v on at agree)
    ∙ quiet_settled g.target (fails marks c) place (work_of past w) (record { calm = agree.calm; own = own_target g t past own same })

agree-settle_one : (g : Selection) (b : Bool) (marks : List Mark) (place t c : ℕ) (w v : World) → HasTarget g b (Some t) → Agree g w v
    → Agree g (settle_one marks place t w c) (cond b (settle_one marks place t v c) v)
unfolding settle_one
agree-settle_one g b marks place t c w v own agree =
    agree-of_target g b t c (λ o u. settled_by o marks place t c u) (λ past u. worked c (settled (fails marks c) place (work_of past u)) u) (λ u. refl)
    (λ past u. refl) w v own agree (λ past on at same. (let work = work_of past w in
    let both = agree-worked g b c past (settled (fails marks c) place work) w v on at (settled_extends (fails marks c) place work).params
    (calm_settled g.target (fails marks c) place work agree.calm) agree in
    grind (arith, same_settled)))

agree-fold : {X : Type 0} (g : Selection) (b : Bool) (f : World → X → World) (w v : World) (xs : List X)
    → ((u x : World) (item : X) → Agree g u x → Agree g (f u item) (cond b (f x item) x)) → Agree g w v → Agree g (fold f w xs) (cond b (fold f v xs) v)
agree-fold g b f w v [] each agree = grind arith
agree-fold g b f w v (item ∷ xs) each agree =
    agree-then g b _ _ _ v (λ y. fold f y xs) (each w v item agree) (λ y next. agree-fold g b f (f w item) y xs each next)

agree-settle_for : (g : Selection) (b : Bool) (marks : List Mark) (place : ℕ) (o : Option ℕ) (w v : World) → HasTarget g b o → Agree g w v
    → Agree g (settle_for marks place o w) (cond b (settle_for marks place o v) v)
unfolding settle
agree-settle_for g b marks place None w v own agree = grind arith
agree-settle_for g b marks place (Some t) w v own agree =
    agree-fold g b (settle_one marks place t) w v connections (λ u x c both. agree-settle_one g b marks place t c u x own both) agree

-- ---- what its functions do to them

agree-lose_one : (g : Selection) (b : Bool) (header : List ℕ) (t c : ℕ) (w v : World) (d : ℕ) → HasTarget g b (Some t) → Agree g w v
    → Agree g (lose_one header t c w d) (cond b (lose_one header t c v d) v)
unfolding lose_one
agree-lose_one g b header t c w v d own agree =
    let lost = agree-of_target g b t d (λ o u. lost_by o header t d u) (λ past u. worked_on d (losing header (work_of past u)) u) (λ u. refl)
    (λ past u. refl) w v own agree (λ past on at same.
    (let both = agree-worked_on g b d past (losing header (work_of past w)) w v on at refl agree.calm agree in
    grind (arith, same_work))) in
    grind arith

agree-reset : (g : Selection) (b : Bool) (header : List ℕ) (t : ℕ) (w v : World) → HasTarget g b (Some t) → Agree g w v
    → Agree g (reset header t w) (cond b (reset header t v) v)
unfolding reset
agree-reset g b header t w v own agree = agree-with g b w v v _ _ (grind arith) refl refl
    (agree-changed_units g b (reset_by (function_of header) (lun_field header)) (Some t) w.units v.units own agree.units) agree.calm agree.silent

agree-carry_out : (g : Selection) (b : Bool) (c t : ℕ) (w v : World) (header : List ℕ) → HasTarget g b (Some t) → Agree g w v
    → Agree g (carry_out c t w header) (cond b (carry_out c t v header) v)
unfolding carry_out
agree-carry_out g b c t w v header own agree =
    let lost = agree-fold g b (lose_one header t c) w v connections (λ y z d both. agree-lose_one g b header t c y z d own both) agree in
    let both = agree-then g b _ _ _ v (reset header t) lost (λ y next. agree-reset g b header t _ y own next) in
    grind arith

agree-carry_out_for : (g : Selection) (b : Bool) (c : ℕ) (o : Option ℕ) (headers : List (List ℕ)) (w v : World) → HasTarget g b o → Agree g w v
    → Agree g (carry_out_for c o headers w) (cond b (carry_out_for c o headers v) v)
agree-carry_out_for g b c None headers w v own agree = grind arith
agree-carry_out_for g b c (Some t) headers w v own agree =
    agree-fold g b (carry_out c t) w v headers (λ u x header both. agree-carry_out g b c t u x header own both) agree

-- the functions that acted in a frame are the same
orders_same : (g : Selection) (o : Option Past) (marks : List Mark) (c place : ℕ) (frame : Frame) (w v : World) → g.keeps_on c ≡ true
    → past_of (present c w) ≡ o → Agree g w v → orders_by o marks c place frame v ≡ orders_by o marks c place frame w
orders_same g o marks c place frame w v on at agree = grind (arith, same_served)

same_orders : (g : Selection) (marks : List Mark) (c place : ℕ) (frame : Frame) (w v : World) → g.keeps_on c ≡ true → Agree g w v
    → orders_in marks c place frame v ≡ orders_in marks c place frame w
unfolding orders_in
same_orders g marks c place frame w v on agree = grind (arith, present_kept g c w v agree, orders_same)

-- ---- a frame of a session, and what it makes of its target's sessions

pub agree-serve : (g : Selection) (b : Bool) (marks : List Mark) (c place : ℕ) (o : Option ℕ) (frame : Frame) (w v : World) → g.keeps_on c ≡ b
    → HasTarget g b o → Agree g w v → Agree g (serve marks c place o frame w) (cond b (serve marks c place o frame v) v)
unfolding serve
agree-serve g b marks c place o frame w v on own agree =
    let orders = orders_in marks c place frame w in
    let taken = agree-take_in g b marks c place frame w v on agree in
    let carried = agree-then g b _ _ _ v (carry_out_for c o orders) taken (λ y next. agree-carry_out_for g b c o orders _ y own next) in
    let both = agree-then g b _ _ _ v (settle_for marks place o) carried (λ y next. agree-settle_for g b marks place o _ y own next) in
    grind (arith, same_orders)
