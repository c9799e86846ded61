-- What is done on a connection is done in the second World too where the connection's last life is kept (b), and leaves no trace there where it is not.
use Rattle.std.proofs.Common.{◌≡◌, ℕ, List, [], Bool, true, false, cond, Option, Some, None, refl, arith}
use Rattle.iscsi_pdu.specs.declared.answer.Answer.{Answer}
use Rattle.iscsi_pdu.specs.declared.answer.Answer.TheVariants as answers
use Rattle.scsi_unit.specs.Units.{UnitStates, join, leave}
use Rattle.iscsi_login.specs.Session.{older}
use Rattle.iscsi_login.specs.declared.session_params.SessionParams.{SessionParams}
use Rattle.iscsi_login.specs.declared.reply.Reply.{Reply}
use Rattle.iscsi_login.specs.declared.reply.Reply.TheVariants.{GoOn, Full, Refused}
use Rattle.iscsi_session.specs.Comings.{IsCalm}
use Rattle.iscsi_session.proofs.Calm.{quiet}
use Rattle.iscsi_session.specs.Requests.{Past}
use Rattle.iscsi_session.specs.Steps.{Work}
use Rattle.iscsi_world.specs.Life.{Life, Closing, ended_in}
use Rattle.iscsi_world.specs.World.{World, present, changed, session_of, past_of, live, units_at, with_units, changed_units, left, close, answered, begun, begins, end_older, replied, with_past, worked_on, worked}
use Rattle.iscsi_world.proofs.IsolatedLives.{Selection, HasTarget, changed_kept}
use Rattle.iscsi_world.proofs.IsolatedWorlds.{UnitsAgree, units_own, with_own, with_other, Agree, present_kept, session_target, older_same, older_on}
use Rattle.iscsi_world.proofs.IsolatedFits.{Keeps, keeps_ended, keeps_begun, keeps_worked, fits_changed, keeps_same}

-- ---- the units of a session's target

pub agree-with_units : (g : Selection) (b : Bool) (o : Option ℕ) (units : UnitStates) (all some : List UnitStates) → HasTarget g b o → UnitsAgree g all some
    → UnitsAgree g (with_units o units all) (cond b (with_units o units some) some)
agree-with_units g true o units all some own agree = with_own g o units all some own agree
agree-with_units g false o units all some own agree = with_other g o units all some own agree

pub agree-changed_units : (g : Selection) (b : Bool) (f : UnitStates → UnitStates) (o : Option ℕ) (all some : List UnitStates) → HasTarget g b o
    → UnitsAgree g all some → UnitsAgree g (changed_units f o all) (cond b (changed_units f o some) some)
unfolding changed_units
agree-changed_units g true f o all some own agree = rw (units_own g o all some own agree) (with_own g o (f (units_at o all)) all some own agree)
agree-changed_units g false f o all some own agree = with_other g o (f (units_at o all)) all some own agree

pub agree-left : (g : Selection) (b : Bool) (o : Option SessionParams) (all some : List UnitStates)
    → ((p : SessionParams) → o ≡ Some p → HasTarget g b p.target) → UnitsAgree g all some → UnitsAgree g (left o all) (cond b (left o some) some)
agree-left g b None all some own agree = grind arith
agree-left g b (Some p) all some own agree = agree-changed_units g b (leave p.nexus) p.target all some (own p refl) agree

pub session_own : (g : Selection) (b : Bool) (c : ℕ) (w v : World) → g.keeps_on c ≡ b → Agree g w v → (p : SessionParams)
    → session_of (present c w) ≡ Some p → HasTarget g b p.target
session_own g b c w v on agree p e = grind (arith, session_target)

-- ---- what a connection's end does

-- the same lives, and these units
pub agree-with : (g : Selection) (b : Bool) (w x v w_then x_then : World) → Agree g w (cond b x v) → w_then.lives ≡ w.lives → x_then.lives ≡ x.lives
    → UnitsAgree g w_then.units (cond b x_then.units v.units) → IsCalm g.target w_then.comings → x_then.comings ≡ []
    → Agree g w_then (cond b x_then v)
agree-with g b w x v w_then x_then agree one other units calm silent = grind arith

-- one more act
pub agree-then : (g : Selection) (b : Bool) (u w x v : World) (act : World → World) → Agree g u (cond b x v)
    → ((y : World) → Agree g u y → Agree g w (cond b (act y) y)) → Agree g w (cond b (act x) v)
agree-then g b u w x v act agree next = grind arith

pub agree-changed : (g : Selection) (b : Bool) (f : Life → Life) (c : ℕ) (w v : World) → g.keeps_on c ≡ b → Keeps g f c w → Agree g w v
    → Agree g (changed f c w) (cond b (changed f c v) v)
unfolding changed
agree-changed g b f c w v on keeps agree = grind (arith, changed_kept, fits_changed)

pub agree-close : (g : Selection) (b : Bool) (c : ℕ) (w v : World) → g.keeps_on c ≡ b → Agree g w v → Agree g (close c w) (cond b (close c v) v)
unfolding close changed
agree-close g b c w v on agree =
    let next = agree-changed g b (ended_in Closing) c w v on (keeps_ended g c w) agree in
    let units = agree-left g b (session_of (present c w)) w.units v.units (session_own g b c w v on agree) agree.units in
    agree-with g b _ _ _ _ _ next refl refl (grind (arith, present_kept g c w v agree)) next.calm agree.silent

-- ---- a login

agree-end_older : (g : Selection) (b : Bool) (o : Option ℕ) (w v : World) → ((d : ℕ) → o ≡ Some d → g.keeps_on d ≡ b) → Agree g w v
    → Agree g (end_older o w) (cond b (end_older o v) v)
agree-end_older g b None w v on agree = grind arith
agree-end_older g b (Some d) w v on agree = agree-changed g b (ended_in Closing) d w v (on d refl) (keeps_ended g d w) agree

agree-begins : (g : Selection) (b : Bool) (session : SessionParams) (answer : Answer) (c : ℕ) (w v : World) → g.keeps_on c ≡ b
    → HasTarget g b session.target → Agree g w v → Agree g (begins session answer c w) (cond b (begins session answer c v) v)
unfolding changed
agree-begins g b session answer c w v on own agree =
    let next = agree-changed g b (begun session answer) c w v on (keeps_begun g session answer c w v agree (rw on own)) agree in
    agree-with g b _ _ _ _ _ next refl refl (agree-changed_units g b (join session.nexus) session.target w.units v.units own agree.units) next.calm agree.silent

pub agree-replied : (g : Selection) (b : Bool) (reply : Reply) (c : ℕ) (w v : World) → g.keeps_on c ≡ b
    → ((r : _) (session : SessionParams) → reply ≡ Full r session → HasTarget g b session.target) → Agree g w v
    → Agree g (replied reply c w) (cond b (replied reply c v) v)
agree-replied g b (GoOn response) c w v on own agree = agree-changed g b _ c w v on (keeps_same g _ c w (λ life. (refl, refl))) agree
agree-replied g b (Refused response) c w v on own agree =
    agree-then g b _ _ _ v (close c) (agree-changed g b (answered (answers.LoginResponse response)) c w v on (keeps_same g _ c w (λ life. (refl, refl))) agree)
    (λ y next. agree-close g b c _ y on next)
agree-replied g b (Full response session) c w v on own agree =
    let mine = own response session refl in
    let both = agree-then g b _ _ _ v (end_older (older session (live w))) (agree-begins g b session (answers.LoginResponse response) c w v on mine agree)
    (λ y next. agree-end_older g b (older session (live w)) _ y (λ d e. older_on g b session w v d mine agree e) next) in
    grind (arith, older_same)

-- ---- a session

pub agree-worked_on : (g : Selection) (b : Bool) (c : ℕ) (past : Past) (work : Work) (w v : World) → g.keeps_on c ≡ b → past_of (present c w) ≡ Some past
    → work.past.params ≡ past.params → IsCalm g.target work.units.comings → Agree g w v
    → Agree g (worked_on c work w) (cond b (worked_on c (quiet work) v) v)
agree-worked_on g b c past work w v on at same calm agree =
    let own : HasTarget g b work.past.params.target = grind (arith, session_own) in
    let next = agree-changed g b (with_past work.past) c w v on (keeps_worked g c past work.past w at same) agree in
    agree-with g b _ _ _ _ _ next refl refl (agree-with_units g b work.past.params.target work.units.states w.units v.units own agree.units) calm refl

pub agree-worked : (g : Selection) (b : Bool) (c : ℕ) (past : Past) (work : Work) (w v : World) → g.keeps_on c ≡ b → past_of (present c w) ≡ Some past
    → work.past.params ≡ past.params → IsCalm g.target work.units.comings → Agree g w v
    → Agree g (worked c work w) (cond b (worked c (quiet work) v) v)
unfolding worked
agree-worked g b c past work w v on at same calm agree =
    let here = agree-worked_on g b c past work w v on at same calm agree in
    let closed = agree-then g b _ _ _ v (close c) here (λ y next. agree-close g b c _ y on next) in
    grind arith
