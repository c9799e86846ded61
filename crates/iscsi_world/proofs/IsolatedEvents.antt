-- Bytes of a life that is kept do the same where the other lives are left out, where no allocation fails; those of another life leave no trace there.
use Rattle.std.proofs.Common.{◌≡◌, ℕ, ◌+◌, List, [], ◌∷◌, Bool, true, false, cond, not, Option, Some, None, refl, ap, ◌∙◌, subst, arith}
use Rattle.std.specs.List.{fold}
use Rattle.iscsi_pdu.specs.Frames.{Frame}
use Rattle.iscsi_login.specs.Directory.{KnownTargets}
use Rattle.iscsi_login.specs.Login.{login, advanced, remembered}
use Rattle.iscsi_login.specs.declared.session_params.SessionParams.{SessionParams}
use Rattle.iscsi_login.specs.declared.reply.Reply.TheVariants.{Full}
use Rattle.iscsi_world.specs.History.{Point, Arriving, AtEnd, Arrival, Whole, TooLong}
use Rattle.iscsi_world.specs.Life.{Life, Phase, LoggingIn, FullFeature, session_in}
use Rattle.iscsi_world.specs.World.{Setting, World, present, changed, reads_life, live, close, reaching, is_marked, take_step, asked, requests_of, lookup_for, replied, log_in, is_login, taken_in, taken_by, comes, arrive, brought, longer, bring}
use Rattle.iscsi_world.specs.Isolation.{named_in}
use Rattle.iscsi_world.proofs.Lives.{present-changed, present_is, on_connection}
use Rattle.iscsi_world.proofs.IsolatedLives.{AllFrom, Selection, HasTarget, Fits, found_fits, all_both}
use Rattle.iscsi_world.proofs.IsolatedLogin.{target_of, named_asked, full_target, reply_alike}
use Rattle.iscsi_world.specs.Laws.{LogsIn}
use Rattle.iscsi_world.proofs.Walks.{any_arrivals, logs_there, on-arrivals}
use Rattle.iscsi_world.proofs.Keeping.{goes, on-replied, asked_logs}
use Rattle.iscsi_world.proofs.IsolatedAsking.{Named, AreNamed, named_before, adds-goes}
use Rattle.iscsi_world.proofs.IsolatedWorlds.{Agree, present_kept, session_target, named_same}
use Rattle.iscsi_world.proofs.IsolatedFits.{keeps_same}
use Rattle.iscsi_world.proofs.IsolatedSteps.{agree-changed, agree-close, agree-then, agree-replied}
use Rattle.iscsi_world.proofs.IsolatedServing.{agree-serve}

-- ---- a Login request

some_target : (g : Selection) (b : Bool) (o p : Option ℕ) → o ≡ p → HasTarget g b o → HasTarget g b p
some_target g b o p e own = subst (HasTarget g b) e own

-- the target that a life names once this request is asked is this one exactly where the life is kept
asked_target : (g : Selection) (directory : KnownTargets) (c : ℕ) (w : World) (life : Life) (request : Frame) → present c w ≡ Some life
    → AllFrom (Fits g) 0 (changed (asked request) c w).lives → AreNamed g directory (changed (asked request) c w)
    → HasTarget g (g.keeps_on c) (target_of (advanced directory (remembered directory (c + 1) life.requests) request).session)
unfolding present Named
asked_target g directory c w life request at fits named =
    let u = changed (asked request) c w in
    let here = present_is c w life at in
    let now : present c u ≡ Some (asked request life) = present-changed (asked request) c w life at here in
    let found = found_fits (λ k x. Fits g k x × Named g directory k x) c 0 u.lives (asked request life)
    (all_both (Fits g) (Named g directory) 0 u.lives fits named) now in
    let kept : HasTarget g (g.keeps_on c) (named_in directory (asked request life)) = grind arith in
    some_target g (g.keeps_on c) (named_in directory (asked request life)) _
    (named_asked directory life request
    ∙ ap (λ (d : ℕ). target_of (advanced directory (remembered directory (d + 1) life.requests) request).session) (on_connection c life here)) kept

-- the session that begins is with it
full_own : (g : Selection) (b : Bool) (s : Setting) (c : ℕ) (w : World) (life : Life) (request : Frame) → present c w ≡ Some life
    → HasTarget g b (target_of (advanced s.directory (remembered s.directory (c + 1) life.requests) request).session)
    → (r : _) (session : SessionParams) → login (c + 1) (requests_of (present c w)) (lookup_for s.directory (live w) request) request ≡ Full r session
    → HasTarget g b session.target
full_own g b s c w life request at own = grind (arith, full_target)

-- the reply is the same
same_reply : (g : Selection) (s : Setting) (c : ℕ) (w v : World) (life : Life) (request : Frame) → present c w ≡ Some life → g.keeps_on c ≡ true → Agree g w v
    → HasTarget g true (target_of (advanced s.directory (remembered s.directory (c + 1) life.requests) request).session)
    → login (c + 1) (requests_of (present c v)) (lookup_for s.directory (live v) request) request
    ≡ login (c + 1) (requests_of (present c w)) (lookup_for s.directory (live w) request) request
same_reply g s c w v life request at on agree own = grind (arith, present_kept g c w v agree, reply_alike, named_same)

-- so it is with the target where the life is kept, once the request is asked
own_asked : (g : Selection) (b : Bool) (s : Setting) (c : ℕ) (request : Frame) (w x : World) (life : Life) → present c w ≡ Some life → LogsIn c w
    → g.keeps_on c ≡ b → AreNamed g s.directory (log_in s c request w) → Agree g (changed (asked request) c w) x
    → HasTarget g b (target_of (advanced s.directory (remembered s.directory (c + 1) life.requests) request).session)
unfolding log_in
own_asked g b s c request w x life at logs on named next =
    let reply = login (c + 1) (requests_of (present c w)) (lookup_for s.directory (live w) request) request in
    let u = changed (asked request) c w in
    subst (λ (k : Bool). HasTarget g k (target_of (advanced s.directory (remembered s.directory (c + 1) life.requests) request).session)) on
    (asked_target g s.directory c w life request at next.fits
    (named_before g s.directory u (replied reply c u) (adds-goes u _ (on-replied reply c u (asked_logs c request w logs))) named))

agree-log_in : (g : Selection) (b : Bool) (s : Setting) (c : ℕ) (request : Frame) (w v : World) (life : Life) → present c w ≡ Some life → LogsIn c w
    → g.keeps_on c ≡ b → AreNamed g s.directory (log_in s c request w) → Agree g w v → Agree g (log_in s c request w) (cond b (log_in s c request v) v)
unfolding log_in
agree-log_in g b s c request w v life at logs on named agree =
    let reply = login (c + 1) (requests_of (present c w)) (lookup_for s.directory (live w) request) request in
    let next = agree-changed g b (asked request) c w v on (keeps_same g _ c w (λ life. (refl, refl))) agree in
    let own = own_asked g b s c request w _ life at logs on named next in
    let both = agree-then g b _ _ _ v (replied reply c) next
    (λ y asked_. agree-replied g b reply c _ y on (full_own g b s c w life request at own) asked_) in
    grind (arith, same_reply)

-- ---- one arrival

agree-enter : (g : Selection) (b is : Bool) (s : Setting) (c : ℕ) (frame : Frame) (w v : World) (life : Life) → present c w ≡ Some life → LogsIn c w
    → g.keeps_on c ≡ b → AreNamed g s.directory (cond is (log_in s c frame w) (close c w)) → Agree g w v
    → Agree g (cond is (log_in s c frame w) (close c w)) (cond b (cond is (log_in s c frame v) (close c v)) v)
agree-enter g b true s c frame w v life at logs on named agree = agree-log_in g b s c frame w v life at logs on named agree
agree-enter g b false s c frame w v life at logs on named agree = agree-close g b c w v on agree

-- the target of the session of a present life
phase_target : (g : Selection) (b : Bool) (c : ℕ) (w v : World) (life : Life) (p : SessionParams) → present c w ≡ Some life → session_in life.phase ≡ Some p
    → g.keeps_on c ≡ b → Agree g w v → HasTarget g b p.target
phase_target g b c w v life p at e on agree = grind (arith, session_target)

agree-taken_in : (g : Selection) (b : Bool) (s : Setting) (c place : ℕ) (frame : Frame) (phase : Phase) (w v : World) (life : Life)
    → present c w ≡ Some life → life.phase ≡ phase → g.keeps_on c ≡ b → AreNamed g s.directory (taken_in s [] c place frame phase w) → Agree g w v
    → Agree g (taken_in s [] c place frame phase w) (cond b (taken_in s [] c place frame phase v) v)
agree-taken_in g b s c place frame LoggingIn w v life at e on named agree =
    agree-enter g b (is_login frame) s c frame w v life at (logs_there c w life at e) on named agree
agree-taken_in g b s c place frame (FullFeature session) w v life at e on named agree =
    agree-serve g b [] c place session.params.target frame w v on (phase_target g b c w v life session.params at (ap session_in e) on agree) agree
agree-taken_in g b s c place frame _ w v life at e on named agree = grind arith

agree-taken_by : (g : Selection) (b : Bool) (s : Setting) (c place : ℕ) (frame : Frame) (o : Option Life) (w v : World) → present c w ≡ o
    → g.keeps_on c ≡ b → AreNamed g s.directory (taken_by s [] c place frame o w) → Agree g w v
    → Agree g (taken_by s [] c place frame o w) (cond b (taken_by s [] c place frame o v) v)
agree-taken_by g b s c place frame None w v at on named agree = grind arith
agree-taken_by g b s c place frame (Some life) w v at on named agree = agree-taken_in g b s c place frame life.phase w v life at refl on named agree

agree-comes : (g : Selection) (b : Bool) (s : Setting) (c place : ℕ) (arrival : Arrival) (w v : World) → g.keeps_on c ≡ b
    → AreNamed g s.directory (comes s [] c place arrival w) → Agree g w v
    → Agree g (comes s [] c place arrival w) (cond b (comes s [] c place arrival v) v)
agree-comes g b s c place (Whole frame) w v on named agree =
    let both = agree-taken_by g b s c place frame (present c w) w v refl on named agree in
    grind (arith, present_kept g c w v agree)
agree-comes g b s c place TooLong w v on named agree = agree-close g b c w v on agree

-- ---- one step after the other

agree-reaching : (g : Selection) (b : Bool) (c : ℕ) (points : List Point) (w v : World) → Agree g w v
    → Agree g (reaching c points w) (cond b (reaching c points v) v)
agree-reaching g b c points w v agree = grind arith

agree-take_step : (g : Selection) (b : Bool) (directory : KnownTargets) (c : ℕ) (point : Point) (act : World → World) (w v : World) → g.keeps_on c ≡ b
    → ((u x : World) → AreNamed g directory (act u) → Agree g u x → Agree g (act u) (cond b (act x) x))
    → AreNamed g directory (take_step [] c point act w) → Agree g w v → Agree g (take_step [] c point act w) (cond b (take_step [] c point act v) v)
unfolding take_step is_marked
agree-take_step g b directory c point act w v on acts named agree =
    let v_then = reaching c (point ∷ []) v in
    let both : not (reads_life (present c w)) ≡ false → Agree g (act (reaching c (point ∷ []) w)) (cond b (act v_then) v) = λ reads.
    agree-then g b _ _ v_then v act (agree-reaching g b c (point ∷ []) w v agree) (λ y next. acts _ y (rw reads at named) next) in
    grind (arith, present_kept g c w v agree)

agree-arrive : (g : Selection) (b : Bool) (s : Setting) (c : ℕ) (w v : World) (arrival : ℕ × Arrival) → g.keeps_on c ≡ b
    → AreNamed g s.directory (arrive s [] c w arrival) → Agree g w v → Agree g (arrive s [] c w arrival) (cond b (arrive s [] c v arrival) v)
unfolding arrive
agree-arrive g b s c w v arrival on named agree = agree-take_step g b s.directory c (Arriving arrival.0) (comes s [] c arrival.0 arrival.1) w v on
    (λ u x n a. agree-comes g b s c arrival.0 arrival.1 u x on n a) named agree

named_at_first : (g : Selection) (s : Setting) (c : ℕ) (w : World) (all : List (ℕ × Arrival)) → AreNamed g s.directory (fold (arrive s [] c) w all)
    → AreNamed g s.directory w
named_at_first g s c w all named = named_before g s.directory w (fold (arrive s [] c) w all)
    (adds-goes w _ (on-arrivals (goes s [] c) w all (any_arrivals c all))) named

agree-arrivals : (g : Selection) (b : Bool) (s : Setting) (c : ℕ) (w v : World) (all : List (ℕ × Arrival)) → g.keeps_on c ≡ b
    → AreNamed g s.directory (fold (arrive s [] c) w all) → Agree g w v → Agree g (fold (arrive s [] c) w all) (cond b (fold (arrive s [] c) v all) v)
agree-arrivals g b s c w v [] on named agree = grind arith
agree-arrivals g b s c w v (arrival ∷ all) on named agree =
    let first = agree-arrive g b s c w v arrival on (named_at_first g s c (arrive s [] c w arrival) all named) agree in
    agree-then g b _ _ _ v (λ y. fold (arrive s [] c) y all) first (λ y next. agree-arrivals g b s c (arrive s [] c w arrival) y all on named next)

-- ---- a piece

step_names : (g : Selection) (directory : KnownTargets) (c : ℕ) (point : Point) (w : World) → AreNamed g directory (take_step [] c point (λ x. x) w)
    → AreNamed g directory w
unfolding take_step is_marked
step_names g directory c point w named = grind arith

pub agree-bring : (g : Selection) (b : Bool) (s : Setting) (c : ℕ) (piece : List ℕ) (w v : World) → g.keeps_on c ≡ b
    → AreNamed g s.directory (bring s [] c piece w) → Agree g w v → Agree g (bring s [] c piece w) (cond b (bring s [] c piece v) v)
unfolding bring
agree-bring g b s c piece w v on named agree =
    let all = brought (present c w) piece in
    let longer_ = agree-changed g b (longer piece) c w v on (keeps_same g (longer piece) c w (λ life. (refl, refl))) agree in
    let came = agree-then g b _ _ _ v (λ y. fold (arrive s [] c) y all) longer_
    (λ y next. agree-arrivals g b s c _ y all on (step_names g s.directory c AtEnd _ named) next) in
    let both = agree-then g b _ _ _ v (take_step [] c AtEnd (λ x. x)) came
    (λ y next. agree-take_step g b s.directory c AtEnd (λ x. x) _ y on (λ u x n a. grind arith) named next) in
    grind (arith, present_kept g c w v agree)
