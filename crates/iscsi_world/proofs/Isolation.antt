-- Of every history: the kept lives and the target's units are those of the kept lives' events alone.
use Rattle.std.proofs.Common.{◌≡◌, ◌≢◌, ℕ, suc, ◌+◌, ◌≤◌, List, [], ◌∷◌, ◌++◌, length, map, Bool, true, false, ◌||◌, eqb, Option, Some, None, refl, sym, ap, ◌∙◌, subst, arith, cond}
use Rattle.std.specs.Prelude.{slice_get}
use Rattle.std.specs.List.{fold}
use Rattle.std.specs.Option.{option_and_then}
use Rattle.std.proofs.lemmas.Bool.{ne_eqb}
use Rattle.std.proofs.lemmas.List.{length-map, length-append, append-nil}
use Rattle.scsi_unit.specs.Medium.{kept_of}
use Rattle.iscsi_session.specs.Comings.{Coming, IsCalm, is_for}
use Rattle.iscsi_login.specs.Session.{is_same_target}
use Rattle.iscsi_world.specs.History.{Event, Open, Bytes, Gone, Happening, History, Mark, happening, is_among, open_after, may_come, may_follow, well_formed, plain}
use Rattle.iscsi_world.specs.Life.{Life, Over, is_over, born, ended_in, out_of}
use Rattle.iscsi_world.specs.World.{Setting, World, is_present, present, session_of, over, end, bring, begun_event, happened, new_world, world}
use Rattle.iscsi_world.specs.Output.{outputs, media, media_in}
use Rattle.iscsi_world.specs.Machine.{Machine}
use Rattle.iscsi_world.specs.Stands.{Stands}
use Rattle.iscsi_world.specs.Isolation.{kept_from, connection_of, next_after, last_after, last_among, life_of, only_from, only, named_in, Selects, Watches, AreAlike, EventsAreLocal, names, plain_world, events_of, AreUnmarked, AreCalm, kept, TargetsAreIsolated, TargetsSeeTheirOwn, StrangersAreAlone, GivesItsOwn}
use Rattle.iscsi_world.proofs.Choices.{cond_true, cond_false, and_true, eqb_self}
use Rattle.iscsi_world.proofs.Keeping.{world-push}
use Rattle.iscsi_world.proofs.IsolatedLives.{AllFrom, Selection, HasTarget, Fits, kept_append, kept_map, over_out, all_map, all_as, all_push, all_places}
use Rattle.iscsi_world.proofs.IsolatedNames.{is_configured}
use Rattle.iscsi_world.proofs.IsolatedAsking.{Named, AreNamed, adds-bring, same_count, named_first}
use Rattle.iscsi_world.proofs.IsolatedWorlds.{UnitsAgree, Agree, present_kept}
use Rattle.iscsi_world.proofs.IsolatedSteps.{agree-left, session_own}
use Rattle.iscsi_world.proofs.IsolatedEvents.{agree-bring}
use Rattle.iscsi_world.proofs.Tables.{among-gone_other}

-- ---- between two events

-- which connections are open, the number of the last life of each connection, and that of the next life
record Place : Type 0 where
  opened : List ℕ
  last : ℕ → ℕ
  next : ℕ

abbrev first_place : Place
first_place = record { opened = []; last = λ c. 0; next = 0 }

abbrev behind : Place → Event → Place
behind p event = record { opened = open_after p.opened event; last = last_after p.next p.last event; next = next_after p.next event }

abbrev behind_all : Place → List Event → Place
behind_all p events =
    record { opened = fold open_after p.opened events; last = last_among p.next p.last events; next = fold next_after p.next events }

abbrev opens : ℕ → World → World
opens c w = record w { lives = w.lives ++ born c ∷ [] }

or_right : (a b : Bool) → b ≡ true → (a || b) ≡ true
or_right a b e = grind arith

open_count : (next c : ℕ) (lives : List Life) → next ≡ length lives → suc next ≡ length (lives ++ born c ∷ [])
open_count next c lives e = omega (arith, length-append lives (born c ∷ []))

bring_count : (s : Setting) (c : ℕ) (piece : List ℕ) (w : World) → length (bring s [] c piece w).lives ≡ length w.lives
bring_count s c piece w = same_count w (bring s [] c piece w) (adds-bring s [] c piece w)

-- an event in which no allocation failed
abbrev unmarked_one : Happening → Happening
unmarked_one x = happening [] x.comings x.event

is_unmarked : (x : Happening) → x.marks ≡ [] → unmarked_one x ≡ x
is_unmarked x e = ap (λ (marks : List Mark). happening marks x.comings x.event) (sym e)

abbrev after : Setting → World → History → World
after s w history = fold (happened s) w history

only_first : (b : Bool) (s : Setting) (v : World) (event : Event) (events : List Event)
    → after s v (map plain (cond b (event ∷ events) events)) ≡ after s (cond b (happened s v (plain event)) v) (map plain events)
only_first b s v event events = grind arith

module _ (target : ℕ) (keeps : ℕ → Bool) where
  abbrev chosen : Place → Selection
  chosen p = record { target = target; keeps = keeps; opened = p.opened; keeps_on = λ c. keeps (p.last c) }

  record Follow (p : Place) (w v : World) : Type 0 where
    agree : Agree (chosen p) w v
    count : p.next ≡ length w.lives

  agree_at : (p q : Place) (w v : World) → v.lives ≡ kept_from keeps 0 w.lives → UnitsAgree (chosen p) w.units v.units
      → AllFrom (Fits (chosen q)) 0 w.lives → IsCalm target w.comings → v.comings ≡ [] → Agree (chosen q) w v
  agree_at p q w v lives units fits calm silent =
      record { lives = lives; units = record { units = units.units; count = units.count }; fits = fits; calm = calm; silent = silent }

  -- ---- an Open

  placed_later : (p : Place) (c d k : ℕ) → is_among c p.opened ≡ false → (is_among d p.opened ≡ true) × (keeps k ≡ keeps (p.last d))
      → (is_among d (c ∷ p.opened) ≡ true) × (keeps k ≡ keeps (last_after p.next p.last (Open c) d))
  placed_later p c d k free placed = grind arith

  fits_later : (p : Place) (c : ℕ) → is_among c p.opened ≡ false → (k : ℕ) (x : Life) → Fits (chosen p) k x → Fits (chosen (behind p (Open c))) k x
  unfolding HasTarget
  fits_later p c free k x fit = record { placed = λ e. placed_later p c x.connection k free (fit.placed e); session = fit.session }

  open_fits : (p : Place) (c : ℕ) (w v : World) → may_come p.opened (Open c) ≡ true → Follow p w v
      → AllFrom (Fits (chosen (behind p (Open c)))) 0 (w.lives ++ born c ∷ [])
  open_fits p c w v may follow = grind (arith, all_push, all_as, fits_later)

  on_open : (b : Bool) (p : Place) (c : ℕ) (w v : World) → may_come p.opened (Open c) ≡ true → keeps p.next ≡ b → Follow p w v
      → Follow (behind p (Open c)) (opens c w) (cond b (opens c v) v)
  on_open b p c w v may keep follow = grind (arith, kept_append, open_fits, open_count, append-nil)

  keeps_new : (p : Place) (c : ℕ) (b : Bool) → keeps (last_after p.next p.last (Open c) c) ≡ b → keeps p.next ≡ b
  keeps_new p c b e = ap keeps (sym (cond_true (eqb c c) p.next (p.last c) (eqb_self c))) ∙ e

  -- ---- a Gone

  gone_by : (b : Bool) (p : Place) (c k : ℕ) (x : Life) → is_present c x ≡ b → Fits (chosen p) k x → Fits (chosen (behind p (Gone c))) k (over c x)
  unfolding HasTarget
  gone_by true p c k x e fit = grind arith
  gone_by false p c k x e fit =
      let differ : is_over x.phase ≡ false → x.connection ≢ c = grind arith in
      subst (Fits (chosen (behind p (Gone c))) k) (sym (cond_false (is_present c x) (ended_in Over x) x e)) (record {
        placed = λ open_. (let was = fit.placed open_ in (among-gone_other x.connection c p.opened (differ open_) ∙ was.0, was.1));
        session = fit.session;
      })

  on_end : (b : Bool) (p : Place) (c : ℕ) (w v : World) → keeps (p.last c) ≡ b → Follow p w v
      → Follow (behind p (Gone c)) (end c w) (cond b (end c v) v)
  unfolding end
  on_end b p c w v keep follow =
      let fits = all_map (Fits (chosen p)) (Fits (chosen (behind p (Gone c)))) (over c) 0 w.lives
      (λ k x fit. gone_by (is_present c x) p c k x refl fit) follow.agree.fits in
      let units = agree-left (chosen p) b (session_of (present c w)) w.units v.units (session_own (chosen p) b c w v keep follow.agree) follow.agree.units in
      grind (arith, fits, units, kept_map, over_out (chosen p), present_kept (chosen p) c w v follow.agree, length-map, agree_at)

  -- ---- one event

  begun_follow : (b : Bool) (p : Place) (comings : List Coming) (w v : World) → IsCalm target comings → Follow p w v
      → Follow p (begun_event comings w) (cond b (begun_event [] v) v)
  begun_follow b p comings w v calm f = grind arith

  module _ (s : Setting) where
    -- of a life that is kept, or of another one
    follow_event : (b : Bool) (event : Event) (p : Place) (comings : List Coming) (w v : World) → may_come p.opened event ≡ true
        → keeps (last_after p.next p.last event (connection_of event)) ≡ b → IsCalm target comings
        → AreNamed (chosen p) s.directory (happened s w (happening [] comings event)) → Follow p w v
        → Follow (behind p event) (happened s w (happening [] comings event)) (cond b (happened s v (plain event)) v)
    follow_event b (Open c) p comings w v may keep calm named f =
        let both = on_open b p c _ _ may (keeps_new p c b keep) (begun_follow b p comings w v calm f) in
        grind arith
    follow_event b (Bytes c piece) p comings w v may keep calm named f =
        let both = agree-bring (chosen p) b s c piece (begun_event comings w) _ keep named (begun_follow b p comings w v calm f).agree in
        grind (arith, bring_count)
    follow_event b (Gone c) p comings w v may keep calm named f =
        let both = on_end b p c _ _ keep (begun_follow b p comings w v calm f) in
        grind arith

    -- ---- one event after the other

    renamed : (p q : Place) (w : World) → AreNamed (chosen p) s.directory w → AreNamed (chosen q) s.directory w
    unfolding Named HasTarget
    renamed p q w named = named

    along : (history : History) (p : Place) (w v : World) → may_follow p.opened (events_of history) ≡ true → AreUnmarked history → AreCalm target history
        → AreNamed (chosen p) s.directory (after s w history) → Follow p w v
        → Follow (behind_all p (events_of history)) (after s w history) (after s v (map plain (only_from keeps p.next p.last (events_of history))))
    along [] p w v may unmarked calm named f = f
    along (x ∷ history) p w v may unmarked calm named f =
        let both = and_true (may_come p.opened x.event) (may_follow (open_after p.opened x.event) (events_of history)) may in
        let then_ = happened s w (unmarked_one x) in
        let same : then_ ≡ happened s w x = ap (happened s w) (is_unmarked x unmarked.0) in
        let named_ = subst (λ (u : World). AreNamed (chosen p) s.directory (after s u history)) (sym same) named in
        let b = keeps (last_after p.next p.last x.event (connection_of x.event)) in
        let others = only_from keeps (next_after p.next x.event) (last_after p.next p.last x.event) (events_of history) in
        let further = along history (behind p x.event) then_ (cond b (happened s v (plain x.event)) v) both.1 unmarked.1 calm.1
        (renamed p (behind p x.event) (after s then_ history) named_)
        (follow_event b x.event p x.comings w v both.0 refl calm.0 (named_first (chosen p) s then_ history named_) f) in
        let P : World → World → Type 0 = λ u y. Follow (behind_all p (x.event ∷ events_of history)) (after s u history) y in
        let y = after s (cond b (happened s v (plain x.event)) v) (map plain others) in
        subst (P (happened s w x)) (sym (only_first b s v x.event others)) (subst (λ (u : World). P u y) same further)

    none_yet : Follow first_place (new_world s) (new_world s)
    unfolding AllFrom
    none_yet = record { agree = record { lives = refl; units = record { units = refl; count = refl }; fits = tt; calm = tt; silent = refl }; count = refl }

    selected : (w : World) → Selects s.directory target keeps w.lives → AreNamed (chosen first_place) s.directory w
    unfolding Named HasTarget
    selected w selects = grind (arith, all_places)

    followed : (history : History) → may_follow [] (events_of history) ≡ true → AreUnmarked history → AreCalm target history
        → AreNamed (chosen first_place) s.directory (world s history)
        → Follow (behind_all first_place (events_of history)) (world s history) (plain_world s (only keeps (events_of history)))
    unfolding world only
    followed history formed unmarked calm named = along history first_place (new_world s) (new_world s) formed unmarked calm named none_yet

-- ---- the laws

pub targets_are_isolated : TargetsAreIsolated
unfolding outputs
targets_are_isolated s target keeps history formed unmarked calm selects =
    let both = (followed target keeps s history formed unmarked calm (selected target keeps s (world s history) selects)).agree in
    record {
      lives = sym both.lives;
      units = sym both.units.units;
      answers = kept_map keeps out_of 0 (world s history).lives ∙ ap (map out_of) (sym both.lives);
      media = ap (map kept_of) (sym both.units.units);
    }

pub targets_see_their_own : TargetsSeeTheirOwn
targets_see_their_own s target history formed unmarked calm =
    let lives = (world s history).lives in
    targets_are_isolated s target (names s.directory target lives) history formed unmarked calm (λ k life named at e.
    ap (λ (o : Option Life). is_same_target (option_and_then (named_in s.directory) o) (Some target)) at
    ∙ ap (λ (o : Option ℕ). is_same_target o (Some target)) e)

-- ---- a number that no target of a history has

abbrev top : Option ℕ → ℕ
top None = 0
top (Some target) = suc target

abbrev top_in : List Coming → ℕ
top_in [] = 0
top_in (coming ∷ more) = top coming.target + top_in more

abbrev top_of : History → ℕ
top_of [] = 0
top_of (x ∷ history) = top_in x.comings + top_of history

not_for : (o : Option ℕ) (n : ℕ) → top o ≤ n → is_for o (Some n) ≡ false
not_for o n le = grind arith

calm_above : (comings : List Coming) (n : ℕ) → top_in comings ≤ n → IsCalm n comings
calm_above [] n le = tt
calm_above (coming ∷ more) n le =
    let both : top coming.target + top_in more ≤ n = le in (
      λ named. absurd (cc (named, not_for coming.target n (omega (arith, both)))),
      calm_above more n (omega (arith, both)),
    )

all_calm : (history : History) (n : ℕ) → top_of history ≤ n → AreCalm n history
all_calm [] n le = tt
all_calm (x ∷ history) n le =
    let both : top_in x.comings + top_of history ≤ n = le in (calm_above x.comings n (omega (arith, both)), all_calm history n (omega (arith, both)))

one_by : (b : Bool) (s : Setting) (n : ℕ) (lives : List Life) (j k named : ℕ) (life other : Life) → length s.directory.names ≤ n
    → eqb j k ≡ b → slice_get lives k ≡ Some life
    → named_in s.directory life ≡ None → slice_get lives j ≡ Some other → named_in s.directory other ≡ Some named
    → eqb j k ≡ eqb named n
one_by b s n lives j k named life other le same at none there e = grind (arith, is_configured)

pub strangers_are_alone : StrangersAreAlone
strangers_are_alone s history k life formed unmarked at none =
    let n = length s.directory.names + top_of history in
    (targets_are_isolated s n (λ j. eqb j k) history formed unmarked (all_calm history n (omega arith))
    (λ j other named there e. one_by (eqb j k) s n (world s history).lives j k named life other (omega arith) refl at none there e)).answers

-- ---- one event

-- no life is kept, of a number that no target has: so there are as many targets as before
none_kept : (next : ℕ) (last : ℕ → ℕ) (events : List Event) → only_from (λ k. false) next last events ≡ []
none_kept next last [] = refl
none_kept next last (event ∷ events) = none_kept (next_after next event) (last_after next last event) events

as_many : (s : Setting) (history : History) → may_follow [] (events_of history) ≡ true → AreUnmarked history
    → length (world s history).units ≡ length s.units
unfolding only world
as_many s history formed unmarked =
    let n = length s.directory.names + top_of history in
    let f = followed n (λ k. false) s history formed unmarked (all_calm history n (omega arith)) (selected n (λ k. false) s (world s history)
    (λ k life named at e. sym (ne_eqb named n (λ same. (let below = is_configured s.directory life named e in absurd (omega (arith, below, same))))))) in
    sym f.agree.units.count ∙ ap (λ (events : List Event). length (plain_world s events).units) (none_kept 0 (λ c. 0) (events_of history))

may_split : (opened : List ℕ) (events : List Event) (event : Event) → may_follow opened (events ++ event ∷ []) ≡ true
    → (may_follow opened events ≡ true) × (may_come (fold open_after opened events) event ≡ true)
may_split opened [] event may = (refl, (and_true (may_come opened event) true may).0)
may_split opened (x ∷ events) event may =
    let both = and_true (may_come opened x) (may_follow (open_after opened x) (events ++ event ∷ [])) may in
    let rest = may_split (open_after opened x) events event both.1 in (rw both.0 rest.0, rest.1)

module _ (s : Setting) (target : ℕ) (keeps : ℕ → Bool) (h : History) (came : List Coming) (event : Event) (at : Watches s target keeps h came event) where
  abbrev there : Place
  there = behind_all first_place (events_of h)

  abbrev then_ : World
  then_ = happened s (world s h) (happening [] came event)

  may : (may_follow [] (events_of h) ≡ true) × (may_come there.opened event ≡ true)
  may = may_split [] (events_of h) event at.formed

  named_then : AreNamed (chosen target keeps first_place) s.directory then_
  named_then = grind (arith, selected, world-push)

  stood : Follow target keeps there (world s h) (plain_world s (only keeps (events_of h)))
  stood = followed target keeps s h may.0 at.unmarked at.calm.0
      (named_first (chosen target keeps first_place) s (world s h) (happening [] came event ∷ []) named_then)

  seen : (b : Bool) (v : World) → Follow target keeps there (world s h) v → keeps (life_of (events_of h) event) ≡ b
      → Agree (chosen target keeps (behind there event)) then_ (cond b (happened s v (plain event)) v)
  seen b v follow keep = (follow_event target keeps s b event there came (world s h) v may.1 keep at.calm.1
      (renamed target keeps s first_place there then_ named_then) follow).agree

  count_there : length (world s h).units ≡ length s.units
  count_there = as_many s h may.0 at.unmarked

-- where the second of two Worlds is that which follows the first, they are as two that follow it
agrees_there : (target : ℕ) (keeps others : ℕ → Bool) (p q : Place) (w u v x : World) → Follow target keeps p w v → Follow target others q u x
    → AreAlike target keeps others w u → length w.units ≡ length u.units → Follow target others q u v
agrees_there target keeps others p q w u v x one two alike count = grind arith

pub events_are_local : EventsAreLocal
events_are_local = record {
  own = λ s target keeps others h g came came_there event a b keep keep_there alike.
      (let v = plain_world s (only keeps (events_of h)) in
      let one = stood s target keeps h came event a in
      let two = agrees_there target keeps others _ _ (world s h) (world s g) v (plain_world s (only others (events_of g))) one
      (stood s target others g came_there event b) alike (count_there s target keeps h came event a ∙ sym (count_there s target others g came_there event b)) in
      let here = seen s target keeps h came event a true v one keep in
      let there = seen s target others g came_there event b true v two keep_there in
      rw (world-push s h (happening [] came event), world-push s g (happening [] came_there event))
      (record { lives = sym here.lives ∙ there.lives; units = sym here.units.units ∙ there.units.units }));
  other = λ s target keeps h came event a keep.
      (let v = plain_world s (only keeps (events_of h)) in
      let one = stood s target keeps h came event a in
      let there = seen s target keeps h came event a false v one keep in
      rw (world-push s h (happening [] came event))
      (record { lives = sym one.agree.lives ∙ there.lives; units = sym one.agree.units.units ∙ there.units.units }));
}

-- ---- what a run gives

pub gives_its_own : (s : Setting) (target : ℕ) (events : List Event) (answered : List (List ℕ)) (machine : Machine) (history : History)
    → events_of history ≡ events → well_formed events ≡ true → AreUnmarked history → AreCalm target history → Stands s (λ c. 0) machine history
    → answered ≡ outputs s history → media_in machine.units target ≡ media s history target → GivesItsOwn s target events answered machine
gives_its_own s target events answered machine history of formed unmarked calm stands answers_are keep_is =
    let formed_ : well_formed (events_of history) ≡ true = ap well_formed of ∙ formed in
    let alone = targets_see_their_own s target history formed_ unmarked calm in
    let its = names s.directory target (world s history).lives in
    record {
      history = history;
      of = of;
      unmarked = unmarked;
      stands = stands;
      all = answers_are;
      answers = ap (kept its) answers_are ∙ alone.answers ∙ ap (λ (es : List Event). outputs s (map plain (only its es))) of;
      media = keep_is ∙ alone.media ∙ ap (λ (es : List Event). media s (map plain (only its es)) target) of;
      strangers = grind (arith, strangers_are_alone);
    }
