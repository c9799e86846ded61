-- A whole event of bytes keeps the code where the World is.
use Rattle.std.proofs.Common.{◌≡◌, ◌≢◌, ℕ, ◌<◌, List, [], ◌∷◌, ◌++◌, length, Bool, true, false, Option, Some, None, refl, sym, ap, ◌∙◌, subst, arith, inl, inr}
use Rattle.std.specs.Prelude.{All, Result, Ok, Err, OnOk, IfErr}
use Rattle.std.specs.List.{fold, enumerate_from}
use Rattle.std.proofs.lemmas.Bool.Decides.{eqb_tells}
use Rattle.std.proofs.lemmas.List.{append-nil, get_or-set_same, set-set, drop_all}
use Rattle.std.proofs.lemmas.List.FromFn.{length-enumerate_from}
use Rattle.iscsi_pdu.specs.Frames.{rest, is_long}
use Rattle.iscsi_pdu.proofs.Cuts.{rest_in_pieces}
use Rattle.scsi_unit.specs.Units.{UnitStates, AreSound}
use Rattle.iscsi_login.specs.Directory.{KnownTargets}
use Rattle.iscsi_session.specs.Comings.{Coming, AreAhead, ArePlain, IsCalm}
use Rattle.iscsi_session.proofs.Came.{plain_ahead, ahead_self}
use Rattle.iscsi_world.specs.History.{Bytes, AtEnd, Mark, History, Arrival, arrivals, new_arrivals, happening, plain, marked, connection_limit}
use Rattle.iscsi_world.specs.Life.{Life, reads}
use Rattle.iscsi_world.specs.World.{Setting, World, present, changed, reads_life, is_marked, reaching, take_step, arrive, brought, longer, bring, begun_event, world}
use Rattle.iscsi_world.specs.Machine.{Machine, IsSound, IsSoundAt, WhereSound, Feeds, link_at, with_link, closed, is_reading, is_open_at}
use Rattle.iscsi_world.specs.Stands.{link_of, half_of, IsShort, IsStarved, StandsAt, Stands, StandsAfter, stand_in, are_reached, Begins}
use Rattle.iscsi_world.specs.Serving.{Serves, Agrees, first_starved, with_half, kept_piece, is_among, reached_since, TakesAll}
use Rattle.iscsi_world.specs.declared.fault.Starved.{Starved}
use Rattle.iscsi_world.proofs.Arrivals.{new_is}
use Rattle.iscsi_world.proofs.Moving.{own_self, changes_feeds}
use Rattle.iscsi_world.proofs.Reflected.{sound_back}
use Rattle.iscsi_world.proofs.Marks.{mark_at, marked_none, unmarked}
use Rattle.iscsi_world.proofs.Walks.{any_arrivals, on-arrivals}
use Rattle.iscsi_world.proofs.Keeping.{Prolongs, Stays, goes, on-reaching, on-then, on-same}
use Rattle.iscsi_world.proofs.Linked.{reads_there, some_reads, half_there, count_there, serves_as, serves_reaching}
use Rattle.iscsi_world.proofs.Comings.{comings_changed}
use Rattle.iscsi_world.proofs.Fed.{piece_came, came_here, came_other, longer_serves, halves_came}
use Rattle.iscsi_world.proofs.Standing.{fresh, halves_of, present-begun, present-fresh, stands_as, machine_same, serving, is_open_there}
use Rattle.iscsi_world.proofs.Frames.{idle_step, unmarked_step}
use Rattle.iscsi_world.proofs.Doing.{reached_both}
use Rattle.iscsi_world.proofs.Taking.{halving, halved_link, rehalved, halves_idle, half_twice, idle_all, serves_halves}

-- ---- between two events again

-- what is kept of a life that stayed
half_kept : (directory : KnownTargets) (sent : ℕ) (before after : Option Life) → Stays before after
    → link_of directory sent (half_of before) after ≡ link_of directory sent (half_of after) after
half_kept directory sent before after s = grind arith

short_kept : (before after : Option Life) → Stays before after → IsShort before → IsShort after
short_kept before after s h = grind arith

here_short : (bytes : List ℕ) (x : Life) (after : Option Life) → x.bytes ≡ bytes → Stays (Some x) after
    → (reads_life after ≡ true → is_long (rest bytes) ≡ false) → IsShort after
here_short bytes x after e s short = grind arith

-- where the World that the arrivals made of the longer one is served, it is stood at
pub stands_again : (s : Setting) (sent : ℕ → ℕ) (w v : World) (machine now : Machine) (comings : List Coming) (c : ℕ) (piece : List ℕ) (life : Life)
    → StandsAt s sent w machine → present c w ≡ Some life → Prolongs (piece_came comings c piece w) v
    → (reads_life (present c v) ≡ true → is_long (rest (life.bytes ++ piece)) ≡ false)
    → Serves s sent (with_half c (rest (life.bytes ++ piece)) (halves_of w)) v now → StandsAt s sent v now
stands_again s sent w v machine now comings c piece life h at goes short serves =
    let v0 = piece_came comings c piece w in
    let here : Stays (Some (longer piece life)) (present c v) = grind (arith, came_here) in
    let other : (d : ℕ) → d ≢ c → Stays (present d w) (present d v) = grind (arith, came_other) in
    let came = serves_halves s sent (with_half c (rest (life.bytes ++ piece)) (halves_of w)) (halves_of v0) v now
    (halves_came comings c piece w life at) serves in
    record {
      is = came.is ∙ sym (machine_same s sent sent (halves_of v0) (halves_of v) v v refl (λ d below.
          sym (half_kept s.directory (sent d) (present d v0) (present d v) (goes.stays d))));
      answered = serves.answered;
      quiet = serves.quiet;
      short = λ d below. elim (eqb_tells d c) [
        | inl same ↦ rw same.1 (here_short (life.bytes ++ piece) (longer piece life) (present c v) refl here short)
        | inr differ ↦ short_kept (present d w) (present d v) (other d differ.1) (h.short d below)
      ];
    }

-- ---- the event's end

-- what is left after the arrivals
record Ended (s : Setting) (sent : ℕ → ℕ) (half : ℕ → List ℕ) (marks : List Mark) (c : ℕ) (v : World) (machine : Machine) : Type 0 where
  last : World
  is : take_step marks c AtEnd (λ u. u) v ≡ last
  serves : Serves s sent half last machine
  goes : Prolongs v last

ended_by : (b : Bool) (s : Setting) (sent : ℕ → ℕ) (half : ℕ → List ℕ) (marks : List Mark) (c : ℕ) (v : World) (machine : Machine)
    → reads_life (present c v) ≡ b → is_marked marks c AtEnd ≡ false → Serves s sent half v machine
    → Ended s sent half marks c v machine
ended_by true s sent half marks c v machine r free h = record {
  last = reaching c (AtEnd ∷ []) v;
  is = unmarked_step marks c AtEnd (λ u. u) v r free;
  serves = serves_reaching s sent half v machine c (AtEnd ∷ []) h;
  goes = on-reaching c (AtEnd ∷ []) v;
}
ended_by false s sent half marks c v machine r free h = record {
  last = v;
  is = idle_step marks c AtEnd (λ u. u) v r;
  serves = h;
  goes = on-same v;
}

-- ---- the event

-- a connection that reads, and a piece that it keeps
pub record Fed (s : Setting) (sent : ℕ → ℕ) (w : World) (machine first : Machine) (c : ℕ) (piece : List ℕ) : Type 0 where
  pub in_range : c < connection_limit
  pub stands : StandsAt s sent w machine
  pub reads_so : is_reading (link_at machine c).phase ≡ true
  pub is : first ≡ kept_piece c piece machine

-- what the event makes of both
pub record Came (s : Setting) (sent : ℕ → ℕ) (w : World) (comings : List Coming) (c : ℕ) (piece : List ℕ) (starved : Option ℕ) (now : Machine) : Type 0 where
  pub marks : List Mark
  pub first : Begins starved marks
  pub reached : are_reached marks (bring s marks c piece (begun_event comings w)) ≡ true
  pub stands : StandsAt s sent (bring s marks c piece (begun_event comings w)) now

-- The arrivals were taken: what is so before the event's end. The event's marks, and those of the arrivals, are given
-- by the place of the first arrival.
pub record Walked (s : Setting) (sent : ℕ → ℕ) (w : World) (comings : List Coming) (c : ℕ) (piece : List ℕ) (marks failed : ℕ → List Mark)
    (now : Machine) : Type 0 where
  pub place : ℕ
  pub life : Life
  pub there : present c w ≡ Some life
  pub last : World
  pub brings : bring s (marks place) c piece (begun_event comings w) ≡ take_step (marks place) c AtEnd (λ u. u) last
  pub serves : Serves s sent (with_half c (rest (life.bytes ++ piece)) (halves_of w)) last now
  pub goes : Prolongs (piece_came comings c piece w) last
  pub reached : stand_in (failed place) (reached_since (piece_came comings c piece w) last) ≡ true
  pub short : is_reading (link_at now c).phase ≡ true → is_long (rest (life.bytes ++ piece)) ≡ false

brings : (s : Setting) (marks : List Mark) (comings : List Coming) (c : ℕ) (piece : List ℕ) (w : World) (life : Life) → present c w ≡ Some life
    → is_long (rest life.bytes) ≡ false
    → bring s marks c piece (begun_event comings w) ≡ take_step marks c AtEnd (λ u. u)
    (fold (arrive s marks c) (piece_came comings c piece w) (enumerate_from (length (arrivals life.bytes)) (arrivals (rest life.bytes ++ piece))))
unfolding bring
brings s marks comings c piece w life at short = grind (arith, present-begun, new_is)

short_there : (o : Option Life) (life : Life) → o ≡ Some life → IsShort o → reads life.phase ≡ true → is_long (rest life.bytes) ≡ false
short_there o life e h r = (subst IsShort e h) r

-- no point is reached before an event
pub reached_event : (marks : List Mark) (comings : List Coming) (c : ℕ) (piece : List ℕ) (w v : World)
    → stand_in marks (reached_since (piece_came comings c piece w) v) ≡ true → are_reached marks v ≡ true
unfolding changed
reached_event marks comings c piece w v h = h

-- with marks that are, at the arrivals' points, those of the arrivals
pub walks : (s : Setting) (sent : ℕ → ℕ) (w : World) (machine first now : Machine) (comings : List Coming) (c : ℕ) (piece : List ℕ) (starved : Option ℕ)
    → Fed s sent w machine first c piece → (takes : TakesAll c starved first now) → AreAhead takes.takes.came comings → (marks : ℕ → List Mark)
    → ((n place : ℕ) → Agrees (is_among n place) (marks place) (takes.takes.failed place))
    → Walked s sent w comings c piece marks takes.takes.failed now
walks s sent w machine first now comings c piece starved f takes ahead marks agree =
    let half = halves_of w in
    let serves = serving s sent w machine f.stands in
    let there = some_reads (present c w) (sym (reads_there s sent half w machine c f.in_range serves) ∙ f.reads_so) in
    let life = there.0 in
    let short = short_there (present c w) life there.1 (f.stands.short c f.in_range) there.2 in
    let n = length (arrivals life.bytes) in
    let bytes : List ℕ = (link_at first c).half in
    let all_bytes : bytes ≡ rest life.bytes ++ piece = grind (arith, halved_link, half_there, count_there) in
    let more : List ℕ = (link_at machine c).half ++ piece in
    let kept = with_half c more half in
    let serves_first = serves_as s sent kept w _ first f.is (rehalved s sent half w machine c more f.in_range f.reads_so serves) in
    let v0 = piece_came comings c piece w in
    let at = takes.takes.stands s sent kept v0 n (marks n) (agree (length (arrivals bytes)) n)
    (subst (AreAhead takes.takes.came) (sym (comings_changed (longer piece) c (begun_event comings w))) ahead)
    (longer_serves s sent kept w first comings c piece life f.in_range there.1 serves_first) in
    let left_ = rest bytes in
    let all = enumerate_from n (arrivals bytes) in
    let v = fold (arrive s (marks n) c) v0 all in
    let left : left_ ≡ rest (life.bytes ++ piece) = grind (arith, rest_in_pieces) in
    record {
      place = n;
      life = life;
      there = there.1;
      last = v;
      brings = grind (arith, brings);
      serves = subst (λ (l : List ℕ). Serves s sent (with_half c l half) v now) left
          (serves_halves s sent (with_half c left_ kept) (with_half c left_ half) v now (half_twice c more left_ half) at.0);
      goes = on-arrivals (goes s (marks n) c) v0 all (any_arrivals c all);
      reached = at.1;
      short = λ r. ap is_long (sym left) ∙ takes.short r;
    }

comes : (s : Setting) (sent : ℕ → ℕ) (w : World) (machine first now : Machine) (comings : List Coming) (c : ℕ) (piece : List ℕ) (starved : Option ℕ)
    → Fed s sent w machine first c piece → (takes : TakesAll c starved first now) → AreAhead takes.takes.came comings
    → Came s sent w comings c piece starved now
comes s sent w machine first now comings c piece starved f takes ahead =
    let failed = takes.takes.failed in
    let k = walks s sent w machine first now comings c piece starved f takes ahead failed (λ n place mark is. refl) in
    let marks = failed k.place in
    let half = with_half c (rest (k.life.bytes ++ piece)) (halves_of w) in
    let v0 = piece_came comings c piece w in
    let free : is_marked marks c AtEnd ≡ false =
    unmarked (is_among (length (arrivals (link_at first c).half)) k.place) marks (mark_at c AtEnd) (takes.takes.of_kind k.place) refl in
    let e = ended_by (reads_life (present c k.last)) s sent half marks c k.last now (refl {a = reads_life (present c k.last)}) free k.serves in
    let whole : bring s marks c piece (begun_event comings w) ≡ e.last = k.brings ∙ e.is in
    record {
      marks = marks;
      first = takes.takes.first k.place;
      reached = rw whole (reached_event marks comings c piece w e.last
          (let more = reached_both marks [] v0 k.last e.last k.goes e.goes k.reached (refl {a = true}) in rw append-nil at more));
      stands = rw whole (stands_again s sent w e.last machine now comings c piece k.life f.stands k.there (on-then v0 k.last e.last k.goes e.goes)
          (λ r. k.short (rw (reads_there s sent half e.last now c f.in_range e.serves) r)) e.serves);
    }

-- ---- bytes for a connection that does not read, and an empty piece

pub comes_idle : (s : Setting) (sent : ℕ → ℕ) (w : World) (machine : Machine) (c : ℕ) (piece : List ℕ) → c < connection_limit
    → StandsAt s sent w machine → is_open_at machine c ≡ true → is_reading (link_at machine c).phase ≡ false
    → StandsAt s sent (bring s [] c piece (fresh w)) machine
unfolding bring
comes_idle s sent w machine c piece lt stands open_ r =
    let half = halves_of w in
    let there = is_open_there s sent w machine c lt stands open_ in
    let life = there.0 in
    let v0 = piece_came [] c piece w in
    let here = came_here [] c piece w life there.1 in
    let serves = serving s sent w machine stands in
    let idle_ : reads life.phase ≡ false = ap reads_life (sym there.1) ∙ sym (reads_there s sent half w machine c lt serves) ∙ r in
    let idle0 : reads_life (present c v0) ≡ false = ap reads_life here ∙ idle_ in
    let left_ = rest (life.bytes ++ piece) in
    let whole : take_step [] c AtEnd (λ u. u) (fold (arrive s [] c) v0 (brought (present c (fresh w)) piece)) ≡ v0 =
    ap (take_step [] c AtEnd (λ u. u)) (idle_all s [] c v0 (brought (present c (fresh w)) piece) idle0) ∙ idle_step [] c AtEnd (λ u. u) v0 idle0 in
    rw whole (stands_again s sent w v0 machine machine [] c piece life stands there.1 (on-same v0) (λ e. absurd (cc (e, idle0)))
    (halves_idle s sent half v0 machine c left_ idle0 (longer_serves s sent half w machine [] c piece life lt there.1 serves)))

nothing_new : (bytes : List ℕ) → new_arrivals bytes [] ≡ []
unfolding new_arrivals
nothing_new bytes = grind (arith, append-nil, drop_all, length-enumerate_from)

pub comes_empty : (s : Setting) (sent : ℕ → ℕ) (w : World) (machine : Machine) (c : ℕ) → c < connection_limit → StandsAt s sent w machine
    → is_open_at machine c ≡ true → StandsAt s sent (bring s [] c [] (fresh w)) machine
unfolding bring
comes_empty s sent w machine c lt stands open_ =
    let half = halves_of w in
    let there = is_open_there s sent w machine c lt stands open_ in
    let life = there.0 in
    let v0 = piece_came [] c [] w in
    let serves = serving s sent w machine stands in
    let none : brought (present c (fresh w)) [] ≡ [] = ap (λ (o : Option Life). brought o []) (present-fresh c w ∙ there.1) ∙ nothing_new life.bytes in
    let e = ended_by (reads_life (present c v0)) s sent half [] c v0 machine (refl {a = reads_life (present c v0)}) (marked_none c AtEnd)
    (longer_serves s sent half w machine [] c [] life lt there.1 serves) in
    let whole : take_step [] c AtEnd (λ u. u) (fold (arrive s [] c) v0 (brought (present c (fresh w)) [])) ≡ e.last =
    ap (λ (l : List (ℕ × Arrival)). take_step [] c AtEnd (λ u. u) (fold (arrive s [] c) v0 l)) none ∙ e.is in
    let left_ = rest (life.bytes ++ []) in
    let own : (d : ℕ) → half d ≡ with_half c left_ half d = grind (arith, append-nil) in
    rw whole (stands_again s sent w e.last machine machine [] c [] life stands there.1 e.goes
    (λ r. rw (append-nil life.bytes) (short_there (present c w) life there.1 (stands.short c lt) (ap reads_life (sym there.1)
    ∙ sym (reads_there s sent half w machine c lt serves) ∙ reads_there s sent half e.last machine c lt e.serves ∙ r)))
    (serves_halves s sent half (with_half c left_ half) e.last machine own e.serves))

-- ---- as the code has it

-- it closes as it would have before, whatever it keeps
pub closed_kept : (machine : Machine) (c : ℕ) (half : List ℕ) → c < length machine.links
    → closed (with_link machine c (record (link_at machine c) { half = half })) c ≡ closed machine c
unfolding closed
closed_kept machine c half lt = grind (arith, get_or-set_same, set-set)

pub kept_feeds : (machine first : Machine) (c : ℕ) (piece : List ℕ) → c < length machine.links → is_reading (link_at machine c).phase ≡ true
    → first ≡ kept_piece c piece machine → Feeds c machine first
kept_feeds machine first c piece lt r is = search (arith, is, changes_feeds, halving, own_self)

pub kept_reads : (machine first : Machine) (c : ℕ) (piece : List ℕ) → c < length machine.links → is_reading (link_at machine c).phase ≡ true
    → first ≡ kept_piece c piece machine → is_reading (link_at first c).phase ≡ true
kept_reads machine first c piece lt r is = grind (arith, get_or-set_same)

pub stands_after : (s : Setting) (sent : ℕ → ℕ) (h : History) (now : Machine) (comings : List Coming) (c : ℕ) (piece : List ℕ) (starved : Option ℕ)
    → (IsSound now → ArePlain comings) → ((target : ℕ) → IsSoundAt target now → IsCalm target comings)
    → Came s sent (world s h) comings c piece starved now → StandsAfter s sent h (Bytes c piece) starved now
stands_after s sent h now comings c piece starved plain_ calm k = record {
  marks = k.marks;
  comings = comings;
  first = k.first;
  reached = k.reached;
  plain = plain_;
  calm = calm;
  stands = stands_as s sent now h (happening k.marks comings (Bytes c piece)) _ refl k.stands;
}

plain_marks : (s : Setting) (sent : ℕ → ℕ) (h : History) (now : Machine) (c : ℕ) (piece : List ℕ) → Came s sent (world s h) [] c piece None now
    → Stands s sent now (h ++ plain (Bytes c piece) ∷ [])
plain_marks s sent h now c piece k = stands_as s sent now h (plain (Bytes c piece)) _ refl
    (subst (λ (marks : List Mark). StandsAt s sent (bring s marks c piece (fresh (world s h))) now) k.first k.stands)

pub starved_marks : (s : Setting) (sent : ℕ → ℕ) (h : History) (now : Machine) (c d : ℕ) (piece : List ℕ) → Came s sent (world s h) [] c piece (Some d) now
    → (marks : List Mark) × IsStarved s (world s h) (Bytes c piece) d marks × Stands s sent now (h ++ marked marks (Bytes c piece) ∷ [])
starved_marks s sent h now c d piece k =
    (k.marks, record { first = k.first; reached = k.reached }, stands_as s sent now h (marked k.marks (Bytes c piece)) _ refl k.stands)

module _ (machine first now : Machine) (c : ℕ) (piece : List ℕ) (lt : c < connection_limit)
    (reads_so : is_reading (link_at machine c).phase ≡ true) (is : first ≡ kept_piece c piece machine) where
  pub first_sound : (starved : Option ℕ) → TakesAll c starved first now → IsSound now → IsSound machine
  first_sound starved takes sound = subst (λ (us : List UnitStates). All AreSound us) (ap (λ (m : Machine). m.units) is)
      (sound_back first now takes.leaves.back sound)

  -- whatever its stores did
  came_any : (s : Setting) (sent : ℕ → ℕ) (h : History) (comings : List Coming) (starved : Option ℕ) (takes : TakesAll c starved first now)
      → AreAhead takes.takes.came comings → Stands s sent machine h → Came s sent (world s h) comings c piece starved now
  came_any s sent h comings starved takes ahead at =
      comes s sent (world s h) machine first now comings c piece starved
      (record { in_range = lt; stands = at; reads_so = reads_so; is = is }) takes ahead

  -- where all units are sound after it, no store failed
  came : (s : Setting) (sent : ℕ → ℕ) (h : History) (starved : Option ℕ) → TakesAll c starved first now
      → (IsSound machine → Stands s sent machine h) → IsSound now → Came s sent (world s h) [] c piece starved now
  came s sent h starved takes at sound = came_any s sent h [] starved takes (plain_ahead takes.takes.came (takes.takes.plain sound))
      (at (first_sound starved takes sound))

  pub all_came : (r : Result (Unit {0}) Starved) → TakesAll c (first_starved r) first now
      → (s : Setting) (sent : ℕ → ℕ) (h : History) → Stands s sent machine h → StandsAfter s sent h (Bytes c piece) (first_starved r) now
  all_came r takes s sent h at = stands_after s sent h now takes.takes.came c piece (first_starved r) takes.takes.plain takes.takes.calm
      (came_any s sent h takes.takes.came (first_starved r) takes (ahead_self takes.takes.came) at)

  pub ok_came : (r : Result (Unit {0}) Starved) → TakesAll c (first_starved r) first now
      → OnOk r ((s : Setting) (sent : ℕ → ℕ) (h : History) → WhereSound machine (Stands s sent machine h)
      → WhereSound now (Stands s sent now (h ++ plain (Bytes c piece) ∷ [])))
  ok_came (Ok u) takes = λ s sent h at sound. plain_marks s sent h now c piece (came s sent h None takes at sound)
  ok_came (Err e) takes = tt

  pub err_came : (r : Result (Unit {0}) Starved) → TakesAll c (first_starved r) first now
      → IfErr r (λ starved. (s : Setting) (sent : ℕ → ℕ) (h : History) → WhereSound machine (Stands s sent machine h)
      → WhereSound now ((marks : List Mark) × IsStarved s (world s h) (Bytes c piece) starved.connection marks
      × Stands s sent now (h ++ marked marks (Bytes c piece) ∷ [])))
  err_came (Ok u) takes = tt
  err_came (Err e) takes = λ s sent h at sound. starved_marks s sent h now c e.connection piece (came s sent h (Some e.connection) takes at sound)

pub none_after : (s : Setting) (sent : ℕ → ℕ) (h : History) (now : Machine) (c : ℕ) (piece : List ℕ)
    → StandsAt s sent (bring s [] c piece (fresh (world s h))) now → StandsAfter s sent h (Bytes c piece) None now
none_after s sent h now c piece at =
    stands_after s sent h now [] c piece None (λ sound. tt) (λ target sound. tt) (record { marks = []; first = refl; reached = refl; stands = at })
