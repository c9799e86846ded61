-- The whole frames of a piece are taken, one after the other.
use Rattle.std.proofs.Common.{◌≡◌, ℕ, ◌+◌, ◌<◌, ◌≤◌, List, [], ◌∷◌, ◌++◌, length, get_or, drop, zero, suc, Bool, true, false, Option, Some, None, refl, sym, ap, ◌∙◌, subst, arith, append_assoc}
use Rattle.std.specs.List.{fold, enumerate_from}
use Rattle.std.proofs.lemmas.List.{append-nil, length-append, set-get_or, get_or-set_same}
use Rattle.iscsi_pdu.specs.Frames.{Frame, frames, rest, is_long, has_frame, first_frame, frame_length}
use Rattle.iscsi_pdu.proofs.Frames.{no_frame, frames_none, rest_none, frames_step, rest_step, drop_shorter}
use Rattle.iscsi_pdu.specs.Parts.{is_data_out}
use Rattle.iscsi_pdu.proofs.Cuts.{frames_in_pieces, long_is_no_frame}
use Rattle.iscsi_pdu.proofs.DataOuts.{is_data_out-header}
use Rattle.iscsi_world.specs.History.{Arriving, Mark, Arrival, Whole, TooLong, arrivals, connection_limit}
use Rattle.iscsi_world.specs.World.{Setting, World, present, reads_life, close, reaching, arrive}
use Rattle.iscsi_world.specs.Machine.{LinkState, Machine, link_at, with_link, is_reading, closed, free_link, shut_link}
use Rattle.iscsi_world.specs.Serving.{Serves, ActsAs, is_of_frame, is_among, first_of, with_half, KeepsHalf, Preserves, Leaves, TakesOne, TakesSome, TakesAll}
use Rattle.iscsi_world.proofs.Arrivals.{fold-places}
use Rattle.iscsi_world.proofs.Linked.{link_is, reads_there, some_reads, serves_one, serves_as, serves_world, serves_reaching, closes, present-close, present-reaching, units_with}
use Rattle.iscsi_world.proofs.Standing.{nothing_long, machine_same}
use Rattle.iscsi_world.proofs.Marks.{Apart, Wider, all_wider}
use Rattle.iscsi_world.proofs.Walks.{any_arrival, any_arrivals, on-arrive, on-arrivals}
use Rattle.iscsi_world.proofs.Keeping.{goes}
use Rattle.iscsi_world.proofs.Doing.{Act, Halves, does_nothing, does_from, does_then}
use Rattle.iscsi_world.proofs.Comings.{comings_close}
use Rattle.iscsi_world.proofs.Frames.{idle, arrived, starves}
use Rattle.iscsi_world.proofs.Apart.{part_closed, part_as, part_then}
use Rattle.iscsi_world.proofs.Bounding.{adds_then}
use Rattle.iscsi_world.proofs.Heavier.{closed_loads}
use Rattle.iscsi_world.proofs.Moving.{keeps_same, Changes, own_self, feeds_then, closed_then, closed_moves, starved_moves, moves_as, moves_none}

-- only a connection that there is reads
links_below : (links : List LinkState) (c : ℕ) → is_reading (get_or links c free_link).phase ≡ true → c < length links
links_below [] c r = absurd (cc r)
links_below (link ∷ links) zero r = omega arith
links_below (link ∷ links) (suc c) r = let lt = links_below links c r in omega (arith, lt)

pub reads_below : (machine : Machine) (c : ℕ) → is_reading (link_at machine c).phase ≡ true → c < length machine.links
reads_below machine c r = links_below machine.links c r

-- ---- the bytes that are kept

-- of a connection that reads fewer bytes are kept
pub rehalved : (s : Setting) (sent : ℕ → ℕ) (half : ℕ → List ℕ) (w : World) (machine : Machine) (c : ℕ) (bytes : List ℕ) → c < connection_limit
    → is_reading (link_at machine c).phase ≡ true → Serves s sent half w machine
    → Serves s sent (with_half c bytes half) w (with_link machine c (record (link_at machine c) { half = bytes }))
rehalved s sent half w machine c bytes lt r h = grind (arith, link_is, serves_one, units_with)

-- of one that does not read, none
pub halves_idle : (s : Setting) (sent : ℕ → ℕ) (half : ℕ → List ℕ) (w : World) (machine : Machine) (c : ℕ) (bytes : List ℕ)
    → reads_life (present c w) ≡ false → Serves s sent half w machine → Serves s sent (with_half c bytes half) w machine
halves_idle s sent half w machine c bytes e h = grind (arith, machine_same)

-- ---- the first that is whole

pub none_whole : (half : List ℕ) → has_frame half ≡ false → is_long half ≡ false → arrivals half ≡ []
unfolding arrivals
none_whole half none short = grind (arith, frames_none, rest_none)

pub some_whole : (half more : List ℕ) (frame : Frame) → frames half ≡ frame ∷ frames more → rest more ≡ rest half → arrivals half ≡ Whole frame ∷ arrivals more
unfolding arrivals
some_whole half more frame first behind = grind arith

pub no_bytes : arrivals [] ≡ []
no_bytes = none_whole [] no_frame nothing_long

pub long_whole : (half : List ℕ) → is_long half ≡ true → arrivals half ≡ TooLong ∷ arrivals []
unfolding arrivals
long_whole half long = grind (arith, long_is_no_frame, frames_none, rest_none, no_bytes)

long_some : (half : List ℕ) → is_long half ≡ true → 0 < length half
long_some [] long = absurd (cc (long, nothing_long))
long_some (b ∷ half) long = omega arith

-- of a Data-Out that is not whole yet there is less than its frame has
pub short_frame : (bytes : List ℕ) → is_data_out bytes ≡ true → has_frame bytes ≡ false → is_long bytes ≡ false → length bytes < frame_length bytes
unfolding has_frame is_long
short_frame bytes out none short = let whole = is_data_out-header bytes out in grind arith

-- what is left after frames begins with none
pub rest_no_frame : (bytes : List ℕ) → has_frame (rest bytes) ≡ false
rest_no_frame bytes =
    let cut : frames bytes ≡ frames bytes ++ frames (rest bytes) =
    ap frames (sym (append-nil bytes)) ∙ frames_in_pieces bytes [] ∙ ap (λ (l : List ℕ). frames bytes ++ frames l) (append-nil (rest bytes)) in
    let long = ap (λ l. length l) cut in
    grind (arith, frames_step, length-append)

-- so does what a connection has of it
pub none_left : (bytes : List ℕ) (link : LinkState) → KeepsHalf (rest bytes) link → has_frame link.half ≡ false
none_left bytes link kept = grind (arith, rest_no_frame, no_frame)

-- ---- it is taken

pub halving : (link : LinkState) (more : List ℕ) → is_reading link.phase ≡ true → Changes link (record link { half = more })
halving link more r = grind (arith, append-nil)

pub closed_keeps : (machine : Machine) (c : ℕ) (more : List ℕ) → c < length machine.links → KeepsHalf more (link_at (closed machine c) c)
unfolding closed
closed_keeps machine c more lt = grind (arith, get_or-set_same)

closed_idle : (machine : Machine) (c : ℕ) → c < length machine.links → is_reading (link_at (closed machine c) c).phase ≡ false
unfolding closed
closed_idle machine c lt = ap (λ (l : LinkState). is_reading l.phase) (get_or-set_same machine.links c (shut_link (link_at machine c)) free_link lt)

pub halved_link : (old given : Machine) (c : ℕ) (half : List ℕ) → c < connection_limit → length old.links ≡ connection_limit
    → given ≡ with_link old c (record (link_at old c) { half = half }) → link_at given c ≡ record (link_at old c) { half = half }
halved_link old given c half lt count is = grind (arith, get_or-set_same)

pub halved_reads : (old given : Machine) (c : ℕ) (half : List ℕ) → c < connection_limit → length old.links ≡ connection_limit
    → given ≡ with_link old c (record (link_at old c) { half = half }) → is_reading (link_at old c).phase ≡ true
    → is_reading (link_at given c).phase ≡ true
halved_reads old given c half lt count is r = ap (λ (l : LinkState). is_reading l.phase) (halved_link old given c half lt count is) ∙ r

-- it is closed
closes_leaves : (c : ℕ) (starved : Option ℕ) (old new : Machine) → c < length old.links → new ≡ closed old c → Preserves c starved old new
    → Leaves c 1 starved old new
closes_leaves c starved old new lt is moves = record {
  back = moves.back;
  sure = moves.sure;
  feeds = moves.alters.feeds;
  closing = moves.closing;
  part = part_as c old (closed old c) new is (part_closed old c lt);
  eases = moves.alters.eases;
  loads = closed_loads 1 old new c lt is;
  keeps = λ d other reads_. moves.alters.keeps d reads_;
}

-- a header that names too much data
pub takes_long : (old new : Machine) (c : ℕ) → c < connection_limit → length old.links ≡ connection_limit → is_reading (link_at old c).phase ≡ true
    → is_long (link_at old c).half ≡ true → new ≡ closed old c → TakesOne c None old new
takes_long old new c lt count r long is =
    let below : c < length old.links = omega (arith, count) in
    let moves = moves_as c None old (closed old c) new is (closed_moves c old c below r (own_self c old)) in
    record {
      arrival = TooLong;
      more = [];
      front = long_whole (link_at old c).half long;
      behind = λ e. absurd (cc (e, ap (λ (m : Machine). is_reading (link_at m c).phase) is, closed_idle old c below));
      shorter = long_some (link_at old c).half long;
      kept = subst (λ (m : Machine). KeepsHalf [] (link_at m c)) (sym is) (closed_keeps old c [] below);
      does = does_nothing is_of_frame (λ s marks place w. arrive s marks c w (place, TooLong)) (with_half c []) old new
          (λ s sent half w place marks agree h.
          (let there = some_reads (present c w) (sym (reads_there s sent half w old c lt h) ∙ r) in
          let v = reaching c (Arriving place ∷ []) w in
          let at : present c v ≡ Some there.0 = present-reaching c c (Arriving place ∷ []) w ∙ there.1 in
          let step = arrived s marks c w place TooLong (ap reads_life there.1 ∙ there.2) agree in (
            serves_world s sent (with_half c [] half) (close c v) _ new step
                (halves_idle s sent half (close c v) new c [] (ap reads_life (present-close c v there.0 at))
                (serves_as s sent half (close c v) (closed old c) new is (closes s sent half v old c there.0 lt
                (serves_reaching s sent half w old c (Arriving place ∷ []) h) at))),
            ap (λ (u : World). u.comings) step ∙ comings_close c v,
          )));
      leaves = closes_leaves c None old new below is moves;
    }

-- an allocation failed before a frame was given
pub takes_none : (old new : Machine) (c : ℕ) → c < connection_limit → length old.links ≡ connection_limit → is_reading (link_at old c).phase ≡ true
    → has_frame (link_at old c).half ≡ true → new ≡ closed old c → TakesOne c (Some c) old new
takes_none old new c lt count r whole is =
    let below : c < length old.links = omega (arith, count) in
    let moves = moves_as c (Some c) old (closed old c) new is (starved_moves c old c below r (own_self c old)) in
    let half = (link_at old c).half in
    let more = drop (frame_length half) half in
    let first = starves old new c (Whole (first_frame half)) lt r is in
    let shut_ : is_reading (link_at new c).phase ≡ false = ap (λ (m : Machine). is_reading (link_at m c).phase) is ∙ closed_idle old c below in
    record {
      arrival = Whole (first_frame half);
      more = more;
      front = some_whole half more (first_frame half) (frames_step half whole) (sym (rest_step half whole));
      behind = λ e. absurd (cc (e, shut_));
      shorter = drop_shorter half whole;
      kept = subst (λ (m : Machine). KeepsHalf more (link_at m c)) (sym is) (closed_keeps old c more below);
      does = does_from first first.of_kind (λ s sent bytes w place marks agree ahead h.
          (let at = first.stands s sent bytes w place marks agree ahead h in
          let v = arrive s marks c w (place, Whole (first_frame half)) in
          (halves_idle s sent bytes v new c more (sym (reads_there s sent bytes v new c lt at.0) ∙ shut_) at.0, at.1, at.2)));
      leaves = closes_leaves c (Some c) old new below is moves;
    }

-- ---- so many

-- some arrivals of the first bytes are taken, and these bytes are left
pub record Progress (c : ℕ) (starved : Option ℕ) (first machine : Machine) : Type 0 where
  pub done : List Arrival
  pub more : List ℕ
  pub front : arrivals (link_at first c).half ≡ done ++ arrivals more
  pub behind : is_reading (link_at machine c).phase ≡ true → rest (link_at first c).half ≡ rest more
  pub kept : KeepsHalf more (link_at machine c)
  pub takes : TakesSome c done more starved first machine
  pub leaves : Leaves c (length done) starved first machine

own_half : (s : Setting) (sent : ℕ → ℕ) (half : ℕ → List ℕ) (w : World) (machine : Machine) (c : ℕ) → c < connection_limit
    → is_reading (link_at machine c).phase ≡ true → Serves s sent half w machine
    → Serves s sent (with_half c (link_at machine c).half half) w machine
own_half s sent half w machine c lt r h =
    serves_as s sent (with_half c (link_at machine c).half half) w (with_link machine c
    (record (link_at machine c) { half = (link_at machine c).half })) machine
    (sym (ap (λ (links : List LinkState). let m : Machine = record machine { links = links } in m) (set-get_or machine.links c free_link)))
    (rehalved s sent half w machine c (link_at machine c).half lt r h)

pub begins : (machine : Machine) (c : ℕ) → c < connection_limit → is_reading (link_at machine c).phase ≡ true → Progress c None machine machine
begins machine c lt r = record {
  done = [];
  more = (link_at machine c).half;
  front = refl;
  behind = λ e. refl;
  kept = keeps_same (link_at machine c) r;
  takes = grind (arith, does_nothing, own_half);
  leaves = grind (arith, moves_none);
}

-- ---- one more

shifted : (n : ℕ) (kind : ℕ → Mark → Bool) (act : Act) (halves : Halves) (starved : Option ℕ) (given after : Machine)
    → ActsAs kind act halves starved given after
    → ActsAs (λ place. kind (place + n)) (λ s marks place w. act s marks (place + n) w) halves starved given after
shifted n kind act halves starved given after d = record {
  failed = λ place. d.failed (place + n);
  first = λ place. d.first (place + n);
  of_kind = λ place. d.of_kind (place + n);
  came = d.came;
  plain = d.plain;
  calm = d.calm;
  stands = λ s sent half w place marks agree ahead h. d.stands s sent half w (place + n) marks agree ahead h;
}

-- only the bytes themselves count
pub serves_halves : (s : Setting) (sent : ℕ → ℕ) (a b : ℕ → List ℕ) (w : World) (machine : Machine) → ((d : ℕ) → a d ≡ b d)
    → Serves s sent a w machine → Serves s sent b w machine
serves_halves s sent a b w machine same h = grind arith

pub half_twice : (c : ℕ) (x y : List ℕ) (half : ℕ → List ℕ) (d : ℕ) → with_half c y (with_half c x half) d ≡ with_half c y half d
half_twice c x y half d = grind arith

among_here : (n place : ℕ) → Apart (is_among n place) (is_of_frame (place + n))
among_here n place mark e = grind arith

here_among : (n place : ℕ) → Apart (is_of_frame (place + n)) (is_among n place)
here_among n place mark e = grind arith

among_more : (n m place : ℕ) → n ≤ m → Wider (is_among n place) (is_among m place)
among_more n m place le mark e = grind arith

here_more : (n place : ℕ) → Wider (is_of_frame (place + n)) (is_among (n + 1) place)
here_more n place mark e = grind arith

fold_more : (s : Setting) (marks : List Mark) (c place : ℕ) (w : World) (done : List Arrival) (arrival : Arrival)
    → fold (arrive s marks c) w (enumerate_from place (done ++ arrival ∷ []))
    ≡ arrive s marks c (fold (arrive s marks c) w (enumerate_from place done)) (place + length done, arrival)
fold_more s marks c place w done arrival = fold-places (arrive s marks c) w place done (arrival ∷ [])

takes_more : (c : ℕ) (a b : Option ℕ) (first machine new : Machine) (done : List Arrival) (more : List ℕ) → TakesSome c done more a first machine
    → (one : TakesOne c b machine new)
    → TakesSome c (done ++ one.arrival ∷ []) one.more (first_of a b) first new
takes_more c a b first machine new done more so_far one =
    let n = length done in
    let count : length (done ++ one.arrival ∷ []) ≡ n + 1 = length-append done (one.arrival ∷ []) in
    let second = shifted n is_of_frame (λ s marks place w. arrive s marks c w (place, one.arrival)) (with_half c one.more) b machine new one.does in
    let both = does_then (is_among n) (λ place. is_of_frame (place + n)) (is_among (n + 1))
    (λ s marks place w. fold (arrive s marks c) w (enumerate_from place done)) (λ s marks place w. arrive s marks c w (place + n, one.arrival))
    (with_half c more) (with_half c one.more) a b first machine new (among_here n) (here_among n)
    (λ place. among_more n (n + 1) place (omega arith)) (here_more n) one.leaves.back
    (λ s marks place w. on-arrivals (goes s marks c) w (enumerate_from place done) (any_arrivals c (enumerate_from place done)))
    (λ s marks place w. on-arrive (goes s marks c) w (place + n, one.arrival) (any_arrival c (place + n, one.arrival))) so_far second in
    let P : ℕ → Type 0 = λ k. ActsAs (is_among k) (λ s marks place w. fold (arrive s marks c) w (enumerate_from place (done ++ one.arrival ∷ [])))
    (with_half c one.more) (first_of a b) first new in
    subst P (sym count) (does_from both both.of_kind (λ s sent half w place marks agree ahead h.
    (let at = both.stands s sent half w place marks agree ahead h in
    rw (fold_more s marks c place w done one.arrival) (
      serves_halves s sent (with_half c one.more (with_half c more half)) (with_half c one.more half) _ new
          (half_twice c more one.more half) at.0,
      at.1,
      at.2,
    ))))

leaves_then : (c n m : ℕ) (a b : Option ℕ) (first machine new : Machine) → is_reading (link_at machine c).phase ≡ true
    → Leaves c n a first machine → Leaves c m b machine new → Leaves c (n + m) (first_of a b) first new
leaves_then c n m a b first machine new r p one = record {
  back = λ target sound. p.back target (one.back target sound);
  sure = λ sure. one.sure (p.sure sure);
  feeds = feeds_then c first machine new p.feeds one.feeds;
  closing = closed_then a b c machine new p.closing one.feeds one.closing;
  part = part_then c first machine new r p.part one.part;
  eases = λ d other. adds_then 0 0 (link_at first d) (link_at machine d) (link_at new d) (p.eases d other) (one.eases d other);
  loads = adds_then n m (link_at first c) (link_at machine c) (link_at new c) p.loads one.loads;
  keeps = grind arith;
}

pub goes_on : (c : ℕ) (a b : Option ℕ) (first machine new : Machine) → is_reading (link_at machine c).phase ≡ true → Progress c a first machine
    → TakesOne c b machine new → Progress c (first_of a b) first new
goes_on c a b first machine new r p one =
    let half : (link_at machine c).half ≡ p.more = p.kept.reading r in
    record {
      done = p.done ++ one.arrival ∷ [];
      more = one.more;
      front = grind (arith, append_assoc);
      behind = λ e. p.behind r ∙ ap rest (sym half) ∙ one.behind e;
      kept = one.kept;
      takes = takes_more c a b first machine new p.done p.more p.takes one;
      leaves = subst (λ (n : ℕ). Leaves c n (first_of a b) first new) (sym (length-append p.done (one.arrival ∷ [])))
          (leaves_then c (length p.done) 1 a b first machine new r p.leaves one.leaves);
    }

-- ---- all

pub idle_all : (s : Setting) (marks : List Mark) (c : ℕ) (w : World) (all : List (ℕ × Arrival)) → reads_life (present c w) ≡ false
    → fold (arrive s marks c) w all ≡ w
idle_all s marks c w [] e = refl
idle_all s marks c w (a ∷ all) e = ap (λ (v : World). fold (arrive s marks c) v all) (idle s marks c w a e) ∙ idle_all s marks c w all e

-- the connection does not read any more, so what is left does nothing
pub ends_idle : (c : ℕ) (starved : Option ℕ) (first machine : Machine) → c < connection_limit → is_reading (link_at machine c).phase ≡ false
    → Progress c starved first machine → TakesAll c starved first machine
ends_idle c starved first machine lt r p =
    let half0 = (link_at first c).half in
    let count : length p.done ≤ length (arrivals half0) = (let e = ap length p.front in omega (arith, e, length-append p.done (arrivals p.more))) in
    record {
      kept = record { reading = λ e. absurd (cc (e, r)); idle = p.kept.idle };
      short = λ e. absurd (cc (e, r));
      takes = does_from p.takes
          (λ place. all_wider (is_among (length p.done) place) (is_among (length (arrivals half0)) place) (p.takes.failed place)
          (among_more (length p.done) (length (arrivals half0)) place count) (p.takes.of_kind place))
          (λ s sent half w place marks agree ahead h.
          (let at = p.takes.stands s sent half w place marks (λ mark is. agree mark
          (among_more (length p.done) (length (arrivals half0)) place count mark is)) ahead h in
          let v = fold (arrive s marks c) w (enumerate_from place p.done) in
          let idle_ : reads_life (present c v) ≡ false = sym (reads_there s sent (with_half c p.more half) v machine c lt at.0) ∙ r in
          let whole : fold (arrive s marks c) w (enumerate_from place (arrivals half0)) ≡ v =
          ap (λ (l : List Arrival). fold (arrive s marks c) w (enumerate_from place l)) p.front
          ∙ fold-places (arrive s marks c) w place p.done (arrivals p.more)
          ∙ idle_all s marks c v (enumerate_from (place + length p.done) (arrivals p.more)) idle_ in
          rw whole (
            serves_halves s sent (with_half c (rest half0) (with_half c p.more half)) (with_half c (rest half0) half) v machine
                (half_twice c p.more (rest half0) half)
                (halves_idle s sent (with_half c p.more half) v machine c (rest half0) idle_ at.0),
            at.1,
            at.2,
          )));
      leaves = grind arith;
    }

-- nothing whole is left
pub nothing_by : (b : Bool) (bytes : List ℕ) → has_frame bytes ≡ b → arrivals bytes ≡ [] → has_frame bytes ≡ false
nothing_by true bytes e none = absurd (cc (
  none,
  some_whole bytes (drop (frame_length bytes) bytes) (first_frame bytes) (frames_step bytes e)
      (sym (rest_step bytes e)),
))
nothing_by false bytes e none = e

pub short_by : (b : Bool) (bytes : List ℕ) → is_long bytes ≡ b → arrivals bytes ≡ [] → is_long bytes ≡ false
short_by b bytes e none = grind (arith, long_whole)

pub ends_whole : (c : ℕ) (starved : Option ℕ) (first machine : Machine) → is_reading (link_at machine c).phase ≡ true
    → arrivals (link_at machine c).half ≡ [] → Progress c starved first machine → TakesAll c starved first machine
ends_whole c starved first machine r none p = grind (arith, append-nil, rest_none, nothing_by, short_by)

-- however the first starved is written
pub takes_as : (old new : Machine) (c : ℕ) (named : ℕ) → c ≡ named → TakesOne c (Some c) old new → TakesOne c (Some named) old new
takes_as old new c named e one = let P : ℕ → Type 0 = λ k. TakesOne c (Some k) old new in subst P e one

-- fewer bytes are left than there were
shorter_by : (b : Bool) (old new : Machine) (c : ℕ) (more : List ℕ) → is_reading (link_at new c).phase ≡ b → KeepsHalf more (link_at new c)
    → length more < length (link_at old c).half → length (link_at new c).half < length (link_at old c).half
shorter_by b old new c more r k lt = grind arith

pub taken_is_shorter : (c : ℕ) (starved : Option ℕ) (old new : Machine) → TakesOne c starved old new → length (link_at new c).half < length (link_at old c).half
taken_is_shorter c starved old new one = shorter_by (is_reading (link_at new c).phase) old new c one.more refl one.kept one.shorter

pub progress_as : (c : ℕ) (a b : Option ℕ) (first machine : Machine) → a ≡ b → Progress c a first machine → Progress c b first machine
progress_as c a b first machine e p = let P : Option ℕ → Type 0 = λ o. Progress c o first machine in subst P e p
