-- A PDU is taken from the front of the bytes, and those after it are put back once it is served.
use Rattle.std.proofs.Common.{◌≡◌, ◌≢◌, ◌⊎◌, ℕ, ◌<◌, List, [], length, Bool, true, false, Option, Some, None, refl, sym, ap, ◌∙◌, subst, arith, if◌then◌else◌, inl, inr}
use Rattle.std.specs.Prelude.{All, slice_index_or}
use Rattle.scsi_unit.specs.Units.{UnitStates, AreSound, AreSure}
use Rattle.std.proofs.lemmas.List.{set-get_or}
use Rattle.std.proofs.lemmas.Bool.Decides.{eqb_tells}
use Rattle.iscsi_pdu.specs.Frames.{Frame}
use Rattle.iscsi_world.specs.History.{Whole, connection_limit}
use Rattle.iscsi_world.specs.World.{Setting, World, reads_life, present, arrive}
use Rattle.iscsi_world.specs.Machine.{LinkState, Machine, Feeds, KeepsPart, link_at, with_link, is_reading, is_closing, is_with, GivesFrame}
use Rattle.iscsi_world.specs.declared.phase.Phase.{Phase}
use Rattle.iscsi_world.specs.Bounded.{AddsAtMost}
use Rattle.iscsi_world.specs.Serving.{Serves, with_half, IsClosed, KeepsHalf, TakesFrame, TakesOne, put_back}
use Rattle.iscsi_world.proofs.Linked.{reads_there, serves_as}
use Rattle.iscsi_world.proofs.Standing.{machine_same}
use Rattle.iscsi_world.proofs.Taking.{reads_below, rehalved, halves_idle, halving, some_whole, halved_reads, halved_link}
use Rattle.iscsi_world.proofs.Apart.{part_halved, part_as, part_none, part_then}
use Rattle.iscsi_world.proofs.Heavier.{halved_adds, header_whole}
use Rattle.iscsi_world.proofs.Moving.{link_set, link_other, own_self, feeds_then, changes_feeds, moves_none}

-- what that is to a connection whose bytes were all taken
record PutsBack (c : ℕ) (more : List ℕ) (given after : Machine) : Type 0 where
  units : after.units ≡ given.units
  link : link_at after c ≡ record (link_at given c) { half = if is_reading (link_at given c).phase then more else [] }
  others : (d : ℕ) → d ≢ c → link_at after d ≡ link_at given d
  feeds : Feeds c given after
  part : KeepsPart c given after
  serves : (s : Setting) (sent : ℕ → ℕ) (half : ℕ → List ℕ) (w : World) → Serves s sent (with_half c [] half) w given
      → Serves s sent (with_half c more half) w after

-- other bytes than before
halves_twice : (s : Setting) (sent : ℕ → ℕ) (half : ℕ → List ℕ) (w : World) (machine : Machine) (c : ℕ) (one two : List ℕ)
    → Serves s sent (with_half c two (with_half c one half)) w machine → Serves s sent (with_half c two half) w machine
halves_twice s sent half w machine c one two h = grind (arith, machine_same)

same_link : (machine : Machine) (c : ℕ) (link : LinkState) → link ≡ link_at machine c → with_link machine c link ≡ machine
same_link machine c link is = grind (arith, set-get_or)

put_some : (given after : Machine) (c : ℕ) (more : List ℕ) → c < connection_limit → is_reading (link_at given c).phase ≡ true
    → after ≡ with_link given c (record (link_at given c) { half = more }) → PutsBack c more given after
put_some given after c more lt r is =
    let new : LinkState = record (link_at given c) { half = more } in
    let below = reads_below given c r in
    record {
      units = ap (λ (m : Machine). m.units) is;
      link = ap (λ (m : Machine). link_at m c) is ∙ rw r (link_set given given.units c new below);
      others = λ d other. ap (λ (m : Machine). link_at m d) is ∙ link_other given given.units c d new other;
      feeds = (let P : Machine → Type 0 = λ m. Feeds c given m in
          subst P (sym is) (changes_feeds c given given.units c new below (halving (link_at given c) more r) (own_self c given)));
      part = part_as c given (with_link given c new) after is (part_halved given c more below);
      serves = λ s sent half w h. halves_twice s sent half w after c [] more
          (serves_as s sent (with_half c more (with_half c [] half)) w (with_link given c new) after is
          (rehalved s sent (with_half c [] half) w given c more lt r h));
    }

put_none : (given after : Machine) (c : ℕ) (more : List ℕ) → c < connection_limit → is_reading (link_at given c).phase ≡ false
    → (link_at given c).half ≡ [] → after ≡ given → PutsBack c more given after
put_none given after c more lt r none is =
    record {
      units = ap (λ (m : Machine). m.units) is;
      link = ap (λ (m : Machine). link_at m c) is
          ∙ rw r (ap (λ (bytes : List ℕ). (let link : LinkState = record (link_at given c) { half = bytes } in link)) none);
      others = λ d other. ap (λ (m : Machine). link_at m d) is;
      feeds = (let P : Machine → Type 0 = λ m. Feeds c given m in subst P (sym is) (moves_none c given).alters.feeds);
      part = part_as c given given after is (part_none c given);
      serves = λ s sent half w h. halves_twice s sent half w after c [] more
          (serves_as s sent (with_half c more (with_half c [] half)) w given after is
          (halves_idle s sent (with_half c [] half) w given c more (idle_there s sent (with_half c [] half) w given c lt r h) h));
    }
  where
    idle_there : (s : Setting) (sent : ℕ → ℕ) (half : ℕ → List ℕ) (w : World) (machine : Machine) (c : ℕ) → c < connection_limit
        → is_reading (link_at machine c).phase ≡ false → Serves s sent half w machine → reads_life (present c w) ≡ false
    idle_there s sent half w machine c lt r h = grind (arith, reads_there)

puts_back : (reads : Bool) (given after : Machine) (c : ℕ) (more : List ℕ) → is_reading (link_at given c).phase ≡ reads → c < connection_limit
    → (link_at given c).half ≡ [] → after ≡ put_back c more given → PutsBack c more given after
puts_back true given after c more r lt none is =
    put_some given after c more lt r (is ∙ rw r refl)
puts_back false given after c more r lt none is =
    put_none given after c more lt r none (is ∙ rw r (same_link given c _
    (ap (λ (bytes : List ℕ). (let link : LinkState = record (link_at given c) { half = bytes } in link)) (sym none))))

-- a connection that was served without its bytes has none
kept_none : (reads : Bool) (link : LinkState) → is_reading link.phase ≡ reads → KeepsHalf [] link → link.half ≡ []
kept_none true link r kept = kept.reading r
kept_none false link r kept = kept.idle r

pub served_none : (given taken : Machine) (c : ℕ) (frame : Frame) (starved : Option ℕ) → is_reading (link_at given c).phase ≡ true
    → (link_at given c).half ≡ [] → TakesFrame c frame starved given taken → (link_at taken c).half ≡ []
served_none given taken c frame starved r none t =
    kept_none _ (link_at taken c) refl (subst (λ (bytes : List ℕ). KeepsHalf bytes (link_at taken c)) none (t.moves.alters.keeps c r))

phase_back : (c : ℕ) (more : List ℕ) (taken new : Machine) → PutsBack c more taken new → (d : ℕ) → (link_at new d).phase ≡ (link_at taken d).phase
phase_back c more taken new p d = elim (eqb_tells d c) [
  | inl same ↦ rw same.1 (ap (λ (l : LinkState). l.phase) p.link)
  | inr differ ↦ ap (λ (l : LinkState). l.phase) (p.others d differ.1)
]

closed_back : (starved : Option ℕ) (c : ℕ) (more : List ℕ) (taken new : Machine) → PutsBack c more taken new → IsClosed starved taken → IsClosed starved new
closed_back None c more taken new p closed = tt
closed_back (Some k) c more taken new p closed = ap is_closing (phase_back c more taken new p k) ∙ closed

part_back : (c : ℕ) (more : List ℕ) (given taken new : Machine) → PutsBack c more taken new → KeepsPart c given taken → KeepsPart c given new
part_back c more given taken new p part = λ target own.
    (let apart = part target own in
    record {
      links = λ d out. p.others d (λ here. absurd (cc (own, ap (λ (n : ℕ). is_with target (link_at given n).phase) here, out))) ∙ apart.links d out;
      units = λ at differ. ap (λ (us : List UnitStates). slice_index_or us at []) p.units ∙ apart.units at differ;
      same = λ d own_. subst (λ (phase : Phase). (is_with target phase ≡ true) ⊎ (is_closing phase ≡ true)) (sym (phase_back c more taken new p d))
          (apart.same d own_);
    })

with_half_adds : (n : ℕ) (old new : LinkState) (half : List ℕ) → AddsAtMost n old new → AddsAtMost n old (record new { half = half })
with_half_adds n old new half a = λ rests. (let added = a rests in record { fits = added.fits; rests = added.rests })

kept_back : (c : ℕ) (more : List ℕ) (taken new : Machine) → PutsBack c more taken new → KeepsHalf more (link_at new c)
kept_back c more taken new p = grind (arith, p.link)

-- a PDU that was taken from the front, and served while the bytes after it were not there
takes_put : (old given taken new : Machine) (c : ℕ) (frame : Frame) (more : List ℕ) (starved : Option ℕ) → c < connection_limit
    → length old.links ≡ connection_limit → is_reading (link_at old c).phase ≡ true
    → GivesFrame frame (link_at old c).half more → given ≡ with_link old c (record (link_at old c) { half = [] })
    → TakesFrame c frame starved given taken → PutsBack c more taken new → TakesOne c starved old new
takes_put old given taken new c frame more starved lt count r gives is t p =
    let takes = t.takes in
    let moves = t.moves in
    let link = halved_link old given c [] lt count is in
    let reads_given = halved_reads old given c [] lt count is r in
    let loads = t.loads (header_whole (link_at old c).half frame _ gives.first) in
    let fed : Feeds c old given = (let P : Machine → Type 0 = λ m. Feeds c old m in subst P (sym is)
    (changes_feeds c old old.units c (record (link_at old c) { half = [] }) (omega (arith, count)) (halving (link_at old c) [] r) (own_self c old))) in
    let before : (d : ℕ) → d ≢ c → link_at given d ≡ link_at old d = λ d other. ap (λ (m : Machine). link_at m d) is
    ∙ link_other old old.units c d (record (link_at old c) { half = [] }) other in
    let units : new.units ≡ taken.units = p.units in
    record {
      arrival = Whole frame;
      more = more;
      front = some_whole (link_at old c).half more frame gives.first gives.behind;
      behind = λ e. sym gives.behind;
      shorter = gives.shorter;
      kept = kept_back c more taken new p;
      does = record {
        failed = takes.failed;
        first = takes.first;
        of_kind = takes.of_kind;
        came = takes.came;
        plain = λ sound. takes.plain (subst (λ (us : List UnitStates). All AreSound us) units sound);
        calm = λ target sound. takes.calm target (subst (λ (us : List UnitStates). AreSound (slice_index_or us target [])) units sound);
        stands = λ s sent half w place marks agree ahead h.
            (let at = takes.stands s sent (with_half c [] half) w place marks agree ahead
            (serves_as s sent (with_half c [] half) w (with_link old c (record (link_at old c) { half = [] })) given is
            (rehalved s sent half w old c [] lt r h)) in
            (p.serves s sent half (arrive s marks c w (place, Whole frame)) at.0, at.1, at.2));
      };
      leaves = record {
        back = λ target sound. subst (λ (us : List UnitStates). AreSound (slice_index_or us target [])) (ap (λ (m : Machine). m.units) is)
            (moves.back target (subst (λ (us : List UnitStates). AreSound (slice_index_or us target [])) units sound));
        sure = λ sure. subst (λ (us : List UnitStates). All AreSure us) (sym units)
            (moves.sure (subst (λ (us : List UnitStates). All AreSure us) (sym (ap (λ (m : Machine). m.units) is)) sure));
        feeds = feeds_then c old taken new (feeds_then c old given taken fed moves.alters.feeds) p.feeds;
        closing = closed_back starved c more taken new p moves.closing;
        part = part_then c old given new reads_given (part_as c old (with_link old c (record (link_at old c) { half = [] })) given is
            (part_halved old c [] (omega (arith, count)))) (part_back c more given taken new p t.part);
        eases = λ d other. subst (AddsAtMost 0 (link_at old d)) (sym (p.others d other))
            (subst (λ (l : LinkState). AddsAtMost 0 l (link_at taken d)) (before d other) (moves.alters.eases d other));
        keeps = λ d other reads. subst (KeepsHalf (link_at old d).half) (sym (p.others d other))
            (let P : LinkState → Type 0 = λ l. is_reading l.phase ≡ true → KeepsHalf l.half (link_at taken d) in
            subst P (before d other) (moves.alters.keeps d) reads);
        loads = subst (AddsAtMost 1 (link_at old c)) (sym p.link) (with_half_adds 1 (link_at old c) (link_at taken c) _
            (halved_adds 1 (link_at old c) (link_at taken c) [] (subst (λ (l : LinkState). AddsAtMost 1 l (link_at taken c)) link loads)));
      };
    }

-- nothing waits on the connection while it is served
left_none : (old given taken : Machine) (c : ℕ) (frame : Frame) (starved : Option ℕ) → c < connection_limit → length old.links ≡ connection_limit
    → is_reading (link_at old c).phase ≡ true → given ≡ with_link old c (record (link_at old c) { half = [] })
    → TakesFrame c frame starved given taken → (link_at taken c).half ≡ []
left_none old given taken c frame starved lt count r is t =
    served_none given taken c frame starved (halved_reads old given c [] lt count is r)
    (ap (λ (l : LinkState). l.half) (halved_link old given c [] lt count is)) t

pub takes_arrived : (old given taken new : Machine) (c : ℕ) (frame : Frame) (more : List ℕ) (starved : Option ℕ) → c < connection_limit
    → length old.links ≡ connection_limit → is_reading (link_at old c).phase ≡ true
    → GivesFrame frame (link_at old c).half more → given ≡ with_link old c (record (link_at old c) { half = [] })
    → TakesFrame c frame starved given taken → new ≡ put_back c more taken → TakesOne c starved old new
takes_arrived old given taken new c frame more starved lt count r gives is t back =
    takes_put old given taken new c frame more starved lt count r gives is t
    (puts_back _ taken new c more refl lt (left_none old given taken c frame starved lt count r is t) back)
