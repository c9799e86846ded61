-- All arrivals of a piece were taken; the bytes after them are kept, or an allocation failed there and the connection was closed.
use Rattle.std.proofs.Common.{◌≡◌, ℕ, ◌<◌, ◌≤◌, List, [], ◌∷◌, ◌++◌, length, Bool, true, false, Option, Some, None, refl, sym, ap, ◌∙◌, subst, arith, inl, inr}
use Rattle.std.specs.Prelude.{Result, Ok, Err, OnOk, IfErr}
use Rattle.iscsi_pdu.specs.Frames.{rest, has_frame}
use Rattle.iscsi_session.specs.Comings.{Coming, AreAhead}
use Rattle.iscsi_session.proofs.Came.{plain_ahead, ahead_self}
use Rattle.iscsi_world.specs.History.{Bytes, AtEnd, Mark, History, plain, marked, is_point, connection_limit}
use Rattle.iscsi_world.specs.World.{Setting, World, present, reads_life, is_marked, close, reaching, bring, begun_event, world}
use Rattle.iscsi_world.specs.Machine.{Machine, IsSound, IsSure, ReflectsSoundness, WhereSound, Feeds, KeepsPart, link_at, closed, is_reading, want_of}
use Rattle.iscsi_world.specs.Stands.{IsStarved, Stands, StandsAfter, are_reached, Begins}
use Rattle.iscsi_world.specs.Serving.{Agrees, first_starved, first_of, IsClosed, with_half, kept_piece, is_among, KeepsHalf, Preserves, StarvesAfter, TakesBytes}
use Rattle.iscsi_world.specs.Bounded.{Bounded}
use Rattle.iscsi_world.specs.declared.fault.Starved.{Starved}
use Rattle.iscsi_world.proofs.Apart.{part_closed, part_as, part_then}
use Rattle.iscsi_world.proofs.Doing.{begins_both, reached_both}
use Rattle.iscsi_world.proofs.Fed.{piece_came}
use Rattle.iscsi_world.proofs.Feeding.{Fed, Came, reached_event, walks, stands_again, stands_after, starved_marks, first_sound, all_came, ok_came, err_came}
use Rattle.iscsi_world.proofs.Frames.{marked_step, reached_first}
use Rattle.iscsi_world.proofs.Keeping.{Prolongs, on-close, on-reaching, on-then}
use Rattle.iscsi_world.proofs.Linked.{reads_there, some_reads, closes, present-close, serves_as, serves_reaching, present-reaching}
use Rattle.iscsi_world.proofs.Marks.{Apart, mark_at, marked_one, marked_append, agrees_left}
use Rattle.iscsi_world.proofs.Moving.{own_self, feeds_then, closed_then, starved_moves, moves_as}
use Rattle.iscsi_world.proofs.Reflected.{sound_back}
use Rattle.iscsi_world.proofs.Standing.{halves_of}
use Rattle.iscsi_world.proofs.Taking.{closed_keeps, none_left, reads_below}
use Rattle.iscsi_world.proofs.Wanting.{fed_bounded, closed_bounded, bounded_as}

-- ---- what either does to every target

mid_below : (c : ℕ) (starved : Option ℕ) (old new : Machine) → (k : StarvesAfter c starved old new) → c < length k.mid.links
mid_below c starved old new k = reads_below k.mid c k.reads

-- after the arrivals
mid_moves : (c : ℕ) (starved : Option ℕ) (old new : Machine) → (k : StarvesAfter c starved old new) → Preserves c (Some c) k.mid new
mid_moves c starved old new k = moves_as c (Some c) k.mid (closed k.mid c) new k.closes
    (starved_moves c k.mid c (mid_below c starved old new k) k.reads (own_self c k.mid))

pub bytes_back : (c : ℕ) (starved : Option ℕ) (old new : Machine) → TakesBytes c starved old new → ReflectsSoundness old new
bytes_back c starved old new (inl all) = all.leaves.back
bytes_back c starved old new (inr k) = λ target sound. k.takes.leaves.back target ((mid_moves c starved old new k).back target sound)

pub bytes_sure : (c : ℕ) (starved : Option ℕ) (old new : Machine) → TakesBytes c starved old new → IsSure old → IsSure new
bytes_sure c starved old new (inl all) sure = all.leaves.sure sure
bytes_sure c starved old new (inr k) sure = (mid_moves c starved old new k).sure (k.takes.leaves.sure sure)

pub bytes_feeds : (c : ℕ) (starved : Option ℕ) (old new : Machine) → TakesBytes c starved old new → Feeds c old new
bytes_feeds c starved old new (inl all) = all.leaves.feeds
bytes_feeds c starved old new (inr k) = feeds_then c old k.mid new k.takes.leaves.feeds (mid_moves c starved old new k).alters.feeds

pub bytes_closing : (c : ℕ) (starved : Option ℕ) (old new : Machine) → TakesBytes c starved old new → IsClosed starved new
bytes_closing c starved old new (inl all) = all.leaves.closing
bytes_closing c starved old new (inr k) =
    let moves = mid_moves c starved old new k in
    subst (λ (o : Option ℕ). IsClosed o new) (sym k.first)
    (closed_then k.earlier (Some c) c k.mid new k.takes.leaves.closing moves.alters.feeds moves.closing)

pub bytes_part : (c : ℕ) (starved : Option ℕ) (old new : Machine) → TakesBytes c starved old new → KeepsPart c old new
bytes_part c starved old new (inl all) = all.leaves.part
bytes_part c starved old new (inr k) = part_then c old k.mid new k.reads k.takes.leaves.part
    (part_as c k.mid (closed k.mid c) new k.closes (part_closed k.mid c (mid_below c starved old new k)))

-- what is left of the bytes; a closed connection keeps none
bytes_kept : (c : ℕ) (starved : Option ℕ) (old new : Machine) → TakesBytes c starved old new → KeepsHalf (rest (link_at old c).half) (link_at new c)
bytes_kept c starved old new (inl all) = all.kept
bytes_kept c starved old new (inr k) = subst (λ (m : Machine). KeepsHalf (rest (link_at old c).half) (link_at m c)) (sym k.closes)
    (closed_keeps k.mid c (rest (link_at old c).half) (mid_below c starved old new k))

pub bytes_none_left : (c : ℕ) (starved : Option ℕ) (old new : Machine) → TakesBytes c starved old new → has_frame (link_at new c).half ≡ false
bytes_none_left c starved old new takes = none_left (link_at old c).half (link_at new c) (bytes_kept c starved old new takes)

-- a piece that is no longer than what is wanted
pub bytes_bounded : (old kept new : Machine) (c : ℕ) (piece : List ℕ) (starved : Option ℕ) → c < length old.links
    → is_reading (link_at old c).phase ≡ true → kept ≡ kept_piece c piece old → TakesBytes c starved kept new
    → length piece ≤ want_of (link_at old c) → Bounded old → Bounded new
bytes_bounded old kept new c piece starved lt reads_ is (inl all) le bounded = fed_bounded old kept new c piece starved lt reads_ is all le bounded
bytes_bounded old kept new c piece starved lt reads_ is (inr k) le bounded =
    bounded_as (closed k.mid c) new k.closes (closed_bounded k.mid c (mid_below c starved kept new k)
    (fed_bounded old kept k.mid c piece k.earlier lt reads_ is k.takes le bounded))

-- ---- an allocation failed at the event's end

abbrev is_at_end : Mark → Bool
is_at_end mark = is_point AtEnd mark.point

among_not_end : (n place : ℕ) → Apart (is_among n place) is_at_end
among_not_end n place mark e = grind arith

-- one more mark, at the event's end, is none of the arrivals'
ended_agrees : (c n place : ℕ) (failed : List Mark) → Agrees (is_among n place) (failed ++ mark_at c AtEnd ∷ []) failed
ended_agrees c n place failed =
    agrees_left (is_among n place) is_at_end (λ mark. true) (failed ++ mark_at c AtEnd ∷ []) failed (mark_at c AtEnd ∷ []) (among_not_end n place)
    (λ mark e. refl) refl (λ mark e. refl)

ended_marked : (c : ℕ) (failed : List Mark) → is_marked (failed ++ mark_at c AtEnd ∷ []) c AtEnd ≡ true
ended_marked c failed = grind (arith, marked_append, marked_one)

comes_after : (s : Setting) (sent : ℕ → ℕ) (w : World) (machine first now : Machine) (comings : List Coming) (c : ℕ) (piece : List ℕ)
    (starved : Option ℕ) → Fed s sent w machine first c piece → (k : StarvesAfter c starved first now) → AreAhead k.takes.takes.came comings
    → Came s sent w comings c piece starved now
comes_after s sent w machine first now comings c piece starved f k ahead =
    let failed = k.takes.takes.failed in
    let ended = mark_at c AtEnd ∷ [] in
    let walk = walks s sent w machine first k.mid comings c piece k.earlier f k.takes ahead (λ place. failed place ++ ended)
    (λ n place. ended_agrees c n place (failed place)) in
    let marks = failed walk.place ++ ended in
    let half = with_half c (rest (walk.life.bytes ++ piece)) (halves_of w) in
    let v0 = piece_came comings c piece w in
    let v = walk.last in
    let there = some_reads (present c v) (sym (reads_there s sent half v k.mid c f.in_range walk.serves) ∙ k.reads) in
    let u = reaching c (AtEnd ∷ []) v in
    let at_u : present c u ≡ Some there.0 = present-reaching c c (AtEnd ∷ []) v ∙ there.1 in
    let last = close c u in
    let shut_ : reads_life (present c last) ≡ false = ap reads_life (present-close c u there.0 at_u) in
    let ends : Prolongs v last = on-then v u last (on-reaching c (AtEnd ∷ []) v) (on-close c u) in
    let whole : bring s marks c piece (begun_event comings w) ≡ last =
    walk.brings ∙ marked_step marks c AtEnd (λ x. x) v (ap reads_life there.1 ∙ there.2) (ended_marked c (failed walk.place)) in
    let serves = serves_as s sent half last (closed k.mid c) now k.closes
    (closes s sent half u k.mid c there.0 f.in_range (serves_reaching s sent half v k.mid c (AtEnd ∷ []) walk.serves) at_u) in
    record {
      marks = marks;
      first = subst (λ (o : Option ℕ). Begins o marks) (sym k.first)
          (begins_both k.earlier (Some c) (failed walk.place) ended (k.takes.takes.first walk.place) refl);
      reached = ap (are_reached marks) whole ∙ reached_event marks comings c piece w last
          (reached_both (failed walk.place) ended v0 v last walk.goes ends walk.reached (reached_first c AtEnd v));
      stands = rw whole (stands_again s sent w last machine now comings c piece walk.life f.stands walk.there (on-then v0 v last walk.goes ends)
          (λ e. absurd (cc (e, shut_))) serves);
    }

-- ---- as the code has it

-- a connection is named
one_starved : (o : Option ℕ) (c : ℕ) → None ≡ first_of o (Some c) → ⊥
one_starved o c e = grind arith

module _ (machine first now : Machine) (c : ℕ) (piece : List ℕ) (lt : c < connection_limit)
    (reads_so : is_reading (link_at machine c).phase ≡ true) (is : first ≡ kept_piece c piece machine) where
  mid_sound : (starved : Option ℕ) (k : StarvesAfter c starved first now) → IsSound now → IsSound k.mid
  mid_sound starved k sound = sound_back k.mid now (mid_moves c starved first now k).back sound

  after_came : (s : Setting) (sent : ℕ → ℕ) (h : History) (comings : List Coming) (starved : Option ℕ) (k : StarvesAfter c starved first now)
      → AreAhead k.takes.takes.came comings → Stands s sent machine h → Came s sent (world s h) comings c piece starved now
  after_came s sent h comings starved k ahead at = comes_after s sent (world s h) machine first now comings c piece starved
      (record { in_range = lt; stands = at; reads_so = reads_so; is = is }) k ahead

  -- where all units are sound after it, no store failed
  after_plain : (s : Setting) (sent : ℕ → ℕ) (h : History) (starved : Option ℕ) → StarvesAfter c starved first now
      → (IsSound machine → Stands s sent machine h) → IsSound now → Came s sent (world s h) [] c piece starved now
  after_plain s sent h starved k at sound =
      let mid = mid_sound starved k sound in
      after_came s sent h [] starved k (plain_ahead k.takes.takes.came (k.takes.takes.plain mid))
      (at (first_sound machine first k.mid c piece lt reads_so is k.earlier k.takes mid))

  pub bytes_all_came : (r : Result (Unit {0}) Starved) → TakesBytes c (first_starved r) first now
      → (s : Setting) (sent : ℕ → ℕ) (h : History) → Stands s sent machine h → StandsAfter s sent h (Bytes c piece) (first_starved r) now
  bytes_all_came r (inl all) s sent h at = all_came machine first now c piece lt reads_so is r all s sent h at
  bytes_all_came r (inr k) s sent h at =
      let came = k.takes.takes.came in
      stands_after s sent h now came c piece (first_starved r) (λ sound. k.takes.takes.plain (mid_sound (first_starved r) k sound))
      (λ target sound. k.takes.takes.calm target ((mid_moves c (first_starved r) first now k).back target sound))
      (after_came s sent h came (first_starved r) k (ahead_self came) at)

  pub bytes_ok_came : (r : Result (Unit {0}) Starved) → TakesBytes c (first_starved r) first now
      → OnOk r ((s : Setting) (sent : ℕ → ℕ) (h : History) → WhereSound machine (Stands s sent machine h)
      → WhereSound now (Stands s sent now (h ++ plain (Bytes c piece) ∷ [])))
  bytes_ok_came (Ok u) (inl all) = ok_came machine first now c piece lt reads_so is (Ok u) all
  bytes_ok_came (Ok u) (inr k) = absurd (one_starved k.earlier c k.first)
  bytes_ok_came (Err e) takes = tt

  pub bytes_err_came : (r : Result (Unit {0}) Starved) → TakesBytes c (first_starved r) first now
      → IfErr r (λ starved. (s : Setting) (sent : ℕ → ℕ) (h : History) → WhereSound machine (Stands s sent machine h)
      → WhereSound now ((marks : List Mark) × IsStarved s (world s h) (Bytes c piece) starved.connection marks
      × Stands s sent now (h ++ marked marks (Bytes c piece) ∷ [])))
  bytes_err_came (Ok u) takes = tt
  bytes_err_came (Err e) (inl all) = err_came machine first now c piece lt reads_so is (Err e) all
  bytes_err_came (Err e) (inr k) = λ s sent h at sound. starved_marks s sent h now c e.connection piece
      (after_plain s sent h (Some e.connection) k at sound)
