-- A piece of no more bytes than are wanted brings one frame at most, and each connection stays as light as it may be.
use Rattle.std.proofs.Common.{◌≡◌, ℕ, ◌+◌, ◌*◌, ◌<◌, ◌≤◌, List, [], ◌++◌, length, drop, get_or, Bool, true, false, ltb, Option, refl, sym, ap, ◌∙◌, subst, arith, inl, inr, append-nil}
use Rattle.std.proofs.lemmas.Bool.Decides.{eqb_tells}
use Rattle.std.proofs.lemmas.List.{length-append, length-drop, nil_from_length}
use Rattle.iscsi_pdu.specs.Header.{header_length}
use Rattle.iscsi_pdu.specs.Frames.{has_frame, is_long, first_frame, frame_length, missing, wanted}
use Rattle.iscsi_pdu.proofs.Frames.{has_frame-from, is_long-from, frame_length-header, frames_step, rest_step}
use Rattle.iscsi_pdu.proofs.Cuts.{frame_length-append}
use Rattle.iscsi_login.specs.Directory.{KnownTargets}
use Rattle.scsi_unit.specs.Units.{UnitStates}
use Rattle.iscsi_session.specs.Weight.{request_weight}
use Rattle.iscsi_session.proofs.AtRest.{few_pending}
use Rattle.iscsi_world.specs.History.{arrivals, connection_limit}
use Rattle.iscsi_world.specs.Machine.{LinkState, Machine, link_at, with_link, free_link, shut_link, opened_link, sent_link, closed, new_machine, is_reading, is_closing, most_waiting, want_of}
use Rattle.iscsi_world.specs.Serving.{KeepsHalf, TakesAll, kept_piece}
use Rattle.iscsi_world.specs.Bounded.{most_weight, weight_in, Rests, WeighsAtMost, IsBounded, Bounded, AddsAtMost, CallsKeepBounded}
use Rattle.iscsi_world.specs.declared.phase.Phase.{Phase}
use Rattle.iscsi_world.proofs.Lending.{none_linked}
use Rattle.iscsi_world.proofs.Moving.{link_set, link_other, closed_count}
use Rattle.iscsi_world.proofs.Taking.{none_whole, rest_no_frame, some_whole, long_whole, no_bytes, nothing_by, short_by}
use Rattle.iscsi_world.proofs.Bounding.{adds_shut}

-- ---- frames

-- no more bytes than their first frame has
few_whole : (bytes : List ℕ) → length bytes ≤ frame_length bytes → length (arrivals bytes) ≤ 1
few_whole bytes le = by_frame (has_frame bytes) (is_long bytes) refl refl
  where
    by_frame : (a b : Bool) → has_frame bytes ≡ a → is_long bytes ≡ b → length (arrivals bytes) ≤ 1
    by_frame true b e f =
        let more = drop (frame_length bytes) bytes in
        let none : more ≡ [] = nil_from_length more (omega (arith, le, length-drop (frame_length bytes) bytes)) in
        let is = some_whole bytes more (first_frame bytes) (frames_step bytes e) (sym (rest_step bytes e)) in
        omega (arith, ap (λ l. length l) is, ap (λ (l : List ℕ). length (arrivals l)) none, ap (λ l. length l) no_bytes)
    by_frame false true e f = omega (arith, ap (λ l. length l) (long_whole bytes f), ap (λ l. length l) no_bytes)
    by_frame false false e f = omega (arith, ap (λ l. length l) (none_whole bytes e f))

unfinished_frame : (half : List ℕ) → header_length ≤ length half → has_frame half ≡ false → is_long half ≡ false → length half < frame_length half
unfinished_frame half whole none short = grind (arith, has_frame-from, is_long-from)

pub wanted_few : (half piece : List ℕ) → has_frame half ≡ false → is_long half ≡ false → length piece ≤ wanted half → length (arrivals (half ++ piece)) ≤ 1
unfolding missing
wanted_few half piece none short le =
    grind (arith, unfinished_frame, few_whole, length-append, frame_length-append, frame_length-header)

-- ---- what a connection keeps between two events

-- nothing whole, and no header that names too much data
abbrev IsPartial : List ℕ → Type 0
IsPartial half = (has_frame half ≡ false) × (is_long half ≡ false)

partial_of : (half : List ℕ) → arrivals half ≡ [] → IsPartial half
partial_of half none = (nothing_by (has_frame half) half refl none, short_by (is_long half) half refl none)

kept_partial : (b : Bool) (half : List ℕ) (link : LinkState) → is_reading link.phase ≡ b → KeepsHalf half link
    → (is_reading link.phase ≡ true → arrivals half ≡ []) → arrivals link.half ≡ []
kept_partial b half link reads_ kept none = grind (arith, no_bytes)

-- ---- as heavy as it may be

least_of : (waiting : ℕ) (phase : Phase) → Rests phase → weight_in waiting phase ≤ waiting + 40 * request_weight
least_of waiting phase r = grind (arith, few_pending)

weighs_by : (b : Bool) (old new : LinkState) (piece : List ℕ) → ltb most_waiting (length old.waiting) ≡ b → IsPartial old.half → is_closing old.phase ≡ false
    → length piece ≤ want_of old → AddsAtMost (length (arrivals (old.half ++ piece))) old new → WeighsAtMost most_weight old → WeighsAtMost most_weight new
weighs_by b old new piece much half open_ le adds w = grind (arith, nil_from_length, append-nil, none_whole, wanted_few, least_of)

reading_no_closing : (phase : Phase) → is_reading phase ≡ true → is_closing phase ≡ false
reading_no_closing phase e = grind arith

pub eased : (old new : LinkState) → AddsAtMost 0 old new → WeighsAtMost most_weight old → WeighsAtMost most_weight new
eased old new adds w = let a = adds w.rests in let fits = a.fits in let was = w.fits in record { fits = omega (arith, fits, was); rests = a.rests }

-- another connection keeps its bytes, or none
other_partial : (b : Bool) (old new : LinkState) → is_reading old.phase ≡ b → (is_reading old.phase ≡ true → KeepsHalf old.half new)
    → (is_reading old.phase ≡ false → new ≡ old) → arrivals old.half ≡ [] → arrivals new.half ≡ []
other_partial b old new reads_ keeps still none = grind (arith, kept_partial)

-- a piece that is no longer than what is wanted, and what is whole is taken
pub fed_bounded : (old kept new : Machine) (c : ℕ) (piece : List ℕ) (starved : Option ℕ) → c < length old.links → is_reading (link_at old c).phase ≡ true
    → kept ≡ kept_piece c piece old → TakesAll c starved kept new → length piece ≤ want_of (link_at old c) → Bounded old → Bounded new
fed_bounded old kept new c piece starved lt reads_ is takes le bounded d = elim (eqb_tells d c) [
  | inl same ↦
      let link = record (link_at old c) { half = (link_at old c).half ++ piece } in
      let there : link_at kept c ≡ link = ap (λ (m : Machine). link_at m c) is ∙ link_set old old.units c link lt in
      let P : LinkState → Type 0 = λ l. AddsAtMost (length (arrivals l.half)) l (link_at new c) in
      subst (λ (k : ℕ). IsBounded (link_at new k)) (sym same.1) (record {
        weighs = weighs_by (ltb most_waiting (length (link_at old c).waiting)) (link_at old c) (link_at new c) piece refl
            (partial_of (link_at old c).half (bounded c).partial)
            (reading_no_closing (link_at old c).phase reads_) le
            (subst P there takes.leaves.loads) (bounded c).weighs;
        partial = grind (arith, kept_partial, none_whole, rest_no_frame);
      })
  | inr differ ↦
      let link = record (link_at old c) { half = (link_at old c).half ++ piece } in
      let there : link_at kept d ≡ link_at old d = ap (λ (m : Machine). link_at m d) is ∙ link_other old old.units c d link differ.1 in
      record {
        weighs = grind arith;
        partial = other_partial (is_reading (link_at kept d).phase) (link_at kept d) (link_at new d) refl (takes.leaves.keeps d differ.1)
            (takes.leaves.feeds.still d) (ap (λ (l : LinkState). arrivals l.half) there ∙ (bounded d).partial);
      }
]

-- ---- the other calls

with_bounded : (machine : Machine) (c : ℕ) (link : LinkState) → c < length machine.links → Bounded machine → IsBounded link
    → Bounded (with_link machine c link)
with_bounded machine c link lt bounded w d = elim (eqb_tells d c) [
  | inl same ↦ subst (λ (k : ℕ). IsBounded (link_at (with_link machine c link) k)) (sym same.1)
      (subst IsBounded (sym (link_set machine machine.units c link lt)) w)
  | inr differ ↦ subst IsBounded (sym (link_other machine machine.units c d link differ.1)) (bounded d)
]

closed_links : (machine : Machine) (c d : ℕ) → link_at (closed machine c) d ≡ link_at (with_link machine c (shut_link (link_at machine c))) d
unfolding closed
closed_links machine c d = refl

pub closed_bounded : (machine : Machine) (c : ℕ) → c < length machine.links → Bounded machine → Bounded (closed machine c)
closed_bounded machine c lt bounded d =
    subst IsBounded (sym (closed_links machine c d)) (with_bounded machine c (shut_link (link_at machine c)) lt bounded
    (record { weighs = eased (link_at machine c) _ (adds_shut 0 (link_at machine c)) (bounded c).weighs; partial = no_bytes }) d)

pub opened_bounded : (machine : Machine) (c : ℕ) → c < length machine.links → Bounded machine → Bounded (with_link machine c (opened_link c))
opened_bounded machine c lt bounded = with_bounded machine c (opened_link c) lt bounded
    (record { weighs = record { fits = omega arith; rests = tt }; partial = no_bytes })

pub gone_bounded : (machine : Machine) (c : ℕ) → c < length machine.links → Bounded machine → Bounded (with_link (closed machine c) c free_link)
gone_bounded machine c lt bounded =
    with_bounded (closed machine c) c free_link (omega (arith, lt, closed_count machine c)) (closed_bounded machine c lt bounded)
    (record { weighs = record { fits = omega arith; rests = tt }; partial = no_bytes })

pub sent_bounded : (machine : Machine) (c n : ℕ) → c < length machine.links → Bounded machine → Bounded (with_link machine c (sent_link (link_at machine c) n))
sent_bounded machine c n lt bounded =
    let link = link_at machine c in
    let w = bounded c in
    let fits = w.weighs.fits in
    with_bounded machine c (sent_link link n) lt bounded (record {
      weighs = grind (arith, length-drop);
      partial = w.partial;
    })

pub new_bounded : (directory : KnownTargets) (units : List UnitStates) → Bounded (new_machine directory units)
new_bounded directory units c = subst IsBounded (sym (none_linked connection_limit c))
    (record { weighs = record { fits = omega arith; rests = tt }; partial = no_bytes })

pub bounded_as : (a b : Machine) → b ≡ a → Bounded a → Bounded b
bounded_as a b e bounded = subst Bounded (sym e) bounded

pub calls_keep_bounded : CallsKeepBounded
calls_keep_bounded = record { made = new_bounded; opened = opened_bounded; gone = gone_bounded; sent = sent_bounded }

-- a machine with the connections of this one
pub bounded_links : (machine : Machine) (links : List LinkState) → machine.links ≡ links → Bounded machine → (c : ℕ)
    → IsBounded (get_or links c free_link)
bounded_links machine links e bounded c = subst (λ (l : List LinkState). IsBounded (get_or l c free_link)) e (bounded c)
