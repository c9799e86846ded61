use Rattle.std.proofs.Common.{◌≡◌, ℕ, List, ◌++◌, length, refl, ap, arith, rules}
use Rattle.std.proofs.lemmas.List.{length-append}
use Rattle.iscsi_target.specs.Machine.{link_at}
use Rattle.target_replay.proofs.Drained.{drained_more, drained_open, drained_less, none_taken, none_waits, sent_then, all_taken, all_drained}
use Rattle.target_replay.proofs.printing.take_waiting.Goals as goal

pub fronts-init : goal.fronts-init
fronts-init g c = record {
  taken = ap (λ (xs : List ℕ). xs ++ (link_at c.args.target.now c.args.c).waiting) c.new-bytes.ensures.items;
  there = c.requires.«open»;
  stands = λ s sent h stands. none_taken s sent h c.args.target.now c.args.c _ (ap (λ (xs : List ℕ). length xs) c.new-bytes.ensures.items) stands;
  each = λ target sound. sound;
  sure = λ sure. sure;
}

pub fronts-preserved : goal.fronts-preserved
fronts-preserved g c =
    let was = c.fronts.invariant in
    let more = c.in_ok-extend_from_slice.ensures.items in
    record {
      taken = drained_more c.fronts.target c.sent.new.self c.args.c (length c.out-front.result.now) c.out-front.result.now c.fronts.bytes.items
          c.extend_from_slice.new.self.items _ was.there c.out-front.ensures.front refl was.taken more c.sent.ensures.now;
      there = drained_open c.fronts.target c.sent.new.self c.args.c _ was.there c.sent.ensures.now;
      stands = λ s sent h stands.
          sent_then s sent h c.sent.new.self c.args.c (length c.fronts.bytes.items) (length c.out-front.result.now) (length c.extend_from_slice.new.self.items)
          (omega (arith, simp length-append at (ap (λ (xs : List ℕ). length xs) more)))
          (c.sent.ensures.always s _ h (was.stands s sent h stands));
      each = λ target sound. was.each target (c.sent.ensures.each target sound);
      sure = λ sure. c.sent.ensures.sure (was.sure sure);
    }

pub fronts-smaller : goal.fronts-smaller
fronts-smaller g c =
    drained_less c.fronts.target c.sent.new.self c.args.c (length c.out-front.result.now) c.fronts.invariant.there (grind arith)
    c.out-front.ensures.within c.sent.ensures.now

pub returns-then-is_empty-clause-bytes : goal.returns-then-is_empty-clause-bytes
returns-then-is_empty-clause-bytes g c =
    let none : length c.out-front.result.now ≡ 0 = search rules in
    let some = c.out-front.ensures.some in
    all_taken c.fronts.bytes.items (link_at c.fronts.target c.args.c).waiting _ (none_waits _ _ some none) c.fronts.invariant.taken

pub returns-then-is_empty-clause-stands : goal.returns-then-is_empty-clause-stands
returns-then-is_empty-clause-stands g c = λ s sent h stands.
    all_drained s sent h c.args.target.now c.fronts.target c.args.c (length c.fronts.bytes.items) c.requires.in_range stands
    (ap (λ (xs : List ℕ). length xs) (returns-then-is_empty-clause-bytes g c)) (c.fronts.invariant.stands s sent h stands)
