use Rattle.std.proofs.Common.{◌≡◌, ◌<◌, [], length, refl, sym, ◌∙◌, subst, arith, rules}
use Rattle.std.proofs.lemmas.Bool.{eqb-true}
use Rattle.std.proofs.lemmas.List.{nil_from_length}
use Rattle.iscsi_world.specs.World.{world}
use Rattle.iscsi_world.proofs.Apart.{part_none}
use Rattle.iscsi_world.proofs.Feeding.{comes_idle, comes_empty, none_after}
use Rattle.iscsi_world.proofs.Standing.{stands_as}
use Rattle.iscsi_world.specs.Serving.{first_starved, kept_piece}
use Rattle.iscsi_world.proofs.Starving.{bytes_none_left}
use Rattle.iscsi_target.proofs.Pieces.{takes_piece}
use Rattle.iscsi_target.specs.Feeding.{TakesPiece}
use Rattle.iscsi_target.proofs.target.Target.feed.Goals as goal

pub returns-then-is_empty-clause-stands : goal.returns-then-is_empty-clause-stands
returns-then-is_empty-clause-stands g c = λ s sent h at sound.
    (let none : c.args.piece.now ≡ [] = nil_from_length c.args.piece.now (eqb-true _ _ (sym c.is_empty.ensures ∙ c.if-is_empty.true)) in
    stands_as s sent c.args.self.now h _ _ refl (rw none (comes_empty s sent (world s h) c.args.self.now c.args.c c.requires.in_range (at sound)
    c.requires.«open»)))

pub returns-then-not-reads-clause-stands : goal.returns-then-not-reads-clause-stands
returns-then-not-reads-clause-stands g c = λ s sent h at sound.
    stands_as s sent c.args.self.now h _ _ refl
    (comes_idle s sent (world s h) c.args.self.now c.args.c c.args.piece.now c.requires.in_range (at sound) c.requires.«open»
    (sym c.reads.ensures.value ∙ c.if-not-reads.true))

pub returns-then-is_empty-clause-came : goal.returns-then-is_empty-clause-came
returns-then-is_empty-clause-came g c = λ s sent h at.
    (let none : c.args.piece.now ≡ [] = nil_from_length c.args.piece.now (eqb-true _ _ (sym c.is_empty.ensures ∙ c.if-is_empty.true)) in
    none_after s sent h c.args.self.now c.args.c c.args.piece.now
    (rw none (comes_empty s sent (world s h) c.args.self.now c.args.c c.requires.in_range at c.requires.«open»)))

pub returns-then-not-reads-clause-came : goal.returns-then-not-reads-clause-came
returns-then-not-reads-clause-came g c = λ s sent h at.
    none_after s sent h c.args.self.now c.args.c c.args.piece.now
    (comes_idle s sent (world s h) c.args.self.now c.args.c c.args.piece.now c.requires.in_range at c.requires.«open»
    (sym c.reads.ensures.value ∙ c.if-not-reads.true))

pub returns-then-is_empty-clause-each : goal.returns-then-is_empty-clause-each
returns-then-is_empty-clause-each g c = λ target sound. sound

pub returns-then-not-reads-clause-each : goal.returns-then-not-reads-clause-each
returns-then-not-reads-clause-each g c = λ target sound. sound

pub returns-then-is_empty-clause-part : goal.returns-then-is_empty-clause-part
returns-then-is_empty-clause-part g c = part_none c.args.c c.args.self.now

pub returns-then-not-reads-clause-part : goal.returns-then-not-reads-clause-part
returns-then-not-reads-clause-part g c = part_none c.args.c c.args.self.now

-- ---- its PDUs were taken, and what is not needed of the rest is forgotten

pub forget_unneeded-requires-clause-part : goal.forget_unneeded-requires-clause-part
forget_unneeded-requires-clause-part g c = bytes_none_left c.args.c (first_starved c.take_piece-taken.result)
    (kept_piece c.args.c c.args.piece.now c.args.self.now) c.take_piece-taken.new.self c.take_piece-taken.ensures

pub returns : goal.returns
returns g c =
    let taken = c.take_piece-taken in
    let old = c.args.self.now in
    let new = c.forget_unneeded.new.self in
    let lt : c.args.c < length old.links = (let below = c.requires.in_range in omega (arith, c.reads.ensures.count)) in
    let takes : TakesPiece c.args.c c.args.piece.now taken.result old new = subst (TakesPiece c.args.c c.args.piece.now taken.result old)
    (sym c.forget_unneeded.ensures.same) (takes_piece old (kept_piece c.args.c c.args.piece.now old) taken.new.self c.args.c c.args.piece.now taken.result
    c.requires.in_range lt (sym c.reads.ensures.value ∙ c.if-not-reads.false) refl taken.ensures) in
    record {
      stands = takes.stands;
      starved = takes.starved;
      came = takes.came;
      each = takes.each;
      sure = takes.sure;
      feeds = takes.feeds;
      part = takes.part;
      closing = takes.closing;
      bounded = takes.bounded;
      empty = search rules;
      idle = search rules;
    }
