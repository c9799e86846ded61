use Rattle.std.proofs.Common.{◌≡◌, ◌-◌, ◌<◌, ℕ, List, [], ◌++◌, length, take, drop, Option, Some, Err, sym, ap, ◌∙◌, subst, arith}
use Rattle.std.proofs.lemmas.Bool.{eqb-true}
use Rattle.std.proofs.lemmas.List.{take_all, length-drop, nil_from_length}
use Rattle.std.specs.Prelude.{IfSome, IfNone}
use Rattle.iscsi_framer.proofs.Fronts.{only_memory}
use Rattle.iscsi_world.specs.History.{arrivals}
use Rattle.iscsi_world.specs.Machine.{Machine, link_at, with_link, closed, GivesFrame}
use Rattle.iscsi_world.specs.Serving.{TakesBytes, first_starved, first_of, kept_piece}
use Rattle.iscsi_world.proofs.Taking.{taken_is_shorter}
use Rattle.iscsi_connection.specs.Arriving.{frame_of}
use Rattle.iscsi_connection.specs.declared.arriving.Taken.{Taken}
use Rattle.iscsi_target.proofs.Bytes.{TakesOn, joined, takes_begin, takes_next, takes_then, takes_idle, takes_end, takes_kept, takes_too_long, takes_starved}
use Rattle.iscsi_target.proofs.target.Target.take_frames.Goals as goal

pub loop-rest-init : goal.loop-rest-init
loop-rest-init g c = takes_begin c.args.c c.args.piece.now c.args.self.now c.requires.in_range c.requires.reads c.requires.no_more

-- ---- a PDU is taken

pub loop-rest-smaller : goal.loop-rest-smaller
loop-rest-smaller g c =
    let at = c.args.c in
    let first = kept_piece c.args.c c.args.piece.now c.args.self.now in
    let machine = c.loop-rest.self in
    let after = c.take_frame-served.new.self in
    let piece = c.loop-rest.rest.now in
    let taken = c.in-Ok-Some.taken in
    let reads = sym c.reads.ensures.value ∙ c.loop-rest-test.true in
    let rest : drop taken.used piece ≡ take (length piece - taken.used) (drop taken.used piece) =
    sym (take_all (length piece - taken.used) (drop taken.used piece) (omega (arith, length-drop taken.used piece))) in
    let next = takes_next at machine c.take_pdu.new.self after (frame_of taken.arrived) piece taken.used (first_starved c.take_frame-served.result)
    c.requires.in_range c.reads.ensures.count reads
    (subst (λ (o : Option Taken). IfSome o (λ t. GivesFrame (frame_of t.arrived) ((link_at machine at).half ++ piece) (drop t.used piece)))
    c.in-Ok-Some.field-0-is c.in-Ok-Some.ensures.given)
    (subst (λ (o : Option Taken). IfSome o (λ _. c.take_pdu.new.self ≡ with_link machine at (record (link_at machine at) { half = [] })))
    c.in-Ok-Some.field-0-is c.in-Ok-Some.ensures.left) c.take_frame-served.ensures in
    let shorter = taken_is_shorter at (first_starved c.take_frame-served.result) (joined at piece machine) (joined at (drop taken.used piece) after) next.0 in
    subst (λ (x : List ℕ). length (link_at (joined at x after) at).half < length (link_at (joined at piece machine) at).half) rest shorter

pub loop-rest-preserved : goal.loop-rest-preserved
loop-rest-preserved g c =
    let at = c.args.c in
    let first = kept_piece c.args.c c.args.piece.now c.args.self.now in
    let machine = c.loop-rest.self in
    let after = c.take_frame-served.new.self in
    let piece = c.loop-rest.rest.now in
    let taken = c.in-Ok-Some.taken in
    let reads = sym c.reads.ensures.value ∙ c.loop-rest-test.true in
    let rest : drop taken.used piece ≡ take (length piece - taken.used) (drop taken.used piece) =
    sym (take_all (length piece - taken.used) (drop taken.used piece) (omega (arith, length-drop taken.used piece))) in
    let next = takes_next at machine c.take_pdu.new.self after (frame_of taken.arrived) piece taken.used (first_starved c.take_frame-served.result)
    c.requires.in_range c.reads.ensures.count reads
    (subst (λ (o : Option Taken). IfSome o (λ t. GivesFrame (frame_of t.arrived) ((link_at machine at).half ++ piece) (drop t.used piece)))
    c.in-Ok-Some.field-0-is c.in-Ok-Some.ensures.given)
    (subst (λ (o : Option Taken). IfSome o (λ _. c.take_pdu.new.self ≡ with_link machine at (record (link_at machine at) { half = [] })))
    c.in-Ok-Some.field-0-is c.in-Ok-Some.ensures.left) c.take_frame-served.ensures in
    let then_ = takes_then at (first_starved c.loop-rest.outcome) (first_starved c.take_frame-served.result) first machine after piece (drop taken.used piece)
    c.requires.in_range reads c.loop-rest.invariant next in
    subst (λ (x : List ℕ). TakesOn at (first_starved c.earlier_of-outcome.result) first x after) rest
    (subst (λ (o : Option ℕ). TakesOn at o first (drop taken.used piece) after) (sym c.earlier_of-outcome.ensures) then_)

-- the piece ends with it

pub returns-then-is_empty : goal.returns-then-is_empty
returns-then-is_empty g c =
    let at = c.args.c in
    let first = kept_piece c.args.c c.args.piece.now c.args.self.now in
    let machine = c.loop-rest.self in
    let after = c.take_frame-served.new.self in
    let piece = c.loop-rest.rest.now in
    let taken = c.in-Ok-Some.taken in
    let reads = sym c.reads.ensures.value ∙ c.loop-rest-test.true in
    let rest : drop taken.used piece ≡ take (length piece - taken.used) (drop taken.used piece) =
    sym (take_all (length piece - taken.used) (drop taken.used piece) (omega (arith, length-drop taken.used piece))) in
    let next = takes_next at machine c.take_pdu.new.self after (frame_of taken.arrived) piece taken.used (first_starved c.take_frame-served.result)
    c.requires.in_range c.reads.ensures.count reads
    (subst (λ (o : Option Taken). IfSome o (λ t. GivesFrame (frame_of t.arrived) ((link_at machine at).half ++ piece) (drop t.used piece)))
    c.in-Ok-Some.field-0-is c.in-Ok-Some.ensures.given)
    (subst (λ (o : Option Taken). IfSome o (λ _. c.take_pdu.new.self ≡ with_link machine at (record (link_at machine at) { half = [] })))
    c.in-Ok-Some.field-0-is c.in-Ok-Some.ensures.left) c.take_frame-served.ensures in
    let then_ = takes_then at (first_starved c.loop-rest.outcome) (first_starved c.take_frame-served.result) first machine after piece (drop taken.used piece)
    c.requires.in_range reads c.loop-rest.invariant next in
    takes_end at (first_starved c.earlier_of-outcome.result) first after (drop taken.used piece) c.requires.in_range
    (subst (λ (o : Option ℕ). TakesOn at o first (drop taken.used piece) after) (sym c.earlier_of-outcome.ensures) then_)
    (rest ∙ nil_from_length _ (eqb-true _ _ (sym c.is_empty.ensures ∙ c.if-is_empty.true))) next.1

-- ---- the end

pub returns-after-loop-rest : goal.returns-after-loop-rest
returns-after-loop-rest g c = takes_idle c.args.c (first_starved c.loop-rest.outcome) (kept_piece c.args.c c.args.piece.now c.args.self.now) c.loop-rest.self
    c.loop-rest.rest.now c.requires.in_range (sym c.reads.ensures.value ∙ c.loop-rest-test.false) c.loop-rest.invariant

pub returns-in-Ok-None : goal.returns-in-Ok-None
returns-in-Ok-None g c = takes_kept c.args.c (first_starved c.loop-rest.outcome) (kept_piece c.args.c c.args.piece.now c.args.self.now) c.loop-rest.self
    c.take_pdu.new.self c.loop-rest.rest.now c.requires.in_range (sym c.reads.ensures.value ∙ c.loop-rest-test.true) c.loop-rest.invariant
    (subst (λ (o : Option Taken). IfNone o (c.take_pdu.new.self ≡ kept_piece c.args.c c.loop-rest.rest.now c.loop-rest.self)) c.in-Ok-None.field-0-is
    c.in-Ok-None.ensures.kept)
    (subst (λ (o : Option Taken). IfNone o (arrivals ((link_at c.loop-rest.self c.args.c).half ++ c.loop-rest.rest.now) ≡ [])) c.in-Ok-None.field-0-is
    c.in-Ok-None.ensures.part)

pub returns-in-Err-TooLong : goal.returns-in-Err-TooLong
returns-in-Err-TooLong g c = takes_too_long c.args.c (first_starved c.loop-rest.outcome) (kept_piece c.args.c c.args.piece.now c.args.self.now) c.loop-rest.self
    c.close.new.self c.loop-rest.rest.now c.requires.in_range c.reads.ensures.count (sym c.reads.ensures.value ∙ c.loop-rest-test.true) c.loop-rest.invariant
    (c.in-Err-TooLong.ensures.too_long.0 (ap Err c.in-Err-TooLong.field-0-is))
    (c.close.ensures.closed ∙ ap (λ (m : Machine). closed m c.args.c) c.in-Err-TooLong.ensures.err)

pub returns-in-Err-Memory : goal.returns-in-Err-Memory
returns-in-Err-Memory g c =
    let at = c.args.c in
    let first = kept_piece c.args.c c.args.piece.now c.args.self.now in
    let starved = first_starved c.loop-rest.outcome in
    let told = c.earlier_of.ensures ∙ ap (λ (k : ℕ). first_of starved (Some k)) c.starve.ensures.names in
    subst (λ (o : Option ℕ). TakesBytes at o first c.starve.new.self) (sym told)
    (takes_starved at starved first c.loop-rest.self c.starve.new.self c.loop-rest.rest.now c.requires.in_range c.reads.ensures.count
    (sym c.reads.ensures.value ∙ c.loop-rest-test.true) c.loop-rest.invariant
    (λ long. only_memory (Err c.in-Err-Memory.field-0) c.in-Err-Memory.field-0-is (c.in-Err-Memory.ensures.too_long.1 long))
    (c.starve.ensures.closed ∙ ap (λ (m : Machine). closed m at) c.in-Err-Memory.ensures.err))
