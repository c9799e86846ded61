use Rattle.std.proofs.Common.{[], ◌++◌, None, arith, rules}
use Rattle.std.proofs.KnownBytes.{Appends-nil, Appends-trans, Consumes-nil, Consumes-trans, Consumes-kept}
use Rattle.std.proofs.lemmas.Result.{on_ok_weaker, IfErr-weaker}
use Rattle.target_replay.specs.Comings.{Any, Sound}
use Rattle.target_replay.proofs.Comings.{is_back, ends_plain, ends_by_plain, unread_plain}
use Rattle.target_replay.proofs.Pieces.{passed_on}
use Rattle.target_replay.proofs.Taking.{begun}
use Rattle.target_replay.proofs.Ending.{read_end, whole_done, whole_stopped, part_stopped, unread}
use Rattle.target_replay.proofs.replaying.replay.Goals as goal
use Rattle.target_replay.proofs.replaying.replay.Goals.{in-Ok+in_ok-take-in-Ok, in-Err}

pub loop-init : goal.loop-init
loop-init g c = record {
  bytes = [];
  read = Consumes-nil _;
  number = search rules;
  each = λ target sound. sound;
  sure = λ sure. sure;
  taken = λ kind is s made. ([], Appends-nil _, begun kind s _ made c.requires.pending c.requires.number);
}

pub loop-preserved : goal.loop-preserved
loop-preserved g c =
    let so_far = c.loop.invariant in
    elim c.match-read.branch [
      | in-Ok+in_ok-take-in-Ok w ↦
          rw (w.writer-is, w.engine-is) record {
            bytes = so_far.bytes ++ _;
            read = Consumes-trans _ _ _ so_far.bytes _ so_far.read w.in-Ok.ensures.bytes.0;
            number = search rules;
            each = λ target sound. so_far.each target (w.take.ensures.each target sound);
            sure = λ sure. w.take.ensures.sure (so_far.sure sure);
            taken = λ kind is s made. (
                let before = so_far.taken kind (is_back kind c.loop.engine.target w.take.new.self.target w.take.ensures.each is) s made in
                let next = w.in_ok-take-in-Ok.ensures.takes kind is s so_far.bytes before.0 before.2 in
                (before.0 ++ next.0, Appends-trans _ _ _ before.0 next.0 before.1 next.1, next.2));
          }
      | in-Err w ↦
          rw (w.writer-is, w.engine-is) record {
            bytes = so_far.bytes;
            read = Consumes-kept _ _ _ so_far.bytes so_far.read w.in-Err.ensures.bytes;
            number = omega (arith, so_far.number);
            each = so_far.each;
            sure = so_far.sure;
            taken = so_far.taken;
          }
    ]

-- ---- the input ended

pub returns-in-Ok-eq0-clause-done : goal.returns-in-Ok-eq0-clause-done
returns-in-Ok-eq0-clause-done g c =
    let so_far = c.loop.invariant in
    let end = read_end _ _ _ c.read.result c.read.new.buf so_far.bytes c.in-Ok-eq0.field-0 so_far.read c.in-Ok-eq0.is c.in-Ok-eq0.field-0-test
    (search rules) c.read.ensures.bytes in
    on_ok_weaker c.end.result
    (λ last sound s made. let before = so_far.taken Sound (is_back Sound c.loop.engine.target c.end.new.self.target c.end.ensures.each sound) s made in
    ends_plain s c.end.new.self.target _ None _ _
    (whole_done Sound s c.loop.engine c.end.new.self.target so_far.bytes before.0 _ _ _ _ _ end.0 end.1 before.1 before.2 (last Sound sound)))
    c.end.ensures.finishes

pub returns-in-Ok-eq0-clause-came : goal.returns-in-Ok-eq0-clause-came
returns-in-Ok-eq0-clause-came g c =
    let so_far = c.loop.invariant in
    let end = read_end _ _ _ c.read.result c.read.new.buf so_far.bytes c.in-Ok-eq0.field-0 so_far.read c.in-Ok-eq0.is c.in-Ok-eq0.field-0-test
    (search rules) c.read.ensures.bytes in
    on_ok_weaker c.end.result
    (λ last s made. let before = so_far.taken Any tt s made in
    whole_done Any s c.loop.engine c.end.new.self.target so_far.bytes before.0 _ _ _ _ _ end.0 end.1 before.1 before.2 (last Any tt))
    c.end.ensures.finishes

pub returns-in-Ok-eq0-clause-fails : goal.returns-in-Ok-eq0-clause-fails
returns-in-Ok-eq0-clause-fails g c =
    let so_far = c.loop.invariant in
    let end = read_end _ _ _ c.read.result c.read.new.buf so_far.bytes c.in-Ok-eq0.field-0 so_far.read c.in-Ok-eq0.is c.in-Ok-eq0.field-0-test
    (search rules) c.read.ensures.bytes in
    IfErr-weaker c.end.result _ _
    (λ fault last sound s made. let before = so_far.taken Sound (is_back Sound c.loop.engine.target c.end.new.self.target c.end.ensures.each sound) s made in
    ends_by_plain s c.end.new.self.target fault _ _ _ _
    (whole_stopped Sound fault s c.loop.engine c.end.new.self.target so_far.bytes before.0 _ _ _ _ _ end.0 end.1 before.1 before.2 (last Sound sound)))
    c.end.ensures.stops

pub returns-in-Ok-eq0-clause-stops : goal.returns-in-Ok-eq0-clause-stops
returns-in-Ok-eq0-clause-stops g c =
    let so_far = c.loop.invariant in
    let end = read_end _ _ _ c.read.result c.read.new.buf so_far.bytes c.in-Ok-eq0.field-0 so_far.read c.in-Ok-eq0.is c.in-Ok-eq0.field-0-test
    (search rules) c.read.ensures.bytes in
    IfErr-weaker c.end.result _ _
    (λ fault last s made. let before = so_far.taken Any tt s made in
    whole_stopped Any fault s c.loop.engine c.end.new.self.target so_far.bytes before.0 _ _ _ _ _ end.0 end.1 before.1 before.2 (last Any tt))
    c.end.ensures.stops

pub returns-in-Ok-eq0-clause-each : goal.returns-in-Ok-eq0-clause-each
returns-in-Ok-eq0-clause-each g c = λ target sound. c.loop.invariant.each target (c.end.ensures.each target sound)

-- ---- a line stopped it

pub returns-in_err-take-in-Ok-clause-fails : goal.returns-in_err-take-in-Ok-clause-fails
returns-in_err-take-in-Ok-clause-fails g c =
    let so_far = c.loop.invariant in
    let fault = c.in_err-take-in-Ok.field-0.0 in
    passed_on c.from_residual.result fault _ c.from_residual.ensures.1
    (λ sound s made.
    (let before = so_far.taken Sound (is_back Sound c.loop.engine.target c.take.new.self.target c.take.ensures.each sound) s made in
    ends_by_plain s c.take.new.self.target fault _ _ _ _
    (part_stopped Sound fault s c.loop.engine c.take.new.self.target so_far.bytes _ before.0 _ _ _ _ _ _ so_far.read c.in-Ok.ensures.bytes.0 before.1
    before.2 (c.in_err-take-in-Ok.ensures.stops Sound sound))))

pub returns-in_err-take-in-Ok-clause-stops : goal.returns-in_err-take-in-Ok-clause-stops
returns-in_err-take-in-Ok-clause-stops g c =
    let so_far = c.loop.invariant in
    let fault = c.in_err-take-in-Ok.field-0.0 in
    passed_on c.from_residual.result fault _ c.from_residual.ensures.1
    (λ s made.
    (let before = so_far.taken Any tt s made in
    part_stopped Any fault s c.loop.engine c.take.new.self.target so_far.bytes _ before.0 _ _ _ _ _ _ so_far.read c.in-Ok.ensures.bytes.0 before.1
    before.2 (c.in_err-take-in-Ok.ensures.stops Any tt)))

pub returns-in_err-take-in-Ok-clause-each : goal.returns-in_err-take-in-Ok-clause-each
returns-in_err-take-in-Ok-clause-each g c = λ target sound. c.loop.invariant.each target (c.take.ensures.each target sound)

-- ---- the input failed

pub returns-in-Err-2-clause-fails : goal.returns-in-Err-2-clause-fails
returns-in-Err-2-clause-fails g c = λ sound s made.
    (let so_far = c.loop.invariant in
    let before = so_far.taken Sound sound s made in
    unread_plain s c.loop.engine.target _ _ _ _
    (unread Sound s c.loop.engine so_far.bytes before.0 _ _ _ _ (Consumes-kept _ _ _ so_far.bytes so_far.read c.in-Err-2.ensures.bytes) before.1 before.2))

pub returns-in-Err-2-clause-stops : goal.returns-in-Err-2-clause-stops
returns-in-Err-2-clause-stops g c = λ s made.
    (let so_far = c.loop.invariant in
    let before = so_far.taken Any tt s made in
    unread Any s c.loop.engine so_far.bytes before.0 _ _ _ _ (Consumes-kept _ _ _ so_far.bytes so_far.read c.in-Err-2.ensures.bytes) before.1 before.2)

pub returns-clause-fails : goal.returns-clause-fails
returns-clause-fails g c = λ sound s made.
    (let so_far = c.loop.invariant in
    let before = so_far.taken Sound sound s made in
    unread_plain s c.loop.engine.target _ _ _ _ (unread Sound s c.loop.engine so_far.bytes before.0 _ _ _ _ so_far.read before.1 before.2))

pub returns-clause-stops : goal.returns-clause-stops
returns-clause-stops g c = λ s made.
    (let so_far = c.loop.invariant in
    let before = so_far.taken Any tt s made in
    unread Any s c.loop.engine so_far.bytes before.0 _ _ _ _ so_far.read before.1 before.2)
