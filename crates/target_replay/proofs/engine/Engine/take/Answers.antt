use Rattle.std.proofs.Common.{◌++◌, [], ◌∷◌, refl, rules, subst, arith, length-append}
use Rattle.iscsi_target.specs.Machine.{IsSoundAt}
use Rattle.target_replay.proofs.Comings.{is_back}
use Rattle.target_replay.proofs.Pieces.{passed_on, cut_more, takes_none, takes_more, stops_within}
use Rattle.target_replay.proofs.Taking.{rest_takes, rest_stopped}
use Rattle.target_replay.proofs.engine.Engine.take.Goals as goal

pub loop-line-init : goal.loop-line-init
loop-line-init g c = record {
  taken = [];
  cut = refl;
  number = search rules;
  takes = λ kind is. takes_none kind c.args.self.now _;
  each = λ target sound. sound;
  sure = λ sure. sure;
}

pub loop-line-preserved : goal.loop-line-preserved
loop-line-preserved g c =
    let so_far = c.loop-line.invariant in
    let line = c.in-Some.line.now ++ 10 ∷ [] in
    record {
      taken = so_far.taken ++ line;
      cut = cut_more c.args.piece.now so_far.taken c.loop-line.rest.now c.in-Some.line.now c.in-Some.behind.now so_far.cut c.in-Some.ensures.parts;
      number = omega (arith, so_far.number, c.in_ok-take_line.ensures.number, length-append so_far.taken line, length-append c.in-Some.line.now (10 ∷ []));
      takes = λ kind is. takes_more kind c.args.self.now c.loop-line.self c.take_line.new.self so_far.taken line _ _ _
          (so_far.takes kind (is_back kind c.loop-line.self.target c.take_line.new.self.target c.take_line.ensures.each is)) (c.in_ok-take_line.ensures.takes kind is);
      each = λ target sound. so_far.each target (c.take_line.ensures.each target sound);
      sure = λ sure. c.take_line.ensures.sure (so_far.sure sure);
    }

pub returns-in_err-take_line-clause-stops : goal.returns-in_err-take_line-clause-stops
returns-in_err-take_line-clause-stops g c =
    let so_far = c.loop-line.invariant in
    passed_on c.from_residual.result c.in_err-take_line.field-0.0 _ c.from_residual.ensures.1
    (λ kind is. stops_within kind c.args.self.now c.loop-line.self c.args.piece.now so_far.taken c.loop-line.rest.now c.in-Some.line.now
    c.in-Some.behind.now c.take_line.new.self.target _ _ _ c.in_err-take_line.field-0.0 so_far.cut c.in-Some.ensures.parts
    (so_far.takes kind (is_back kind c.loop-line.self.target c.take_line.new.self.target c.take_line.ensures.each is)) (c.in_err-take_line.ensures.stops kind is))

pub returns-clause-takes : goal.returns-clause-takes
returns-clause-takes g c =
    let so_far = c.loop-line.invariant in
    rest_takes c.push.result c.args.self.now c.loop-line.self c.push.new.self c.args.piece.now so_far.taken c.loop-line.rest.now _ _ so_far.cut
    so_far.takes c.push.ensures.pending c.push.ensures.target c.push.ensures.number

pub returns-clause-stops : goal.returns-clause-stops
returns-clause-stops g c =
    let so_far = c.loop-line.invariant in
    rest_stopped c.push.result c.args.self.now c.loop-line.self c.push.new.self.target c.args.piece.now so_far.taken c.loop-line.rest.now _ _ so_far.cut
    so_far.takes c.push.ensures.target c.push.ensures.memory

pub returns-clause-each : goal.returns-clause-each
returns-clause-each g c = λ target sound. c.loop-line.invariant.each target (subst (IsSoundAt target) c.push.ensures.target sound)

pub returns-in_err-take_line-clause-each : goal.returns-in_err-take_line-clause-each
returns-in_err-take_line-clause-each g c = λ target sound. c.loop-line.invariant.each target (c.take_line.ensures.each target sound)

pub returns-in_err-take_line-clause-sure : goal.returns-in_err-take_line-clause-sure
returns-in_err-take_line-clause-sure g c = λ sure. c.take_line.ensures.sure (c.loop-line.invariant.sure sure)
