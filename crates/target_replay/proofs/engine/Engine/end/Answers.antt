use Rattle.std.proofs.Common.{rules, ◌≡◌, length}
use Rattle.std.proofs.lemmas.List.{nil_from_length}
use Rattle.std.proofs.lemmas.Result.{IfErr-weaker}
use Rattle.target_replay.proofs.Taking.{none_finishes, last_line_finishes, last_stops}
use Rattle.target_replay.proofs.engine.Engine.end.Goals as goal

pub returns-then-is_empty-clause-finishes : goal.returns-then-is_empty-clause-finishes
returns-then-is_empty-clause-finishes g c =
    let none : length c.args.self.now.pending ≡ 0 = search rules in
    λ kind is. none_finishes kind c.args.self.now _ (nil_from_length c.args.self.now.pending none)

pub returns-clause-finishes : goal.returns-clause-finishes
returns-clause-finishes g c = last_line_finishes c.end_line.result c.args.self.now c.end_line.new.self _ _ (search rules) c.end_line.ensures.each
    c.end_line.ensures.reply

pub returns-clause-stops : goal.returns-clause-stops
returns-clause-stops g c = IfErr-weaker c.end_line.result _ _ (λ fault fails kind is. last_stops kind c.args.self.now c.end_line.new.self.target _ _ fault
    (search rules) c.end_line.ensures.each (fails kind is)) c.end_line.ensures.fails
