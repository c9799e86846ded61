use Rattle.std.proofs.Common.{◌≡◌, ◌<◌, length, get_or, arith}
use Rattle.std.proofs.lemmas.List.{take_all}
use Rattle.std.proofs.lemmas.Option.{slice_get_within}
use Rattle.iscsi_pdu.specs.declared.answer.Answer.TheVariants as answers
use Rattle.iscsi_answers.specs.Answers.{sent_pieces, data_answers}
use Rattle.iscsi_answers.proofs.Room.{piece_there, pieces_counted, data_answer_at, data_answers_count, written_more, next_fits}
use Rattle.iscsi_answers.proofs.data_ins.put_data.Goals as goal

pub data_in-requires : goal.data_in-requires
data_in-requires c = grind (arith, piece_there)

pub put-requires : goal.put-requires
put-requires c =
    let i = c.loop-data_sn.data_sn in
    let answer = answers.DataIn c.data_in.result in
    let all = data_answers c.args.numbers c.args.values.now c.args.frame.now c.args.sent.now in
    let below : i < length (sent_pieces c.args.values.now c.args.sent.now) = slice_get_within _ i _ c.piece_of-piece.ensures in
    let is : get_or all i answer ≡ answer = grind (arith, data_answer_at, c.piece_of-piece.ensures, c.data_in.ensures) in
    record {
      room = next_fits all i c.loop-data_sn.out.items c.args.out.now.items c.loop-data_sn.out.spare c.args.out.now.spare answer
          (omega (arith, below, data_answers_count c.args.numbers c.args.values.now c.args.frame.now c.args.sent.now)) is c.loop-data_sn.invariant
          c.requires.room;
    }

pub loop-data_sn-preserved : goal.loop-data_sn-preserved
loop-data_sn-preserved c =
    let i = c.loop-data_sn.data_sn in
    let answer = answers.DataIn c.data_in.result in
    let all = data_answers c.args.numbers c.args.values.now c.args.frame.now c.args.sent.now in
    let below : i < length (sent_pieces c.args.values.now c.args.sent.now) = slice_get_within _ i _ c.piece_of-piece.ensures in
    let is : get_or all i answer ≡ answer = grind (arith, data_answer_at, c.piece_of-piece.ensures, c.data_in.ensures) in
    written_more all i c.loop-data_sn.out.items c.put.new.self.items c.args.out.now.items c.loop-data_sn.out.spare c.put.new.self.spare c.args.out.now.spare
    answer (omega (arith, below, data_answers_count c.args.numbers c.args.values.now c.args.frame.now c.args.sent.now)) is c.loop-data_sn.invariant
    c.put.ensures.items c.put.ensures.spare

pub returns-clause-written : goal.returns-clause-written
returns-clause-written c = grind (arith, data_answers_count, pieces_counted, take_all)

pub returns-clause-spare : goal.returns-clause-spare
returns-clause-spare c = grind (arith, data_answers_count, pieces_counted, take_all)
