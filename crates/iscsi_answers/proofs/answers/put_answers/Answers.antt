use Rattle.std.proofs.Common.{◌≡◌, ◌++◌, ℕ, List, length, take, ap, ◌∙◌, arith, append_assoc}
use Rattle.std.specs.Prelude.{flat_map}
use Rattle.std.proofs.lemmas.Bool.{eqb-true}
use Rattle.std.proofs.lemmas.List.{length-append, nil_from_length}
use Rattle.iscsi_pdu.specs.Answer.{spelling}
use Rattle.scsi_sense.specs.Done.{Outcome}
use Rattle.iscsi_transfer.proofs.Counts.{count_fits}
use Rattle.iscsi_answers.specs.Answers.{data_sent, data_answers}
use Rattle.iscsi_answers.proofs.Room.{sent_short, pieces_few, data_fits, count_is, all_spelled, cut_as_sent}
use Rattle.iscsi_answers.proofs.answers.put_answers.Goals as goal

pub overflow_cast-count : goal.overflow_cast-count
overflow_cast-count c = grind (arith, pieces_few, count_is)

pub limits_for-requires-clause-sent : goal.limits_for-requires-clause-sent
limits_for-requires-clause-sent c = omega (arith, c.sent_length-sent.ensures.value, sent_short c.args.frame.now c.args.done c.requires.given)

-- ---- from where the data lies

pub put_data-requires-clause-some : goal.put_data-requires-clause-some
put_data-requires-clause-some c =
    omega (arith, simp length-append at (ap (λ (bytes : List ℕ). length bytes) c.long_answers-answers.ensures), c.response-response.ensures.some)

pub returns-in-Some : goal.returns-in-Some
returns-in-Some c =
    let values = c.args.values.now in
    let frame = c.args.frame.now in
    let done = c.args.done in
    let counted = count_is values frame done _ _ c.requires.values c.sent_length-sent.ensures.value c.count_of-count.ensures in
    let sent_is = ap (λ (d : Outcome). take c.sent_length-sent.result d.given) c.done.view_is ∙ c.sent_length-sent.ensures.data in
    c.put_data.ensures.items
    ∙ ap (λ (xs : List ℕ). c.args.out.now.items ++ xs)
    (c.long_answers-answers.ensures
    ∙ cut_as_sent c.args.numbers values frame (data_sent frame done) _ (spelling c.response-response.result) _ _ c.shared_fields-shared.ensures
    c.in-Some.ensures.value sent_is
    ∙ all_spelled c.args.numbers values frame done c.count_of-count.result c.response-response.result c.response-response.ensures.value counted)

-- ---- one piece, where nothing waits

pub sent_buffer-buffer-requires-clause-some : goal.sent_buffer-buffer-requires-clause-some
sent_buffer-buffer-requires-clause-some c =
    let values = c.args.values.now in
    let fits = count_fits c.sent_length-sent.result values.max_burst_length values.max_recv_data_segment_length
    (omega (arith, c.requires.values.burst)) (omega (arith, c.requires.values.segment)) in
    omega (arith, fits, c.count_of-count.ensures, c.if-count-eq1.true)

pub put_alone-requires-clause-one : goal.put_alone-requires-clause-one
put_alone-requires-clause-one c = grind (arith, count_is)

pub returns-then-is_empty : goal.returns-then-is_empty
returns-then-is_empty c = grind (arith, count_is, nil_from_length, eqb-true, all_spelled)

-- ---- copied

pub put_data-requires-2-clause-room : goal.put_data-requires-2-clause-room
put_data-requires-2-clause-room c = grind (arith, data_fits)

pub put-requires : goal.put-requires
put-requires c = grind (arith, data_fits)

pub returns : goal.returns
returns c =
    let values = c.args.values.now in
    let frame = c.args.frame.now in
    let done = c.args.done in
    let counted = count_is values frame done _ _ c.requires.values c.sent_length-sent.ensures.value c.count_of-count.ensures in
    let cut : c.sent_slice.result.now ≡ data_sent frame done = c.sent_slice.ensures
    ∙ ap (take c.sent_length-sent.result) (c.into_buffer-buffer.ensures.data ∙ ap (λ (d : Outcome). d.given) c.done.view_is)
    ∙ c.sent_length-sent.ensures.data in
    c.put.ensures.items
    ∙ ap (λ (xs : List ℕ). xs ++ spelling c.response-response.result) (rw cut at c.put_data-2.ensures.written)
    ∙ append_assoc c.args.out.now.items (flat_map spelling (data_answers c.args.numbers values frame (data_sent frame done)))
    (spelling c.response-response.result)
    ∙ ap (λ (xs : List ℕ). c.args.out.now.items ++ xs)
    (all_spelled c.args.numbers values frame done c.count_of-count.result c.response-response.result c.response-response.ensures.value counted)
