-- Sessions that have several R2Ts of a command open, computed: MaxBurstLength 8, and this MaxOutstandingR2T.
use Rattle.std.specs.Prelude.{◌≡◌, ◌*◌, ◌++◌, ℕ, [], ◌∷◌, replicate, refl}
use Rattle.iscsi_pdu.specs.Frames.{Frame}
use Rattle.iscsi_pdu.specs.declared.answer.Answer.{Answer}
use Rattle.iscsi_pdu.specs.declared.answer.Answer.TheVariants as answers
use Rattle.iscsi_pdu.specs.declared.task_management_response.TaskResult.TheVariants.{Complete}
use Rattle.iscsi_login.specs.Values.{default_values}
use Rattle.iscsi_requests.specs.declared.verdict.Verdict.TheVariants.{Violating}
use Rattle.iscsi_requests.specs.Requests.{Past, begun}
use Rattle.iscsi_requests.specs.Judging.{verdict}
use Rattle.iscsi_requests.specs.Functions.{function_answer}
use Rattle.iscsi_session.specs.Examples.{computed, low, params_from, said, comes, all_come, taking, brings, function_nine}

abbrev several : ℕ → Past
several m = begun (record (params_from 5) { values = record default_values { max_burst_length = 8; max_outstanding_r2t = m } })

-- 5 takes 32 bytes
abbrev long_write : ℕ → Past
long_write m = comes (several m) (taking 32 3 5)

-- its R2T with this number: each carries the StatSN of the next answer
abbrev nth_r2t : ℕ → ℕ → Answer
nth_r2t n offset = answers.R2t (record {
  lun = replicate 8 0;
  initiator_task_tag = 3;
  target_transfer_tag = n;
  stamp = record { stat_sn = 1; exp_cmd_sn = 6; max_cmd_sn = 36 };
  r2t_sn = n;
  buffer_offset = offset;
  desired_length = 8;
})

-- all data that its R2T with this number asks for
abbrev nth_data : ℕ → Frame
nth_data n = brings 3 (low n) 0 (n * 8) 0x80 (replicate 8 9)

two_at_once : said (long_write 2) ≡ nth_r2t 0 0 ∷ nth_r2t 1 8 ∷ []
unfolding computed
two_at_once = refl

-- the data of the first makes the third due
third_behind_the_first : said (comes (long_write 2) (nth_data 0)) ≡ nth_r2t 0 0 ∷ nth_r2t 1 8 ∷ nth_r2t 2 16 ∷ []
unfolding computed
third_behind_the_first = refl

-- data of the second while the first lacks some
second_before_the_first : verdict (long_write 2) (nth_data 1) ≡ Violating
unfolding computed
second_before_the_first = refl

four_at_once : said (long_write 4) ≡ nth_r2t 0 0 ∷ nth_r2t 1 8 ∷ nth_r2t 2 16 ∷ nth_r2t 3 24 ∷ []
unfolding computed
four_at_once = refl

-- the tags of the next command's R2Ts continue from there
tags_go_on : (comes (long_write 2) (taking 16 4 6)).r2ts
    ≡ record { command = 0; tag = 0 } ∷ record { command = 0; tag = 1 } ∷ record { command = 1; tag = 2 } ∷ record { command = 1; tag = 3 } ∷ []
unfolding computed
tags_go_on = refl

-- ABORT TASK SET while four are open waits for the data of all
abbrev lacks_the_last : Past
lacks_the_last = all_come (long_write 4) (function_nine 2 0 ∷ nth_data 0 ∷ nth_data 1 ∷ nth_data 2 ∷ [])

still_waits : said lacks_the_last ≡ said (long_write 4)
unfolding computed
still_waits = refl

is_answered_last : said (comes lacks_the_last (nth_data 3))
    ≡ said (long_write 4) ++ function_answer (record { stat_sn = 1; exp_cmd_sn = 6; max_cmd_sn = 37 }) Complete (function_nine 2 0).header ∷ []
unfolding computed
is_answered_last = refl
