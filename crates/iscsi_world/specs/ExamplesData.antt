-- The answers to reads, computed from the definitions alone.
use Rattle.std.specs.Prelude.{◌≡◌, ℕ, List, [], ◌∷◌, ◌++◌, replicate, Bool, true, false, None, refl}
use Rattle.scsi_sense.specs.Done.{good}
use Rattle.scsi_sense.specs.Done.{good_with}
use Rattle.iscsi_pdu.specs.Frames.{Frame}
use Rattle.iscsi_pdu.specs.declared.answer.Answer.{Answer}
use Rattle.iscsi_pdu.specs.declared.answer.Answer.TheVariants as answers
use Rattle.iscsi_pdu.specs.declared.stamp.Stamp.{Stamp}
use Rattle.iscsi_pdu.specs.declared.scsi_response.Residual.{Residual}
use Rattle.iscsi_pdu.specs.declared.scsi_response.Residual.TheVariants as residuals
use Rattle.iscsi_login.specs.Values.{default_values}
use Rattle.iscsi_login.specs.declared.values.Values.{Values}
use Rattle.iscsi_session.specs.Answers.{command_answers, data_answers, scsi_answer}

-- a SCSI Command with byte 1, tag 7, and the last two bytes of its Expected Data Transfer Length
abbrev command : ℕ → ℕ → ℕ → Frame
command flags high low = record {
  header = 0x01 ∷ flags ∷ replicate 17 0 ++ 7 ∷ 0 ∷ 0 ∷ high ∷ low ∷ replicate 24 0;
  body = [];
}

-- F, R and ATTR simple; the same without R
abbrev reading : ℕ
reading = 0xc1

abbrev not_reading : ℕ
not_reading = 0x81

abbrev numbers : Stamp
numbers = record { stat_sn = 1; exp_cmd_sn = 124; max_cmd_sn = 155 }

-- MaxBurstLength 8192, the initiator's MaxRecvDataSegmentLength 4096
abbrev values : Values
values = record default_values { max_recv_data_segment_length = 4096; max_burst_length = 8192 }

-- n zero bytes
abbrev zeros : ℕ → List ℕ
zeros n = replicate n 0

abbrev piece : Bool → ℕ → ℕ → ℕ → Answer
piece is_final data_sn offset n = answers.DataIn (record {
  is_final = is_final;
  initiator_task_tag = 7;
  exp_cmd_sn = 124;
  max_cmd_sn = 155;
  data_sn = data_sn;
  buffer_offset = offset;
  body = zeros n;
})

abbrev response : ℕ → Residual → Answer
response exp_data_sn residual = answers.ScsiResponse (record {
  initiator_task_tag = 7;
  stamp = numbers;
  status = 0;
  residual = residual;
  exp_data_sn = exp_data_sn;
  sense = None;
})

-- 20 blocks, expected length 10240: three pieces in two bursts, F at the end of each
twenty_blocks : command_answers numbers values (command reading 0x28 0x00) (good_with (zeros 10240))
    ≡ piece false 0 0 4096 ∷ piece true 1 4096 4096 ∷ piece true 2 8192 2048 ∷ response 3 residuals.None ∷ []
unfolding data_answers scsi_answer
twenty_blocks = refl

-- 2 blocks, expected length 512; and expected length 2048
overflow : command_answers numbers values (command reading 0x02 0x00) (good_with (zeros 1024)) ≡ piece true 0 0 512 ∷ response 1 (residuals.Overflow 512) ∷ []
unfolding data_answers scsi_answer
overflow = refl

underflow : command_answers numbers values (command reading 0x08 0x00) (good_with (zeros 1024))
    ≡ piece true 0 0 1024 ∷ response 1 (residuals.Underflow 1024) ∷ []
unfolding data_answers scsi_answer
underflow = refl

-- without R no data is sent, and all of it counts as overflow
without_r : command_answers numbers values (command not_reading 0x02 0x00) (good_with (zeros 1024)) ≡ response 0 (residuals.Overflow 1024) ∷ []
unfolding data_answers scsi_answer
without_r = refl

-- if the command gives no data, the residual is the expected length, with or without R
nothing_given : command_answers numbers values (command not_reading 0x02 0x00) good ≡ response 0 (residuals.Underflow 512) ∷ []
unfolding data_answers scsi_answer
nothing_given = refl
