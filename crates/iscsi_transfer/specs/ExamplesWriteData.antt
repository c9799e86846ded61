-- The data of commands, computed. Most lengths are 8192 times smaller than on the wire.
use Rattle.std.specs.Prelude.{◌≡◌, ℕ, ◌/◌, ◌%◌, List, [], ◌∷◌, ◌++◌, map, replicate, Bool, true, false, if◌then◌else◌, Some, None, refl}
use Rattle.std.specs.List.{range_with_len}
use Rattle.iscsi_pdu.specs.Frames.{Frame}
use Rattle.iscsi_login.specs.declared.values.Values.{Values}
use Rattle.iscsi_transfer.specs.Payload.{Past, begun, accepted, asked, payload, u}
use Rattle.iscsi_transfer.specs.WriteData.{remembered, command_fault, ask_at, due_asks, is_asked, is_whole, fault_of}
use Rattle.iscsi_transfer.specs.declared.fault.DataFault.TheVariants as faults

-- InitialR2T No, ImmediateData Yes, FirstBurstLength 8, MaxBurstLength 32
abbrev agreed : Values
agreed = record {
  initial_r2t = false;
  immediate_data = true;
  max_recv_data_segment_length = 8192;
  max_burst_length = 32;
  first_burst_length = 8;
  default_time2wait = 2;
  default_time2retain = 20;
  max_outstanding_r2t = 1;
}

-- n bytes of data
abbrev bytes : ℕ → List ℕ
bytes n = replicate n 0xaa

-- byte 1 of a SCSI Command: W alone, F and W, F and R
abbrev w : ℕ
w = 0x20

abbrev fw : ℕ
fw = 0xa0

abbrev fr : ℕ
fr = 0xc0

-- a number in four bytes, the most significant first
abbrev four_bytes : ℕ → List ℕ
four_bytes n = n / 0x1000000 ∷ n / 0x10000 % 0x100 ∷ n / 0x100 % 0x100 ∷ n % 0x100 ∷ []

-- a SCSI Command with this expected length and this many bytes of immediate data
abbrev command : ℕ → ℕ → ℕ → Frame
command flags expected n = record { header = 0x01 ∷ flags ∷ replicate 18 0 ++ four_bytes expected ++ replicate 24 0; body = bytes n }

-- a Data-Out with F or not, with this tag, DataSN and Buffer Offset, and with this many bytes
abbrev data_out : Bool → ℕ → ℕ → ℕ → ℕ → Frame
data_out final tag sn offset n = record {
  header = 0x05 ∷ (if final then 0x80 else 0) ∷ replicate 18 0 ++ four_bytes tag ++ replicate 12 0 ++ four_bytes sn ++ four_bytes offset ++ replicate 4 0;
  body = bytes n;
}

abbrev unsolicited_tag : ℕ
unsolicited_tag = 0xffffffff

-- ---- a write of 128 bytes, 1 with the command, 7 unsolicited, the others in four bursts

abbrev write : Past
write = begun agreed (command w 128 1)

write_is_lawful : command_fault agreed (command w 128 1) ≡ None
write_is_lawful = refl

-- unsolicited data is to come, so nothing is asked for
nothing_is_due : due_asks (remembered write) ≡ []
unfolding remembered
nothing_is_due = refl

-- two Data-Outs, the second with F
abbrev half_way : Past
half_way = accepted (data_out false unsolicited_tag 0 1 3) write

abbrev unasked : Past
unasked = accepted (data_out true unsolicited_tag 1 4 4) half_way

unasked_is_lawful : (fault_of (remembered write) (data_out false unsolicited_tag 0 1 3) ≡ None)
    × (fault_of (remembered half_way) (data_out true unsolicited_tag 1 4 4) ≡ None)
unfolding remembered fault_of
unasked_is_lawful = (refl, refl)

first_ask : due_asks (remembered unasked) ≡ record { number = 0; offset = 8; length = 32 } ∷ []
unfolding remembered
first_ask = refl

-- the first burst in two Data-Outs: the second ask is due once the whole burst has come, and not before
abbrev within_first : Past
within_first = accepted (data_out false 0 0 8 20) (asked (0 ∷ []) unasked)

abbrev first_burst : Past
first_burst = accepted (data_out true 0 1 28 12) within_first

first_burst_is_lawful : (fault_of (remembered (asked (0 ∷ []) unasked)) (data_out false 0 0 8 20) ≡ None)
    × (fault_of (remembered within_first) (data_out true 0 1 28 12) ≡ None)
unfolding remembered fault_of
first_burst_is_lawful = (refl, refl)

second_ask : (due_asks (remembered within_first) ≡ [])
    × (due_asks (remembered first_burst) ≡ record { number = 1; offset = 40; length = 32 } ∷ [])
unfolding remembered
second_ask = (refl, refl)

-- a Data-Out of no bytes does not make the ask due again
not_twice : (fault_of (remembered (asked (0 ∷ []) unasked)) (data_out false 0 0 8 0) ≡ None)
    × (due_asks (remembered (accepted (data_out false 0 0 8 0) (asked (0 ∷ []) unasked))) ≡ [])
unfolding remembered fault_of
not_twice = (refl, refl)

-- the other bursts in one Data-Out each
abbrev third_burst : Past
third_burst = accepted (data_out true 2 0 72 32) (asked (2 ∷ []) (accepted (data_out true 1 0 40 32) (asked (1 ∷ []) first_burst)))

last_ask : due_asks (remembered third_burst) ≡ record { number = 3; offset = 104; length = 24 } ∷ []
unfolding remembered
last_ask = refl

abbrev all_bursts : Past
all_bursts = accepted (data_out true 3 0 104 24) (asked (3 ∷ []) third_burst)

whole_at_last : (is_whole (remembered third_burst) ≡ false) × (is_whole (remembered all_bursts) ≡ true)
    × (payload all_bursts ≡ bytes 128) × (u all_bursts ≡ 8) × (due_asks (remembered all_bursts) ≡ [])
unfolding remembered
whole_at_last = (refl, refl, refl, refl, refl)

-- in bytes: 1048576 of them, 65536 unsolicited, MaxBurstLength 262144
four_asks : map (ask_at 65536 262144 1048576) (range_with_len 0 4) ≡ record { number = 0; offset = 65536; length = 262144 } ∷ record {
  number = 1;
  offset = 327680;
  length = 262144;
} ∷ record { number = 2; offset = 589824; length = 262144 } ∷ record { number = 3; offset = 851968; length = 196608 } ∷ []
four_asks = refl

-- ---- the same write, if more R2Ts may be open

-- MaxOutstandingR2T m, and the unsolicited data has come
abbrev unasked_of : ℕ → Past
unasked_of m = record unasked { values = record agreed { max_outstanding_r2t = m } }

-- with four all are due at once; those whose tags were sent are no longer due
all_at_once : (due_asks (remembered (unasked_of 4)) ≡ map (ask_at 8 32 128) (range_with_len 0 4))
    × (due_asks (remembered (asked (0 ∷ 1 ∷ []) (unasked_of 4))) ≡ map (ask_at 8 32 128) (range_with_len 2 2))
    × (due_asks (remembered (asked (0 ∷ 1 ∷ 2 ∷ 3 ∷ []) (unasked_of 4))) ≡ [])
unfolding remembered
all_at_once = (refl, refl, refl)

-- with two the first two are due, and the next as soon as the data of one has come
abbrev two_asked : Past
two_asked = asked (0 ∷ 1 ∷ []) (unasked_of 2)

abbrev one_came : Past
one_came = accepted (data_out true 0 1 20 20) (accepted (data_out false 0 0 8 12) two_asked)

abbrev two_came : Past
two_came = accepted (data_out true 1 0 40 32) (asked (2 ∷ []) one_came)

two_at_a_time : (due_asks (remembered (unasked_of 2)) ≡ map (ask_at 8 32 128) (range_with_len 0 2))
    × (due_asks (remembered (accepted (data_out false 0 0 8 12) two_asked)) ≡ [])
    × (due_asks (remembered one_came) ≡ ask_at 8 32 128 2 ∷ []) × (due_asks (remembered two_came) ≡ ask_at 8 32 128 3 ∷ [])
    × (due_asks (remembered (asked (3 ∷ []) two_came)) ≡ [])
unfolding remembered
two_at_a_time = (refl, refl, refl, refl, refl)

-- data comes in the order of the R2Ts
in_order : (fault_of (remembered two_asked) (data_out true 0 0 8 32) ≡ None)
    × (fault_of (remembered two_asked) (data_out true 1 0 40 32) ≡ Some faults.TransferTag)
    × (fault_of (remembered one_came) (data_out true 1 0 40 32) ≡ None)
    × (fault_of (remembered one_came) (data_out true 0 0 40 32) ≡ Some faults.TransferTag)
unfolding remembered fault_of
in_order = (refl, refl, refl, refl)

-- the tags of the open R2Ts, and whether any is open
abbrev all_sent : Past
all_sent = asked (3 ∷ []) two_came

abbrev all_came : Past
all_came = accepted (data_out true 3 0 104 24) (accepted (data_out true 2 0 72 32) all_sent)

open_ones : ((remembered one_came).open_tags ≡ 1 ∷ []) × ((remembered all_sent).open_tags ≡ 2 ∷ 3 ∷ [])
    × (is_asked (remembered (unasked_of 2)) ≡ false) × (is_asked (remembered all_sent) ≡ true) × (is_asked (remembered all_came) ≡ false)
    × (is_whole (remembered all_came) ≡ true)
unfolding remembered
open_ones = (refl, refl, refl, refl, refl, refl)

-- ---- how much is wanted

-- four blocks of 512 bytes, the first unsolicited, in bytes
three_blocks : ask_at 512 262144 2048 0 ≡ record { number = 0; offset = 512; length = 1536 }
three_blocks = refl

-- F and no data: the command itself makes the first ask due
at_once : due_asks (remembered (begun agreed (command fw 16 0))) ≡ record { number = 0; offset = 0; length = 16 } ∷ []
unfolding remembered
at_once = refl

-- all the data with the command
with_the_command : is_whole (remembered (begun agreed (command fw 8 8))) ≡ true
unfolding remembered
with_the_command = refl

-- all the data has come, but the Data-Out with F, of any length, has not
not_ended : (is_whole (remembered (begun agreed (command w 8 8))) ≡ false)
    × (is_whole (remembered (accepted (data_out true unsolicited_tag 0 8 0) (begun agreed (command w 8 8)))) ≡ true)
unfolding remembered
not_ended = (refl, refl)

-- a command that takes no data is whole at once, with or without F, and no Data-Out is lawful
no_data : (is_whole (remembered (begun agreed (command fr 16 0))) ≡ true) × (is_whole (remembered (begun agreed (command 0x40 16 0))) ≡ true)
    × (fault_of (remembered (begun agreed (command fr 16 0))) (data_out true unsolicited_tag 0 0 0) ≡ Some faults.TransferTag)
unfolding remembered fault_of
no_data = (refl, refl, refl)

-- a command of 1048577 bytes is asked for none of them
too_long : (is_whole (remembered (begun agreed (command fw 1048577 3))) ≡ true) × (due_asks (remembered (begun agreed (command fw 1048576 3)))
    ≡ record { number = 0; offset = 3; length = 32 } ∷ [])
unfolding remembered
too_long = (refl, refl)

-- ---- faults

-- immediate data of a command that takes none, and immediate data while ImmediateData is No
fault_1 : (command_fault agreed (command fr 16 1) ≡ Some faults.ImmediateData)
    × (command_fault (record agreed { immediate_data = false }) (command fw 16 1) ≡ Some faults.ImmediateData)
fault_1 = (refl, refl)

-- W without F while InitialR2T is Yes; a command without W needs no F
fault_2 : (command_fault (record agreed { initial_r2t = true }) (command w 16 1) ≡ Some faults.UnsolicitedData)
    × (command_fault (record agreed { initial_r2t = true }) (command 0x40 16 0) ≡ None)
fault_2 = (refl, refl)

fault_3 : fault_of (remembered half_way) (data_out true unsolicited_tag 1 5 3) ≡ Some faults.BufferOffset
unfolding remembered fault_of
fault_3 = refl

-- DataSN counts on within a sequence, and begins again with the next
fault_4 : (fault_of (remembered half_way) (data_out true unsolicited_tag 0 4 4) ≡ Some faults.DataSn)
    × (fault_of (remembered (asked (0 ∷ []) unasked)) (data_out false 0 2 8 20) ≡ Some faults.DataSn)
unfolding remembered fault_of
fault_4 = (refl, refl)

-- above FirstBurstLength or the expected length, with the command and after it, and above what an R2T asked for
fault_5 : (command_fault agreed (command fw 128 9) ≡ Some faults.TooMuch) × (command_fault agreed (command fw 4 5) ≡ Some faults.TooMuch)
    × (fault_of (remembered half_way) (data_out true unsolicited_tag 1 4 5) ≡ Some faults.TooMuch)
    × (fault_of (remembered (asked (0 ∷ []) unasked)) (data_out true 0 0 8 33) ≡ Some faults.TooMuch)
unfolding remembered fault_of
fault_5 = (refl, refl, refl, refl)

-- a tag other than that of the open R2T, unsolicited data after its end, an R2T's tag before that end, and data after
-- all bursts
fault_6 : (fault_of (remembered (asked (0 ∷ []) unasked)) (data_out false 1 0 8 20) ≡ Some faults.TransferTag)
    × (fault_of (remembered (asked (0 ∷ []) unasked)) (data_out false unsolicited_tag 0 8 20) ≡ Some faults.TransferTag)
    × (fault_of (remembered write) (data_out false 0 0 1 3) ≡ Some faults.TransferTag)
    × (fault_of (remembered all_bursts) (data_out true 3 0 128 0) ≡ Some faults.TransferTag)
unfolding remembered fault_of
fault_6 = (refl, refl, refl, refl)

-- F is set at the end of what an R2T asked for, and nowhere else
fault_7 : (fault_of (remembered (asked (0 ∷ []) unasked)) (data_out false 0 0 8 32) ≡ Some faults.Final)
    × (fault_of (remembered (asked (0 ∷ []) unasked)) (data_out true 0 0 8 0) ≡ Some faults.Final)
unfolding remembered fault_of
fault_7 = (refl, refl)

-- the first fault counts, in the order tag, DataSN, offset, too much, F
first_fault : (fault_of (remembered (asked (0 ∷ []) unasked)) (data_out true 7 7 7 77) ≡ Some faults.TransferTag)
    × (fault_of (remembered (asked (0 ∷ []) unasked)) (data_out true 0 7 7 77) ≡ Some faults.DataSn)
    × (fault_of (remembered (asked (0 ∷ []) unasked)) (data_out true 0 0 7 77) ≡ Some faults.BufferOffset)
    × (fault_of (remembered (asked (0 ∷ []) unasked)) (data_out false 0 0 8 77) ≡ Some faults.TooMuch)
unfolding remembered fault_of
first_fault = (refl, refl, refl, refl)
