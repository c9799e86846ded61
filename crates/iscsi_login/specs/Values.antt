-- The values in force after pairs of a login (RFC 7143 §6.3, §13).
use Rattle.std.specs.Prelude.{ℕ, ◌≤◌, List, fold, Bool, true, unwrap_or, codes, bytes_eq, if◌then◌else◌}
use Rattle.iscsi_text.specs.Pairs.{Pair}
use Rattle.iscsi_login.specs.Number.{number_in}
use Rattle.iscsi_login.specs.Keys.{settled}
use Rattle.iscsi_login.specs.declared.keys.KeyResult.{KeyResult}
use Rattle.iscsi_login.specs.declared.keys.KeyResult.TheVariants as results
use Rattle.iscsi_login.specs.declared.values.Values.{Values}

-- RFC 7143 §13: the defaults
abbrev pub default_values : Values
default_values = record {
  initial_r2t = true;
  immediate_data = true;
  max_recv_data_segment_length = 8192;
  max_burst_length = 262144;
  first_burst_length = 65536;
  default_time2wait = 2;
  default_time2retain = 20;
  max_outstanding_r2t = 1;
}

abbrev pub with_boolean : List ℕ → Bool → Values → Values
with_boolean key value values =
    if bytes_eq key (codes "InitialR2T") then record values { initial_r2t = value }
    else if bytes_eq key (codes "ImmediateData") then record values { immediate_data = value }
    else values

abbrev pub with_number : List ℕ → ℕ → Values → Values
with_number key value values =
    if bytes_eq key (codes "MaxBurstLength") then record values { max_burst_length = value }
    else if bytes_eq key (codes "FirstBurstLength") then record values { first_burst_length = value }
    else if bytes_eq key (codes "DefaultTime2Wait") then record values { default_time2wait = value }
    else if bytes_eq key (codes "DefaultTime2Retain") then record values { default_time2retain = value }
    else if bytes_eq key (codes "MaxOutstandingR2T") then record values { max_outstanding_r2t = value }
    else values

-- the result of a key comes into force; a word changes nothing, so the default stays
unfoldable pub with_result : List ℕ → KeyResult → Values → Values
with_result key (results.Boolean value) values = with_boolean key value values
with_result key (results.Number value) values = with_number key value values
with_result key _ values = values

-- RFC 7143 §13.12: the most data that the initiator accepts in one PDU, 512 to 16777215 bytes
abbrev pub is_segment_key : List ℕ → Bool
is_segment_key key = bytes_eq key (codes "MaxRecvDataSegmentLength")

abbrev pub segment_in : List ℕ → ℕ → ℕ
segment_in value before = unwrap_or (number_in 512 16777215 value) before

-- RFC 7143 §13.12: the declared value of a key comes into force
abbrev pub with_declared : List ℕ → List ℕ → Values → Values
with_declared key value values =
    if is_segment_key key then record values { max_recv_data_segment_length = segment_in value values.max_recv_data_segment_length }
    else values

-- the values in force after one more pair
unfoldable pub with_pair : Values → Pair → Values
with_pair values pair =
    if is_segment_key pair.0 then record values { max_recv_data_segment_length = segment_in pair.1 values.max_recv_data_segment_length }
    else with_result pair.0 (settled pair.0 pair.1) values

-- the values in force after several more pairs
abbrev pub with_pairs : Values → List Pair → Values
with_pairs values pairs = fold with_pair values pairs

-- RFC 7143 §13.12, §13.13, §13.17: no length that data is cut by is below 512, and at least one R2T may be open.
-- Neither a burst nor the number of open R2Ts is above this target's own value.
pub record AreInRange (values : Values) : Type 0 where
  pub segment : 512 ≤ values.max_recv_data_segment_length
  pub burst : 512 ≤ values.max_burst_length
  pub longest_burst : values.max_burst_length ≤ 262144
  pub outstanding : 1 ≤ values.max_outstanding_r2t
  pub most_outstanding : values.max_outstanding_r2t ≤ 4
