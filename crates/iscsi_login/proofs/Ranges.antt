-- The lengths that data is cut by and the number of open R2Ts stay in range, whatever is offered.
use Rattle.std.proofs.Common.{◌≡◌, ℕ, ◌≤◌, min, List, [], ◌∷◌, Bool, true, false, cond, Option, Some, None, refl, sym, ap, ◌∙◌, subst, arith}
use Rattle.std.specs.Prelude.{unwrap_or, codes, bytes_eq}
use Rattle.std.specs.Option.{option_and_then}
use Rattle.std.proofs.lemmas.Slice.Eq.{bytes_eq-Decides}
use Rattle.iscsi_text.specs.Pairs.{Pair}
use Rattle.iscsi_login.specs.Number.{number_of, number_in, within}
use Rattle.iscsi_login.specs.Keys.{transfer_negotiation, negotiation_of, result_by, number_result, is_answer, settled}
use Rattle.iscsi_login.specs.Values.{AreInRange, with_boolean, with_number, with_result, is_segment_key, segment_in, with_pair, with_pairs}
use Rattle.iscsi_login.specs.declared.keys.KeyResult.{KeyResult}
use Rattle.iscsi_login.specs.declared.keys.KeyResult.TheVariants as results
use Rattle.iscsi_login.specs.Directory.{KnownTargets}
use Rattle.iscsi_login.specs.LoginState.{LoginState}
use Rattle.iscsi_login.specs.Login.{heard, BeginsWith, BeginsInRange}
use Rattle.iscsi_login.specs.declared.reply.Reply.{Reply}
use Rattle.iscsi_login.specs.declared.reply.Reply.TheVariants.{GoOn, Full, Refused}
use Rattle.iscsi_login.specs.declared.values.Values.{Values}

-- ---- numbers

within_is : (low high n m : ℕ) → within low high n ≡ Some m → (low ≤ m) × (m ≤ high)
within_is low high n m e = grind arith

within_option : (low high m : ℕ) (o : Option ℕ) → option_and_then (within low high) o ≡ Some m → (low ≤ m) × (m ≤ high)
within_option low high m None e = absurd cc
within_option low high m (Some n) e = within_is low high n m e

number_within : (low high m : ℕ) (text : List ℕ) → number_in low high text ≡ Some m → (low ≤ m) × (m ≤ high)
unfolding number_in
number_within low high m text e = within_option low high m (number_of text) e

-- ---- MaxRecvDataSegmentLength

unwrapped : (o : Option ℕ) (before : ℕ) → ((m : ℕ) → o ≡ Some m → 512 ≤ m) → 512 ≤ before → 512 ≤ unwrap_or o before
unwrapped None before some was = was
unwrapped (Some m) before some was = some m refl

segment_stays : (value : List ℕ) (before : ℕ) → 512 ≤ before → 512 ≤ segment_in value before
segment_stays value before was = unwrapped (number_in 512 16777215 value) before (λ m e. (number_within 512 16777215 m value e).0) was

-- ---- MaxBurstLength and MaxOutstandingR2T

min_result : (least own : ℕ) (o : Option ℕ) (n : ℕ) → least ≤ own → ((m : ℕ) → o ≡ Some m → least ≤ m)
    → number_result (min own) o ≡ results.Number n → (least ≤ n) × (n ≤ own)
min_result least own None n low some e = absurd cc
min_result least own (Some m) n low some e =
    let is : min own m ≡ n = cc in
    let reach = some m refl in
    (omega (arith, reach, is, low), omega (arith, is))

min_by : (b : Bool) (least most own : ℕ) (offer : List ℕ) (n : ℕ) → least ≤ own
    → cond b results.NoAnswer (number_result (min own) (number_in least most offer)) ≡ results.Number n → (least ≤ n) × (n ≤ own)
min_by true least most own offer n low e = absurd cc
min_by false least most own offer n low e = min_result least own (number_in least most offer) n low (λ m is. (number_within least most m offer is).0) e

burst_settled : (offer : List ℕ) (n : ℕ) → settled (codes "MaxBurstLength") offer ≡ results.Number n → (512 ≤ n) × (n ≤ 262144)
unfolding settled negotiation_of transfer_negotiation result_by
burst_settled offer n e = min_by (is_answer offer) 512 16777215 262144 offer n (omega arith) e

outstanding_settled : (offer : List ℕ) (n : ℕ) → settled (codes "MaxOutstandingR2T") offer ≡ results.Number n → (1 ≤ n) × (n ≤ 4)
unfolding settled negotiation_of transfer_negotiation result_by
outstanding_settled offer n e = min_by (is_answer offer) 1 65535 4 offer n (omega arith) e

-- ---- a pair

boolean_stays : (key : List ℕ) (value : Bool) (values : Values) → AreInRange values → AreInRange (with_boolean key value values)
boolean_stays key value values was = by_key (bytes_eq key (codes "InitialR2T")) (bytes_eq key (codes "ImmediateData"))
  where
    by_key : (a b : Bool) → AreInRange (cond a (record values { initial_r2t = value }) (cond b (record values { immediate_data = value }) values))
    by_key true b = record {
      segment = was.segment;
      burst = was.burst;
      longest_burst = was.longest_burst;
      outstanding = was.outstanding;
      most_outstanding = was.most_outstanding;
    }
    by_key false true = record {
      segment = was.segment;
      burst = was.burst;
      longest_burst = was.longest_burst;
      outstanding = was.outstanding;
      most_outstanding = was.most_outstanding;
    }
    by_key false false = was

number_stays : (key : List ℕ) (value : ℕ) (values : Values) → (bytes_eq key (codes "MaxBurstLength") ≡ true → (512 ≤ value) × (value ≤ 262144))
    → (bytes_eq key (codes "MaxOutstandingR2T") ≡ true → (1 ≤ value) × (value ≤ 4)) → AreInRange values → AreInRange (with_number key value values)
number_stays key value values fits few was = by_key (bytes_eq key (codes "MaxBurstLength")) (bytes_eq key (codes "FirstBurstLength"))
    (bytes_eq key (codes "DefaultTime2Wait")) (bytes_eq key (codes "DefaultTime2Retain")) (bytes_eq key (codes "MaxOutstandingR2T")) refl refl
  where
    by_key : (a b d e f : Bool) → bytes_eq key (codes "MaxBurstLength") ≡ a → bytes_eq key (codes "MaxOutstandingR2T") ≡ f
        → AreInRange (cond a (record values { max_burst_length = value })
        (cond b (record values { first_burst_length = value }) (cond d (record values { default_time2wait = value })
        (cond e (record values { default_time2retain = value }) (cond f (record values { max_outstanding_r2t = value }) values)))))
    by_key true b d e f is at = record {
      segment = was.segment;
      burst = (fits is).0;
      longest_burst = (fits is).1;
      outstanding = was.outstanding;
      most_outstanding = was.most_outstanding;
    }
    by_key false true d e f is at = record {
      segment = was.segment;
      burst = was.burst;
      longest_burst = was.longest_burst;
      outstanding = was.outstanding;
      most_outstanding = was.most_outstanding;
    }
    by_key false false true e f is at = record {
      segment = was.segment;
      burst = was.burst;
      longest_burst = was.longest_burst;
      outstanding = was.outstanding;
      most_outstanding = was.most_outstanding;
    }
    by_key false false false true f is at = record {
      segment = was.segment;
      burst = was.burst;
      longest_burst = was.longest_burst;
      outstanding = was.outstanding;
      most_outstanding = was.most_outstanding;
    }
    by_key false false false false true is at = record {
      segment = was.segment;
      burst = was.burst;
      longest_burst = was.longest_burst;
      outstanding = (few at).0;
      most_outstanding = (few at).1;
    }
    by_key false false false false false is at = was

result_stays : (key offer : List ℕ) (result : KeyResult) (values : Values) → settled key offer ≡ result → AreInRange values
    → AreInRange (with_result key result values)
unfolding with_result
result_stays key offer (results.Boolean value) values e was = boolean_stays key value values was
result_stays key offer (results.Number value) values e was =
    number_stays key value values (λ same. burst_settled offer value (ap (λ (k : List ℕ). settled k offer)
    (sym ((bytes_eq-Decides key (codes "MaxBurstLength")).0 same)) ∙ e))
    (λ same. outstanding_settled offer value (ap (λ (k : List ℕ). settled k offer)
    (sym ((bytes_eq-Decides key (codes "MaxOutstandingR2T")).0 same)) ∙ e)) was
result_stays key offer results.NoAnswer values e was = was
result_stays key offer (results.Word word) values e was = was

pair_stays : (values : Values) (pair : Pair) → AreInRange values → AreInRange (with_pair values pair)
unfolding with_pair
pair_stays values pair was = by_key (is_segment_key pair.0)
  where
    by_key : (a : Bool) → AreInRange (cond a (record values {
      max_recv_data_segment_length =
          segment_in pair.1 values.max_recv_data_segment_length;
    }) (with_result pair.0 (settled pair.0 pair.1) values))
    by_key true = record {
      segment = segment_stays pair.1 values.max_recv_data_segment_length was.segment;
      burst = was.burst;
      longest_burst = was.longest_burst;
      outstanding = was.outstanding;
      most_outstanding = was.most_outstanding;
    }
    by_key false = result_stays pair.0 pair.1 (settled pair.0 pair.1) values refl was

pub pairs_stay : (values : Values) (pairs : List Pair) → AreInRange values → AreInRange (with_pairs values pairs)
pairs_stay values [] was = was
pairs_stay values (pair ∷ pairs) was = pairs_stay (with_pair values pair) pairs (pair_stays values pair was)

-- ---- a reply

pub begins_in_range : (values : Values) (reply : Reply) → BeginsWith values reply → AreInRange values → BeginsInRange reply
begins_in_range values (GoOn answer) is was = tt
begins_in_range values (Refused answer) is was = tt
begins_in_range values (Full answer params) is was = subst AreInRange (sym is) was

-- the request brought no pairs, or these
pub range_kept : (old middle new : Values) (reply : Reply) → middle ≡ old → new ≡ middle → BeginsWith middle reply → AreInRange old → AreInRange new
    × BeginsInRange reply
range_kept old middle new reply same then_ begins was =
    let now = subst AreInRange (sym same) was in
    (subst AreInRange (sym then_) now, begins_in_range middle reply begins now)

pub range_heard : (old middle new : Values) (pairs : List Pair) (reply : Reply) → middle ≡ with_pairs old pairs → new ≡ middle
    → BeginsWith middle reply → AreInRange old → AreInRange new × BeginsInRange reply
range_heard old middle new pairs reply same then_ begins was =
    let now = subst AreInRange (sym same) (pairs_stay old pairs was) in
    (subst AreInRange (sym then_) now, begins_in_range middle reply begins now)

pub heard_values : (directory : KnownTargets) (old middle : LoginState) (header : List ℕ) (pairs : List Pair) → middle ≡ heard directory old header pairs
    → middle.values ≡ with_pairs old.values pairs
unfolding heard
heard_values directory old middle header pairs e = ap (λ (login : LoginState). login.values) e
