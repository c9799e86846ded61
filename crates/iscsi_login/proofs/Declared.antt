-- The values after a pair, by what its offer comes to: of a key that declares its offer comes to no answer.
use Rattle.std.proofs.Common.{◌≡◌, Bool, true, false, cond, List, ℕ, codes, refl, ◌∙◌}
use Rattle.std.proofs.lemmas.Slice.Eq.{bytes_eq-Decides}
use Rattle.iscsi_login.specs.Keys.{is_answer, negotiation_of, transfer_negotiation, result_by, settled}
use Rattle.iscsi_login.specs.Values.{is_segment_key, segment_in, with_boolean, with_number, with_declared, with_result, with_pair}
use Rattle.iscsi_login.specs.declared.keys.KeyResult.{KeyResult}
use Rattle.iscsi_login.specs.declared.keys.KeyResult.TheVariants as results
use Rattle.iscsi_login.specs.declared.values.Values.{Values}

none_either_way : (b : Bool) → cond b results.NoAnswer results.NoAnswer ≡ results.NoAnswer
none_either_way true = refl
none_either_way false = refl

segment_settles : (key value : List ℕ) → is_segment_key key ≡ true → settled key value ≡ results.NoAnswer
unfolding settled negotiation_of transfer_negotiation result_by
segment_settles key value e =
    let is : key ≡ codes "MaxRecvDataSegmentLength" = (bytes_eq-Decides key (codes "MaxRecvDataSegmentLength")).0 e in
    rw is (none_either_way (is_answer value))

-- what is in force after a result: with no answer, what the key declares
abbrev pub with_outcome : List ℕ → List ℕ → KeyResult → Values → Values
with_outcome key value results.NoAnswer values = with_declared key value values
with_outcome key value (results.Boolean b) values = with_boolean key b values
with_outcome key value (results.Number n) values = with_number key n values
with_outcome key value (results.Word word) values = values

pub pair_by_result : (values : Values) (key value : List ℕ) (result : KeyResult) → result ≡ settled key value
    → with_outcome key value result values ≡ with_pair values (key, value)
unfolding with_pair with_result
pair_by_result values key value result e = by_key (is_segment_key key) refl
  where
    declared : Values
    declared = record values { max_recv_data_segment_length = segment_in value values.max_recv_data_segment_length }

    by_result : (r : KeyResult) → is_segment_key key ≡ false → with_outcome key value r values ≡ with_result key r values
    by_result results.NoAnswer other = rw other refl
    by_result (results.Boolean b) other = refl
    by_result (results.Number n) other = refl
    by_result (results.Word word) other = refl

    by_key : (t : Bool) → is_segment_key key ≡ t → with_outcome key value result values ≡ with_pair values (key, value)
    by_key true seg = let none : result ≡ results.NoAnswer = e ∙ segment_settles key value seg in rw (none, seg) refl
    by_key false other = rw (← e, other) (by_result result other)
