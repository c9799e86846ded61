-- Texts read and written, computed.
use Rattle.std.specs.Prelude.{◌≡◌, [], ◌∷◌, ◌++◌, Some, None, Ok, Err, codes, replicate, refl}
use Rattle.std.specs.Str.{is_utf8, chars}
use Rattle.iscsi_text.specs.declared.fault.TextFault.TheVariants as faults
use Rattle.iscsi_text.specs.Pairs.{pieces, own_fault, text_pairs, text_of, value_of}
use Rattle.iscsi_text.specs.StringList.{strings_in, pairs_of}

-- ---- what is read

two_pairs : text_pairs (codes "InitiatorName=a" ++ 0 ∷ codes "TargetName=t1" ++ 0 ∷ [])
    ≡ Ok ((codes "InitiatorName", codes "a") ∷ (codes "TargetName", codes "t1") ∷ [])
unfolding text_pairs pieces own_fault is_utf8 chars lib.Utf8.encode
two_pairs = refl

-- the first `=` separates a key from its value
two_equals_signs : text_pairs (codes "a=b=c" ++ 0 ∷ []) ≡ Ok ((codes "a", codes "b=c") ∷ [])
unfolding text_pairs pieces own_fault is_utf8 chars lib.Utf8.encode
two_equals_signs = refl

-- a value may be empty, and empty pieces are skipped
empty_value : text_pairs (0 ∷ codes "a=" ++ 0 ∷ 0 ∷ []) ≡ Ok ((codes "a", []) ∷ [])
unfolding text_pairs pieces own_fault is_utf8 chars lib.Utf8.encode
empty_value = refl

-- zero bytes alone contain no pair, and 65536 bytes are not too many
no_pair : text_pairs (replicate 65536 0) ≡ Ok []
unfolding text_pairs pieces
no_pair = refl

-- ---- what is refused

too_long : text_pairs (replicate 65537 0) ≡ Err faults.TooLong
unfolding text_pairs
too_long = refl

no_equals_sign : text_pairs (codes "a" ++ 0 ∷ []) ≡ Err faults.NoKey
unfolding text_pairs pieces own_fault is_utf8 chars lib.Utf8.encode
no_equals_sign = refl

empty_key : text_pairs (codes "=a" ++ 0 ∷ []) ≡ Err faults.NoKey
unfolding text_pairs pieces own_fault is_utf8 chars lib.Utf8.encode
empty_key = refl

not_terminated : text_pairs (codes "a=1") ≡ Err faults.NotTerminated
unfolding text_pairs pieces own_fault is_utf8 chars lib.Utf8.encode
not_terminated = refl

not_utf8 : text_pairs (codes "a=" ++ 0xFF ∷ 0 ∷ []) ≡ Err faults.NotUtf8
unfolding text_pairs pieces own_fault is_utf8 chars lib.Utf8.encode
not_utf8 = refl

key_twice : text_pairs (codes "a=1" ++ 0 ∷ codes "a=2" ++ 0 ∷ []) ≡ Err faults.KeyTwice
unfolding text_pairs pieces own_fault is_utf8 chars lib.Utf8.encode
key_twice = refl

-- a key of 63 bytes and one of 64
keys_at_the_limit : (text_pairs (replicate 63 107 ++ codes "=v" ++ 0 ∷ []) ≡ Ok ((replicate 63 107, codes "v") ∷ []))
    × (text_pairs (replicate 64 107 ++ codes "=v" ++ 0 ∷ []) ≡ Err faults.LongKey)
unfolding text_pairs pieces own_fault is_utf8 chars lib.Utf8.encode
keys_at_the_limit = (refl, refl)

-- a value of 255 bytes and one of 256
values_at_the_limit : (text_pairs (codes "k=" ++ replicate 255 118 ++ 0 ∷ []) ≡ Ok ((codes "k", replicate 255 118) ∷ []))
    × (text_pairs (codes "k=" ++ replicate 256 118 ++ 0 ∷ []) ≡ Err faults.LongValue)
unfolding text_pairs pieces own_fault is_utf8 chars lib.Utf8.encode
values_at_the_limit = (refl, refl)

-- ---- which fault is reported

-- for a piece, in this order: it is not ended, it is not UTF-8, it has no key, its value is too long
first_of_a_piece : (text_pairs (0xFF ∷ []) ≡ Err faults.NotTerminated) × (text_pairs (0xFF ∷ 0 ∷ []) ≡ Err faults.NotUtf8)
    × (text_pairs (codes "=" ++ replicate 256 118 ++ 0 ∷ []) ≡ Err faults.NoKey)
unfolding text_pairs pieces own_fault is_utf8 chars lib.Utf8.encode
first_of_a_piece = (refl, refl, refl)

-- a value that is too long, for a key that comes twice
long_before_twice : text_pairs (codes "k=1" ++ 0 ∷ codes "k=" ++ replicate 256 118 ++ 0 ∷ []) ≡ Err faults.LongValue
unfolding text_pairs pieces own_fault is_utf8 chars lib.Utf8.encode
long_before_twice = refl

-- for a text: the fault of its first faulty piece
first_of_a_text : (text_pairs (codes "a=1" ++ 0 ∷ codes "a=2" ++ 0 ∷ codes "b") ≡ Err faults.KeyTwice)
    × (text_pairs (codes "a=1" ++ 0 ∷ codes "b" ++ 0 ∷ codes "a=2") ≡ Err faults.NoKey)
unfolding text_pairs pieces own_fault is_utf8 chars lib.Utf8.encode
first_of_a_text = (refl, refl)

-- ---- what is written and found

written : text_of ((codes "AuthMethod", codes "None") ∷ (codes "X-a", []) ∷ []) ≡ codes "AuthMethod=None" ++ 0 ∷ codes "X-a=" ++ 0 ∷ []
written = refl

-- keys are case-sensitive, and the first pair with a key counts
found : (value_of (codes "a") ((codes "A", codes "1") ∷ (codes "a", codes "2") ∷ (codes "a", codes "3") ∷ []) ≡ Some (codes "2"))
    × (value_of (codes "b") ((codes "a", codes "1") ∷ []) ≡ None)
found = (refl, refl)

-- ---- how pairs are stored

-- in one text, by where each key and each value ends
kept : pairs_of (strings_in (codes "a12b") 0 (1 ∷ 3 ∷ 4 ∷ 4 ∷ [])) ≡ (codes "a", codes "12") ∷ (codes "b", []) ∷ []
kept = refl
