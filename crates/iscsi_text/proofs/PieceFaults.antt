-- The fault of a piece by itself, test by test.
use Rattle.std.proofs.Common.{◌≡◌, ℕ, ◌<◌, ◌≤◌, true, false, not, List, length, Some, None, refl, arith}
use Rattle.std.specs.Prelude.{IsUtf8}
use Rattle.std.specs.Str.{is_utf8}
use Rattle.std.specs.List.{position_or_len, before_first}
use Rattle.std.proofs.lemmas.Bool.{lt-ltb, le-ltb, false_from_ne_true, and_left, and_right, and_from}
use Rattle.std.proofs.lemmas.List.{length-take}
use Rattle.std.proofs.lemmas.List.Sums.{prefix_len-le-length}
use Rattle.std.proofs.lemmas.Str.{IsUtf8-from_is_utf8, is_utf8-from_IsUtf8}
use Rattle.iscsi_text.specs.declared.fault.TextFault.TheVariants as faults
use Rattle.iscsi_text.specs.Pairs.{Piece, is_equals, has_key, key_in, value_in, own_fault}

pub length-key : (bytes : List ℕ) → length (before_first is_equals bytes) ≡ position_or_len is_equals bytes
length-key bytes = omega (arith, length-take (position_or_len is_equals bytes) bytes, prefix_len-le-length (λ b. not (is_equals b)) bytes)

pub not_utf8 : (piece : Piece) → piece.ended ≡ true → ¬ (IsUtf8 piece.bytes) → own_fault piece ≡ Some faults.NotUtf8
unfolding own_fault
not_utf8 piece e h = rw (e, false_from_ne_true (is_utf8 piece.bytes) (λ u. h (IsUtf8-from_is_utf8 piece.bytes u))) refl

pub no_equals_sign : (piece : Piece) → piece.ended ≡ true → IsUtf8 piece.bytes → position_or_len is_equals piece.bytes ≡ length piece.bytes
    → own_fault piece ≡ Some faults.NoKey
unfolding own_fault
no_equals_sign piece e u none =
    let keyless : has_key piece ≡ false = and_right _ _ (le-ltb (length (key_in piece)) (length piece.bytes) (omega (arith, length-key piece.bytes))) in
    rw (e, is_utf8-from_IsUtf8 piece.bytes u, keyless) refl

pub empty_key : (piece : Piece) → piece.ended ≡ true → IsUtf8 piece.bytes → length (key_in piece) ≡ 0 → own_fault piece ≡ Some faults.NoKey
unfolding own_fault
empty_key piece e u none =
    let keyless : has_key piece ≡ false = and_left _ _ (le-ltb 0 (length (key_in piece)) (omega arith)) in
    rw (e, is_utf8-from_IsUtf8 piece.bytes u, keyless) refl

with_key : (piece : Piece) → 0 < length (key_in piece) → position_or_len is_equals piece.bytes < length piece.bytes → has_key piece ≡ true
with_key piece some found = and_from _ _ (lt-ltb _ _ some) (lt-ltb _ _ (omega (arith, length-key piece.bytes)))

pub long_key : (piece : Piece) → piece.ended ≡ true → IsUtf8 piece.bytes → position_or_len is_equals piece.bytes < length piece.bytes
    → 63 < length (key_in piece) → own_fault piece ≡ Some faults.LongKey
unfolding own_fault
long_key piece e u found long = rw (e, is_utf8-from_IsUtf8 piece.bytes u, with_key piece (omega arith) found, lt-ltb 63 (length (key_in piece)) long) refl

pub long_value : (piece : Piece) → piece.ended ≡ true → IsUtf8 piece.bytes → position_or_len is_equals piece.bytes < length piece.bytes
    → 0 < length (key_in piece) → length (key_in piece) ≤ 63
    → 255 < length (value_in piece) → own_fault piece ≡ Some faults.LongValue
unfolding own_fault
long_value piece e u found some short long = rw (
  e,
  is_utf8-from_IsUtf8 piece.bytes u,
  with_key piece some found,
  le-ltb 63 (length (key_in piece)) short,
  lt-ltb 255 (length (value_in piece)) long,
) refl

pub no_fault : (piece : Piece) → piece.ended ≡ true → IsUtf8 piece.bytes → position_or_len is_equals piece.bytes < length piece.bytes
    → 0 < length (key_in piece) → length (key_in piece) ≤ 63
    → length (value_in piece) ≤ 255 → own_fault piece ≡ None
unfolding own_fault
no_fault piece e u found some short fits = rw (
  e,
  is_utf8-from_IsUtf8 piece.bytes u,
  with_key piece some found,
  le-ltb 63 (length (key_in piece)) short,
  le-ltb 255 (length (value_in piece)) fits,
) refl
