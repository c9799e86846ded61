-- The text format (RFC 7143 §6.1): pairs KEY=VALUE, each ended by a zero byte.
use Rattle.std.specs.Prelude.{ℕ, List, [], ◌∷◌, ◌++◌, length, map, Bool, true, false, not, ◌&&◌, nat_lt, ◌==◌, Option, Some, None, Result, Ok, Err, if◌then◌else◌}
use Rattle.std.specs.Option.{option_or}
use Rattle.std.specs.List.{filter, flat_map, list_any, slice_split, before_first, after_first}
use Rattle.std.specs.Str.{is_utf8, bytes_eq}
use Rattle.iscsi_text.specs.declared.fault.TextFault.{TextFault}
use Rattle.iscsi_text.specs.declared.fault.TextFault.TheVariants as faults

-- a key and its value
abbrev pub Pair : Type 0
Pair = List ℕ × List ℕ

-- a piece of a text, and whether a zero byte ended it
pub record Piece : Type 0 where
  pub bytes : List ℕ
  pub ended : Bool

-- profile: the most bytes that a text may have
abbrev pub longest_text : ℕ
longest_text = 65536

-- RFC 7143 §6.1: the most bytes that a key may have
abbrev pub longest_key : ℕ
longest_key = 63

-- RFC 7143 §6.1: the most bytes that a value may have
abbrev pub longest_value : ℕ
longest_value = 255

-- `=`
abbrev pub equals_sign : ℕ
equals_sign = 61

abbrev pub is_equals : ℕ → Bool
is_equals byte = byte == equals_sign

abbrev pub is_zero : ℕ → Bool
is_zero byte = byte == 0

-- the parts of a text as pieces: a zero byte ended each except the last
abbrev pub marked : List (List ℕ) → List Piece
marked [] = []
marked (part ∷ []) = record { bytes = part; ended = false } ∷ []
marked (part ∷ next ∷ parts) = record { bytes = part; ended = true } ∷ marked (next ∷ parts)

abbrev pub is_nonempty : Piece → Bool
is_nonempty piece = nat_lt 0 (length piece.bytes)

-- RFC 7143 §6.1: the parts between the zero bytes of a text; profile: empty pieces are skipped
unfoldable pub pieces : List ℕ → List Piece
pieces text = filter is_nonempty (marked (slice_split is_zero text))

-- RFC 7143 §6.1: the bytes before the first `=`
abbrev pub key_in : Piece → List ℕ
key_in piece = before_first is_equals piece.bytes

-- RFC 7143 §6.1: the bytes after the first `=`
abbrev pub value_in : Piece → List ℕ
value_in piece = after_first is_equals piece.bytes

abbrev pub pair_in : Piece → Pair
pair_in piece = (key_in piece, value_in piece)

-- there is an `=`, and it is not the first byte
abbrev pub has_key : Piece → Bool
has_key piece = nat_lt 0 (length (key_in piece)) && nat_lt (length (key_in piece)) (length piece.bytes)

-- profile: the first fault of a piece by itself, in this order
unfoldable pub own_fault : Piece → Option TextFault
own_fault piece =
    if not piece.ended then Some faults.NotTerminated
    else (if not (is_utf8 piece.bytes) then Some faults.NotUtf8
    else (if not (has_key piece) then Some faults.NoKey
    else (if nat_lt longest_key (length (key_in piece)) then Some faults.LongKey
    else (if nat_lt longest_value (length (value_in piece)) then Some faults.LongValue else None))))

-- RFC 7143 §6.3: a key comes once
abbrev pub repeat_fault : List (List ℕ) → List ℕ → Option TextFault
repeat_fault earlier key = if list_any (bytes_eq key) earlier then Some faults.KeyTwice else None

-- the first fault of a piece that comes after these keys
abbrev pub fault_of : List (List ℕ) → Piece → Option TextFault
fault_of earlier piece = option_or (own_fault piece) (repeat_fault earlier (key_in piece))

-- profile: the fault of the first faulty piece
abbrev pub first_fault : List (List ℕ) → List Piece → Option TextFault
first_fault earlier [] = None
first_fault earlier (piece ∷ later) = option_or (fault_of earlier piece) (first_fault (earlier ++ key_in piece ∷ []) later)

-- the fault, or the pairs if there is none
abbrev pub pairs_unless : Option TextFault → List Pair → Result (List Pair) TextFault
pairs_unless None pairs = Ok pairs
pairs_unless (Some fault) pairs = Err fault

-- RFC 7143 §6.1: the pairs of a text, or its fault; profile: its length is tested first
unfoldable pub text_pairs : List ℕ → Result (List Pair) TextFault
text_pairs text = if nat_lt longest_text (length text) then Err faults.TooLong
    else pairs_unless (first_fault [] (pieces text)) (map pair_in (pieces text))

-- RFC 7143 §6.1: a pair in the form of a text
abbrev pub spelled : Pair → List ℕ
spelled pair = pair.0 ++ equals_sign ∷ pair.1 ++ 0 ∷ []

-- RFC 7143 §6.1: the text of pairs
abbrev pub text_of : List Pair → List ℕ
text_of pairs = flat_map spelled pairs

-- the value of a key: the first pair with that key counts
abbrev pub value_of : List ℕ → List Pair → Option (List ℕ)
value_of key [] = None
value_of key (pair ∷ pairs) = if bytes_eq key pair.0 then Some pair.1 else value_of key pairs
