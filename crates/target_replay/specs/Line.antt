-- The form of a line of the input, by its bytes.
use Rattle.std.specs.Prelude.{◌≡◌, ℕ, ◌+◌, ◌-◌, ◌*◌, List, [], ◌∷◌, length, drop, Bool, ◌==◌, ◌&&◌, not, nat_eq, nat_lt, codes, Option, Some, None, option_map, option_and_then, if◌then◌else◌, refl}
use Rattle.std.specs.Char.{is_ascii_digit}
use Rattle.std.specs.List.{starts_with, before_first, after_first}
use Rattle.std.specs.Result.{result_ok}
use Rattle.hex.specs.Hex.{decode_of, decode_pairs}
use Rattle.iscsi_target.specs.History.{Event, Open, Bytes, Gone, connection_limit}
use Rattle.iscsi_target.specs.declared.event.Event.{Event as CodeEvent}
use Rattle.iscsi_target.specs.declared.event.Event.TheVariants as events

-- the connection that an event of the code is on
abbrev pub connection_in : CodeEvent → ℕ
connection_in (events.Open c) = c
connection_in (events.Bytes c piece) = c
connection_in (events.Gone c) = c

abbrev pub connection_numbered : ℕ → Option ℕ
connection_numbered n = if nat_lt n connection_limit then Some n else None

-- the number of a connection: one decimal digit, or two of which the first is not 0
unfoldable pub connection_of : List ℕ → Option ℕ
connection_of [] = None
connection_of (ones ∷ []) = if is_ascii_digit ones then connection_numbered (ones - 48) else None
connection_of (tens ∷ ones ∷ []) =
    if is_ascii_digit tens && not (tens == 48) && is_ascii_digit ones then connection_numbered (10 * (tens - 48) + (ones - 48)) else None
connection_of (tens ∷ ones ∷ more ∷ rest) = None

abbrev pub is_space : ℕ → Bool
is_space byte = byte == 32

-- whether there is a space
abbrev pub has_space : List ℕ → Bool
has_space text = nat_lt (length (before_first is_space text)) (length text)

abbrev pub bytes_on : Option (List ℕ) → ℕ → Option Event
bytes_on piece c = option_map (λ bytes. Bytes c bytes) piece

-- `C HEX`, of which HEX may be empty
unfoldable pub bytes_of : List ℕ → Option Event
bytes_of text =
    if has_space text
    then option_and_then (bytes_on (result_ok (decode_of (after_first is_space text)))) (connection_of (before_first is_space text))
    else None

abbrev pub begins : List ℕ → List ℕ → Bool
begins word text = starts_with nat_eq text word

-- `open C`, `gone C` or `bytes C HEX`, with just one space between
unfoldable pub event_of : List ℕ → Option Event
event_of text =
    if begins (codes "open ") text then option_map Open (connection_of (drop 5 text))
    else if begins (codes "gone ") text then option_map Gone (connection_of (drop 5 text))
    else if begins (codes "bytes ") text then bytes_of (drop 6 text)
    else None

-- the greatest number of a connection, and the next one
open_63 : event_of (codes "open 63") ≡ Some (Open 63)
unfolding event_of connection_of
open_63 = refl

open_64 : event_of (codes "open 64") ≡ None
unfolding event_of connection_of
open_64 = refl

-- no leading zero
open_07 : event_of (codes "open 07") ≡ None
unfolding event_of connection_of
open_07 = refl

-- a piece without bytes ends in the space
empty_piece : event_of (codes "bytes 7 ") ≡ Some (Bytes 7 [])
unfolding event_of bytes_of connection_of decode_pairs
empty_piece = refl

no_piece : event_of (codes "bytes 7") ≡ None
unfolding event_of bytes_of connection_of
no_piece = refl
