-- What is printed of the connections after a line.
use Rattle.std.specs.Prelude.{◌≡◌, ℕ, List, [], ◌∷◌, ◌++◌, length, drop, flat_map, codes, Bool, true, false, Option, Some, None, if◌then◌else◌, refl}
use Rattle.std.specs.Fmt.{decimal, digits}
use Rattle.hex.specs.Hex.{encode_lower, encode_with}
use Rattle.iscsi_target.specs.History.{Gone, History, plain, connections}
use Rattle.iscsi_target.specs.Life.{Life, Phase, LoggingIn, FullFeature, Closing, Over}
use Rattle.iscsi_target.specs.World.{Setting, World, present, world}
use Rattle.iscsi_target.specs.Output.{out_now}
use Rattle.iscsi_target.specs.Machine.{Machine}
use Rattle.iscsi_target.specs.Stands.{Stands}

-- `C HEX` if there are bytes
abbrev pub bytes_line : ℕ → List ℕ → List ℕ
bytes_line c [] = []
bytes_line c (byte ∷ bytes) = decimal c ++ codes " " ++ encode_lower (byte ∷ bytes) ++ codes "\n"

-- `C closed` if it is closed
abbrev pub closed_line : ℕ → Bool → List ℕ
closed_line c closed = if closed then decimal c ++ codes " closed\n" else []

unfoldable pub lines_of : ℕ → List ℕ → Bool → List ℕ
lines_of c bytes closed = bytes_line c bytes ++ closed_line c closed

closed_with_bytes : lines_of 5 (0xab ∷ 0x09 ∷ []) true ≡ codes "5 ab09\n5 closed\n"
unfolding lines_of digits encode_with
closed_with_bytes = refl

-- a connection without an answer that stays open prints nothing
nothing_answered : lines_of 5 [] false ≡ []
unfolding lines_of
nothing_answered = refl

-- ---- the answers of the World

abbrev pub is_closing_phase : Phase → Bool
is_closing_phase LoggingIn = false
is_closing_phase (FullFeature session) = false
is_closing_phase Closing = true
is_closing_phase Over = false

-- the target has closed the connection
abbrev pub is_closed : Option Life → Bool
is_closed None = false
is_closed (Some life) = is_closing_phase life.phase

-- profile: a connection that is closed is gone after that is printed
abbrev pub gone_of : World → ℕ → History
gone_of w c = if is_closed (present c w) then plain (Gone c) ∷ [] else []

unfoldable pub after_printing : Setting → History → History
after_printing s h = h ++ flat_map (gone_of (world s h)) connections

-- the number of bytes of answers of each connection's present life
abbrev pub all_sent : World → ℕ → ℕ
all_sent w c = length (out_now (present c w))

-- The target stands where the World of this history does, and has sent all its answers.
abbrev pub HasSentAll : Setting → History → Machine → Type 0
HasSentAll s h target = Stands s (all_sent (world s h)) target h

-- the bytes of a connection's answers after those that were sent on it
unfoldable pub unsent : (ℕ → ℕ) → World → ℕ → List ℕ
unsent sent w c = drop (sent c) (out_now (present c w))

unfoldable pub printed_of : (ℕ → ℕ) → World → ℕ → List ℕ
printed_of sent w c = lines_of c (unsent sent w c) (is_closed (present c w))

-- profile: the answers that are not sent yet, and which connections are closed, in rising order
unfoldable pub printed : (ℕ → ℕ) → World → List ℕ
printed sent w = flat_map (printed_of sent w) connections
