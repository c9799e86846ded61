-- Names that strangers send, as one word of a line.
use Rattle.std.specs.Prelude.{◌≡◌, ℕ, ◌+◌, ◌/◌, ◌%◌, List, [], ◌∷◌, flat_map, Bool, true, not, ◌&&◌, ◌==◌, nat_le, nat_lt, codes, refl, if◌then◌else◌}
use Rattle.std.specs.List.{list_all}

-- printable ASCII, but a space and the backslash
abbrev pub is_plain : ℕ → Bool
is_plain byte = nat_le 0x21 byte && nat_le byte 0x7E && not (byte == 0x5C)

abbrev pub hex_digit : ℕ → ℕ
hex_digit number = if nat_lt number 10 then 0x30 + number else 0x37 + number

-- own: a byte that is not plain is a backslash, x and two digits
abbrev pub escaped_byte : ℕ → List ℕ
escaped_byte byte =
    if is_plain byte then byte ∷ [] else 0x5C ∷ 0x78 ∷ hex_digit (byte / 16) ∷ hex_digit (byte % 16) ∷ []

abbrev pub escaped : List ℕ → List ℕ
escaped name = flat_map escaped_byte name

-- printable ASCII, without a space
abbrev pub is_visible : ℕ → Bool
is_visible byte = nat_le 0x21 byte && nat_le byte 0x7E

-- a name of any bytes is one word once it is escaped
abbrev pub OneWord : Type 0
OneWord = (name : List ℕ) → list_all (λ byte. nat_lt byte 256) name ≡ true → list_all is_visible (escaped name) ≡ true

-- a line end, a space and a byte that is no ASCII
line_end : escaped (codes "a\nb c") ≡ codes "a\\x0Ab\\x20c"
line_end = refl

high_byte : escaped (0xFF ∷ 0x5C ∷ []) ≡ codes "\\xFF\\x5C"
high_byte = refl
