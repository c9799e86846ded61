use Rattle.std.proofs.Common.{◌≡◌, ℕ, ◌<◌, ◌/◌, ◌%◌, [], ◌∷◌, true, refl, arith}
use Rattle.std.specs.Prelude.{nat_lt}
use Rattle.std.specs.List.{list_all}
use Rattle.std.proofs.lemmas.List.Folds.{list_all-append}
use Rattle.session_log.specs.Escape.{is_visible, hex_digit, escaped_byte, OneWord}
use Rattle.session_log.proofs.laws.one_word.Goals as goal

digit_visible : (n : ℕ) → n < 16 → is_visible (hex_digit n) ≡ true
digit_visible n below = grind arith

byte_visible : (byte : ℕ) → nat_lt byte 256 ≡ true → list_all is_visible (escaped_byte byte) ≡ true
byte_visible byte below =
    let high = digit_visible (byte / 16) (grind arith) in
    let low = digit_visible (byte % 16) (grind arith) in
    grind (arith, high, low)

one_word : OneWord
one_word [] all = refl
one_word (byte ∷ name) all = grind (arith, byte_visible, one_word name, list_all-append)

pub returns : goal.returns
returns c = one_word
