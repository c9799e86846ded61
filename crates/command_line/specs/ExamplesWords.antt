-- Words and the commands that they give, computed.
use Rattle.std.specs.Prelude.{◌≡◌, ℕ, List, [], ◌∷◌, length, map, replicate, codes, Some, None, refl}
use Rattle.clap.proofs.OnLiterals.{clap_on_literals}
use Rattle.command_line.specs.Words.{Command, Replay, Serve, mode_in}

-- these words give this command
abbrev Gives : List (List ℕ) → Command → Type 0
Gives words command = mode_in words ≡ Some command

-- none of these words gives a command
abbrev GiveNone : List (List (List ℕ)) → Type 0
GiveNone each = map mode_in each ≡ replicate (length each) None

-- ---- replay

two_words : Gives (codes "replay" ∷ codes "--config" ∷ codes "F" ∷ []) (Replay (codes "F"))
unfolding clap_on_literals
two_words = refl

path : Gives (codes "replay" ∷ codes "--config" ∷ codes ".//./t1.toml" ∷ []) (Replay (codes ".//./t1.toml"))
unfolding clap_on_literals
path = refl

in_one_word : Gives (codes "replay" ∷ codes "--config=F" ∷ []) (Replay (codes "F"))
unfolding clap_on_literals
in_one_word = refl

-- a value in the option's own word may be any text
dashes_in_one_word : Gives (codes "replay" ∷ codes "--config=--" ∷ []) (Replay (codes "--"))
unfolding clap_on_literals
dashes_in_one_word = refl

dash_in_one_word : Gives (codes "replay" ∷ codes "--config=-x" ∷ []) (Replay (codes "-x"))
unfolding clap_on_literals
dash_in_one_word = refl

equals_in_value : Gives (codes "replay" ∷ codes "--config==F" ∷ []) (Replay (codes "=F"))
unfolding clap_on_literals
equals_in_value = refl

value_with_equals : Gives (codes "replay" ∷ codes "--config" ∷ codes "=F" ∷ []) (Replay (codes "=F"))
unfolding clap_on_literals
value_with_equals = refl

-- `-` alone is a value
hyphen : Gives (codes "replay" ∷ codes "--config" ∷ codes "-" ∷ []) (Replay (codes "-"))
unfolding clap_on_literals
hyphen = refl

-- a value may be the name of a command
command_for_value : Gives (codes "replay" ∷ codes "--config" ∷ codes "replay" ∷ []) (Replay (codes "replay"))
unfolding clap_on_literals
command_for_value = refl

help_for_value : Gives (codes "replay" ∷ codes "--config" ∷ codes "help" ∷ []) (Replay (codes "help"))
unfolding clap_on_literals
help_for_value = refl

-- ---- serve

with_turns : Gives (codes "serve" ∷ codes "--config" ∷ codes "F" ∷ codes "--turns=10" ∷ []) (Serve (codes "F") 10)
unfolding clap_on_literals
with_turns = refl

turns_first : Gives (codes "serve" ∷ codes "--turns" ∷ codes "0" ∷ codes "--config=F" ∷ []) (Serve (codes "F") 0)
unfolding clap_on_literals
turns_first = refl

in_two_words : Gives (codes "serve" ∷ codes "--config" ∷ codes "F" ∷ codes "--turns" ∷ codes "3" ∷ []) (Serve (codes "F") 3)
unfolding clap_on_literals
in_two_words = refl

leading_zeros : Gives (codes "serve" ∷ codes "--config=F" ∷ codes "--turns=007" ∷ []) (Serve (codes "F") 7)
unfolding clap_on_literals
leading_zeros = refl

most : Gives (codes "serve" ∷ codes "--config=F" ∷ codes "--turns=18446744073709551615" ∷ []) (Serve (codes "F") 18446744073709551615)
unfolding clap_on_literals
most = refl

-- the largest number, if none is given
without_end : Gives (codes "serve" ∷ codes "--config=F" ∷ []) (Serve (codes "F") 18446744073709551615)
unfolding clap_on_literals
without_end = refl

-- ---- no command

no_command : GiveNone (
    []  -- no words
    ∷ ([] ∷ [])  -- empty word alone
    ∷ (codes "repla" ∷ codes "--config" ∷ codes "F" ∷ [])  -- unknown
    ∷ (codes "Replay" ∷ codes "--config" ∷ codes "F" ∷ [])  -- other case
    ∷ (codes "replay " ∷ codes "--config" ∷ codes "F" ∷ [])  -- with space
    ∷ (codes "replay" ∷ codes "replay" ∷ codes "--config" ∷ codes "F" ∷ [])  -- command twice
    ∷ (codes "--config" ∷ codes "F" ∷ codes "replay" ∷ [])  -- option before
    ∷ (codes "--config" ∷ codes "F" ∷ [])  -- option alone
    ∷ []
    )
unfolding clap_on_literals
no_command = refl

-- ---- the configuration

no_configuration : GiveNone (
    (codes "replay" ∷ [])  -- bare replay
    ∷ (codes "serve" ∷ [])  -- bare serve
    ∷ (codes "replay" ∷ codes "--config" ∷ [])  -- no value
    ∷ (codes "replay" ∷ codes "--config" ∷ [] ∷ [])  -- empty value
    ∷ (codes "replay" ∷ codes "--config=" ∷ [])  -- empty in one word
    ∷ (codes "replay" ∷ codes "--config" ∷ codes "F" ∷ codes "--config" ∷ codes "F" ∷ [])  -- twice
    ∷ (codes "replay" ∷ codes "--config=F" ∷ codes "--config=F" ∷ [])  -- twice in one word
    ∷ (codes "replay" ∷ codes "--config=F" ∷ codes "--config" ∷ codes "F" ∷ [])  -- twice in both
    ∷ (codes "serve" ∷ codes "--turns" ∷ codes "1" ∷ codes "--config" ∷ codes "F" ∷ codes "--config" ∷ codes "F" ∷ [])  -- twice after turns
    ∷ (codes "replay" ∷ codes "--conf" ∷ codes "F" ∷ [])  -- abbreviated
    ∷ (codes "replay" ∷ codes "--conf=F" ∷ [])  -- abbreviated in one word
    ∷ (codes "replay" ∷ codes "--Config" ∷ codes "F" ∷ [])  -- option of other case
    ∷ (codes "replay" ∷ codes "-config" ∷ codes "F" ∷ [])  -- one dash
    ∷ (codes "replay" ∷ codes "-c" ∷ codes "F" ∷ [])  -- short
    ∷ (codes "replay" ∷ codes "--config" ∷ codes "-x" ∷ [])  -- a value in its own word is no option
    ∷ (codes "replay" ∷ codes "--config" ∷ codes "--x" ∷ [])  -- value of two dashes
    ∷ (codes "serve" ∷ codes "--turns" ∷ codes "3" ∷ [])  -- turns missing config
    ∷ []
    )
unfolding clap_on_literals
no_configuration = refl

-- ---- words too many

words_too_many : GiveNone (
    (codes "replay" ∷ codes "--config" ∷ codes "F" ∷ codes "--" ∷ [])  -- dashes last
    ∷ (codes "replay" ∷ codes "--config=F" ∷ codes "--" ∷ [])  -- dashes last in one word
    ∷ (codes "replay" ∷ codes "--config" ∷ codes "--" ∷ [])  -- dashes for value
    ∷ (codes "replay" ∷ codes "--config" ∷ codes "F" ∷ codes "--" ∷ codes "F" ∷ [])  -- dashes and word
    ∷ (codes "replay" ∷ codes "--" ∷ codes "--config" ∷ codes "F" ∷ [])  -- dashes before option
    ∷ (codes "replay" ∷ codes "--config" ∷ codes "--" ∷ codes "F" ∷ [])  -- dashes before value
    ∷ (codes "--" ∷ codes "replay" ∷ codes "--config" ∷ codes "F" ∷ [])  -- dashes first
    ∷ (codes "serve" ∷ codes "--config" ∷ codes "F" ∷ codes "--" ∷ codes "--turns" ∷ codes "1" ∷ [])  -- dashes before turns
    ∷ (codes "replay" ∷ codes "--config" ∷ codes "F" ∷ codes "F" ∷ [])  -- word last
    ∷ (codes "replay" ∷ codes "--config" ∷ codes "F" ∷ [] ∷ [])  -- empty word last
    ∷ (codes "replay" ∷ codes "--config" ∷ codes "F" ∷ codes "-" ∷ [])  -- hyphen last
    ∷ (codes "replay" ∷ codes "F" ∷ [])  -- word for option
    ∷ (codes "replay" ∷ codes "F" ∷ codes "--config" ∷ codes "F" ∷ [])  -- word before option
    ∷ (codes "serve" ∷ codes "F" ∷ [])  -- word for serve
    ∷ (codes "replay" ∷ codes "--config" ∷ codes "F" ∷ codes "--turns" ∷ codes "3" ∷ [])  -- replay turns
    ∷ (codes "replay" ∷ codes "--config" ∷ codes "F" ∷ codes "-v" ∷ [])  -- unknown flag
    ∷ (codes "serve" ∷ codes "--config" ∷ codes "F" ∷ codes "--turns" ∷ codes "1" ∷ codes "more" ∷ [])  -- word after turns
    ∷ []
    )
unfolding clap_on_literals
words_too_many = refl

-- ---- turns

no_turns : GiveNone (
    (codes "serve" ∷ codes "--config" ∷ codes "F" ∷ codes "--turns" ∷ [])  -- turns alone
    ∷ (codes "serve" ∷ codes "--config=F" ∷ codes "--turns=" ∷ [])  -- empty turns
    ∷ (codes "serve" ∷ codes "--config" ∷ codes "F" ∷ codes "--turns" ∷ [] ∷ [])  -- empty turns word
    ∷ (codes "serve" ∷ codes "--config=F" ∷ codes "--turns=-1" ∷ [])  -- negative
    ∷ (codes "serve" ∷ codes "--config" ∷ codes "F" ∷ codes "--turns" ∷ codes "-1" ∷ [])  -- negative word
    ∷ (codes "serve" ∷ codes "--config=F" ∷ codes "--turns=+5" ∷ [])  -- plus
    ∷ (codes "serve" ∷ codes "--config" ∷ codes "F" ∷ codes "--turns" ∷ codes "+1" ∷ [])  -- plus word
    ∷ (codes "serve" ∷ codes "--config" ∷ codes "F" ∷ codes "--turns" ∷ codes "0x1" ∷ [])  -- hexadecimal
    ∷ (codes "serve" ∷ codes "--config" ∷ codes "F" ∷ codes "--turns=x" ∷ [])  -- text turns
    ∷ (codes "serve" ∷ codes "--config=F" ∷ codes "--turns=18446744073709551616" ∷ [])  -- too great
    ∷ (codes "serve" ∷ codes "--config" ∷ codes "F" ∷ codes "--turns" ∷ codes "18446744073709551616" ∷ [])  -- too great word
    ∷ (codes "serve" ∷ codes "--config" ∷ codes "F" ∷ codes "--turns" ∷ codes "1" ∷ codes "--turns" ∷ codes "1" ∷ [])  -- turns twice
    ∷ (codes "serve" ∷ codes "--config" ∷ codes "F" ∷ codes "--turns=1" ∷ codes "--turns=1" ∷ [])  -- turns twice in one word
    ∷ (codes "serve" ∷ codes "--turns" ∷ codes "1" ∷ codes "--turns" ∷ codes "1" ∷ [])  -- turns twice alone
    ∷ []
    )
unfolding clap_on_literals
no_turns = refl

-- ---- calls for help

no_help : GiveNone (
    (codes "help" ∷ [])  -- help
    ∷ (codes "help" ∷ codes "replay" ∷ [])  -- help command
    ∷ (codes "--help" ∷ [])  -- help flag
    ∷ (codes "-h" ∷ [])  -- help short
    ∷ (codes "replay" ∷ codes "--help" ∷ [])  -- help of replay
    ∷ (codes "serve" ∷ codes "--help" ∷ [])  -- help of serve
    ∷ (codes "replay" ∷ codes "--config" ∷ codes "F" ∷ codes "--help" ∷ [])  -- help last
    ∷ (codes "replay" ∷ codes "--config=F" ∷ codes "-h" ∷ [])  -- help short last
    ∷ (codes "--version" ∷ [])  -- version
    ∷ (codes "-V" ∷ [])  -- version short
    ∷ []
    )
unfolding clap_on_literals
no_help = refl
