-- Calls for help, and the text that answers them.
use Rattle.std.specs.Prelude.{ℕ, List, Bool, ◌||◌, ◌++◌, bytes_eq, codes}
use Rattle.std.specs.List.{list_any}

-- one of the words is this one
abbrev pub has_word : List ℕ → List (List ℕ) → Bool
has_word wanted words = list_any (λ word. bytes_eq word wanted) words

-- profile: words that are no command call for help if one of them is `--help`, `-h` or `help`
abbrev pub calls_for_help : List (List ℕ) → Bool
calls_for_help words = has_word (codes "--help") words || has_word (codes "-h") words || has_word (codes "help") words

-- profile: the program with its version, and its commands
unfoldable pub usage_text : List ℕ
usage_text =
    codes "targetd 1.0.0\n"
    ++ codes "An iSCSI target (RFC 7143) for disks and tape drives.\n"
    ++ codes "\n"
    ++ codes "Usage:\n"
    ++ codes "  targetd serve --config FILE [--turns N]\n"
    ++ codes "  targetd replay --config FILE\n"
    ++ codes "\n"
    ++ codes "serve listens on the address of the configuration and serves initiators, until a\n"
    ++ codes "signal ends it or it has made N turns of its loop. replay carries out the events\n"
    ++ codes "that it reads from standard input. See targetd(8), and targetd.toml(5) for FILE.\n"
