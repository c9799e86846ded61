-- The command that the words after the program's name give.
use Rattle.std.specs.Prelude.{ℕ, List, [], ◌∷◌, Bool, true, false, not, ◌&&◌, bytes_eq, codes, Option, None, option_map, option_and_then, if◌then◌else◌}
use Rattle.std.specs.List.{list_any}
use Rattle.clap.specs.Words.{Kinds, Row, first_of, fault_of, subcommand_of}
use Rattle.command_line.specs.App.{app}
use Rattle.command_line.specs.Turns.{turns_in}
use Rattle.command_line.specs.declared.mode.Mode.{Mode}
use Rattle.command_line.specs.declared.mode.Mode.TheVariants as modes

-- a command, with the name of the configuration file
pub data Command : Type 0 where
  Replay : (config : List ℕ) → Command
  Serve : (config : List ℕ) (turns : ℕ) → Command

-- a mode of the code
abbrev pub mode_view : Mode → Command
mode_view (modes.Replay config) = Replay config.now
mode_view (modes.Serve config turns) = Serve config.now turns

-- `replay` with the options that clap found
abbrev pub replay_in : List Row → Option Command
replay_in rows = option_map Replay (first_of (codes "config") rows)

-- `serve` with this file, for this many turns
abbrev pub serve_by : Option (List ℕ) → Option ℕ → Option Command
serve_by config turns = option_and_then (λ file. option_map (Serve file) turns) config

-- `serve` with the options that clap found
abbrev pub serve_in : List Row → Option Command
serve_in rows = serve_by (first_of (codes "config") rows) (turns_in (first_of (codes "turns") rows))

-- the command of this name
abbrev pub named_by : List ℕ × List Row → Option Command
named_by found =
    if bytes_eq found.0 (codes "replay") then replay_in found.1
    else if bytes_eq found.0 (codes "serve") then serve_in found.1 else None

-- the command that clap found, if it found one
abbrev pub mode_named : Option (List ℕ × List Row) → Option Command
mode_named = option_and_then named_by

-- one of the words is `--`
abbrev pub has_dashes : List (List ℕ) → Bool
has_dashes = list_any (λ word. bytes_eq word (codes "--"))

-- there is no fault
abbrev pub is_faultless : Kinds → Bool
is_faultless [] = true
is_faultless (kind ∷ kinds) = false

-- clap finds no fault in the words
abbrev pub is_taken : List (List ℕ) → Bool
is_taken words = is_faultless (fault_of app words)

-- profile: the command that the words give, of which none is `--`; none if they give no command
abbrev pub mode_in : List (List ℕ) → Option Command
mode_in words = if not (has_dashes words) && is_taken words then mode_named (subcommand_of app words) else None
