-- The commands and their options, as clap gets them.
use Rattle.std.specs.Prelude.{true, codes, Some}
use Rattle.clap.specs.Simple.{on_top}
use Rattle.clap.specs.Words.{App, Rule, new_app, new_rule, with_rule, with_subcommand}
use Rattle.clap.specs.declared.builder.value_parser.ValueParser.TheVariants.{NonEmptyString}

-- profile: `--config F`, which each command needs, and F is not empty
abbrev pub config_rule : Rule
config_rule = record (new_rule (codes "config")) { long = Some (codes "config"); required = true; parser = Some NonEmptyString }

-- profile: `--turns N`, which may be missing; N is read beside clap
abbrev pub turns_rule : Rule
turns_rule = record (new_rule (codes "turns")) { long = Some (codes "turns") }

-- profile: `replay --config F`
abbrev pub replay_app : App
replay_app = with_rule (new_app (codes "replay")) config_rule

-- profile: `serve --config F [--turns N]`
abbrev pub serve_app : App
serve_app = with_rule (with_rule (new_app (codes "serve")) config_rule) turns_rule

-- no word stands for the program's name, and none calls for help
abbrev pub bare_app : App
bare_app = on_top (λ shape. record shape { no_binary_name = true; disable_help_flag = true; disable_help_subcommand = true })
    (new_app (codes "targetd"))

-- the two commands
abbrev pub app : App
app = with_subcommand (with_subcommand bare_app replay_app.top) serve_app.top
