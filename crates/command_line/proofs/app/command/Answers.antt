use Rattle.std.proofs.Common.{rules, ap, ap₂, ◌≡◌, ◌∙◌}
use Rattle.std.proofs.lemmas.Result.{IfOk-weaker}
use Rattle.clap.specs.Words.{App, app_of, rule_of, with_rule, with_subcommand}
use Rattle.command_line.specs.App.{bare_app, replay_app, serve_app, turns_rule}
use Rattle.command_line.proofs.app.command.Goals as goal

pub returns : goal.returns
returns c =
    let turns_is : rule_of c.long-turns.result ≡ turns_rule = search rules in
    let replay_is : app_of c.in_ok-replay.replay ≡ replay_app =
    c.in_ok-replay.ensures.shape c.config.ensures.local ∙ ap₂ with_rule c.new.ensures.app c.config.ensures.rule in
    let config_is = c.in_ok-arg.ensures.shape c.config-2.ensures.local ∙ ap₂ with_rule c.new-3.ensures.app c.config-2.ensures.rule in
    let serve_is : app_of c.in_ok-serve.serve ≡ serve_app =
    c.in_ok-serve.ensures.shape (search rules) ∙ ap₂ with_rule config_is turns_is in
    let bare_is : app_of c.disable_help_subcommand.result ≡ bare_app = search rules in
    let one_is : app_of c.in_ok-subcommand.field-0 ≡ with_subcommand bare_app replay_app.top =
    c.in_ok-subcommand.ensures.shape (search rules) ∙ ap₂ with_subcommand bare_is (ap (λ (a : App). a.top) replay_is) in
    IfOk-weaker c.subcommand-2.result _ _ (λ r added. added.shape (search rules) ∙ ap₂ with_subcommand one_is (ap (λ (a : App). a.top) serve_is))
    c.subcommand-2.ensures
