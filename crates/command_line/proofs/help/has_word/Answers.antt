use Rattle.std.proofs.Common.{rules, ◌≡◌, ◌∙◌, ℕ, List, Bor}
use Rattle.std.specs.List.{list_any}
use Rattle.std.specs.Str.{bytes_eq}
use Rattle.clap.proofs.WalkLemmas.{list_any-map}
use Rattle.command_line.proofs.help.has_word.Goals as goal

pub returns : goal.returns
returns c =
    let any : c.contains.result ≡ list_any (λ (word : Bor (List ℕ)). bytes_eq word.now c.args.wanted.now) c.args.words.now = search rules in
    any ∙ list_any-map (λ (word : List ℕ). bytes_eq word c.args.wanted.now) (λ (word : Bor (List ℕ)). word.now) c.args.words.now
