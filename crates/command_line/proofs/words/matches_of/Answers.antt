use Rattle.std.proofs.Common.{rules, ◌≡◌, inl, refl, ◌∙◌}
use Rattle.clap.specs.Words.{app_of}
use Rattle.command_line.specs.App.{app}
use Rattle.command_line.proofs.Parses.{not_taken}
use Rattle.command_line.proofs.words.matches_of.Goals as goal

pub returns : goal.returns
returns c =
    let is : app_of c.in-Ok.command ≡ app = search rules in
    inl (
      refl,
      not_taken (app_of c.in-Ok.command) _ c.in-Err.error is c.in-Err.ensures.kinds
          (λ memory. c.in_default-kind.not-OutOfMemory (c.kind.ensures ∙ memory)),
    )
