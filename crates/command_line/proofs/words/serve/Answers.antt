use Rattle.std.proofs.Common.{rules, codes}
use Rattle.clap.specs.Words.{found_of}
use Rattle.clap.proofs.WalkLemmas.{first_value-rows}
use Rattle.command_line.proofs.words.serve.Goals as goal

pub returns-in_err-config : goal.returns-in_err-config
returns-in_err-config c =
    let config = first_value-rows (found_of c.args.options.now) (codes "config") in
    search rules

pub returns-in_err-turns : goal.returns-in_err-turns
returns-in_err-turns c =
    let config = first_value-rows (found_of c.args.options.now) (codes "config") in
    let turns = first_value-rows (found_of c.args.options.now) (codes "turns") in
    search rules

pub returns : goal.returns
returns c =
    let config = first_value-rows (found_of c.args.options.now) (codes "config") in
    let turns = first_value-rows (found_of c.args.options.now) (codes "turns") in
    search rules
