use Rattle.std.proofs.Common.{◌≡◌, ◌≤◌, ◌++◌, length, take, ap, sym, ◌∙◌, rules}
use Rattle.std.proofs.lemmas.List.{take-take}
use Rattle.media_store.proofs.system_file.SystemFileFileCalls.write_some.Goals as goal

pub returns-in-Ok-clause-noted : goal.returns-in-Ok-clause-noted
returns-in-Ok-clause-noted c =
    let slices = c.slices-slices.result in
    let count = c.in-Ok.count in
    let within : count ≤ length slices = search rules in
    let taken : c.parts.result.0.now ++ (c.parts.result.1.now ++ (c.parts.result.2.now ++ c.parts.result.3.now)) ≡ take count c.args.bytes.now =
    sym c.parts.ensures ∙ c.front.ensures ∙ ap (take count) c.slices-slices.ensures.front
    ∙ take-take count (length slices) c.args.bytes.now within in
    search (rules, taken)
