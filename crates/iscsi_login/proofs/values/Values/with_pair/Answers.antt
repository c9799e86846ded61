use Rattle.std.proofs.Common.{sym, ◌∙◌}
use Rattle.iscsi_login.specs.declared.keys.KeyResult.TheVariants as results
use Rattle.iscsi_login.proofs.Declared.{pair_by_result}
use Rattle.iscsi_login.proofs.values.Values.with_pair.Goals as goal

pub returns-in-NoAnswer : goal.returns-in-NoAnswer
returns-in-NoAnswer c =
    c.with_declared.ensures ∙ pair_by_result c.args.self c.args.key.now c.args.value.now results.NoAnswer (sym c.in-NoAnswer.is ∙ c.requires)

pub returns-in-Boolean : goal.returns-in-Boolean
returns-in-Boolean c =
    c.with_boolean.ensures
    ∙ pair_by_result c.args.self c.args.key.now c.args.value.now (results.Boolean c.in-Boolean.value) (sym c.in-Boolean.is ∙ c.requires)

pub returns-in-Number : goal.returns-in-Number
returns-in-Number c =
    c.with_number.ensures
    ∙ pair_by_result c.args.self c.args.key.now c.args.value.now (results.Number c.in-Number.value) (sym c.in-Number.is ∙ c.requires)

pub returns-in-Word : goal.returns-in-Word
returns-in-Word c = pair_by_result c.args.self c.args.key.now c.args.value.now (results.Word c.in-Word.field-0) (sym c.in-Word.is ∙ c.requires)
