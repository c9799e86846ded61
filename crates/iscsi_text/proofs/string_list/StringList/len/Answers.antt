use Rattle.std.proofs.Common.{sym, ◌∙◌}
use Rattle.std.specs.Prelude.{string_bytes}
use Rattle.iscsi_text.proofs.StringList.{length-strings_in}
use Rattle.iscsi_text.proofs.string_list.StringList.len.Goals as goal

pub returns-clause-value : goal.returns-clause-value
returns-clause-value c = rw (← c.self.view_is)
    (c.len.ensures.value ∙ sym (length-strings_in (string_bytes c.self.inside.text) 0 c.self.inside.ends))
