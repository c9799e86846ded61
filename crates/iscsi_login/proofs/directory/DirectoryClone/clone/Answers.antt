use Rattle.std.proofs.Common.{string_bytes}
use Rattle.iscsi_login.proofs.Lists.{map_of_clones}
use Rattle.iscsi_login.proofs.directory.DirectoryClone.clone.Goals as goal

pub returns : goal.returns
returns c = record {
  cases =
      rw (map_of_clones string_bytes c.self.inside.targets.items c.in_ok-clone.field-0.items c.in_ok-clone.ensures.cases.0, c.in_ok-clone-2.ensures.cases)
      c.self.view_is;
}
