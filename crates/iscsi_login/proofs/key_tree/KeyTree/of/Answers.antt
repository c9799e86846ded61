use Rattle.std.proofs.Common.{◌≡◌, true}
use Rattle.iscsi_login.proofs.FirstText.{none_again}
use Rattle.iscsi_login.proofs.key_tree.KeyTree.of.Goals as goal

pub returns : goal.returns
returns c =
    let none = c.new.ensures in
    let is_new : c.in_ok-extend.field-0 ≡ true = rw (none, none_again c.args.pairs.now) at c.in_ok-extend.ensures.value in
    rw none at (c.in_ok-extend.ensures.tree is_new)
