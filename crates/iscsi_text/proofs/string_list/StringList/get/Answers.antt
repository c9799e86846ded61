use Rattle.std.proofs.Common.{arith}
use Rattle.iscsi_text.proofs.StringList.{within, is_between}
use Rattle.iscsi_text.proofs.string_list.StringList.get.Goals as goal

pub start_of-start-requires : goal.start_of-start-requires
start_of-start-requires c = omega (arith, within _ _ _ c.args.at c.self.view_is c.requires)

pub get-end-requires : goal.get-end-requires
get-end-requires c = within _ _ _ _ c.self.view_is c.requires

pub range-requires-clause-start_le_end : goal.range-requires-clause-start_le_end
range-requires-clause-start_le_end c =
    (is_between _ _ _ c.args.at _ _ c.self.invariant c.self.view_is c.requires c.start_of-start.ensures c.get-end.ensures).rises

pub range-requires-clause-start_boundary : goal.range-requires-clause-start_boundary
range-requires-clause-start_boundary c = rw c.as_str.ensures.value
    (is_between _ _ _ c.args.at _ _ c.self.invariant c.self.view_is c.requires c.start_of-start.ensures c.get-end.ensures).starts

pub range-requires-clause-end_boundary : goal.range-requires-clause-end_boundary
range-requires-clause-end_boundary c = rw c.as_str.ensures.value
    (is_between _ _ _ c.args.at _ _ c.self.invariant c.self.view_is c.requires c.start_of-start.ensures c.get-end.ensures).ends

pub returns : goal.returns
returns c = rw (c.range.ensures.value, c.as_str.ensures.value)
    (is_between _ _ _ c.args.at _ _ c.self.invariant c.self.view_is c.requires c.start_of-start.ensures c.get-end.ensures).string
