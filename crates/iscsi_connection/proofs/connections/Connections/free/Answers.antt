use Rattle.std.proofs.Common.{List, length, ap, ◌∙◌}
use Rattle.std.proofs.lemmas.List.{length-replicate}
use Rattle.iscsi_world.specs.Machine.{LinkState, is_settled, is_silent, free_link}
use Rattle.iscsi_connection.specs.Connections.{has_to_send, is_full}
use Rattle.iscsi_connection.proofs.Marked.{of_no_others, none_known}
use Rattle.iscsi_connection.proofs.connections.Connections.free.Goals as goal

pub invariant_of-result : goal.invariant_of-result
invariant_of-result c =
    let links = c.in_ok-items.items.items in (
      ap (λ (all : List LinkState). length all) c.in_ok-items.ensures ∙ length-replicate 64 free_link,
      of_no_others (λ (link : LinkState). is_settled link.phase) c.all.result links c.all.ensures,
      of_no_others is_silent c.all-2.result links c.all-2.ensures,
      of_no_others has_to_send c.all-3.result links c.all-3.ensures,
      none_known is_full c.all-4.result c.all-5.result links c.all-4.ensures,
    )
