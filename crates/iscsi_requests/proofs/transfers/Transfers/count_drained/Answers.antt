use Rattle.std.proofs.Common.{◌∙◌}
use Rattle.iscsi_requests.proofs.Unread.{fed_unread}
use Rattle.iscsi_requests.proofs.transfers.Transfers.count_drained.Goals as goal

pub returns : goal.returns
returns c frame unread feeds =
    c.feed_drained_by.ensures ∙ fed_unread c.args.self.now c.args.header.now c.data_length.result frame unread c.data_length.ensures feeds
