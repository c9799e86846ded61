use Rattle.target_config.proofs.Contents.{taken_contents}
use Rattle.target_config.proofs.loading.contents.Goals as goal

pub returns-in-Ok-clause-contents : goal.returns-in-Ok-clause-contents
returns-in-Ok-clause-contents g c =
    taken_contents g.F.Read.remaining c.args.file c.take.result 1048577 c.read_to_end.new.buf.items c.new-contents.result.items c.take.ensures.limit
    c.take.ensures.inner c.new-contents.ensures.items c.in-Ok.ensures.bytes
