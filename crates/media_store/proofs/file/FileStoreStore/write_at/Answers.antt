use Rattle.std.proofs.Common.{◌≡◌, length, take, arith}
use Rattle.std.proofs.lemmas.List.{take_all}
use Rattle.media_store.proofs.file.FileStoreStore.write_at.Goals as goal

pub returns-clause-written : goal.returns-clause-written
returns-clause-written g c =
    let all : take (length c.args.bytes.now) c.args.bytes.now ≡ c.args.bytes.now = take_all (length c.args.bytes.now) c.args.bytes.now (omega arith) in
    rw (c.whole.ensures, all) at c.write_parts.ensures.written
