use Rattle.std.proofs.Common.{◌≡◌, ◌<◌, length, refl, arith}
use Rattle.std.proofs.lemmas.Bool.{lt-ltb}
use Rattle.iscsi_ports.proofs.spares.Spares.wait_beside.Goals as goal

pub returns-then-is_empty : goal.returns-then-is_empty
returns-then-is_empty c =
    let kept = length c.args.self.now.buffers.items in
    let none : kept ≡ 0 = grind (arith, c.if-is_empty.true, c.is_empty.ensures, c.args.self.now.buffers.ok.0) in
    rw none refl

pub returns : goal.returns
returns c =
    let kept = length c.args.self.now.buffers.items in
    let some : 0 < kept = grind (arith, c.if-is_empty.false, c.is_empty.ensures, c.args.self.now.buffers.ok.0) in
    rw (lt-ltb 0 kept some) c.shortly.ensures
