use Rattle.std.proofs.Common.{◌≡◌, ℕ, List, ◌++◌, length, ap, arith, length-append}
use Rattle.iscsi_framer.proofs.framer.Framer.len.Goals as goal

pub returns : goal.returns
returns c =
    let h = c.self.inside.header.items in
    let b = c.self.inside.behind in
    let is : h ++ b ≡ c.args.self.now = c.self.view_is in
    let all : length (h ++ b) ≡ length c.args.self.now = ap (λ (x : List ℕ). length x) is in
    let sum = length-append h b in
    omega arith
