use Rattle.std.proofs.Common.{◌≡◌, ◌==◌, ◌&&◌, true, sym, ◌∙◌, arith}
use Rattle.std.specs.Prelude.{nat_le}
use Rattle.std.proofs.lemmas.Bool.{eqb-true, leb-true}
use Rattle.iscsi_ports.specs.Turns.{start_of}
use Rattle.iscsi_ports.proofs.Fairness.{left, right}
use Rattle.iscsi_ports.proofs.NamingShort.{is_all}
use Rattle.iscsi_ports.proofs.turns.Turns.part.Goals as goal

pub returns-then-names_all : goal.returns-then-names_all
returns-then-names_all c =
    let turns = c.args.self.now in
    let both : ((start_of turns == 0) && nat_le c.args.count turns.more) ≡ true = sym c.names_all.ensures ∙ c.if-names_all.true in
    let start : start_of turns ≡ 0 = eqb-true (start_of turns) 0 (left (start_of turns == 0) _ both) in
    let few = leb-true c.args.count turns.more (right (start_of turns == 0) _ both) in
    is_all c.args.ready.now turns c.args.short.now c.args.count (omega arith) start c.requires.counted few c.requires.short

pub returns : goal.returns
returns c = c.choose.ensures
