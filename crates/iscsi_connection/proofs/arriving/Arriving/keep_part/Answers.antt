use Rattle.std.proofs.Common.{◌≡◌, ◌++◌, ℕ, List, sym, ap, ◌∙◌}
use Rattle.std.proofs.lemmas.Bool.{false≢true}
use Rattle.iscsi_world.specs.History.{arrivals}
use Rattle.iscsi_world.proofs.Choices.{cond_false}
use Rattle.iscsi_connection.specs.Arriving.{ArrivingState}
use Rattle.iscsi_connection.proofs.Ahead.{none_taken}
use Rattle.iscsi_connection.proofs.arriving.Arriving.keep_part.Goals as goal

pub returns-clause-part : goal.returns-clause-part
returns-clause-part c =
    let old : c.args.self.now.bytes ≡ c.self.inside.framer = sym (ap (λ (a : ArrivingState). a.bytes) c.self.view_is) ∙ cond_false _ _ _ c.if-self.false in
    λ kept. (let part = c.keep_part.ensures.part kept in
    ap (λ (x : List ℕ). arrivals (x ++ c.args.piece.now)) old
    ∙ none_taken (c.self.inside.framer ++ c.args.piece.now) part.0 (λ long. false≢true (sym part.1 ∙ long)))
