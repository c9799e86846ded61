use Rattle.std.proofs.Common.{◌≡◌, ◌++◌, ℕ, List, take, drop, false, Option, sym, ap, ◌∙◌, subst}
use Rattle.std.specs.Prelude.{IfSome, IfNone}
use Rattle.iscsi_pdu.specs.Frames.{Frame, has_frame}
use Rattle.iscsi_framer.proofs.Fronts.{no_fault}
use Rattle.iscsi_framer.specs.Framer.{IsWholly}
use Rattle.iscsi_world.specs.Machine.{GivesFrame}
use Rattle.iscsi_world.specs.History.{arrivals}
use Rattle.iscsi_world.proofs.Choices.{cond_false}
use Rattle.iscsi_connection.specs.Arriving.{ArrivingState}
use Rattle.iscsi_connection.proofs.Ahead.{gives_used, none_taken}
use Rattle.iscsi_connection.proofs.arriving.Arriving.take.Goals as goal

pub returns-in_default-clause-part : goal.returns-in_default-clause-part
returns-in_default-clause-part c =
    let old : c.args.self.now.bytes ≡ c.self.inside.framer = sym (ap (λ (a : ArrivingState). a.bytes) c.self.view_is) ∙ cond_false _ _ _ c.if-self.false in
    ap (λ (x : List ℕ). arrivals (x ++ c.args.piece.now)) old
    ∙ none_taken (c.self.inside.framer ++ c.args.piece.now)
    (subst (λ (o : Option Frame). IfNone o (has_frame (c.self.inside.framer ++ c.args.piece.now) ≡ false)) c.in_default.is c.in_ok-used.ensures.none)
    (λ long. no_fault (c.in_ok-used.ensures.too_long.1 long))

pub returns-clause-given : goal.returns-clause-given
returns-clause-given c =
    let old : c.args.self.now.bytes ≡ c.self.inside.framer = sym (ap (λ (a : ArrivingState). a.bytes) c.self.view_is) ∙ cond_false _ _ _ c.if-self.false in
    subst (λ (x : List ℕ). GivesFrame c.in-Some.frame (x ++ c.args.piece.now) (drop c.in_ok-used.used c.args.piece.now)) (sym old)
    (gives_used c.in-Some.frame c.self.inside.framer c.args.piece.now c.in_ok-used.used
    (subst (λ (o : Option Frame). IfSome o (λ frame. IsWholly frame (c.self.inside.framer ++ take c.in_ok-used.used c.args.piece.now)))
    c.in-Some.is c.in_ok-used.ensures.given))
