use Rattle.std.proofs.Common.{ℕ, ◌++◌, List, refl, sym, ap, ◌∙◌, arith, append-nil}
use Rattle.std.proofs.lemmas.Bool.{false≢true}
use Rattle.iscsi_pdu.specs.Frames.{has_frame}
use Rattle.iscsi_pdu.proofs.Fields.{not_long}
use Rattle.iscsi_framer.proofs.Fronts.{is_longer, no_header_long, no_fault, only_memory}
use Rattle.iscsi_framer.proofs.Whole.{no_header_frame}
use Rattle.iscsi_framer.proofs.framer.Framer.take_whole.Goals as goal

pub returns-in_default-clause-none : goal.returns-in_default-clause-none
returns-in_default-clause-none c =
    ap (λ (x : List ℕ). has_frame (c.args.self.now ++ x)) (c.requires.first c.in_default.ensures.none)
    ∙ ap has_frame (append-nil c.args.self.now) ∙ no_header_frame c.args.self.now c.in_default.ensures.none

pub returns-in_default-clause-too_long : goal.returns-in_default-clause-too_long
returns-in_default-clause-too_long c =
    let none = no_header_long c.args.self.now c.in_default.ensures.none in
    (λ e. absurd (no_fault e), λ long. absurd (false≢true (sym none ∙ long)))

pub returns-then-count-gt-MOST_DATA-clause-too_long : goal.returns-then-count-gt-MOST_DATA-clause-too_long
returns-then-count-gt-MOST_DATA-clause-too_long c =
    (λ e. is_longer c.args.self.now _ c.in-Some.ensures.some.1 c.in-Some.ensures.some.0 (omega arith), λ long. refl)

pub gather-requires-clause-within : goal.gather-requires-clause-within
gather-requires-clause-within c = c.requires.no_more (not_long c.args.self.now _ c.in-Some.ensures.some.0 (omega arith))

pub returns-clause-too_long : goal.returns-clause-too_long
returns-clause-too_long c =
    let short = not_long c.args.self.now _ c.in-Some.ensures.some.0 (omega arith) in
    (λ e. absurd (only_memory c.gather.result c.gather.ensures.memory e), λ long. absurd (false≢true (sym short ∙ long)))
