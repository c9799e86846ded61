use Rattle.std.proofs.Common.{◌≡◌, ℕ, List, ◌++◌, length, take, sym, ap, ◌∙◌, arith}
use Rattle.iscsi_framer.proofs.Fronts.{Fronted, fronted_by, front_long, no_fault, TakenBack, taken_back}
use Rattle.iscsi_framer.proofs.Whole.{fronted_no_more, fronted_wholly}
use Rattle.iscsi_framer.proofs.framer.Framer.take_frame.Goals as goal

pub invariant_of-self-in-Err : goal.invariant_of-self-in-Err
invariant_of-self-in-Err c =
    let back : TakenBack c.self.inside.header.items c.self.inside.behind c.self-2.inside.header.items c.self-2.inside.behind =
    taken_back c.self.inside.header.items c.self.inside.behind c.args.piece.now c.split_at.result.0.now c.self-2.inside.header.items c.self-2.inside.behind
    c.min.result c.self.invariant c.self-2.invariant (omega arith) c.split_at.ensures.front
    (c.self-2.view_is ∙ c.in-Err.ensures.err ∙ ap (λ (x : List ℕ). x ++ c.self.inside.behind) c.put.ensures) in
    let cut : c.truncate.new.self.items ≡ take (length c.self.inside.header.items) c.self-2.inside.header.items =
    c.truncate.ensures.items ∙ ap (λ (n : ℕ). take n c.self-2.inside.header.items) c.len-had.ensures.value in
    rw cut back.split

pub returns-in-Ok-clause-too_long : goal.returns-in-Ok-clause-too_long
returns-in-Ok-clause-too_long c =
    let fr : Fronted c.args.self.now c.args.piece.now c.split_at.result.0.now c.split_at.result.1.now (c.put.new.header.items ++ c.self.inside.behind) =
    fronted_by c.args.self.now c.self.inside.header.items c.self.inside.behind c.args.piece.now c.split_at.result.0.now c.split_at.result.1.now
    c.put.new.header.items c.min.result c.self.view_is c.self.invariant (omega arith) c.split_at.ensures.front c.split_at.ensures.back c.put.ensures in
    let same = front_long c.args.self.now c.args.piece.now c.split_at.result.0.now c.split_at.result.1.now (c.put.new.header.items ++
    c.self.inside.behind) fr in
    (λ e. absurd (no_fault e), λ long. absurd (no_fault (c.in-Ok.ensures.too_long.1 (sym same ∙ long))))

pub returns-in-Err-clause-too_long : goal.returns-in-Err-clause-too_long
returns-in-Err-clause-too_long c =
    let fr : Fronted c.args.self.now c.args.piece.now c.split_at.result.0.now c.split_at.result.1.now (c.put.new.header.items ++ c.self.inside.behind) =
    fronted_by c.args.self.now c.self.inside.header.items c.self.inside.behind c.args.piece.now c.split_at.result.0.now c.split_at.result.1.now
    c.put.new.header.items c.min.result c.self.view_is c.self.invariant (omega arith) c.split_at.ensures.front c.split_at.ensures.back c.put.ensures in
    let same = front_long c.args.self.now c.args.piece.now c.split_at.result.0.now c.split_at.result.1.now (c.put.new.header.items ++
    c.self.inside.behind) fr in
    (λ e. same ∙ c.in-Err.ensures.too_long.0 e, λ long. c.in-Err.ensures.too_long.1 (sym same ∙ long))

pub returns-in-Err-clause-err : goal.returns-in-Err-clause-err
returns-in-Err-clause-err c =
    let back : TakenBack c.self.inside.header.items c.self.inside.behind c.self-2.inside.header.items c.self-2.inside.behind =
    taken_back c.self.inside.header.items c.self.inside.behind c.args.piece.now c.split_at.result.0.now c.self-2.inside.header.items c.self-2.inside.behind
    c.min.result c.self.invariant c.self-2.invariant (omega arith) c.split_at.ensures.front
    (c.self-2.view_is ∙ c.in-Err.ensures.err ∙ ap (λ (x : List ℕ). x ++ c.self.inside.behind) c.put.ensures) in
    let cut : c.truncate.new.self.items ≡ take (length c.self.inside.header.items) c.self-2.inside.header.items =
    c.truncate.ensures.items ∙ ap (λ (n : ℕ). take n c.self-2.inside.header.items) c.len-had.ensures.value in
    ap (λ (x : List ℕ). x ++ c.self-2.inside.behind) cut ∙ back.same ∙ c.self.view_is

pub take_whole-requires-clause-no_more : goal.take_whole-requires-clause-no_more
take_whole-requires-clause-no_more c =
    let fr : Fronted c.args.self.now c.args.piece.now c.split_at.result.0.now c.split_at.result.1.now (c.put.new.header.items ++ c.self.inside.behind) =
    fronted_by c.args.self.now c.self.inside.header.items c.self.inside.behind c.args.piece.now c.split_at.result.0.now c.split_at.result.1.now
    c.put.new.header.items c.min.result c.self.view_is c.self.invariant (omega arith) c.split_at.ensures.front c.split_at.ensures.back c.put.ensures in
    fronted_no_more c.args.self.now c.args.piece.now c.split_at.result.0.now c.split_at.result.1.now (c.put.new.header.items ++
    c.self.inside.behind) fr c.requires

pub returns-in-Ok-clause-given : goal.returns-in-Ok-clause-given
returns-in-Ok-clause-given c =
    let fr : Fronted c.args.self.now c.args.piece.now c.split_at.result.0.now c.split_at.result.1.now (c.put.new.header.items ++ c.self.inside.behind) =
    fronted_by c.args.self.now c.self.inside.header.items c.self.inside.behind c.args.piece.now c.split_at.result.0.now c.split_at.result.1.now
    c.put.new.header.items c.min.result c.self.view_is c.self.invariant (omega arith) c.split_at.ensures.front c.split_at.ensures.back c.put.ensures in
    fronted_wholly c.in-Ok.frame c.args.self.now c.args.piece.now c.split_at.result.0.now c.split_at.result.1.now (c.put.new.header.items ++
    c.self.inside.behind) c.in-Ok.used fr c.in-Ok.ensures.given
