use Rattle.std.proofs.Common.{◌≡◌, ℕ, Err, List, ◌++◌, length, take, refl, sym, ap, ◌∙◌, subst, arith}
use Rattle.std.proofs.lemmas.Bool.{false≢true}
use Rattle.iscsi_pdu.specs.Parts.{HoldsOne}
use Rattle.iscsi_framer.proofs.Fronts.{Fronted, fronted_by, front_takes, front_long, front_lent, one_within, one_long, no_fault, only_memory, TakenBack, taken_back}
use Rattle.iscsi_framer.proofs.framer.Framer.take.Goals as goal

pub take_more-requires-clause-within : goal.take_more-requires-clause-within
take_more-requires-clause-within c =
    let fr : Fronted c.args.self.now c.args.piece.now c.split_at.result.0.now c.split_at.result.1.now (c.put.new.header.items ++ c.self.inside.behind) =
    fronted_by c.args.self.now c.self.inside.header.items c.self.inside.behind c.args.piece.now c.split_at.result.0.now c.split_at.result.1.now
    c.put.new.header.items c.min.result c.self.view_is c.self.invariant (omega arith) c.split_at.ensures.front c.split_at.ensures.back c.put.ensures in
    λ short. one_within c.args.self.now c.args.piece.now c.split_at.result.0.now c.split_at.result.1.now (c.put.new.header.items ++
    c.self.inside.behind) fr c.requires short

pub invariant_of-self-in-Err-Memory : goal.invariant_of-self-in-Err-Memory
invariant_of-self-in-Err-Memory c =
    let back : TakenBack c.self.inside.header.items c.self.inside.behind c.self-2.inside.header.items c.self-2.inside.behind =
    taken_back c.self.inside.header.items c.self.inside.behind c.args.piece.now c.split_at.result.0.now c.self-2.inside.header.items c.self-2.inside.behind
    c.min.result c.self.invariant c.self-2.invariant (omega arith) c.split_at.ensures.front
    (c.self-2.view_is ∙ c.in-Err-Memory.ensures.err ∙ ap (λ (x : List ℕ). x ++ c.self.inside.behind) c.put.ensures) in
    let cut : c.truncate.new.self.items ≡ take (length c.self.inside.header.items) c.self-2.inside.header.items =
    c.truncate.ensures.items ∙ ap (λ (n : ℕ). take n c.self-2.inside.header.items) c.len-had.ensures.value in
    rw cut back.split

pub returns-in-Ok-clause-part : goal.returns-in-Ok-clause-part
returns-in-Ok-clause-part c =
    let fr : Fronted c.args.self.now c.args.piece.now c.split_at.result.0.now c.split_at.result.1.now (c.put.new.header.items ++ c.self.inside.behind) =
    fronted_by c.args.self.now c.self.inside.header.items c.self.inside.behind c.args.piece.now c.split_at.result.0.now c.split_at.result.1.now
    c.put.new.header.items c.min.result c.self.view_is c.self.invariant (omega arith) c.split_at.ensures.front c.split_at.ensures.back c.put.ensures in
    front_takes c.args.self.now c.args.piece.now c.split_at.result.0.now c.split_at.result.1.now (c.put.new.header.items ++ c.self.inside.behind)
    c.in-Ok.used c.in-Ok.part c.take_more.new.self
    fr c.in-Ok.ensures.part

pub returns-in-Ok-clause-too_long : goal.returns-in-Ok-clause-too_long
returns-in-Ok-clause-too_long c =
    let fr : Fronted c.args.self.now c.args.piece.now c.split_at.result.0.now c.split_at.result.1.now (c.put.new.header.items ++ c.self.inside.behind) =
    fronted_by c.args.self.now c.self.inside.header.items c.self.inside.behind c.args.piece.now c.split_at.result.0.now c.split_at.result.1.now
    c.put.new.header.items c.min.result c.self.view_is c.self.invariant (omega arith) c.split_at.ensures.front c.split_at.ensures.back c.put.ensures in
    let same = front_long c.args.self.now c.args.piece.now c.split_at.result.0.now c.split_at.result.1.now (c.put.new.header.items ++
    c.self.inside.behind) fr in
    (λ e. absurd (no_fault e), λ long. absurd (no_fault (c.in-Ok.ensures.too_long.1 (sym same ∙ long))))

pub returns-in-Err-TooLong-clause-one : goal.returns-in-Err-TooLong-clause-one
returns-in-Err-TooLong-clause-one c =
    let fr : Fronted c.args.self.now c.args.piece.now c.split_at.result.0.now c.split_at.result.1.now (c.put.new.header.items ++ c.self.inside.behind) =
    fronted_by c.args.self.now c.self.inside.header.items c.self.inside.behind c.args.piece.now c.split_at.result.0.now c.split_at.result.1.now
    c.put.new.header.items c.min.result c.self.view_is c.self.invariant (omega arith) c.split_at.ensures.front c.split_at.ensures.back c.put.ensures in
    let long = c.in-Err-TooLong.ensures.too_long.0 (ap Err c.in-Err-TooLong.field-0-is) in
    subst HoldsOne (sym c.in-Err-TooLong.ensures.err) (one_long c.args.self.now c.args.piece.now c.split_at.result.0.now c.split_at.result.1.now
    (c.put.new.header.items ++ c.self.inside.behind) fr c.requires long)

pub returns-in-Err-TooLong-clause-too_long : goal.returns-in-Err-TooLong-clause-too_long
returns-in-Err-TooLong-clause-too_long c =
    let fr : Fronted c.args.self.now c.args.piece.now c.split_at.result.0.now c.split_at.result.1.now (c.put.new.header.items ++ c.self.inside.behind) =
    fronted_by c.args.self.now c.self.inside.header.items c.self.inside.behind c.args.piece.now c.split_at.result.0.now c.split_at.result.1.now
    c.put.new.header.items c.min.result c.self.view_is c.self.invariant (omega arith) c.split_at.ensures.front c.split_at.ensures.back c.put.ensures in
    let long = c.in-Err-TooLong.ensures.too_long.0 (ap Err c.in-Err-TooLong.field-0-is) in (
      λ e. front_long c.args.self.now c.args.piece.now c.split_at.result.0.now c.split_at.result.1.now (c.put.new.header.items ++ c.self.inside.behind)
          fr ∙ long,
      λ _. refl,
    )

pub returns-in-Err-Memory-clause-one : goal.returns-in-Err-Memory-clause-one
returns-in-Err-Memory-clause-one c =
    let back : TakenBack c.self.inside.header.items c.self.inside.behind c.self-2.inside.header.items c.self-2.inside.behind =
    taken_back c.self.inside.header.items c.self.inside.behind c.args.piece.now c.split_at.result.0.now c.self-2.inside.header.items c.self-2.inside.behind
    c.min.result c.self.invariant c.self-2.invariant (omega arith) c.split_at.ensures.front
    (c.self-2.view_is ∙ c.in-Err-Memory.ensures.err ∙ ap (λ (x : List ℕ). x ++ c.self.inside.behind) c.put.ensures) in
    let cut : c.truncate.new.self.items ≡ take (length c.self.inside.header.items) c.self-2.inside.header.items =
    c.truncate.ensures.items ∙ ap (λ (n : ℕ). take n c.self-2.inside.header.items) c.len-had.ensures.value in
    let same : c.truncate.new.self.items ++ c.self-2.inside.behind ≡ c.args.self.now =
    ap (λ (x : List ℕ). x ++ c.self-2.inside.behind) cut ∙ back.same ∙ c.self.view_is in
    subst HoldsOne (sym same) c.requires

pub returns-in-Err-Memory-clause-too_long : goal.returns-in-Err-Memory-clause-too_long
returns-in-Err-Memory-clause-too_long c =
    let fr : Fronted c.args.self.now c.args.piece.now c.split_at.result.0.now c.split_at.result.1.now (c.put.new.header.items ++ c.self.inside.behind) =
    fronted_by c.args.self.now c.self.inside.header.items c.self.inside.behind c.args.piece.now c.split_at.result.0.now c.split_at.result.1.now
    c.put.new.header.items c.min.result c.self.view_is c.self.invariant (omega arith) c.split_at.ensures.front c.split_at.ensures.back c.put.ensures in
    let same = front_long c.args.self.now c.args.piece.now c.split_at.result.0.now c.split_at.result.1.now (c.put.new.header.items ++
    c.self.inside.behind) fr in (
      λ e. absurd (only_memory _ refl e),
      λ long. absurd (only_memory _ c.in-Err-Memory.field-0-is (c.in-Err-Memory.ensures.too_long.1 (sym same ∙ long))),
    )

pub returns-in-Err-Memory-clause-memory : goal.returns-in-Err-Memory-clause-memory
returns-in-Err-Memory-clause-memory c =
    let back : TakenBack c.self.inside.header.items c.self.inside.behind c.self-2.inside.header.items c.self-2.inside.behind =
    taken_back c.self.inside.header.items c.self.inside.behind c.args.piece.now c.split_at.result.0.now c.self-2.inside.header.items c.self-2.inside.behind
    c.min.result c.self.invariant c.self-2.invariant (omega arith) c.split_at.ensures.front
    (c.self-2.view_is ∙ c.in-Err-Memory.ensures.err ∙ ap (λ (x : List ℕ). x ++ c.self.inside.behind) c.put.ensures) in
    let cut : c.truncate.new.self.items ≡ take (length c.self.inside.header.items) c.self-2.inside.header.items =
    c.truncate.ensures.items ∙ ap (λ (n : ℕ). take n c.self-2.inside.header.items) c.len-had.ensures.value in
    let same : c.truncate.new.self.items ++ c.self-2.inside.behind ≡ c.args.self.now =
    ap (λ (x : List ℕ). x ++ c.self-2.inside.behind) cut ∙ back.same ∙ c.self.view_is in
    λ e. same

pub returns-in-Err-TooLong-clause-lent : goal.returns-in-Err-TooLong-clause-lent
returns-in-Err-TooLong-clause-lent c =
    let fr : Fronted c.args.self.now c.args.piece.now c.split_at.result.0.now c.split_at.result.1.now (c.put.new.header.items ++ c.self.inside.behind) =
    fronted_by c.args.self.now c.self.inside.header.items c.self.inside.behind c.args.piece.now c.split_at.result.0.now c.split_at.result.1.now
    c.put.new.header.items c.min.result c.self.view_is c.self.invariant (omega arith) c.split_at.ensures.front c.split_at.ensures.back c.put.ensures in
    let long = c.in-Err-TooLong.ensures.too_long.0 (ap Err c.in-Err-TooLong.field-0-is) in
    λ out short. absurd (false≢true (sym (front_lent _ _ _ _ _ fr out short).1 ∙ long))

pub returns-in-Err-Memory-clause-lent : goal.returns-in-Err-Memory-clause-lent
returns-in-Err-Memory-clause-lent c =
    let fr : Fronted c.args.self.now c.args.piece.now c.split_at.result.0.now c.split_at.result.1.now (c.put.new.header.items ++ c.self.inside.behind) =
    fronted_by c.args.self.now c.self.inside.header.items c.self.inside.behind c.args.piece.now c.split_at.result.0.now c.split_at.result.1.now
    c.put.new.header.items c.min.result c.self.view_is c.self.invariant (omega arith) c.split_at.ensures.front c.split_at.ensures.back c.put.ensures in
    λ out short. (let l = front_lent _ _ _ _ _ fr out short in c.in-Err-Memory.ensures.lent l.0 l.1)
