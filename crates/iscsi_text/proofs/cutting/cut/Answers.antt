use Rattle.std.proofs.Common.{◌≡◌, ℕ, List, [], ◌∷◌, ◌++◌, sym, ap, ◌∙◌, arith}
use Rattle.std.specs.declared.ops.Range.{Range}
use Rattle.iscsi_text.proofs.Cuts.{first_pieces, no_pieces, more_pieces, all_pieces, begins_within}
use Rattle.iscsi_text.proofs.cutting.cut.Goals as goal

pub loop-number-init : goal.loop-number-init
loop-number-init c = record {
  front = c.new-pieces.ensures.items ∙ sym (no_pieces c.args.len c.args.limit);
  count = omega (arith, c.max-count.ensures, c.div_ceil.ensures);
}

pub piece-requires : goal.piece-requires
piece-requires c = begins_within c.args.len c.args.limit c.loop-number.number c.requires (omega (arith, c.loop-number.invariant.count))

pub loop-number-preserved : goal.loop-number-preserved
loop-number-preserved c =
    let len = c.args.len in
    let limit = c.args.limit in
    let number = c.loop-number.number in
    let put : c.push.new.self.items ≡ c.loop-number.pieces.items ++ c.piece.result ∷ [] = c.in_ok-push.ensures.items in
    record {
      front = put ∙ ap (λ (x : List (Range ℕ)). x ++ c.piece.result ∷ []) c.loop-number.invariant.front
          ∙ ap (λ (p : Range ℕ). first_pieces len limit number ++ p ∷ []) c.piece.ensures ∙ sym (more_pieces len limit number);
      count = c.loop-number.invariant.count;
    }

pub returns-clause-pieces : goal.returns-clause-pieces
returns-clause-pieces c =
    c.loop-number.invariant.front
    ∙ all_pieces c.args.len c.args.limit c.loop-number.number (omega (arith, c.loop-number.invariant.count, c.loop-number-test.false))
