use Rattle.std.proofs.Common.{◌≡◌, ℕ, ◌+◌, ◌/◌, ◌++◌, List, length, slice_get, Option, Some, true, false, not, refl, sym, ap, subst, add-zero, ◌∙◌, arith}
use Rattle.iscsi_text.specs.Pairs.{Pair}
use Rattle.iscsi_login.specs.KeyTree.{TellsPlaces}
use Rattle.iscsi_login.specs.Rules.{is_again, is_again_after}
use Rattle.iscsi_login.proofs.Lists.{list_any_ends, list_any_goes_on}
use Rattle.iscsi_login.proofs.KeyTree.{tells_among_more, tells_still, said_at, behind_at, itself, tells_one_more, tree_of_all}
use Rattle.iscsi_login.proofs.key_tree.KeyTree.extend.Goals as goal

pub loop-at-init : goal.loop-at-init
loop-at-init c =
    let before = tells_among_more c.args.self.now c.args.pairs.now c.args.more.now c.requires.tells in
    record { size = omega (arith, c.requires.size); before = before; tells = rw add-zero before; new = refl }

pub add-requires : goal.add-requires
add-requires c =
    let pair : Pair = (c.pair.result.0.now, c.pair.result.1.now) in
    let node : length c.args.pairs.now + c.loop-at.at ≡ length c.loop-at.self / 2 = omega (arith, c.loop-at.invariant.size) in
    record {
      pair = pair;
      stands = subst (λ (n : ℕ). slice_get (c.args.pairs.now ++ c.args.more.now) n ≡ Some pair) node
          (behind_at c.args.pairs.now c.args.more.now c.loop-at.at pair c.pair.ensures);
      tests = itself pair.0;
    }

pub returns-then-is_again-clause-value : goal.returns-then-is_again-clause-value
returns-then-is_again-clause-value c =
    let pairs = c.args.pairs.now in
    let more = c.args.more.now in
    let pair : Pair = (c.pair.result.0.now, c.pair.result.1.now) in
    let before = tells_still c.loop-at.self c.add.new.self (pairs ++ more) (length pairs) c.in_ok-found.ensures.kept c.loop-at.invariant.before in
    let said = said_at c.add.new.self pairs more pair.0 c.in_ok-found.found before c.in_ok-found.ensures.ends in
    let again : is_again pairs pair ≡ true =
    ap (λ (o : Option (List ℕ)). is_again_after pair o) (said ∙ sym c.value_at.ensures) ∙ sym c.if-is_again.ensures in
    ap not (list_any_ends (is_again pairs) more c.loop-at.at pair c.pair.ensures again c.loop-at.invariant.new)

pub loop-at-preserved : goal.loop-at-preserved
loop-at-preserved c =
    let pairs = c.args.pairs.now in
    let more = c.args.more.now in
    let pair : Pair = (c.pair.result.0.now, c.pair.result.1.now) in
    let new = c.add.new.self in
    let kept = c.in_ok-found.ensures.kept in
    let count = length pairs + c.loop-at.at in
    let before = tells_still c.loop-at.self new (pairs ++ more) (length pairs) kept c.loop-at.invariant.before in
    let tells = tells_still c.loop-at.self new (pairs ++ more) count kept c.loop-at.invariant.tells in
    let said = said_at new pairs more pair.0 c.in_ok-found.found before c.in_ok-found.ensures.ends in
    let fresh : is_again pairs pair ≡ false =
    ap (λ (o : Option (List ℕ)). is_again_after pair o) (said ∙ sym c.value_at.ensures) ∙ sym c.if-is_again.ensures in
    let next : count + 1 ≡ length pairs + (c.loop-at.at + 1) = omega arith in
    record {
      size = omega (arith, c.in_ok-found.ensures.grown, c.loop-at.invariant.size);
      before = before;
      tells = subst (λ (n : ℕ). TellsPlaces new (pairs ++ more) n) next (tells_one_more new (pairs ++ more) count pair c.in_ok-found.found
          (behind_at pairs more c.loop-at.at pair c.pair.ensures)
          (omega (arith, c.in_ok-found.ensures.within, c.loop-at.invariant.size)) c.in_ok-found.ensures.ends tells);
      new = list_any_goes_on (is_again pairs) more c.loop-at.at pair c.pair.ensures fresh c.loop-at.invariant.new;
    }

pub returns-clause-tree : goal.returns-clause-tree
returns-clause-tree c = λ _. tree_of_all c.loop-at.self c.args.pairs.now c.args.more.now c.loop-at.at
    (omega (arith, c.len-at-end.ensures.value)) c.loop-at.invariant.size c.loop-at.invariant.tells
