use Rattle.std.proofs.Common.{◌≡◌, ℕ, ◌+◌, ◌*◌, ◌<◌, List, ◌++◌, Some, Bool, suc, refl, sym, ap, ◌∙◌, arith}
use Rattle.std.specs.Prelude.{slice_get, bytes_eq}
use Rattle.iscsi_text.specs.Pairs.{Pair}
use Rattle.iscsi_login.specs.KeyTree.{IsKeyed}
use Rattle.iscsi_login.proofs.key_tree.KeyTree.find.Goals as goal

keyed : (pairs : List Pair) (key : List ℕ) (node : ℕ) (pair : Pair) (same : Bool) → slice_get pairs node ≡ Some pair → same ≡ bytes_eq pair.0 key
    → IsKeyed pairs key node same
keyed pairs key node pair same stands tests = record { pair = pair; stands = stands; tests = sym tests }

pub returns-then-eq-clause-found : goal.returns-then-eq-clause-found
returns-then-eq-clause-found c = c.loop-key.invariant.comes c.args.self.now 0 c.loop-key.node (λ slot next at on. at)
    (refl, keyed _ _ _ (c.pair_of.result.0.now, c.pair_of.result.1.now) _ c.pair_of.ensures c.if-eq.ensures)

pub returns-then-next-eq0-clause-free : goal.returns-then-next-eq0-clause-free
returns-then-next-eq0-clause-free c =
    let other = keyed (c.args.pairs.now ++ c.args.more.now) c.args.key.now c.loop-key.node (c.pair_of.result.0.now, c.pair_of.result.1.now) _
    c.pair_of.ensures c.if-eq.ensures in
    record {
      node = c.loop-key.node;
      within = (c.loop-key.invariant.within, omega (arith, c.bit.ensures.bound));
      other = other;
      free = c.child-next.ensures.value ∙ ap (λ n. Some n) c.if-next-eq0.true;
      ends = λ new next kept at positive is. c.loop-key.invariant.comes new 1 next kept
          (next, other, ap (λ n. slice_get new (2 * c.loop-key.node + n)) (sym c.bit.ensures.value) ∙ at, positive, (refl, is));
    }

pub loop-key-smaller : goal.loop-key-smaller
loop-key-smaller c =
    let on = c.child-next.ensures.leads_on (omega (arith, c.if-next-eq0.false)) in
    omega (arith, on.0, on.1)

pub loop-key-preserved : goal.loop-key-preserved
loop-key-preserved c =
    let other = keyed (c.args.pairs.now ++ c.args.more.now) c.args.key.now c.loop-key.node (c.pair_of.result.0.now, c.pair_of.result.1.now) _
    c.pair_of.ensures c.if-eq.ensures in
    let positive : 0 < c.child-next.result = omega (arith, c.if-next-eq0.false) in
    let on = c.child-next.ensures.leads_on positive in
    let at = ap (λ n. slice_get c.args.self.now (2 * c.loop-key.node + n)) (sym c.bit.ensures.value) ∙ c.child-next.ensures.value in
    record {
      within = on.1;
      deep = omega (arith, on.0, c.loop-key.invariant.deep);
      comes = λ new steps place kept leads. c.loop-key.invariant.comes new (suc steps) place kept
          (c.child-next.result, other, kept _ _ at positive, positive, leads);
    }
