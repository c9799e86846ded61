use Rattle.std.proofs.Common.{◌≡◌, ◌∷◌, ◌++◌, ◌∙◌, [], ap, replicate, None, arith}
use Rattle.std.proofs.lemmas.List.{replicate_more}
use Rattle.std.proofs.lemmas.Grind.{common_steps}
use Rattle.iscsi_ports.proofs.places.free_places.Goals as goal

pub loop-preserved : goal.loop-preserved
loop-preserved g c =
    c.in_ok-push.ensures.items ∙ ap (λ places. places ++ None ∷ []) c.loop.invariant ∙ replicate_more c.loop.counter None

pub loop-smaller : goal.loop-smaller
loop-smaller g c = omega (arith, c.loop-test.true)

pub returns-clause-free : goal.returns-clause-free
returns-clause-free g c =
    let all : c.loop.counter ≡ 65 = omega (arith, c.loop.auto.counter-end, c.loop-test.false) in
    c.loop.invariant ∙ ap (λ n. replicate n None) all

pub loop-init : goal.loop-init
loop-init g c = c.in_ok-places.ensures.items

pub returns-in_err-places : goal.returns-in_err-places
returns-in_err-places = grind (arith, common_steps)

pub returns-in_err-push : goal.returns-in_err-push
returns-in_err-push = grind (arith, common_steps)

pub returns-clause-count : goal.returns-clause-count
returns-clause-count = grind (arith, common_steps)
