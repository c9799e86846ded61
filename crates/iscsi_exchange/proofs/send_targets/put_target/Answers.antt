use Rattle.std.proofs.Common.{refl, ◌≡◌, ◌++◌, ◌∷◌, [], codes}
use Rattle.std.proofs.lemmas.Result.{on_ok_weaker}
use Rattle.iscsi_text.specs.Pairs.{text_of}
use Rattle.iscsi_exchange.proofs.Asking.{text_further}
use Rattle.iscsi_exchange.proofs.send_targets.put_target.Goals as goal

pub returns : goal.returns
returns c =
    let first = (codes "TargetName", c.args.name.now) ∷ [] in
    let second = (codes "TargetAddress", c.args.directory.now.portal ++ codes ",1") ∷ [] in
    on_ok_weaker c.put-2.result
    (λ (further : c.put-2.new.answer.items ≡ c.put.new.answer.items ++ text_of second).
    text_further c.args.answer.now.items _ _ first second _ c.in_ok-put.ensures further refl)
    (rw (c.as_str.ensures.value, c.in_ok-address.ensures) at c.put-2.ensures)
