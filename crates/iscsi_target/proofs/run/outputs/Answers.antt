use Rattle.std.proofs.Common.{◌≡◌, ℕ, List, length, map, ap, ◌∙◌, Vec, Global}
use Rattle.std.proofs.lemmas.Result.{IfOk-weaker}
use Rattle.iscsi_world.specs.Runs.{finished}
use Rattle.iscsi_target.specs.Rows.{seen}
use Rattle.iscsi_target.specs.declared.run.Row.{Row}
use Rattle.iscsi_target.proofs.Rows.{bytes_after, all_written}
use Rattle.iscsi_target.proofs.run.outputs.Goals as goal

pub returns : goal.returns
returns g c =
    let items = c.args.rows.items in
    let same : c.as_mut_slice.result.now ≡ items = c.as_mut_slice.ensures.value in
    let len : length c.finish.new.rows ≡ length items = c.finish.auto.rows ∙ ap (λ (l : List Row). length l) same in
    let made : map seen c.finish.new.rows ≡ map (finished c.args.target.now) (map seen items) = c.in_ok-finish.ensures
    ∙ ap (λ (l : List Row). map (finished c.args.target.now) (map seen l)) same in
    IfOk-weaker c.bytes_of.result _ _
    (λ outputs e. ap (map (λ (output : Vec ℕ Global). output.items)) (e
    ∙ ap (map (λ (row : Row). row.bytes)) (all_written c.finish.new.rows items c.args.rows.len len c.args.rows.ok.0))
    ∙ bytes_after (finished c.args.target.now) items c.finish.new.rows made)
    c.bytes_of.ensures
