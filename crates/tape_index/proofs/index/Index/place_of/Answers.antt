use Rattle.std.proofs.Common.{◌-◌, ◌*◌, ap, arith}
use Rattle.tape_index.proofs.Runs.{around-place}
use Rattle.tape_index.proofs.index.Index.place_of.Goals as goal

pub overflow_sub-result-2 : goal.overflow_sub-result-2
overflow_sub-result-2 c =
    omega (arith, around-place _ _ _ c.run_at-run.ensures, ap (λ n. (c.run_at-run.result.next - c.args.number) * n) c.from.ensures)

pub overflow_mul-result : goal.overflow_mul-result
overflow_mul-result c =
    omega (arith, around-place _ _ _ c.run_at-run.ensures, ap (λ n. (c.run_at-run.result.next - c.args.number) * n) c.from.ensures, c.run_at-run.type_inv)

pub returns : goal.returns
returns c =
    omega (arith, around-place _ _ _ c.run_at-run.ensures, ap (λ n. (c.run_at-run.result.next - c.args.number) * n) c.from.ensures)
