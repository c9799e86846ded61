use Rattle.std.proofs.Common.{Err, refl, sym, ◌∙◌, arith}
use Rattle.std.proofs.lemmas.Bool.{false≢true}
use Rattle.std.proofs.lemmas.Result.{err_from_is_err_and}
use Rattle.iscsi_pdu.specs.declared.fault.PduFault.TheVariants as faults
use Rattle.iscsi_pdu.proofs.Fields.{not_long}
use Rattle.iscsi_framer.proofs.Fronts.{short_waits, short_one, out_by, is_longer, no_header_long, no_fault, only_memory}
use Rattle.iscsi_framer.proofs.Gathering.{gathered_part, gathered_one, gathered_lends}
use Rattle.iscsi_framer.proofs.framer.Framer.take_more.Goals as goal

pub returns-in_default-clause-part : goal.returns-in_default-clause-part
returns-in_default-clause-part c = short_waits c.args.self.now c.args.more.now c.in_default.ensures.none (c.requires.first c.in_default.ensures.none)

pub returns-in_default-clause-one : goal.returns-in_default-clause-one
returns-in_default-clause-one c = short_one c.args.self.now c.in_default.ensures.none

pub returns-in_default-clause-too_long : goal.returns-in_default-clause-too_long
returns-in_default-clause-too_long c =
    let none = no_header_long c.args.self.now c.in_default.ensures.none in
    (λ e. absurd (no_fault e), λ long. absurd (false≢true (sym none ∙ long)))

pub returns-then-data_length-gt-MOST_DATA-clause-too_long : goal.returns-then-data_length-gt-MOST_DATA-clause-too_long
returns-then-data_length-gt-MOST_DATA-clause-too_long c =
    (λ e. is_longer c.args.self.now _ c.in-Some.ensures.some.1 c.in-Some.ensures.some.0 (omega arith), λ long. refl)

pub lend-requires-clause-within : goal.lend-requires-clause-within
lend-requires-clause-within c = c.requires.within (not_long c.args.self.now _ c.in-Some.ensures.some.0 (omega arith))

pub lend-requires-clause-out : goal.lend-requires-clause-out
lend-requires-clause-out c =
    out_by c.args.self.now _ c.in-Some.ensures.some.1 c.in-Some.ensures.some.0 ∙ sym c.is_data_out.ensures ∙ c.if-is_data_out.true

pub returns-then-is_data_out-clause-too_long : goal.returns-then-is_data_out-clause-too_long
returns-then-is_data_out-clause-too_long c =
    let short = not_long c.args.self.now _ c.in-Some.ensures.some.0 (omega arith) in
    (λ e. absurd (no_fault e), λ long. absurd (false≢true (sym short ∙ long)))

pub gather-requires-clause-within : goal.gather-requires-clause-within
gather-requires-clause-within c = c.requires.within (not_long c.args.self.now _ c.in-Some.ensures.some.0 (omega arith))

pub returns-in_err-used-clause-too_long : goal.returns-in_err-used-clause-too_long
returns-in_err-used-clause-too_long c =
    let short = not_long c.args.self.now _ c.in-Some.ensures.some.0 (omega arith) in
    let p = err_from_is_err_and c.from_residual.result c.from_residual.ensures.1 in
    rw (p.1, p.2, c.in_err-used.ensures.memory)
    (λ e. absurd (only_memory (Err faults.Memory) refl e), λ long. absurd (false≢true (sym short ∙ long)))

pub returns-clause-part : goal.returns-clause-part
returns-clause-part c =
    let given = c.in_ok-used.ensures in
    let other = out_by c.args.self.now _ c.in-Some.ensures.some.1 c.in-Some.ensures.some.0 ∙ sym c.is_data_out.ensures ∙ c.if-is_data_out.false in
    rw c.part_of.ensures (gathered_part _ c.args.self.now c.args.more.now c.gather.new.self _ c.in-Some.ensures.some.1 other given.within
    given.given given.left given.none given.kept given.all)

pub returns-clause-one : goal.returns-clause-one
returns-clause-one c =
    let given = c.in_ok-used.ensures in
    let other = out_by c.args.self.now _ c.in-Some.ensures.some.1 c.in-Some.ensures.some.0 ∙ sym c.is_data_out.ensures ∙ c.if-is_data_out.false in
    gathered_one _ c.args.self.now c.args.more.now c.gather.new.self c.in-Some.ensures.some.1 other given.left given.none given.kept

pub returns-clause-some : goal.returns-clause-some
returns-clause-some c = rw c.part_of.ensures (gathered_lends _)

pub returns-clause-too_long : goal.returns-clause-too_long
returns-clause-too_long c =
    let short = not_long c.args.self.now _ c.in-Some.ensures.some.0 (omega arith) in
    (λ e. absurd (no_fault e), λ long. absurd (false≢true (sym short ∙ long)))

pub returns-then-data_length-gt-MOST_DATA-clause-lent : goal.returns-then-data_length-gt-MOST_DATA-clause-lent
returns-then-data_length-gt-MOST_DATA-clause-lent c =
    let long = is_longer c.args.self.now _ c.in-Some.ensures.some.1 c.in-Some.ensures.some.0 (omega arith) in
    λ out short. absurd (false≢true (sym short ∙ long))

pub returns-in_err-used-clause-lent : goal.returns-in_err-used-clause-lent
returns-in_err-used-clause-lent c =
    let other = out_by c.args.self.now _ c.in-Some.ensures.some.1 c.in-Some.ensures.some.0 ∙ sym c.is_data_out.ensures ∙ c.if-is_data_out.false in
    λ out short. absurd (false≢true (sym other ∙ out))
