use Rattle.std.proofs.Common.{◌≡◌, ◌∙◌, Ok, Err, take, sym, ap}
use Rattle.std.proofs.lemmas.Result.{err_from_is_err_and}
use Rattle.scsi_mode.specs.ParameterList.{after_page, after_pages}
use Rattle.scsi_mode.proofs.Pages.{after_none, after_whole, after_broken}
use Rattle.scsi_mode.proofs.list.after_pages.Goals as goal

pub returns-in_default : goal.returns-in_default
returns-in_default c =
    sym (after_broken c.loop-rest.after c.loop-rest.rest.now (sym c.is_empty.ensures ∙ c.loop-rest-test.true) (sym c.in_default.ensures.value))
    ∙ c.loop-rest.invariant

pub returns-in_err-after : goal.returns-in_err-after
returns-in_err-after c =
    let after : Err c.in_err-after.field-0.0 ≡ after_page c.loop-rest.after (take c.in-Some.length c.loop-rest.rest.now) = sym c.in_err-after.was
    ∙ c.after_page.ensures ∙ ap (after_page c.loop-rest.after) c.split_at.ensures.front in
    let fault = err_from_is_err_and c.from_residual.result c.from_residual.ensures.1 in
    let result : c.from_residual.result ≡ Err c.in_err-after.field-0.0 = fault.1 ∙ ap Err fault.2 in
    result ∙ sym (after_whole c.loop-rest.after c.loop-rest.rest.now c.in-Some.length (Err c.in_err-after.field-0.0) (sym c.in-Some.ensures.value)
    after) ∙ c.loop-rest.invariant

pub loop-rest-preserved : goal.loop-rest-preserved
loop-rest-preserved c =
    let after : Ok c.in_ok-after.after ≡ after_page c.loop-rest.after (take c.in-Some.length c.loop-rest.rest.now) = sym c.in_ok-after.was
    ∙ c.after_page.ensures ∙ ap (after_page c.loop-rest.after) c.split_at.ensures.front in
    ap (after_pages c.in_ok-after.after) c.split_at.ensures.back
    ∙ sym (after_whole c.loop-rest.after c.loop-rest.rest.now c.in-Some.length (Ok c.in_ok-after.after) (sym c.in-Some.ensures.value) after)
    ∙ c.loop-rest.invariant

pub returns : goal.returns
returns c = sym (after_none c.loop-rest.after c.loop-rest.rest.now (sym c.is_empty.ensures ∙ c.loop-rest-test.false)) ∙ c.loop-rest.invariant
