use Rattle.std.proofs.Common.{◌≤◌, length, [], ◌∷◌, refl, sym, ap, subst, ◌∙◌, string_bytes}
use Rattle.media_store.specs.Calls.{Opened, Locked, calls_of}
use Rattle.media_store.specs.Opening.{IsRefused}
use Rattle.media_store.specs.States.{FileState}
use Rattle.media_tape.specs.Items.{items_of, is_tape}
use Rattle.media_tape.specs.Fault.{failures_after, Explains}
use Rattle.target_config.specs.Configuration.{FileTape}
use Rattle.target_units.proofs.RefusedUnits.{unfit_tape, unopened_file}
use Rattle.target_units.proofs.opening.file_tape.Goals as goal

pub returns-in-Ok-open-clause-tape : goal.returns-in-Ok-open-clause-tape
returns-in-Ok-open-clause-tape g c =
    let made = c.new.ensures (string_bytes c.args.path) (c.in-Ok.ensures.opened ∙ ap (λ path. Locked ∷ Opened path ∷ []) c.as_str.ensures.value) in
    record {
      unfailed = c.in-Ok-open.ensures.failures ∙ ap (λ (s : FileState). s.failures) made;
      set = c.in-Ok-open.ensures.set;
      whole = λ honest. ap (λ (s : FileState). is_tape s.content) (sym made) ∙ c.in-Ok-open.ensures.tape honest;
      fits = λ honest. subst (λ (s : FileState). length s.content ≤ c.args.capacity) made (c.in-Ok-open.ensures.fits honest);
      before = λ honest. c.in-Ok-open.ensures.before;
      after = λ honest. c.in-Ok-open.ensures.after honest ∙ ap (λ (s : FileState). items_of s.content) made;
      tail = c.in-Ok-open.ensures.tail;
    }

pub returns-clause-fault : goal.returns-clause-fault
returns-clause-fault g c =
    let left = c.in-Err.unopened in
    unopened_file g.S.Start.held (FileTape (string_bytes c.args.path) c.args.capacity c.args.early)
    (string_bytes c.args.path) c.args.lun left.error (calls_of left.noted.calls)
    c.fault_of-fault.result refl (subst (λ path. IsRefused path (calls_of left.noted.calls)) c.as_str.ensures.value c.in-Err.ensures.refused)
    c.fault_of-fault.ensures.memory c.fault_of-fault.ensures.other

pub returns-in-Ok-clause-fault : goal.returns-in-Ok-clause-fault
returns-in-Ok-clause-fault g c =
    let made = c.new.ensures (string_bytes c.args.path) (c.in-Ok.ensures.opened ∙ ap (λ path. Locked ∷ Opened path ∷ []) c.as_str.ensures.value) in
    λ failed. rw c.tape_fault.ensures
    (unfit_tape g.S.Start.held (string_bytes c.args.path) c.args.capacity c.args.early c.args.lun c.in-Err-open.unfit.store c.in-Err-open.unfit.fault
    (c.in-Err-open.ensures.given_back ∙ ap (λ (s : FileState). s.content) made)
    (c.in-Err-open.ensures.counted ∙ ap (λ (s : FileState). failures_after c.in-Err-open.unfit.fault s.failures) made)
    (λ honest. subst (λ (s : FileState). Explains s.content c.args.capacity c.in-Err-open.unfit.fault) made (c.in-Err-open.ensures.explained honest))
    (λ is. failed (c.tape_fault.ensures ∙ is)))
