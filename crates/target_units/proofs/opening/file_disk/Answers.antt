use Rattle.std.proofs.Common.{◌≡◌, [], ◌∷◌, refl, sym, ap, subst, ◌∙◌, false, string_bytes}
use Rattle.media_store.specs.Calls.{Opened, Locked, calls_of}
use Rattle.media_store.specs.Opening.{IsRefused}
use Rattle.media_store.specs.States.{FileState}
use Rattle.media_block.specs.Blocks.{is_disk, disk_of}
use Rattle.media_block.specs.Fault.{failures_after}
use Rattle.target_config.specs.Configuration.{FileDisk}
use Rattle.target_units.proofs.RefusedUnits.{unfit_disk, unopened_file}
use Rattle.target_units.proofs.opening.file_disk.Goals as goal

pub returns-in-Ok-open-clause-disk : goal.returns-in-Ok-open-clause-disk
returns-in-Ok-open-clause-disk g c =
    let made = c.new.ensures (string_bytes c.args.path) (c.in-Ok.ensures.opened ∙ ap (λ path. Locked ∷ Opened path ∷ []) c.as_str.ensures.value) in
    record {
      unfailed = c.in-Ok-open.ensures.failures ∙ ap (λ (s : FileState). s.failures) made;
      whole = λ honest. ap (λ (s : FileState). is_disk s.content) (sym made) ∙ c.in-Ok-open.ensures.disk honest;
      blocks = λ honest. c.in-Ok-open.ensures.blocks honest ∙ ap (λ (s : FileState). disk_of s.content) made;
    }

pub returns-clause-fault : goal.returns-clause-fault
returns-clause-fault g c =
    let left = c.in-Err.unopened in
    unopened_file g.S.Start.held (FileDisk (string_bytes c.args.path))
    (string_bytes c.args.path) c.args.lun left.error (calls_of left.noted.calls)
    c.fault_of-fault.result refl (subst (λ path. IsRefused path (calls_of left.noted.calls)) c.as_str.ensures.value c.in-Err.ensures.refused)
    c.fault_of-fault.ensures.memory c.fault_of-fault.ensures.other

pub returns-in-Ok-clause-fault : goal.returns-in-Ok-clause-fault
returns-in-Ok-clause-fault g c =
    let made = c.new.ensures (string_bytes c.args.path) (c.in-Ok.ensures.opened ∙ ap (λ path. Locked ∷ Opened path ∷ []) c.as_str.ensures.value) in
    λ failed. rw c.disk_fault.ensures
    (unfit_disk g.S.Start.held (string_bytes c.args.path) c.args.lun c.in-Err-open.unfit.store c.in-Err-open.unfit.fault
    (c.in-Err-open.ensures.given_back ∙ ap (λ (s : FileState). s.content) made)
    (c.in-Err-open.ensures.counted ∙ ap (λ (s : FileState). failures_after c.in-Err-open.unfit.fault s.failures) made)
    (λ is honest. subst (λ (s : FileState). is_disk s.content ≡ false) made (c.in-Err-open.ensures.length is honest)))
