use Rattle.std.proofs.Common.{length, refl, ap, ◌∙◌, arith, rules}
use Rattle.media_store.specs.States.{MemoryState}
use Rattle.media_tape.specs.Items.{items_of, is_tape}
use Rattle.target_units.proofs.OpenedUnits.{empty_opened, nothing_stands, nothing_is_a_tape}
use Rattle.target_units.proofs.opening.memory_tape.Goals as goal
use Rattle.target_units.proofs.opening.memory_tape.Goals.{in-OutOfMemory, in_default}

pub prove-unreachable-requires : goal.prove-unreachable-requires
prove-unreachable-requires g c =
    let made = c.in_ok-store.ensures in
    let told = c.in-Err.ensures.succeeds refl refl (ap (λ (s : MemoryState). is_tape s.content) made ∙ nothing_is_a_tape)
    (omega (arith, ap (λ (s : MemoryState). length s.content) made)) in
    elim c.match-matches.branch [
      | in-OutOfMemory w ↦ cc (c.if-prove.true, w.matches-is)
      | in_default w ↦ search rules
    ]

pub returns-in-Ok : goal.returns-in-Ok
returns-in-Ok g c =
    let told = c.in-Ok.ensures in
    let made = c.in_ok-store.ensures in
    let honest = told.stays refl refl in
    empty_opened c.args.capacity c.args.early c.in-Ok.tape told.before
    (told.after honest ∙ ap (λ (s : MemoryState). items_of s.content) made ∙ nothing_stands) (told.tail honest) told.set.0 told.set.1 told.set.2
    (told.synced ∙ ap (λ (s : MemoryState). s.synced) made) (told.failures ∙ ap (λ (s : MemoryState). s.failures) made) honest told.steady
    (told.reach ∙ ap (λ (s : MemoryState). s.most) made) told.atomic
