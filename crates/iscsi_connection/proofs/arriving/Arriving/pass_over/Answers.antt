use Rattle.std.proofs.Common.{◌≡◌, ◌++◌, ℕ, List, [], length, take, arith, sym, ap, ◌∙◌, subst}
use Rattle.iscsi_pdu.specs.Header.{header_length}
use Rattle.iscsi_pdu.specs.Parts.{Takes}
use Rattle.iscsi_pdu.specs.declared.part.Part.{Part}
use Rattle.iscsi_world.proofs.Choices.{cond_false}
use Rattle.iscsi_connection.specs.Passing.{bytes_noted, IsHalfRead, IsCounted}
use Rattle.iscsi_connection.specs.Arriving.{ArrivingState, IsUntaken, out_in}
use Rattle.iscsi_connection.proofs.Counting.{PassesOver, half_one, passes_over}
use Rattle.iscsi_connection.proofs.arriving.Arriving.pass_over.Goals as goal

pub take-requires : goal.take-requires
take-requires c =
    let is : c.self.inside.framer ≡ c.args.self.now.bytes = sym (cond_false _ _ _ c.if-self.false) ∙ ap (λ (a : ArrivingState). a.bytes) c.self.view_is in
    half_one c.self.inside.framer (subst IsHalfRead (sym is) c.requires)

pub invariant_of-self : goal.invariant_of-self
invariant_of-self c =
    let framer = c.self.inside.framer in
    let kept = c.in-Some.bytes.now in
    let is : framer ≡ c.args.self.now.bytes = sym (cond_false _ _ _ c.if-self.false) ∙ ap (λ (a : ArrivingState). a.bytes) c.self.view_is in
    let half : IsHalfRead framer = subst IsHalfRead (sym is) c.requires in
    let over : PassesOver framer kept c.take.new.self = passes_over framer kept c.take.new.self c.in-Ok-default-Nothing.field-0-0 half c.in-Some.ensures
    (subst (λ (part : Part). Takes framer [] c.in-Ok-default-Nothing.field-0-0 part c.take.new.self) c.in-Ok-default-Nothing.field-0-1-is
    c.in-Ok-default-Nothing.ensures.part) in
    let noted : bytes_noted c.note.new.self.calls ≡ kept = ap bytes_noted c.note.ensures ∙ ap (λ calls. bytes_noted calls ++ kept) c.new-noted.ensures in
    λ counted. subst (λ (x : List ℕ). IsCounted c.take.new.self (take header_length c.take.new.self ++ x)) (sym noted) over.counted

pub returns-in-Ok-default-Nothing-clause-bytes : goal.returns-in-Ok-default-Nothing-clause-bytes
returns-in-Ok-default-Nothing-clause-bytes c =
    let framer = c.self.inside.framer in
    let kept = c.in-Some.bytes.now in
    let is : framer ≡ c.args.self.now.bytes = sym (cond_false _ _ _ c.if-self.false) ∙ ap (λ (a : ArrivingState). a.bytes) c.self.view_is in
    let half : IsHalfRead framer = subst IsHalfRead (sym is) c.requires in
    let over : PassesOver framer kept c.take.new.self = passes_over framer kept c.take.new.self c.in-Ok-default-Nothing.field-0-0 half c.in-Some.ensures
    (subst (λ (part : Part). Takes framer [] c.in-Ok-default-Nothing.field-0-0 part c.take.new.self) c.in-Ok-default-Nothing.field-0-1-is
    c.in-Ok-default-Nothing.ensures.part) in
    let noted : bytes_noted c.note.new.self.calls ≡ kept = ap bytes_noted c.note.ensures ∙ ap (λ calls. bytes_noted calls ++ kept) c.new-noted.ensures in
    ap (λ (x : List ℕ). take header_length c.take.new.self ++ x) noted ∙ over.same ∙ is

pub returns-in-Ok-default-Nothing-clause-passing : goal.returns-in-Ok-default-Nothing-clause-passing
returns-in-Ok-default-Nothing-clause-passing c =
    let framer = c.self.inside.framer in
    let kept = c.in-Some.bytes.now in
    let is : framer ≡ c.args.self.now.bytes = sym (cond_false _ _ _ c.if-self.false) ∙ ap (λ (a : ArrivingState). a.bytes) c.self.view_is in
    let half : IsHalfRead framer = subst IsHalfRead (sym is) c.requires in
    let over : PassesOver framer kept c.take.new.self = passes_over framer kept c.take.new.self c.in-Ok-default-Nothing.field-0-0 half c.in-Some.ensures
    (subst (λ (part : Part). Takes framer [] c.in-Ok-default-Nothing.field-0-0 part c.take.new.self) c.in-Ok-default-Nothing.field-0-1-is
    c.in-Ok-default-Nothing.ensures.part) in
    let noted : bytes_noted c.note.new.self.calls ≡ kept = ap bytes_noted c.note.ensures ∙ ap (λ calls. bytes_noted calls ++ kept) c.new-noted.ensures in
    let same : take header_length c.take.new.self ++ bytes_noted c.note.new.self.calls ≡ c.args.self.now.bytes =
    ap (λ (x : List ℕ). take header_length c.take.new.self ++ x) noted ∙ over.same ∙ is in
    let begun = c.requires.begun in
    λ phase can untaken counted. (
      omega (arith, begun, ap (λ (x : List ℕ). length x) same),
      subst (λ (x : List ℕ). IsUntaken phase (out_in x)) (sym same) untaken,
    )
