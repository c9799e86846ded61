use Rattle.std.proofs.Common.{◌≡◌, ℕ, ◌+◌, List, ◌++◌, length, ap, sym, ◌∙◌, arith}
use Rattle.std.proofs.lemmas.List.{length-append}
use Rattle.iscsi_pdu.specs.Frames.{Frame}
use Rattle.iscsi_transfer.specs.WriteData.{WriteDataState, blank, fault_of, with_data}
use Rattle.iscsi_transfer.proofs.Blank.{long_of, fault_same, fault_brought, with_same, brought_is, with_zeros}
use Rattle.iscsi_transfer.proofs.write_data.WriteData.accept.Goals as goal

pub accept_by-requires : goal.accept_by-requires
accept_by-requires c =
    let progress = c.self.inside.progress in
    let out = c.args.out in
    let body : c.out.inside.body.items ≡ out.body = ap (λ (f : Frame). f.body) c.out.view_is in
    record {
      lawful = fault_brought progress out _ c.len-size.result (ap (λ (f : Frame). f.header) c.out.view_is)
          (omega (arith, c.len-size.ensures, c.out.inside.body.ok.0, ap length body))
          ∙ sym (fault_same progress c.self.inside.payload out (long_of _ _ c.self.invariant))
          ∙ ap (λ (t : WriteDataState). fault_of t out) c.self.view_is
          ∙ c.requires.lawful;
    }

pub returns-clause-ok : goal.returns-clause-ok
returns-clause-ok c =
    let progress = c.self.inside.progress in
    let bytes = c.self.inside.payload in
    let out = c.args.out in
    let body : c.out.inside.body.items ≡ out.body = ap (λ (f : Frame). f.body) c.out.view_is in
    ap (λ (t : WriteDataState). record t { payload = c.push.new.self })
    (c.accept_by.ensures ∙ brought_is progress out _ _ (ap (λ (f : Frame). f.header) c.out.view_is) (omega (arith, c.len-size.ensures, c.out.inside.body.ok.0, ap length body)))
    ∙ ap (λ (xs : List ℕ). record (blank (with_data progress out)) { payload = xs }) (c.in_ok-push.ensures.ok ∙ ap (λ (xs : List ℕ). bytes ++ xs) body)
    ∙ with_same progress bytes out (long_of _ _ c.self.invariant) ∙ ap (λ (t : WriteDataState). with_data t out) c.self.view_is

pub invariant_of-self-2 : goal.invariant_of-self-2
invariant_of-self-2 c =
    let progress = c.self.inside.progress in
    let bytes = c.self.inside.payload in
    let out = c.args.out in
    let body : c.out.inside.body.items ≡ out.body = ap (λ (f : Frame). f.body) c.out.view_is in
    let long : length c.push.new.self ≡ length bytes + length out.body =
    ap length (c.in_ok-push.ensures.ok ∙ ap (λ (xs : List ℕ). bytes ++ xs) body) ∙ length-append bytes out.body in
    ap (λ (t : WriteDataState). t.payload)
    (c.accept_by.ensures ∙ brought_is progress out _ _ (ap (λ (f : Frame). f.header) c.out.view_is) (omega (arith, c.len-size.ensures, c.out.inside.body.ok.0, ap length body)))
    ∙ with_zeros progress out (length c.push.new.self) (omega (arith, long, long_of _ _ c.self.invariant))
