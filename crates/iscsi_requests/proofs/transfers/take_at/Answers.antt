use Rattle.std.proofs.Common.{◌≡◌, ℕ, ◌+◌, ◌-◌, ◌++◌, List, suc, length, take, get_or, Some, refl, sym, ap, ◌∙◌, arith, append-nil, remove}
use Rattle.std.proofs.lemmas.List.{drop_all}
use Rattle.std.proofs.lemmas.Option.{slice_get-get_or, slice_get_read}
use Rattle.iscsi_requests.specs.State.{no_transfer}
use Rattle.iscsi_requests.specs.declared.transfers.Transfer.{Transfer}
use Rattle.iscsi_requests.proofs.transfers.take_at.Goals as goal

last_out : (list : List Transfer) (place : ℕ) → place + 1 ≡ length list → take place list ≡ remove list place
last_out list place last =
    sym (ap (λ (l : List Transfer). take place list ++ l) (drop_all (suc place) list (omega arith)) ∙ append-nil (take place list))

pub returns : goal.returns
returns c = record { rest = c.remove.ensures.items; taken = sym (slice_get_read _ _ _ _ refl c.requires c.remove.ensures.value) }

pub returns-then-place-len : goal.returns-then-place-len
returns-then-place-len c =
    let list = c.args.list.now in
    let last : list.len - 1 ≡ c.args.place = omega arith in
    record {
      rest = c.pop.ensures.rest ∙ ap (λ (n : ℕ). take n list.items) last ∙ last_out list.items c.args.place (omega (arith, list.ok.0));
      taken = c.pop.ensures.value no_transfer (omega arith) ∙ ap (λ (n : ℕ). Some (get_or list.items n no_transfer)) last
          ∙ sym (slice_get-get_or list.items c.args.place no_transfer c.requires);
    }
