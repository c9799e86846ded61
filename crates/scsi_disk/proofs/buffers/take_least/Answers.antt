use Rattle.std.proofs.Common.{◌≡◌, ℕ, ◌<◌, List, length, get_or, ap, ◌∙◌, sym, arith, rules}
use Rattle.std.proofs.lemmas.List.{length-map}
use Rattle.std.specs.List.{remove}
use Rattle.scsi_disk.specs.Buffers.{rooms, IsLeast, TakesLeast}
use Rattle.scsi_disk.proofs.Rooms.{room_at, rooms_without}
use Rattle.scsi_disk.proofs.buffers.take_least.Goals as goal

-- no step is named for the place, so that another place is refused for what it is
taken_at : {X : Type 0} (room : ℕ) (kept rest : List (X × ℕ)) (at : ℕ) (taken : X × ℕ) → taken ≡ get_or kept at taken
    → rest ≡ remove kept at → at < length kept → IsLeast room (rooms kept) at
    → TakesLeast room (rooms kept) taken.1 (rooms rest)
taken_at room kept rest at taken value items within least = record {
  at = at;
  within = let all = length-map kept (λ each. each.1) in omega arith;
  had_is = ap (λ each. each.1) value ∙ sym (room_at kept at taken within);
  least = least;
  rest = ap rooms items ∙ rooms_without kept at;
}

least_of : {X : Type 0} (room : ℕ) (seen kept : List (X × ℕ)) (at : ℕ) → seen ≡ kept → IsLeast room (rooms seen) at
    → IsLeast room (rooms kept) at
least_of room seen kept at same least = rw same at least

pub returns-clause-taken : goal.returns-clause-taken
returns-clause-taken c =
    taken_at c.args.room c.args.kept.now.items _ _ c.remove.result c.remove.ensures.value c.remove.ensures.items (omega arith)
    (search (rules, least_of))
