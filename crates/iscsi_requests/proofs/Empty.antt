-- Where a slab has no request, no line has one.
use Rattle.std.proofs.Common.{◌≡◌, ℕ, zero, suc, ◌+◌, ◌<◌, List, [], ◌∷◌, map, length, get_or, cond, Option, Some, None, refl, arith}
use Rattle.std.specs.Prelude.{count_by, is_some}
use Rattle.std.proofs.lemmas.List.Sums.{sum_by-cons}
use Rattle.slab.specs.Slab.{Slab, get, slab_len}
use Rattle.iscsi_pdu.specs.Frames.{Frame}
use Rattle.iscsi_requests.specs.RequestQueue.{requests_at, held_at}

none_in : (slots : List (Option Frame)) (key : ℕ) → count_by is_some slots ≡ 0 → get_or slots key None ≡ None
none_in [] key none = refl
none_in (None ∷ slots) zero none = refl
none_in (None ∷ slots) (suc key) none = none_in slots key none
none_in (Some frame ∷ slots) key none =
    let more : count_by is_some (Some frame ∷ slots) ≡ 1 + count_by is_some slots = sum_by-cons (λ o. cond (is_some o) 1 0) (Some frame) slots in
    absurd (omega (arith, none, more))

none_at : (requests : Slab Frame) (key : ℕ) → slab_len requests ≡ 0 → get requests key ≡ None
none_at requests key none = none_in requests.slots key none

pub no_requests : (requests : Slab Frame) (keys : List ℕ) → slab_len requests ≡ 0 → requests_at requests keys ≡ []
no_requests requests [] none = refl
no_requests requests (key ∷ keys) none = grind (arith, none_at, no_requests requests keys)

pub none_held : (requests : Slab Frame) (keys : List (Option ℕ)) (k : ℕ) (d : Option Frame) → slab_len requests ≡ 0 → k < length keys
    → get_or (map (held_at requests) keys) k d ≡ None
none_held requests [] k d none within = absurd (omega arith)
none_held requests (None ∷ keys) zero d none within = refl
none_held requests (Some key ∷ keys) zero d none within = none_at requests key none
none_held requests (key ∷ keys) (suc k) d none within = none_held requests keys k d none (omega arith)
