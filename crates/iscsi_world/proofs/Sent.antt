-- What waits on a connection is sent in parts.
use Rattle.std.proofs.Common.{◌≡◌, ℕ, ◌+◌, ◌<◌, List, length, set, get_or, take, Option, ap, ◌∙◌, arith, ◌≤◌, set-set, drop-drop, get_or-set_same}
use Rattle.std.proofs.lemmas.List.{set-get_or, length-drop, length-take}
use Rattle.std.specs.Prelude.{All}
use Rattle.scsi_unit.specs.Units.{UnitStates}
use Rattle.iscsi_world.specs.Machine.{LinkState, Machine, IsWithin, link_at, with_link, sent_link, free_link, target_in}
use Rattle.iscsi_login.specs.LoginState.{IsTargetBelow}

-- with so many bytes sent
abbrev pub with_part : Machine → ℕ → ℕ → Machine
with_part machine c n = with_link machine c (sent_link (link_at machine c) n)

pub sent_none : (machine : Machine) (c : ℕ) → with_part machine c 0 ≡ machine
sent_none machine c = ap (λ (links : List LinkState). let m : Machine = record machine { links = links } in m) (set-get_or machine.links c free_link)

pub sent_more : (machine : Machine) (c k n : ℕ) → c < length machine.links → with_part (with_part machine c k) c n ≡ with_part machine c (k + n)
sent_more machine c k n lt =
    let link = link_at machine c in
    let there : link_at (with_part machine c k) c ≡ sent_link link k = get_or-set_same machine.links c (sent_link link k) free_link lt in
    ap (λ (l : LinkState). with_link (with_part machine c k) c (sent_link l n)) there
    ∙ ap (λ (links : List LinkState). let m : Machine = record machine { links = links } in m)
    (set-set machine.links c (sent_link link k) (sent_link (sent_link link k) n))
    ∙ ap (λ (bytes : List ℕ). let l : LinkState = record link { waiting = bytes } in with_link machine c l) (drop-drop n k link.waiting)

-- so many of them were sent, and those are left
pub still_wait : (machine now : Machine) (c k unsent n : ℕ) → c < length machine.links → k + unsent ≡ n → now ≡ with_part machine c k
    → n ≤ length (link_at machine c).waiting → unsent ≤ length (link_at now c).waiting
still_wait machine now c k unsent n lt sum is waits =
    let link = link_at machine c in
    let there : link_at now c ≡ sent_link link k =
    ap (λ (m : Machine). link_at m c) is ∙ get_or-set_same machine.links c (sent_link link k) free_link lt in
    omega (arith, sum, waits, ap (λ (l : LinkState). length l.waiting) there, length-drop k link.waiting)

-- more of them
pub sent_next : (machine now skipped after : Machine) (c k step : ℕ) → c < length machine.links → now ≡ with_part machine c k
    → skipped ≡ with_part now c step → after ≡ skipped → after ≡ with_part machine c (k + step)
sent_next machine now skipped after c k step lt is more same = grind (arith, sent_more)

-- what is offered is no longer than what waits
pub front_within : (front waiting : List ℕ) → front ≡ take (length front) waiting → length front ≤ length waiting
front_within front waiting is = omega (arith, ap (λ (xs : List ℕ). length xs) is, length-take (length front) waiting)

-- ---- the units of its target

-- the target of a connection's session is there
pub target_below : (links : List LinkState) (count c : ℕ) (target : Option ℕ) → target ≡ target_in (get_or links c free_link).phase
    → length links ≡ 64 → c < 64 → All (λ (link : LinkState). IsWithin count link.phase) links → IsTargetBelow count target
target_below links count c target is long lt within = grind arith

-- the same units in their place
pub same_units : (all : List UnitStates) (target : ℕ) (units other : UnitStates) → units ≡ get_or all target other → set all target units ≡ all
same_units all target units other is = ap (set all target) is ∙ set-get_or all target other
