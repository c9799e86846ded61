-- A connection, and the units of a target, that are lent to be changed: what they were and what they are is told of the whole.
use Rattle.std.proofs.Common.{◌≡◌, ℕ, zero, suc, ◌<◌, List, [], ◌∷◌, length, set, get_or, replicate, Some, refl, sym, ap, ◌∙◌, subst, arith}
use Rattle.std.specs.Prelude.{All}
use Rattle.std.proofs.lemmas.List.{length-set, get_or-set_same}
use Rattle.std.proofs.lemmas.List.Elements.{All-set}
use Rattle.scsi_unit.specs.Units.{UnitStates}
use Rattle.iscsi_world.specs.World.{units_at}
use Rattle.iscsi_world.specs.Machine.{LinkState, Machine, IsWithin, link_at, free_link}

pub get_or_any : {X : Type 0} (xs : List X) (i : ℕ) (d e : X) → i < length xs → get_or xs i d ≡ get_or xs i e
get_or_any [] i d e lt = absurd (omega arith)
get_or_any (x ∷ xs) zero d e lt = refl
get_or_any (x ∷ xs) (suc i) d e lt = get_or_any xs i d e (omega arith)

-- where none is open
pub none_linked : (n c : ℕ) → get_or (replicate n free_link) c free_link ≡ free_link
none_linked zero c = refl
none_linked (suc n) zero = refl
none_linked (suc n) (suc c) = none_linked n c

-- the connection as it was, and as it is
pub lent_was : (links : List LinkState) (machine : Machine) (c : ℕ) (d old : LinkState) → length links ≡ 64 → c < 64 → old ≡ get_or links c d
    → links ≡ machine.links → old ≡ link_at machine c
lent_was links machine c d old count lt e same = grind (arith, get_or_any)

pub lent_is : (links : List LinkState) (c : ℕ) (new : LinkState) → length links ≡ 64 → c < 64 → new ≡ get_or (set links c new) c free_link
lent_is links c new count lt = sym (get_or-set_same links c new free_link (omega (arith, count, lt)))

-- the units
pub units_were : (all : List UnitStates) (machine : Machine) (target : ℕ) (d units : UnitStates) → target < length machine.units → all ≡ machine.units
    → units ≡ get_or all target d → units ≡ units_at (Some target) machine.units
units_were all machine target d units lt same e = grind (arith, get_or_any)

pub units_are : (all : List UnitStates) (machine : Machine) (target : ℕ) (units : UnitStates) → target < length machine.units → all ≡ machine.units
    → units ≡ get_or (set all target units) target []
units_are all machine target units lt same = sym (get_or-set_same all target units [] (omega (arith, lt, ap (λ (us : List UnitStates). length us) same)))

-- what holds of the parts of a target
abbrev pub Holds : List LinkState → List UnitStates → ℕ → Type 0
Holds links units count =
    (length links ≡ 64) × (length units ≡ count) × All (λ (link : LinkState). IsWithin (length units) link.phase) links

pub lent_holds : (links : List LinkState) (units after : List UnitStates) (count c : ℕ) (d old new : LinkState) → c < 64 → Holds links units count
    → old ≡ get_or links c d → length after ≡ length units → (IsWithin (length units) old.phase → IsWithin (length units) new.phase)
    → Holds (set links c new) after count
lent_holds links units after count c d old new lt h e same within =
    let here : c < length links = (let n = h.0 in omega (arith, lt, n)) in
    let was : IsWithin (length units) old.phase = subst (λ (l : LinkState). IsWithin (length units) l.phase) (sym e) (h.2 c d here) in (
      length-set links c new ∙ h.0,
      same ∙ h.1,
      subst (λ (k : ℕ). All (λ (l : LinkState). IsWithin k l.phase) (set links c new)) (sym same)
          (All-set (λ (l : LinkState). IsWithin (length units) l.phase) links c new (within was) h.2),
    )

-- what was found of them is so of the whole
pub lent_so : (P : LinkState → LinkState → UnitStates → UnitStates → Type 0) (old new old_is new_is : LinkState) (units after units_is after_is : UnitStates)
    → old ≡ old_is → new ≡ new_is → units ≡ units_is → after ≡ after_is → P old new units after → P old_is new_is units_is after_is
lent_so P old new old_is new_is units after units_is after_is e f g h p = grind arith
