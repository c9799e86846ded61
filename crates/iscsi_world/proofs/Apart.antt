-- What is done for a session stays within its target's part.
use Rattle.std.proofs.Common.{◌≡◌, ◌≢◌, ℕ, ◌<◌, List, [], length, Bool, true, false, Result, refl, sym, ap, ◌∙◌, subst, inl, inr, Option, Some, arith}
use Rattle.std.specs.Prelude.{◌⊎◌, slice_index_or}
use Rattle.std.proofs.lemmas.Bool.Decides.{eqb_tells}
use Rattle.std.proofs.lemmas.List.{get_or-set_other}
use Rattle.scsi_unit.specs.Units.{UnitStates}
use Rattle.iscsi_login.specs.Session.{is_same_target}
use Rattle.iscsi_world.specs.World.{with_units, changed_units}
use Rattle.iscsi_world.specs.Machine.{LinkState, Machine, KeepsApart, KeepsPart, link_at, with_link, closed, is_with, is_reading, is_closing, is_logging_in}
use Rattle.iscsi_world.specs.Serving.{ended_unless}
use Rattle.iscsi_world.specs.SessionCalls.{called}
use Rattle.iscsi_world.specs.declared.phase.Phase.{Phase}
use Rattle.iscsi_world.proofs.Moving.{link_set, link_other}

-- ---- one call after the other

pub apart_none : (target : ℕ) (machine : Machine) → KeepsApart target machine machine
apart_none target machine = record { links = λ d e. refl; units = λ at differ. refl; same = λ d e. inl e }

pub apart_then : (target : ℕ) (given now after : Machine) → KeepsApart target given now → KeepsApart target now after → KeepsApart target given after
apart_then target given now after a b = grind arith

pub apart_as : (target : ℕ) (given now after : Machine) → after ≡ now → KeepsApart target given now → KeepsApart target given after
apart_as target given now after e k = let P : Machine → Type 0 = λ m. KeepsApart target given m in subst P (sym e) k

-- ---- one connection changes

abbrev GoesOrCloses : ℕ → LinkState → Type 0
GoesOrCloses target link = (is_with target link.phase ≡ true) ⊎ (is_closing link.phase ≡ true)

apart_set : (target : ℕ) (machine : Machine) (units : List UnitStates) (c : ℕ) (link : LinkState) → c < length machine.links
    → is_with target (link_at machine c).phase ≡ true → GoesOrCloses target link
    → ((at : ℕ) → at ≢ target → slice_index_or units at [] ≡ slice_index_or machine.units at [])
    → KeepsApart target machine (record (with_link machine c link) { units = units })
apart_set target machine units c link lt own then_ others = record {
  links = λ d e. elim (eqb_tells d c) [
    | inl same ↦ absurd (cc (e, ap (λ (k : ℕ). is_with target (link_at machine k).phase) same.1, own))
    | inr differ ↦ link_other machine units c d link differ.1
  ];
  units = others;
  same = λ d e. elim (eqb_tells d c) [
    | inl same ↦ rw same.1 (subst (GoesOrCloses target) (sym (link_set machine units c link lt)) then_)
    | inr differ ↦ inl (ap (λ (l : LinkState). is_with target l.phase) (link_other machine units c d link differ.1) ∙ e)
  ];
}

-- its session's call on its target's units
others_stay : (units : UnitStates) (o : Option ℕ) (target : ℕ) (all : List UnitStates) → is_same_target o (Some target) ≡ true
    → (at : ℕ) → at ≢ target → slice_index_or (with_units o units all) at [] ≡ slice_index_or all at []
others_stay units o target all e at differ = grind (arith, get_or-set_other)

pub target_apart : (at : ℕ) (target : Option ℕ) (machine : Machine) (units : UnitStates) (c : ℕ) (link : LinkState) → c < length machine.links
    → is_same_target target (Some at) ≡ true → is_with at (link_at machine c).phase ≡ true → is_with at link.phase ≡ true
    → KeepsApart at machine (called machine c target units link)
target_apart at target machine units c link lt same own then_ =
    apart_set at machine (with_units target units machine.units) c link lt own (inl then_) (others_stay units target at machine.units same)

-- no units were touched
pub link_apart : (target : ℕ) (machine : Machine) (c : ℕ) (link : LinkState) → c < length machine.links
    → is_with target (link_at machine c).phase ≡ true → is_with target link.phase ≡ true
    → KeepsApart target machine (with_link machine c link)
link_apart target machine c link lt own then_ = apart_set target machine machine.units c link lt own (inl then_) (λ at differ. refl)

-- ---- it closes

pub closed_apart : (target : ℕ) (machine : Machine) (c : ℕ) → c < length machine.links → is_with target (link_at machine c).phase ≡ true
    → KeepsApart target machine (closed machine c)
unfolding closed changed_units
closed_apart target machine c lt own = grind (arith, apart_set, others_stay)

-- ---- one that does not go on is closed

pub ended_apart : {E : Type 0} (r : Result Bool E) (target : ℕ) (machine : Machine) (c : ℕ) → c < length machine.links
    → is_with target (link_at machine c).phase ≡ true → KeepsApart target machine (ended_unless r c machine)
ended_apart r target machine c lt own = grind (arith, apart_none, closed_apart)

-- ---- so many frames

pub part_none : (c : ℕ) (machine : Machine) → KeepsPart c machine machine
part_none c machine = λ target own. apart_none target machine

pub part_closed : (machine : Machine) (c : ℕ) → c < length machine.links → KeepsPart c machine (closed machine c)
part_closed machine c lt = λ target own. closed_apart target machine c lt own

pub part_halved : (machine : Machine) (c : ℕ) (half : List ℕ) → c < length machine.links
    → KeepsPart c machine (with_link machine c (record (link_at machine c) { half = half }))
part_halved machine c half lt = λ target own. link_apart target machine c (record (link_at machine c) { half = half }) lt own own

pub part_as : (c : ℕ) (given now after : Machine) → after ≡ now → KeepsPart c given now → KeepsPart c given after
part_as c given now after e k = λ target own. apart_as target given now after e (k target own)

pub part_then : (c : ℕ) (given now after : Machine) → is_reading (link_at now c).phase ≡ true → KeepsPart c given now → KeepsPart c now after
    → KeepsPart c given after
part_then c given now after reads a b = grind arith

no_session : (target : ℕ) (phase : Phase) → is_logging_in phase ≡ true → is_with target phase ≡ false
no_session target phase e = grind arith

-- a login is no session
pub part_login : (c : ℕ) (given after : Machine) → is_logging_in (link_at given c).phase ≡ true → KeepsPart c given after
part_login c given after logs = λ target own. absurd (cc (own, no_session target (link_at given c).phase logs))
