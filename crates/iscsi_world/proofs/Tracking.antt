-- Which connections of the code are open, from one event to the next.
use Rattle.std.proofs.Common.{◌≡◌, ◌≢◌, ℕ, ◌<◌, List, [], length, true, false, not, sym, ap, ◌∙◌, arith, inl, inr}
use Rattle.std.proofs.lemmas.Bool.Decides.{eqb_tells}
use Rattle.std.proofs.lemmas.List.{length-set, get_or-set_same, get_or-set_other}
use Rattle.scsi_unit.specs.Units.{UnitStates}
use Rattle.iscsi_login.specs.Directory.{KnownTargets}
use Rattle.iscsi_world.specs.History.{Event, Open, Gone, is_among, may_come, open_after, connection_limit}
use Rattle.iscsi_world.specs.Machine.{LinkState, Machine, with_link, closed, is_free, is_open_at, free_link, opened_link, new_machine}
use Rattle.iscsi_world.specs.Runs.{MayCome, AreOpen}
use Rattle.iscsi_world.proofs.Lending.{none_linked}
use Rattle.iscsi_world.proofs.Tables.{among-gone, among-gone_other}

-- an event that may come to these open connections may come to the target
pub comes : (machine : Machine) (before : List ℕ) (event : Event) → AreOpen machine before → may_come before event ≡ true → MayCome machine event
comes machine before event open_ e = grind arith

-- at first none is open
pub none_open : (machine : Machine) (directory : KnownTargets) (units : List UnitStates) → machine ≡ new_machine directory units → AreOpen machine []
none_open machine directory units e = record {
  tracks = λ c. ap (λ (m : Machine). is_open_at m c) e ∙ ap (λ (link : LinkState). not (is_free link.phase)) (none_linked connection_limit c);
  below = λ c among. absurd cc;
}

pub opened_tracks : (machine after : Machine) (c : ℕ) (before : List ℕ) → c < connection_limit → length machine.links ≡ connection_limit
    → after ≡ with_link machine c (opened_link c) → AreOpen machine before → AreOpen after (open_after before (Open c))
opened_tracks machine after c before lt count e open_ = grind (arith, get_or-set_same, get_or-set_other)

pub fed_tracks : (machine after : Machine) (before : List ℕ) → ((d : ℕ) → is_open_at after d ≡ is_open_at machine d) → AreOpen machine before
    → AreOpen after before
fed_tracks machine after before same open_ = record { tracks = λ d. same d ∙ open_.tracks d; below = open_.below }

gone_link : (machine : Machine) (c d : ℕ) → d ≢ c → is_open_at (with_link (closed machine c) c free_link) d ≡ is_open_at machine d
unfolding closed
gone_link machine c d differ = grind (arith, get_or-set_other)

gone_here : (machine : Machine) (c : ℕ) → c < length machine.links → is_open_at (with_link (closed machine c) c free_link) c ≡ false
unfolding closed
gone_here machine c lt = grind (arith, get_or-set_same, length-set)

pub gone_tracks : (machine after : Machine) (c : ℕ) (before : List ℕ) → c < connection_limit → length machine.links ≡ connection_limit
    → after ≡ with_link (closed machine c) c free_link → AreOpen machine before → AreOpen after (open_after before (Gone c))
gone_tracks machine after c before lt count e open_ = record {
  tracks = λ d. ap (λ (m : Machine). is_open_at m d) e ∙ elim (eqb_tells d c) [
    | inl same ↦ rw same.1 (gone_here machine c (omega (arith, lt, count)) ∙ sym (among-gone c before))
    | inr differ ↦ gone_link machine c d differ.1 ∙ open_.tracks d ∙ sym (among-gone_other d c before differ.1)
  ];
  below = λ d among. elim (eqb_tells d c) [
    | inl same ↦ absurd (cc (among, ap (λ (k : ℕ). is_among k (open_after before (Gone c))) same.1, among-gone c before))
    | inr differ ↦ open_.below d (sym (among-gone_other d c before differ.1) ∙ among)
  ];
}
