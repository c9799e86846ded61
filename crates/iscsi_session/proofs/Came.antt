-- How commands came out, one after the other.
use Rattle.std.proofs.Common.{◌≡◌, ℕ, List, [], ◌∷◌, ◌++◌, length, true, false, Option, Some, refl, sym, ap, ◌∙◌, subst, arith}
use Rattle.std.specs.Prelude.{drop}
use Rattle.std.proofs.lemmas.List.{drop-drop, length-append}
use Rattle.scsi_unit.specs.CameOut.{CameOut, AsDefined}
use Rattle.scsi_unit.specs.Units.{UnitStates, AreSound}
use Rattle.iscsi_session.specs.Comings.{Coming, TargetUnits, lend, is_for, next_coming, AreAhead, ArePlain, AreOf, IsCalm, CameAs}

-- those after some of them
pub ahead_of : (a b comings : List Coming) → AreAhead (a ++ b) comings → AreAhead a comings
ahead_of [] b comings ahead = tt
ahead_of (coming ∷ a) b comings ahead = (ahead.0, ahead_of a b (drop 1 comings) ahead.1)

pub ahead_behind : (a b comings : List Coming) → AreAhead (a ++ b) comings → AreAhead b (drop (length a) comings)
ahead_behind [] b comings ahead = ahead
ahead_behind (coming ∷ a) b comings ahead = grind (arith, ahead_behind a b (drop 1 comings) ahead.1, drop-drop (length a) 1 comings)

pub left_behind : (a b comings : List Coming) → drop (length b) (drop (length a) comings) ≡ drop (length (a ++ b)) comings
left_behind a b comings = drop-drop (length b) (length a) comings ∙ ap (λ (n : ℕ). drop n comings) (sym (length-append a b))

pub plain_both : (a b : List Coming) → ArePlain a → ArePlain b → ArePlain (a ++ b)
plain_both [] b first second = second
plain_both (coming ∷ a) b first second = (first.0, plain_both a b first.1 second)

-- where no store failed, nothing need be said of how commands come out
pub plain_ahead : (came : List Coming) → ArePlain came → AreAhead came []
plain_ahead [] is = tt
plain_ahead (coming ∷ more) is = (sym is.0, plain_ahead more is.1)

for_self : (target : Option ℕ) → is_for target target ≡ true
for_self target = grind arith

-- they come out as is said of them
pub ahead_self : (came : List Coming) → AreAhead came came
ahead_self [] = tt
ahead_self (coming ∷ more) = (rw (for_self coming.target) refl, ahead_self more)

of_both : (target : Option ℕ) (a b : List Coming) → AreOf target a → AreOf target b → AreOf target (a ++ b)
of_both target [] b first second = second
of_both target (coming ∷ a) b first second = (first.0, of_both target a b first.1 second)

-- ---- what is so of a target

pub plain_calm : (target : ℕ) (came : List Coming) → ArePlain came → IsCalm target came
plain_calm target [] is = tt
plain_calm target (coming ∷ more) is = (λ named. is.0, plain_calm target more is.1)

pub calm_both : (target : ℕ) (a b : List Coming) → IsCalm target a → IsCalm target b → IsCalm target (a ++ b)
calm_both target [] b first second = second
calm_both target (coming ∷ a) b first second = (first.0, calm_both target a b first.1 second)

-- another target has none of them
pub others_calm : (own : Option ℕ) (target : ℕ) (came : List Coming) → is_for own (Some target) ≡ false → AreOf own came → IsCalm target came
others_calm own target [] other are = tt
others_calm own target (coming ∷ more) other are = grind (arith, others_calm own target more other are.1)

-- ---- calls

pub came_none : (target : Option ℕ) (Leads : TargetUnits → TargetUnits → Type 0) (units after : UnitStates)
    → ((comings : List Coming) → Leads (lend units comings) (lend after comings)) → CameAs target Leads units after
came_none target Leads units after leads = record { came = []; own = tt; leads = λ comings ahead. leads comings; plain = λ sound. tt }

pub came_one : (target : Option ℕ) (Leads : TargetUnits → TargetUnits → Type 0) (units after : UnitStates) (came : CameOut)
    → ((comings : List Coming) → next_coming target comings ≡ came → Leads (lend units comings) (lend after (drop 1 comings)))
    → (AreSound after → came ≡ AsDefined) → CameAs target Leads units after
came_one target Leads units after came leads plain = record {
  came = record { target = target; came = came } ∷ [];
  own = (refl, tt);
  leads = λ comings ahead. leads comings ahead.0;
  plain = λ sound. (plain sound, tt);
}

-- one after the other
pub came_then : (target : Option ℕ) (First Second Both : TargetUnits → TargetUnits → Type 0) (units middle after : UnitStates)
    → CameAs target First units middle → CameAs target Second middle after → (AreSound after → AreSound middle)
    → ((a b c : TargetUnits) → First a b → Second b c → Both a c) → CameAs target Both units after
came_then target First Second Both units middle after first second back joined = record {
  came = first.came ++ second.came;
  own = of_both target first.came second.came first.own second.own;
  leads = grind (arith, ahead_of, ahead_behind, left_behind);
  plain = λ sound. plain_both first.came second.came (first.plain (back sound)) (second.plain sound);
}

-- what each comes to
pub came_as : (target : Option ℕ) (Leads Other : TargetUnits → TargetUnits → Type 0) (units after : UnitStates) → CameAs target Leads units after
    → ((a b : TargetUnits) → Leads a b → Other a b) → CameAs target Other units after
came_as target Leads Other units after came also = grind arith

pub came_with : (target other : Option ℕ) (Leads : TargetUnits → TargetUnits → Type 0) (units after : UnitStates) → target ≡ other
    → CameAs target Leads units after → CameAs other Leads units after
came_with target other Leads units after same came = subst (λ (t : Option ℕ). CameAs t Leads units after) same came
