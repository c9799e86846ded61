-- What was found of connections, of which those are to be looked at again that were lent since.
use Rattle.std.proofs.Common.{◌≡◌, ◌≢◌, ℕ, ◌+◌, ◌<◌, ◌≤◌, List, length, set, get_or, Bool, true, false, ◌&&◌, not, sym, ap, ◌∙◌, inl, inr, arith}
use Rattle.std.specs.Prelude.{nat_lt}
use Rattle.std.proofs.lemmas.Bool.{cases_lt, lt-ltb, ltb-true}
use Rattle.std.proofs.lemmas.Bool.Decides.{eqb_tells}
use Rattle.std.proofs.lemmas.List.{get_or-set_other}
use Rattle.iscsi_connection.specs.NumberSet.{is_in}
use Rattle.iscsi_connection.specs.Connections.{IsTrueOfOthers, IsKnownOfOthers, has_to_send}
use Rattle.iscsi_world.specs.Machine.{LinkState, free_link, is_free}
use Rattle.iscsi_world.proofs.Choices.{and_true}

-- all are to be looked at
pub of_no_others : (is_so : LinkState → Bool) (all : ℕ) (links : List LinkState) → ((c : ℕ) → c < 64 → is_in all c ≡ true) → IsTrueOfOthers is_so all links
of_no_others is_so all links every = λ c lt out. (let in_it = every c lt in absurd cc)

-- one that is lent is to be looked at
pub lent_of_others : (is_so : LinkState → Bool) (old new : ℕ) (links : List LinkState) (c : ℕ) (link : LinkState)
    → is_in new c ≡ true → ((d : ℕ) → d ≢ c → is_in new d ≡ is_in old d) → IsTrueOfOthers is_so old links → IsTrueOfOthers is_so new (set links c link)
lent_of_others is_so old new links c link own others is = λ d below out. elim (eqb_tells c d) [
  | inl same ↦ (let in_it : is_in new d ≡ true = ap (λ (k : ℕ). is_in new k) (sym same.1) ∙ own in absurd cc)
  | inr differ ↦
      ap is_so (get_or-set_other links c d link free_link (λ e. differ.1 (sym e))) ∙ is d below (sym (others d (λ e. differ.1 (sym e))) ∙ out)
]

-- one of which it is true needs not be looked at
pub found_of_others : (is_so : LinkState → Bool) (old new : ℕ) (links : List LinkState) (c : ℕ)
    → is_so (get_or links c free_link) ≡ true → ((d : ℕ) → d < 64 → d ≢ c → is_in new d ≡ is_in old d) → IsTrueOfOthers is_so old links
    → IsTrueOfOthers is_so new links
found_of_others is_so old new links c own others is = λ d below out. elim (eqb_tells c d) [
  | inl same ↦ ap (λ (k : ℕ). is_so (get_or links k free_link)) (sym same.1) ∙ own
  | inr differ ↦ is d below (sym (others d below (λ e. differ.1 (sym e))) ∙ out)
]

-- ---- those that are passed over

pub passed_to : (is_so : LinkState → Bool) (others : ℕ) (links : List LinkState) (from at end : ℕ) → IsTrueOfOthers is_so others links
    → ((d : ℕ) → from ≤ d → d < at → is_so (get_or links d free_link) ≡ true) → ((d : ℕ) → at ≤ d → d < end → is_in others d ≡ false) → end ≤ 64
    → (d : ℕ) → from ≤ d → d < end → is_so (get_or links d free_link) ≡ true
passed_to is_so others links from at end is passed out le = λ d begun below. elim (cases_lt d at) [
  | inl before ↦ passed d begun before
  | inr behind ↦ is d (omega (arith, below, le)) (out d behind below)
]

pub passed_with : (is_so : LinkState → Bool) (others : ℕ) (links : List LinkState) (from at c : ℕ) → IsTrueOfOthers is_so others links
    → ((d : ℕ) → from ≤ d → d < at → is_so (get_or links d free_link) ≡ true) → ((d : ℕ) → at ≤ d → d < c → is_in others d ≡ false) → c ≤ 64
    → is_so (get_or links c free_link) ≡ true → (d : ℕ) → from ≤ d → d < c + 1 → is_so (get_or links d free_link) ≡ true
passed_with is_so others links from at c is passed out le own = λ d begun below. elim (cases_lt d c) [
  | inl before ↦ passed_to is_so others links from at c is passed out le d begun before
  | inr behind ↦ (
      let same : d ≡ c = omega (arith, below, behind) in
      ap (λ (k : ℕ). is_so (get_or links k free_link)) same ∙ own)
]

-- ---- those that are stalled

pub is_to_send : (link : LinkState) → not (is_free link.phase) ≡ true → 0 < length link.waiting → has_to_send link ≡ true
is_to_send link open_ some = ap (λ (b : Bool). b && nat_lt 0 (length link.waiting)) open_ ∙ lt-ltb 0 (length link.waiting) some

pub stalled_open : (link : LinkState) → has_to_send link ≡ true → not (is_free link.phase) ≡ true
stalled_open link e = (and_true (not (is_free link.phase)) (nat_lt 0 (length link.waiting)) e).0

pub stalled_waits : (link : LinkState) → has_to_send link ≡ true → 0 < length link.waiting
stalled_waits link e = ltb-true 0 (length link.waiting) (and_true (not (is_free link.phase)) (nat_lt 0 (length link.waiting)) e).1

-- ---- those of which it is known whether it is so

pub none_known : (is_so : LinkState → Bool) (all known : ℕ) (links : List LinkState) → ((c : ℕ) → c < 64 → is_in all c ≡ true)
    → IsKnownOfOthers is_so all known links
none_known is_so all known links every = λ c lt out. (let in_it = every c lt in absurd cc)

pub lent_of_known : (is_so : LinkState → Bool) (old new known : ℕ) (links : List LinkState) (c : ℕ) (link : LinkState)
    → is_in new c ≡ true → ((d : ℕ) → d ≢ c → is_in new d ≡ is_in old d) → IsKnownOfOthers is_so old known links
    → IsKnownOfOthers is_so new known (set links c link)
lent_of_known is_so old new known links c link own others is = λ d below out. elim (eqb_tells c d) [
  | inl same ↦ (let in_it : is_in new d ≡ true = ap (λ (k : ℕ). is_in new k) (sym same.1) ∙ own in absurd cc)
  | inr differ ↦
      is d below (sym (others d (λ e. differ.1 (sym e))) ∙ out) ∙ sym (ap is_so (get_or-set_other links c d link free_link (λ e. differ.1 (sym e))))
]
