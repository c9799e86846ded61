-- The pages of a list, one after the other.
use Rattle.std.proofs.Common.{◌≡◌, ℕ, zero, suc, ◌≤◌, List, length, take, drop, Bool, true, false, nat_le, eqb, Some, None, Result, Ok, Err, refl, sym, ◌∙◌, inl, inr, arith, length-drop}
use Rattle.std.proofs.lemmas.Bool.{eqb-true, ne_eqb, leb-true, and_parts, cases_Bool}
use Rattle.scsi_mode.specs.declared.list_fault.ListFault.{ListFault}
use Rattle.scsi_mode.specs.declared.list_fault.ListFault.TheVariants.{EndsEarly}
use Rattle.scsi_mode.specs.ParameterList.{after_page, page_length, has_page, page_if, and_then, pages_within, after_pages}
use Rattle.scsi_mode.specs.declared.parameters.Parameters.{Parameters}

-- a whole page is in the list, and has two bytes at least
pub record IsWhole (bytes : List ℕ) : Type 0 where
  pub some : 2 ≤ page_length bytes
  pub within : page_length bytes ≤ length bytes

has_page-true : (bytes : List ℕ) → has_page bytes ≡ true → IsWhole bytes
unfolding has_page
has_page-true bytes whole =
    let both = and_parts (nat_le 2 (length bytes)) (nat_le (page_length bytes) (length bytes)) whole in
    record { some = omega arith; within = leb-true _ _ both.1 }

pages_within-none : (n : ℕ) (parameters : Parameters) (bytes : List ℕ) → length bytes ≡ 0 → pages_within n parameters bytes ≡ Ok parameters
pages_within-none zero parameters bytes none = refl
pages_within-none (suc n) parameters bytes none = rw none refl

-- what two functions make alike of each Ok
and_then_same : (f g : Parameters → Result Parameters ListFault) (after : Result Parameters ListFault)
    → ((parameters : Parameters) → f parameters ≡ g parameters) → and_then f after ≡ and_then g after
and_then_same f g (Ok parameters) same = same parameters
and_then_same f g (Err fault) same = refl

-- a whole page in front, then what is after it
pages_within-whole : (n : ℕ) (parameters : Parameters) (bytes : List ℕ) → has_page bytes ≡ true
    → pages_within (suc n) parameters bytes
    ≡ and_then (λ after. pages_within n after (drop (page_length bytes) bytes)) (after_page parameters (take (page_length bytes) bytes))
pages_within-whole n parameters bytes whole =
    let is = has_page-true bytes whole in
    let some : eqb (length bytes) 0 ≡ false = ne_eqb _ _ (λ none. omega (arith, none, is.some, is.within)) in
    rw (some, whole) refl

-- as much fuel as there are bytes is enough
pages_within-enough : (n m : ℕ) (parameters : Parameters) (bytes : List ℕ) → length bytes ≤ n → length bytes ≤ m
    → pages_within n parameters bytes ≡ pages_within m parameters bytes
pages_within-enough zero m parameters bytes p q = sym (pages_within-none m parameters bytes (omega arith))
pages_within-enough (suc n) zero parameters bytes p q = pages_within-none (suc n) parameters bytes (omega arith)
pages_within-enough (suc n) (suc m) parameters bytes p q =
    elim (cases_Bool (has_page bytes)) [
      | inl whole ↦
          let is = has_page-true bytes whole in
          let shorter = length-drop (page_length bytes) bytes in
          let same = and_then_same (λ (after : Parameters). pages_within n after (drop (page_length bytes) bytes))
          (λ (after : Parameters). pages_within m after (drop (page_length bytes) bytes))
          (after_page parameters (take (page_length bytes) bytes))
          (λ after. pages_within-enough n m after (drop (page_length bytes) bytes) (omega (arith, shorter, is.some, is.within))
          (omega (arith, shorter, is.some, is.within))) in
          pages_within-whole n parameters bytes whole ∙ same ∙ sym (pages_within-whole m parameters bytes whole)
      | inr broken ↦ rw broken refl
    ]

-- what stands in front, by what was found there
pub record IsInFront (bytes : List ℕ) (k : ℕ) : Type 0 where
  pub whole : has_page bytes ≡ true
  pub long : k ≡ page_length bytes

page_if-Some : (bytes : List ℕ) (k : ℕ) → page_if bytes ≡ Some k → IsInFront bytes k
page_if-Some bytes k found = by_test (has_page bytes) refl
  where
    by_test : (whole : Bool) → has_page bytes ≡ whole → IsInFront bytes k
    by_test true whole = let long : k ≡ page_length bytes = cc (found, whole) in record { whole = whole; long = long }
    by_test false broken = absurd (cc (found, broken))

page_if-None : (bytes : List ℕ) → page_if bytes ≡ None → has_page bytes ≡ false
page_if-None bytes none = by_test (has_page bytes) refl
  where
    by_test : (whole : Bool) → has_page bytes ≡ whole → has_page bytes ≡ false
    by_test true whole = absurd (cc (none, whole))
    by_test false broken = broken

-- nothing is left
pub after_none : (parameters : Parameters) (bytes : List ℕ) → eqb (length bytes) 0 ≡ true → after_pages parameters bytes ≡ Ok parameters
unfolding after_pages
after_none parameters bytes none = pages_within-none (length bytes) parameters bytes (eqb-true _ _ none)

-- a whole page is in front
pub after_whole : (parameters : Parameters) (bytes : List ℕ) (k : ℕ) (after : Result Parameters ListFault) → page_if bytes ≡ Some k
    → after ≡ after_page parameters (take k bytes)
    → after_pages parameters bytes ≡ and_then (λ s. after_pages s (drop k bytes)) after
unfolding after_pages
after_whole parameters bytes k after found is_after =
    let front = page_if-Some bytes k found in
    let is = has_page-true bytes front.whole in
    let shorter = length-drop (page_length bytes) bytes in
    let same = and_then_same (λ (s : Parameters). pages_within (length bytes) s (drop (page_length bytes) bytes))
    (λ (s : Parameters). pages_within (length (drop (page_length bytes) bytes)) s (drop (page_length bytes) bytes))
    (after_page parameters (take (page_length bytes) bytes))
    (λ s. pages_within-enough (length bytes) (length (drop (page_length bytes) bytes)) s (drop (page_length bytes) bytes)
    (omega (arith, shorter, is.some, is.within)) (omega arith)) in
    rw (is_after, front.long)
    (pages_within-enough (length bytes) (suc (length bytes)) parameters bytes (omega arith) (omega arith)
    ∙ pages_within-whole (length bytes) parameters bytes front.whole ∙ same)

-- what is in front ends early
pub after_broken : (parameters : Parameters) (bytes : List ℕ) → eqb (length bytes) 0 ≡ false → page_if bytes ≡ None
    → after_pages parameters bytes ≡ Err EndsEarly
unfolding after_pages
after_broken parameters bytes some none =
    let broken = page_if-None bytes none in
    pages_within-enough (length bytes) (suc (length bytes)) parameters bytes (omega arith) (omega arith) ∙ rw (some, broken) refl
