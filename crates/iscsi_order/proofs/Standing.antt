-- What a window remembers is what is read from its past, one step further on.
use Rattle.std.proofs.Common.{◌≡◌, ◌≢◌, ℕ, suc, ◌+◌, ◌-◌, ◌^◌, ◌%◌, ◌<◌, ◌≤◌, List, [], ◌∷◌, ◌++◌, length, map, take, drop, get_or, set, Bool, true, false, not, ◌&&◌, Some, refl, sym, ap, ◌∙◌, inl, inr, arith, add-one}
use Rattle.std.specs.Prelude.{nat_lt}
use Rattle.std.specs.List.{range_with_len, prefix_len}
use Rattle.std.proofs.lemmas.Bool.{lt-ltb, le-ltb, ltb-true, false_from_ne_true}
use Rattle.std.proofs.lemmas.Bool.Decides.{eqb_tells}
use Rattle.std.proofs.lemmas.List.FromFn.{get_or-map-range_with_len}
use Rattle.iscsi_order.specs.Serial.{distance, is_at_most}
use Rattle.iscsi_order.specs.Window.{window, Past, taken, exp_cmd_sn, max_cmd_sn, in_window, index_of, has_come, is_new, next_of, arrived, handed_over, finished_one}
use Rattle.iscsi_order.specs.WindowState.{WindowState, remembered, IsLawful, Stands}
use Rattle.iscsi_order.proofs.Front.{front, front_come, front_missing}
use Rattle.iscsi_order.proofs.Serial.{at_most_is, both_ways}
use Rattle.iscsi_order.proofs.Held.{come_before, come_now, set_range, turn_range, prefix_range}

pub taken_is : (past : Past) → length (taken past) ≡ front past.came
unfolding taken
taken_is past = refl

-- what is remembered, field by field
pub record Remembers (past : Past) (next unfinished : ℕ) (held : List Bool) : Type 0 where
  pub next_is : next ≡ (past.first + past.handed) % 2 ^ 32
  pub unfinished_is : unfinished ≡ past.handed - past.finished
  pub held_is : held ≡ map (has_come past.came) (range_with_len past.handed window)

pub remembers : (past : Past) (state : WindowState) → state ≡ remembered past → Remembers past state.next state.unfinished state.held
unfolding remembered
remembers past state e = record {
  next_is = ap (λ (s : WindowState). s.next) e;
  unfinished_is = ap (λ (s : WindowState). s.unfinished) e;
  held_is = ap (λ (s : WindowState). s.held) e;
}

pub stands_by : (past : Past) (next unfinished : ℕ) (held : List Bool) → IsLawful past → Remembers past next unfinished held
    → Stands past (record { next = next; unfinished = unfinished; held = held })
unfolding remembered
stands_by past next unfinished held lawful r = record { lawful = lawful; remembered = rw (r.next_is, r.unfinished_is, r.held_is) refl }

-- whether the number at a place has come
held_at : (past : Past) (next unfinished i : ℕ) (held : List Bool) → Remembers past next unfinished held → i < window
    → get_or held i false ≡ has_come past.came (past.handed + i)
held_at past next unfinished i held r lt = rw r.held_is (get_or-map-range_with_len (has_come past.came) past.handed window i (past.handed + i) false lt refl)

-- no more are taken than the window has room for
pub front_within : (past : Past) → IsLawful past → front past.came ≤ past.finished + window
front_within past lawful = elim (eqb_tells (front past.came) 0) [
  | inl none ↦ let e = none.1 in omega arith
  | inr some ↦
      let ne = some.1 in
      let lt = lawful.within (front past.came - 1) (front_come past.came (front past.came - 1) (omega arith)) in
      omega arith
]

-- ---- a request arrives

-- a place counted from the next number that is handed over, and from the first that has not come
shift_up : (first handed front n : ℕ) → n < 2 ^ 32 → handed ≤ front → front ≤ handed + 32 → distance ((first + front) % 2 ^ 32) n < 32
    → distance ((first + handed) % 2 ^ 32) n ≡ distance ((first + front) % 2 ^ 32) n + (front - handed)
shift_up first handed front n fits le few near = omega arith

shift_down : (first handed front n : ℕ) → n < 2 ^ 32 → handed ≤ front → front ≤ handed + 32 → front - handed ≤ distance ((first + handed) % 2 ^ 32) n
    → distance ((first + front) % 2 ^ 32) n ≡ distance ((first + handed) % 2 ^ 32) n - (front - handed)
shift_down first handed front n fits le few far = omega arith

-- the window, as so many numbers from ExpCmdSN on
pub window_is : (past : Past) (n : ℕ) → IsLawful past → n < 2 ^ 32
    → in_window past n ≡ nat_lt (distance (exp_cmd_sn past) n) (past.finished + window - front past.came)
window_is past n lawful fits =
    let x = exp_cmd_sn past in
    let size = past.finished + window - front past.came in
    let le = front_within past lawful in
    let e = taken_is past in
    let finished = lawful.finished in
    let handed = lawful.handed in
    let last : max_cmd_sn past ≡ (x + size + (2 ^ 32 - 1)) % 2 ^ 32 = omega arith in
    let ends : is_at_most n (max_cmd_sn past) ≡ nat_lt (distance n ((x + size + (2 ^ 32 - 1)) % 2 ^ 32)) (2 ^ 31) = at_most_is n (max_cmd_sn past) fits
    (omega arith) ∙ ap (λ (m : ℕ). nat_lt (distance n m) (2 ^ 31)) last in
    ap (λ (b : Bool). b && is_at_most n (max_cmd_sn past)) (at_most_is x n (omega arith) fits)
    ∙ ap (λ (b : Bool). nat_lt (distance x n) (2 ^ 31) && b) ends
    ∙ both_ways x size n (omega arith) fits (omega arith)

-- the place of a number that is inside the window and has not come, and that it is new
pub record IsPlace (past : Past) (n ahead : ℕ) : Type 0 where
  pub is_new : is_new past n ≡ true
  pub place : index_of past n ≡ past.handed + ahead

new_at : (past : Past) (n ahead : ℕ) → IsLawful past → n < 2 ^ 32 → ahead ≡ distance ((past.first + past.handed) % 2 ^ 32) n
    → ahead + (past.handed - past.finished) < window → has_come past.came (past.handed + ahead) ≡ false → IsPlace past n ahead
new_at past n ahead lawful fits at near missing =
    let e = taken_is past in
    let le = front_within past lawful in
    let finished = lawful.finished in
    let handed = lawful.handed in
    let behind : past.handed + ahead < front past.came → ⊥ = λ lt. let h = front_come past.came (past.handed + ahead) lt in absurd cc in
    let far : front past.came - past.handed ≤ ahead = omega arith in
    let shifted : distance ((past.first + front past.came) % 2 ^ 32) n ≡ ahead - (front past.came - past.handed) =
    ap (λ (k : ℕ). distance ((past.first + k) % 2 ^ 32) n) refl
    ∙ shift_down past.first past.handed (front past.came) n fits (omega arith) (omega arith) (omega arith)
    ∙ ap (λ (k : ℕ). k - (front past.came - past.handed)) (sym at) in
    let same : distance (exp_cmd_sn past) n ≡ ahead - (front past.came - past.handed) = ap (λ (k : ℕ). distance ((past.first + k) % 2 ^ 32) n) e ∙ shifted in
    let place : index_of past n ≡ past.handed + ahead = omega arith in
    let inside : in_window past n ≡ true = window_is past n lawful fits
    ∙ lt-ltb (distance (exp_cmd_sn past) n) (past.finished + window - front past.came) (omega arith) in
    record {
      is_new = rw inside (ap not (ap (has_come past.came) place ∙ missing));
      place = place;
    }

-- a number outside the window, or one that has come, is not new
old_with : (past : Past) (n : ℕ) (b : Bool) → in_window past n ≡ b → (b ≡ true → has_come past.came (index_of past n) ≡ true) → is_new past n ≡ false
old_with past n false inside come = rw inside refl
old_with past n true inside come = rw (inside, come refl) refl

old_at : (past : Past) (n ahead : ℕ) → IsLawful past → n < 2 ^ 32 → ahead ≡ distance ((past.first + past.handed) % 2 ^ 32) n
    → (ahead + (past.handed - past.finished) < window → has_come past.came (past.handed + ahead) ≡ true) → is_new past n ≡ false
old_at past n ahead lawful fits at come =
    let e = taken_is past in
    let le = front_within past lawful in
    let finished = lawful.finished in
    let handed = lawful.handed in
    let d = distance (exp_cmd_sn past) n in
    let size = past.finished + window - front past.came in
    let same : d ≡ distance ((past.first + front past.came) % 2 ^ 32) n = ap (λ (k : ℕ). distance ((past.first + k) % 2 ^ 32) n) e in
    old_with past n _ refl (λ inside.
    let near : d < size = ltb-true d size (sym (window_is past n lawful fits) ∙ inside) in
    let shifted : ahead ≡ d + (front past.came - past.handed) = at
    ∙ shift_up past.first past.handed (front past.came) n fits (omega arith) (omega arith) (omega arith)
    ∙ ap (λ (k : ℕ). k + (front past.came - past.handed)) (sym same) in
    let place : index_of past n ≡ past.handed + ahead = omega arith in
    ap (has_come past.came) place ∙ come (omega arith))

-- what has come still has
come_still : (came : List ℕ) (k j : ℕ) → has_come came j ≡ true → has_come (came ++ k ∷ []) j ≡ true
come_still came k j h = elim (eqb_tells j k) [
  | inl same ↦ ap (has_come (came ++ k ∷ [])) same.1 ∙ come_now came k
  | inr differ ↦ come_before came k j differ.1 ∙ h
]

pub front_more : (came : List ℕ) (k : ℕ) → front came ≤ front (came ++ k ∷ [])
front_more came k =
    let not_less : front (came ++ k ∷ []) < front came → ⊥ = λ lt.
    let still = come_still came k (front (came ++ k ∷ [])) (front_come came (front (came ++ k ∷ [])) lt) in
    let missing = front_missing (came ++ k ∷ []) in absurd cc in
    omega arith

abbrev with_number : Past → ℕ → Past
with_number past k = record past { came = past.came ++ k ∷ [] }

pub lawful_with : (past : Past) (ahead : ℕ) → IsLawful past → ahead + (past.handed - past.finished) < window → IsLawful (with_number past (past.handed + ahead))
lawful_with past ahead lawful near =
    let k = past.handed + ahead in
    let e = taken_is past in
    let e' = taken_is (with_number past k) in
    let more = front_more past.came k in
    let finished = lawful.finished in
    let handed = lawful.handed in
    record {
      finished = lawful.finished;
      handed = omega arith;
      within = λ j come. elim (eqb_tells j k) [
        | inl same ↦ let at = same.1 in omega arith
        | inr differ ↦ lawful.within j (sym (come_before past.came k j differ.1) ∙ come)
      ];
    }

remembers_with : (past : Past) (ahead next unfinished : ℕ) (held : List Bool) → Remembers past next unfinished held → ahead < window
    → Remembers (with_number past (past.handed + ahead)) next unfinished (set held ahead true)
remembers_with past ahead next unfinished held r lt =
    let k = past.handed + ahead in
    record {
      next_is = r.next_is;
      unfinished_is = r.unfinished_is;
      held_is = ap (λ (l : List Bool). set l ahead true) r.held_is
          ∙ set_range (has_come past.came) (has_come (past.came ++ k ∷ [])) past.handed window ahead k lt refl (come_now past.came k)
          (λ j ne. come_before past.came k j ne);
    }

-- a new request arrives
pub record Arrives (past : Past) (n : ℕ) (state : WindowState) : Type 0 where
  pub is_new : is_new past n ≡ true
  pub stands : Stands (arrived past n) state

pub arrives : (past : Past) (n next unfinished : ℕ) (held : List Bool) → Stands past (record { next = next; unfinished = unfinished; held = held })
    → n < 2 ^ 32 → next < 2 ^ 32
    → (n + (2 ^ 32 - next)) % 2 ^ 32 < window - unfinished → get_or held ((n + (2 ^ 32 - next)) % 2 ^ 32) false ≡ false
    → Arrives past n (record { next = next; unfinished = unfinished; held = set held ((n + (2 ^ 32 - next)) % 2 ^ 32) true })
arrives past n next unfinished held s fits small near missing =
    let ahead = (n + (2 ^ 32 - next)) % 2 ^ 32 in
    let r = remembers past (record { next = next; unfinished = unfinished; held = held }) s.remembered in
    let same : ahead ≡ distance next n = omega arith in
    let at : ahead ≡ distance ((past.first + past.handed) % 2 ^ 32) n = same ∙ ap (λ (x : ℕ). distance x n) r.next_is in
    let e = r.unfinished_is in
    let new = new_at past n ahead s.lawful fits at (omega arith) (sym (held_at past next unfinished ahead held r (omega arith)) ∙ missing) in
    let moved : arrived past n ≡ with_number past (past.handed + ahead) = rw new.is_new (ap (with_number past) new.place) in
    record {
      is_new = new.is_new;
      stands = rw moved (stands_by (with_number past (past.handed + ahead)) next unfinished (set held ahead true)
          (lawful_with past ahead s.lawful (omega arith)) (remembers_with past ahead next unfinished held r (omega arith)));
    }

-- one that is not new leaves no trace
pub ignored : (past : Past) (n next unfinished : ℕ) (held : List Bool) → Stands past (record { next = next; unfinished = unfinished; held = held })
    → n < 2 ^ 32 → next < 2 ^ 32
    → ((n + (2 ^ 32 - next)) % 2 ^ 32 < window - unfinished → get_or held ((n + (2 ^ 32 - next)) % 2 ^ 32) false ≡ true) → is_new past n ≡ false
ignored past n next unfinished held s fits small come =
    let ahead = (n + (2 ^ 32 - next)) % 2 ^ 32 in
    let r = remembers past (record { next = next; unfinished = unfinished; held = held }) s.remembered in
    let same : ahead ≡ distance next n = omega arith in
    let at : ahead ≡ distance ((past.first + past.handed) % 2 ^ 32) n = same ∙ ap (λ (x : ℕ). distance x n) r.next_is in
    let e = r.unfinished_is in
    old_at past n ahead s.lawful fits at (λ near. sym (held_at past next unfinished ahead held r (omega arith)) ∙ come (omega arith))

-- ---- the next number is handed over

-- it has come exactly where more are taken
pub none_taken : (past : Past) (next unfinished : ℕ) (held : List Bool) → Stands past (record { next = next; unfinished = unfinished; held = held })
    → get_or held 0 false ≡ false → nat_lt past.handed (length (taken past)) ≡ false
none_taken past next unfinished held s none =
    let r = remembers past (record { next = next; unfinished = unfinished; held = held }) s.remembered in
    let e = taken_is past in
    let here : past.handed + 0 ≡ past.handed = omega arith in
    let missing : has_come past.came past.handed ≡ false = ap (has_come past.came) (sym here) ∙ sym (held_at past next unfinished 0 held r (omega arith))
    ∙ none in
    let not_more : past.handed < front past.came → ⊥ = λ lt. let come = front_come past.came past.handed lt in absurd cc in
    le-ltb past.handed (length (taken past)) (omega arith)

-- the next one is handed over
pub record Hands (past : Past) (next : ℕ) (state : WindowState) : Type 0 where
  pub number : next_of past ≡ Some next
  pub stands : Stands (handed_over past) state

pub hands : (past : Past) (next unfinished : ℕ) (held : List Bool) → Stands past (record { next = next; unfinished = unfinished; held = held })
    → get_or held 0 false ≡ true
    → Hands past next (record { next = (next + 1) % 2 ^ 32; unfinished = unfinished + 1; held = drop 1 (set held 0 false) ++ take 1 (set held 0 false) })
hands past next unfinished held s first =
    let r = remembers past (record { next = next; unfinished = unfinished; held = held }) s.remembered in
    let e = taken_is past in
    let finished = s.lawful.finished in
    let handed = s.lawful.handed in
    let here : past.handed + 0 ≡ past.handed = omega arith in
    let come : has_come past.came past.handed ≡ true = ap (has_come past.came) (sym here) ∙ sym (held_at past next unfinished 0 held r (omega arith)) ∙ first in
    let not_front : past.handed ≢ front past.came = λ same. let missing = ap (has_come past.came) same ∙ front_missing past.came in absurd cc in
    let more : nat_lt past.handed (length (taken past)) ≡ true = lt-ltb past.handed (length (taken past)) (omega arith) in
    let after = record past { handed = suc past.handed } in
    let moved : handed_over past ≡ after = rw more refl in
    let beyond : has_come past.came (past.handed + suc 31) ≡ false = false_from_ne_true (has_come past.came (past.handed + suc 31))
    (λ h. let lt = s.lawful.within (past.handed + suc 31) h in absurd (omega arith)) in
    let turned : drop 1 (set held 0 false) ++ take 1 (set held 0 false) ≡ map (has_come past.came) (range_with_len (past.handed + 1) window) =
    ap (λ (l : List Bool). drop 1 (set l 0 false) ++ take 1 (set l 0 false)) r.held_is ∙ turn_range (has_come past.came) past.handed 31 beyond in
    let lawful : IsLawful after = record { finished = omega arith; handed = omega (arith, taken_is after); within = s.lawful.within } in
    let remembers : Remembers after ((next + 1) % 2 ^ 32) (unfinished + 1) (drop 1 (set held 0 false) ++ take 1 (set held 0 false)) = record {
      next_is = omega (arith, r.next_is);
      unfinished_is = omega (arith, r.unfinished_is);
      held_is = turned ∙ ap (λ (k : ℕ). map (has_come past.came) (range_with_len k window)) (add-one past.handed);
    } in
    record {
      number = rw more (ap Some (sym r.next_is));
      stands = rw moved (stands_by after ((next + 1) % 2 ^ 32) (unfinished + 1) (drop 1 (set held 0 false) ++ take 1 (set held 0 false)) lawful remembers);
    }

-- ---- a request is finished

pub finishes : (past : Past) (next unfinished : ℕ) (held : List Bool) → Stands past (record { next = next; unfinished = unfinished; held = held })
    → 0 < unfinished
    → Stands (finished_one past) (record { next = next; unfinished = unfinished - 1; held = held })
finishes past next unfinished held s some =
    let r = remembers past (record { next = next; unfinished = unfinished; held = held }) s.remembered in
    let after = finished_one past in
    let e = r.unfinished_is in
    let lawful : IsLawful after = record {
      finished = omega arith;
      handed = (let handed = s.lawful.handed
          in omega (arith, taken_is past, taken_is after));
      within = λ k come. let lt = s.lawful.within k come in omega arith;
    } in
    stands_by after next (unfinished - 1) held lawful (record { next_is = r.next_is; unfinished_is = omega arith; held_is = r.held_is })

-- where fewer are finished than were handed over, one is unfinished
pub some_unfinished : (past : Past) (next unfinished : ℕ) (held : List Bool) → Stands past (record { next = next; unfinished = unfinished; held = held })
    → past.finished < past.handed → 0 < unfinished
some_unfinished past next unfinished held s fewer =
    let e = (remembers past (record { next = next; unfinished = unfinished; held = held }) s.remembered).unfinished_is in
    omega arith

-- ---- ExpCmdSN and MaxCmdSN

pub expected : (past : Past) (next unfinished : ℕ) (held : List Bool) → Stands past (record { next = next; unfinished = unfinished; held = held })
    → (next + prefix_len (λ is_held. is_held) held) % 2 ^ 32 ≡ exp_cmd_sn past
expected past next unfinished held s =
    let r = remembers past (record { next = next; unfinished = unfinished; held = held }) s.remembered in
    let e = taken_is past in
    let le = front_within past s.lawful in
    let finished = s.lawful.finished in
    let handed = s.lawful.handed in
    let at : past.handed + (front past.came - past.handed) ≡ front past.came = omega arith in
    let ahead : prefix_len (λ is_held. is_held) held ≡ front past.came - past.handed =
    ap (prefix_len (λ is_held. is_held)) r.held_is
    ∙ prefix_range (has_come past.came) past.handed window (front past.came - past.handed) (omega arith) (λ j lt. front_come past.came j (omega arith))
    (λ lt. ap (has_come past.came) at ∙ front_missing past.came) in
    omega (arith, r.next_is, ahead)

pub last : (past : Past) (next unfinished : ℕ) (held : List Bool) → Stands past (record { next = next; unfinished = unfinished; held = held })
    → unfinished ≤ window
    → ((next + (window - unfinished)) % 2 ^ 32 + (2 ^ 32 - 1)) % 2 ^ 32 ≡ max_cmd_sn past
last past next unfinished held s few =
    let r = remembers past (record { next = next; unfinished = unfinished; held = held }) s.remembered in
    let finished = s.lawful.finished in
    omega (arith, r.next_is, r.unfinished_is)
