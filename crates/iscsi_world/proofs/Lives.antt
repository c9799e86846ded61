-- The present life of one connection changes, and those of the others do not.
use Rattle.std.proofs.Common.{◌≡◌, ◌≢◌, ℕ, List, [], ◌∷◌, ◌++◌, map, true, false, Option, Some, None, refl, ap, ◌∙◌, arith}
use Rattle.std.specs.Prelude.{◌⊎◌, find}
use Rattle.std.proofs.lemmas.List.Folds.{find-append}
use Rattle.iscsi_pdu.specs.Frames.{Frame}
use Rattle.iscsi_pdu.specs.declared.answer.Answer.{Answer}
use Rattle.iscsi_login.specs.declared.session_params.SessionParams.{SessionParams}
use Rattle.iscsi_session.specs.Requests.{Past}
use Rattle.iscsi_world.specs.Life.{Life, Closing, born, is_over, ended_in}
use Rattle.iscsi_world.specs.World.{World, is_present, present, changed_first, changed, over, end, answered, asked, begun, with_past, longer}

pub some_is : (x y : Life) → Some x ≡ Some y → x ≡ y
some_is x y e = cc

abbrev found : ℕ → List Life → Option Life
found c lives = find (is_present c) lives

-- what f makes of a life stays on its connection
abbrev pub Stays : (Life → Life) → Type 0
Stays f = (life : Life) → (f life).connection ≡ life.connection

-- .. and open
pub record IsPlaced (f : Life → Life) : Type 0 where
  pub on : Stays f
  pub stays : (c : ℕ) (life : Life) → is_present c life ≡ true → is_present c (f life) ≡ true

pub open_placed : (f : Life → Life) → Stays f → ((life : Life) → is_over (f life).phase ≡ false) → IsPlaced f
open_placed f on open_ = grind arith

pub ended_placed : IsPlaced (ended_in Closing)
ended_placed = open_placed (ended_in Closing) (λ life. refl) (λ life. refl)

pub begun_placed : (session : SessionParams) (answer : Answer) → IsPlaced (begun session answer)
begun_placed session answer = open_placed (begun session answer) (λ life. refl) (λ life. refl)

pub worked_placed : (past : Past) → IsPlaced (with_past past)
worked_placed past = open_placed (with_past past) (λ life. refl) (λ life. refl)

pub answered_placed : (answer : Answer) → IsPlaced (answered answer)
answered_placed answer = record { on = λ life. refl; stays = λ c life is. is }

pub asked_placed : (request : Frame) → IsPlaced (asked request)
asked_placed request = record { on = λ life. refl; stays = λ c life is. is }

pub longer_placed : (piece : List ℕ) → IsPlaced (longer piece)
longer_placed piece = record { on = λ life. refl; stays = λ c life is. is }

-- ---- the connection itself

changed_here : (f : Life → Life) (c : ℕ) (lives : List Life) (life : Life) → found c lives ≡ Some life → is_present c (f life) ≡ true
    → found c (changed_first (is_present c) f lives) ≡ Some (f life)
changed_here f c [] life e here = absurd cc
changed_here f c (x ∷ lives) life e here = grind (arith, changed_here f c lives life)

pub present-changed : (f : Life → Life) (c : ℕ) (w : World) (life : Life) → present c w ≡ Some life → is_present c (f life) ≡ true
    → present c (changed f c w) ≡ Some (f life)
unfolding present changed
present-changed f c w life e here = changed_here f c w.lives life e here

-- a present life is on its connection
found_is : (c : ℕ) (lives : List Life) (life : Life) → found c lives ≡ Some life → is_present c life ≡ true
found_is c [] life e = absurd cc
found_is c (x ∷ lives) life e = grind (arith, found_is c lives life)

pub present_is : (c : ℕ) (w : World) (life : Life) → present c w ≡ Some life → is_present c life ≡ true
unfolding present
present_is c w life e = found_is c w.lives life e

pub present-placed : (f : Life → Life) → IsPlaced f → (c : ℕ) (w : World) (life : Life) → present c w ≡ Some life → present c (changed f c w) ≡ Some (f life)
present-placed f placed c w life e = present-changed f c w life e (placed.stays c life (present_is c w life e))

-- where there is none
pub changed_none : (f : Life → Life) (c : ℕ) (lives : List Life) → found c lives ≡ None → changed_first (is_present c) f lives ≡ lives
changed_none f c [] none = refl
changed_none f c (x ∷ lives) none = grind (arith, changed_none f c lives)

pub present-changed_none : (f : Life → Life) (c : ℕ) (w : World) → present c w ≡ None → present c (changed f c w) ≡ None
unfolding present changed
present-changed_none f c w at = ap (found c) (changed_none f c w.lives at) ∙ at

-- the life that is present then is f of the one before
pub present-was : (f : Life → Life) (c : ℕ) (w : World) (then_ : Life) → IsPlaced f → present c (changed f c w) ≡ Some then_
    → (life : Life) × (present c w ≡ Some life) × (f life ≡ then_)
present-was f c w then_ placed at = grind (arith, present-changed_none, present-placed)

pub changed_twice : (f g : Life → Life) (c : ℕ) (lives : List Life) → IsPlaced f
    → changed_first (is_present c) g (changed_first (is_present c) f lives) ≡ changed_first (is_present c) (λ life. g (f life)) lives
changed_twice f g c [] placed = refl
changed_twice f g c (x ∷ lives) placed = grind (arith, changed_twice f g c lives placed)

pub on_connection : (c : ℕ) (life : Life) → is_present c life ≡ true → life.connection ≡ c
on_connection c life e = grind arith

-- ---- the others

changed_other : (f : Life → Life) (c d : ℕ) (lives : List Life) → Stays f → d ≢ c → found d (changed_first (is_present c) f lives) ≡ found d lives
changed_other f c d [] stays differ = refl
changed_other f c d (x ∷ lives) stays differ = grind (arith, changed_other f c d lives stays differ)

pub present-changed_other : (f : Life → Life) (c d : ℕ) (w : World) → Stays f → d ≢ c → present d (changed f c w) ≡ present d w
unfolding present changed
present-changed_other f c d w stays differ = changed_other f c d w.lives stays differ

-- ---- a life that is over

all_over : (c : ℕ) (lives : List Life) → found c (map (over c) lives) ≡ None
all_over c [] = refl
all_over c (x ∷ lives) = grind (arith, all_over c lives)

pub present-end : (c : ℕ) (w : World) → present c (end c w) ≡ None
unfolding present end
present-end c w = all_over c w.lives

end_other : (c d : ℕ) (lives : List Life) → d ≢ c → found d (map (over c) lives) ≡ found d lives
end_other c d [] differ = refl
end_other c d (x ∷ lives) differ = grind (arith, end_other c d lives)

pub present-end_other : (c d : ℕ) (w : World) → d ≢ c → present d (end c w) ≡ present d w
unfolding present end
present-end_other c d w differ = end_other c d w.lives differ

-- ---- a life that begins

born_found : (c : ℕ) (lives : List Life) → found c lives ≡ None → found c (lives ++ born c ∷ []) ≡ Some (born c)
born_found c lives e = grind (arith, find-append)

pub present-born : (c : ℕ) (w : World) → present c w ≡ None → present c (record w { lives = w.lives ++ born c ∷ [] }) ≡ Some (born c)
unfolding present
present-born c w e = born_found c w.lives e

born_other : (c d : ℕ) (lives : List Life) → d ≢ c → found d (lives ++ born c ∷ []) ≡ found d lives
born_other c d lives differ = grind (arith, find-append)

pub present-born_other : (c d : ℕ) (w : World) → d ≢ c → present d (record w { lives = w.lives ++ born c ∷ [] }) ≡ present d w
unfolding present
present-born_other c d w differ = born_other c d w.lives differ

pub found_born : (c d : ℕ) (lives : List Life) (life : Life) → found d (lives ++ born c ∷ []) ≡ Some life → (found d lives ≡ Some life) ⊎ (born c ≡ life)
found_born c d lives life e = grind (arith, find-append)

-- ---- only the lives count

pub present-lives : (c : ℕ) (w v : World) → w.lives ≡ v.lives → present c w ≡ present c v
unfolding present
present-lives c w v e = ap (found c) e
