-- What was written, beside the lives in which it was.
use Rattle.std.proofs.Common.{◌≡◌, ◌≢◌, ℕ, List, [], ◌∷◌, ◌++◌, map, Bool, true, false, not, ◌&&◌, eqb, Option, Some, None, refl, sym, ap, ◌∙◌, append_assoc}
use Rattle.std.specs.Prelude.{find}
use Rattle.std.proofs.lemmas.Bool.{ne_eqb, eqb-true}
use Rattle.iscsi_target.specs.Life.{Life, Over, out_of}
use Rattle.iscsi_target.specs.World.{is_present, over}
use Rattle.iscsi_target.specs.Laws.{GoesOn, LivesGoOn}
use Rattle.iscsi_target.proofs.Choices.{and_true}
use Rattle.iscsi_target.proofs.Linked.{out-ended}
use Rattle.iscsi_ports.specs.Log.{Written, nothing_written, is_on, wrote, closed_row, bytes_in}
use Rattle.iscsi_serve.specs.Served.{IsFront, AreFronts}

-- ---- the row that is open under a number, and the life that is present

-- both are none, or the one is a front of the other
abbrev pub AreBeside : Option Written → Option Life → Type 0
AreBeside None None = Unit {0}
AreBeside (Some row) (Some life) = IsFront row life
AreBeside _ _ = ⊥

on_same : (c : ℕ) (row : Written) (life : Life) → IsFront row life → is_on c row ≡ is_present c life
on_same c row life f = ap (λ (k : ℕ). eqb k c && not row.is_closed) f.connection ∙ ap (λ (b : Bool). eqb life.connection c && not b) f.closed

beside_by : (b : Bool) (c : ℕ) (row : Written) (life : Life) (rows : List Written) (lives : List Life) → is_on c row ≡ b → is_present c life ≡ b
    → IsFront row life → AreBeside (find (is_on c) rows) (find (is_present c) lives)
    → AreBeside (find (is_on c) (row ∷ rows)) (find (is_present c) (life ∷ lives))
beside_by true c row life rows lives e g front rest = rw (e, g) front
beside_by false c row life rows lives e g front rest = rw (e, g) rest

pub found : (c : ℕ) (rows : List Written) (lives : List Life) → AreFronts rows lives → AreBeside (find (is_on c) rows) (find (is_present c) lives)
found c [] [] h = tt
found c [] (life ∷ lives) h = absurd h
found c (row ∷ rows) [] h = absurd h
found c (row ∷ rows) (life ∷ lives) h = beside_by (is_present c life) c row life rows lives (on_same c row life h.0) refl h.0 (found c rows lives h.1)

-- ---- a connection opens

pub fronts_more : (rows : List Written) (lives : List Life) (row : Written) (life : Life) → AreFronts rows lives → IsFront row life
    → AreFronts (rows ++ row ∷ []) (lives ++ life ∷ [])
fronts_more [] [] row life h front = (front, tt)
fronts_more [] (x ∷ lives) row life h front = absurd h
fronts_more (r ∷ rows) [] row life h front = absurd h
fronts_more (r ∷ rows) (x ∷ lives) row life h front = (h.0, fronts_more rows lives row life h.1 front)

found_behind : (b : Bool) (p : Written → Bool) (r row : Written) (rows : List Written) → p r ≡ b
    → bytes_in (find p (rows ++ row ∷ [])) ≡ bytes_in (find p rows) → bytes_in (find p ((r ∷ rows) ++ row ∷ [])) ≡ bytes_in (find p (r ∷ rows))
found_behind true p r row rows e rest = rw e refl
found_behind false p r row rows e rest = rw e rest

-- a row of another connection, or with nothing in it, adds no bytes
pub found_more : (p : Written → Bool) (rows : List Written) (row : Written) → bytes_in (find p (row ∷ [])) ≡ []
    → bytes_in (find p (rows ++ row ∷ [])) ≡ bytes_in (find p rows)
found_more p [] row none = none
found_more p (r ∷ rows) row none = found_behind (p r) p r row rows refl (found_more p rows row none)

nothing_by : (b : Bool) (d c : ℕ) → is_on d (nothing_written c) ≡ b → bytes_in (find (is_on d) (nothing_written c ∷ [])) ≡ []
nothing_by true d c e = rw e refl
nothing_by false d c e = rw e refl

pub nothing_in : (d c : ℕ) → bytes_in (find (is_on d) (nothing_written c ∷ [])) ≡ []
nothing_in d c = nothing_by (is_on d (nothing_written c)) d c refl

-- ---- bytes come

front_goes : (row : Written) (x y : Life) → IsFront row x → GoesOn x y → IsFront row y
front_goes row x y f goes = record {
  connection = f.connection ∙ sym goes.connection;
  closed = f.closed ∙ sym goes.over;
  front = (
    f.front.0 ++ goes.answered.0,
    goes.answered.1 ∙ ap (λ (out : List ℕ). out ++ goes.answered.0) f.front.1 ∙ append_assoc row.bytes f.front.0 goes.answered.0,
  );
}

pub fronts_go : (rows : List Written) (xs ys : List Life) → AreFronts rows xs → LivesGoOn xs ys → AreFronts rows ys
fronts_go [] [] [] h goes = tt
fronts_go [] [] (y ∷ ys) h goes = absurd goes
fronts_go [] (x ∷ xs) ys h goes = absurd h
fronts_go (row ∷ rows) [] ys h goes = absurd h
fronts_go (row ∷ rows) (x ∷ xs) [] h goes = absurd goes
fronts_go (row ∷ rows) (x ∷ xs) (y ∷ ys) h goes = (front_goes row x y h.0 goes.0, fronts_go rows xs ys h.1 goes.1)

-- ---- bytes are written

-- there is so much more to write in the life beside the row
abbrev pub HasMore : List ℕ → Option Written → Option Life → Type 0
HasMore piece (Some row) (Some life) = (more : List ℕ) × (out_of life ≡ (row.bytes ++ piece) ++ more)
HasMore piece _ _ = Unit {0}

wrote_by : (b : Bool) (c : ℕ) (piece : List ℕ) (row : Written) (life : Life) (rows : List Written) (lives : List Life) → is_on c row ≡ b
    → is_present c life ≡ b → AreFronts (row ∷ rows) (life ∷ lives)
    → HasMore piece (find (is_on c) (row ∷ rows)) (find (is_present c) (life ∷ lives))
    → (HasMore piece (find (is_on c) rows) (find (is_present c) lives) → AreFronts (wrote c piece rows) lives)
    → AreFronts (wrote c piece (row ∷ rows)) (life ∷ lives)
wrote_by true c piece row life rows lives e g h more rest =
    let here : (more : List ℕ) × (out_of life ≡ (row.bytes ++ piece) ++ more) = rw (e, g) at more in
    rw e (record { connection = h.0.connection; closed = h.0.closed; front = here }, h.1)
wrote_by false c piece row life rows lives e g h more rest =
    let there : HasMore piece (find (is_on c) rows) (find (is_present c) lives) = rw (e, g) at more in
    rw e (h.0, rest there)

pub fronts_wrote : (c : ℕ) (piece : List ℕ) (rows : List Written) (lives : List Life) → AreFronts rows lives
    → HasMore piece (find (is_on c) rows) (find (is_present c) lives) → AreFronts (wrote c piece rows) lives
fronts_wrote c piece [] [] h more = tt
fronts_wrote c piece [] (life ∷ lives) h more = absurd h
fronts_wrote c piece (row ∷ rows) [] h more = absurd h
fronts_wrote c piece (row ∷ rows) (life ∷ lives) h more =
    wrote_by (is_present c life) c piece row life rows lives (on_same c row life h.0) refl h more (λ there. fronts_wrote c piece rows lives h.1 there)

-- the bytes of the row that is open under the number, if there is one
abbrev pub with_piece : List ℕ → Option Written → List ℕ
with_piece piece None = []
with_piece piece (Some row) = row.bytes ++ piece

wrote_here_by : (b : Bool) (c : ℕ) (piece : List ℕ) (row : Written) (rows : List Written) → is_on c row ≡ b
    → bytes_in (find (is_on c) (wrote c piece rows)) ≡ with_piece piece (find (is_on c) rows)
    → bytes_in (find (is_on c) (wrote c piece (row ∷ rows))) ≡ with_piece piece (find (is_on c) (row ∷ rows))
wrote_here_by true c piece row rows e rest = rw e (rw e refl)
wrote_here_by false c piece row rows e rest = rw e (rw e rest)

pub wrote_here : (c : ℕ) (piece : List ℕ) (rows : List Written) → bytes_in (find (is_on c) (wrote c piece rows)) ≡ with_piece piece (find (is_on c) rows)
wrote_here c piece [] = refl
wrote_here c piece (row ∷ rows) = wrote_here_by (is_on c row) c piece row rows refl (wrote_here c piece rows)

-- a row of one connection is not of another
apart : (c d : ℕ) (row : Written) → d ≢ c → is_on c row ≡ true → is_on d row ≡ false
apart c d row differ e =
    let on : row.connection ≡ c = eqb-true row.connection c (and_true (eqb row.connection c) (not row.is_closed) e).0 in
    ap (λ (b : Bool). b && not row.is_closed) (ne_eqb row.connection d (λ same. differ (sym same ∙ on)))

wrote_there_by : (b : Bool) (c d : ℕ) (piece : List ℕ) (row : Written) (rows : List Written) → d ≢ c → is_on c row ≡ b
    → bytes_in (find (is_on d) (wrote c piece rows)) ≡ bytes_in (find (is_on d) rows)
    → bytes_in (find (is_on d) (wrote c piece (row ∷ rows))) ≡ bytes_in (find (is_on d) (row ∷ rows))
wrote_there_by true c d piece row rows differ e rest =
    let not_here : is_on d row ≡ false = apart c d row differ e in
    rw e (rw not_here refl)
wrote_there_by false c d piece row rows differ e rest = rw e (found_by (is_on d row) d row (wrote c piece rows) rows refl rest)
  where
    found_by : (b : Bool) (d : ℕ) (row : Written) (xs ys : List Written) → is_on d row ≡ b
        → bytes_in (find (is_on d) xs) ≡ bytes_in (find (is_on d) ys) → bytes_in (find (is_on d) (row ∷ xs)) ≡ bytes_in (find (is_on d) (row ∷ ys))
    found_by true d row xs ys e rest = rw e refl
    found_by false d row xs ys e rest = rw e rest

pub wrote_there : (c d : ℕ) (piece : List ℕ) (rows : List Written) → d ≢ c → bytes_in (find (is_on d) (wrote c piece rows)) ≡ bytes_in (find (is_on d) rows)
wrote_there c d piece [] differ = refl
wrote_there c d piece (row ∷ rows) differ = wrote_there_by (is_on c row) c d piece row rows differ refl (wrote_there c d piece rows differ)

-- ---- a connection ends

closed_by : (b : Bool) (c : ℕ) (row : Written) (life : Life) → is_on c row ≡ b → is_present c life ≡ b → IsFront row life
    → IsFront (closed_row c row) (over c life)
closed_by true c row life e g f = rw (e, g) (record { connection = f.connection; closed = refl; front = (f.front.0, out-ended life Over refl ∙ f.front.1) })
closed_by false c row life e g f = rw (e, g) f

pub fronts_closed : (c : ℕ) (rows : List Written) (lives : List Life) → AreFronts rows lives → AreFronts (map (closed_row c) rows) (map (over c) lives)
fronts_closed c [] [] h = tt
fronts_closed c [] (life ∷ lives) h = absurd h
fronts_closed c (row ∷ rows) [] h = absurd h
fronts_closed c (row ∷ rows) (life ∷ lives) h = (closed_by (is_present c life) c row life (on_same c row life h.0) refl h.0, fronts_closed c rows lives h.1)

none_by : (b : Bool) (c : ℕ) (row : Written) (rows : List Written) → is_on c row ≡ b → find (is_on c) (map (closed_row c) rows) ≡ None
    → find (is_on c) (map (closed_row c) (row ∷ rows)) ≡ None
none_by true c row rows e rest = rw e (rw (no_more (eqb row.connection c)) rest)
  where
    no_more : (b : Bool) → (b && false) ≡ false
    no_more true = refl
    no_more false = refl
none_by false c row rows e rest = rw e (rw e rest)

-- none is open under the number then
pub none_closed : (c : ℕ) (rows : List Written) → find (is_on c) (map (closed_row c) rows) ≡ None
none_closed c [] = refl
none_closed c (row ∷ rows) = none_by (is_on c row) c row rows refl (none_closed c rows)

other_by : (b : Bool) (c d : ℕ) (row : Written) → d ≢ c → is_on c row ≡ b → (is_on d (closed_row c row) ≡ is_on d row) × ((closed_row c row).bytes ≡ row.bytes)
other_by true c d row differ e =
    let here : is_on d row ≡ false = apart c d row differ e in
    let on : row.connection ≡ c = eqb-true row.connection c (and_true (eqb row.connection c) (not row.is_closed) e).0 in
    let away : eqb row.connection d ≡ false = ne_eqb row.connection d (λ same. differ (sym same ∙ on)) in
    rw e (ap (λ (b : Bool). b && false) away ∙ sym here, refl)
other_by false c d row differ e = rw e (refl, refl)

bytes_by : (b : Bool) (d : ℕ) (x y : Written) (xs ys : List Written) → is_on d x ≡ b → is_on d y ≡ b → x.bytes ≡ y.bytes
    → bytes_in (find (is_on d) xs) ≡ bytes_in (find (is_on d) ys) → bytes_in (find (is_on d) (x ∷ xs)) ≡ bytes_in (find (is_on d) (y ∷ ys))
bytes_by true d x y xs ys e g same rest = rw (e, g) same
bytes_by false d x y xs ys e g same rest = rw (e, g) rest

pub other_closed : (c d : ℕ) (rows : List Written) → d ≢ c → bytes_in (find (is_on d) (map (closed_row c) rows)) ≡ bytes_in (find (is_on d) rows)
other_closed c d [] differ = refl
other_closed c d (row ∷ rows) differ =
    let same = other_by (is_on c row) c d row differ refl in
    bytes_by (is_on d row) d (closed_row c row) row (map (closed_row c) rows) rows same.0 refl same.1 (other_closed c d rows differ)
