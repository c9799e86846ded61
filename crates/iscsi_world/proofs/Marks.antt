-- What marks do: which points they name, and which a call looks at.
use Rattle.std.proofs.Common.{◌≡◌, ℕ, List, [], ◌∷◌, ◌++◌, Bool, true, false, ◌&&◌, ◌||◌, eqb, refl, ap, ◌∙◌, arith}
use Rattle.std.specs.List.{list_all}
use Rattle.std.proofs.lemmas.List.Folds.{list_any-append}
use Rattle.iscsi_session.specs.Steps.{Step, is_doing, is_serving}
use Rattle.iscsi_world.specs.History.{Point, Mark, is_point, is_same, is_within}
use Rattle.iscsi_world.specs.World.{is_marked}
use Rattle.iscsi_world.specs.Serving.{Agrees, is_of_frame, has_step, is_done_at, is_taken_at}
use Rattle.iscsi_world.proofs.Choices.{and_true, eqb_self}

-- ---- points

point_self : (a : Point) → is_point a a ≡ true
point_self a = grind arith

or_left : (a : Bool) → (a || false) ≡ a
or_left a = grind arith

pub same_self : (m : Mark) → is_same m m ≡ true
same_self m = rw (eqb_self m.connection, point_self m.point) refl

-- ---- one mark

abbrev pub mark_at : ℕ → Point → Mark
mark_at c point = record { connection = c; point = point }

pub marked_one : (c : ℕ) (point : Point) → is_marked (mark_at c point ∷ []) c point ≡ true
unfolding is_marked
marked_one c point = rw (same_self (mark_at c point)) refl

pub marked_none : (c : ℕ) (point : Point) → is_marked [] c point ≡ false
unfolding is_marked
marked_none c point = refl

pub marked_as : (c : ℕ) (a b : Point) → is_marked (mark_at c a ∷ []) c b ≡ is_point a b
unfolding is_marked
marked_as c a b = or_left (eqb c c && is_point a b) ∙ ap (λ (x : Bool). x && is_point a b) (eqb_self c)

-- ---- marks of a kind

pub marked_append : (a b : List Mark) (c : ℕ) (point : Point) → is_marked (a ++ b) c point ≡ (is_marked a c point || is_marked b c point)
unfolding is_marked
marked_append a b c point = list_any-append (λ (m : Mark). is_same m (record { connection = c; point = point })) a b

-- marks of a kind name nothing of another
pub unmarked : (kind : Mark → Bool) (marks : List Mark) (mark : Mark) → list_all kind marks ≡ true → kind mark ≡ false
    → is_marked marks mark.connection mark.point ≡ false
unfolding is_marked
unmarked kind [] mark every other = refl
unmarked kind (m ∷ marks) mark every other = grind (arith, unmarked kind marks mark)

-- two kinds that exclude one another
abbrev pub Apart : (Mark → Bool) → (Mark → Bool) → Type 0
Apart one other = (mark : Mark) → one mark ≡ true → other mark ≡ false

abbrev pub Wider : (Mark → Bool) → (Mark → Bool) → Type 0
Wider one other = (mark : Mark) → one mark ≡ true → other mark ≡ true

-- of two lists of marks of two such kinds, each kind has its own
pub agrees_left : (one two both : Mark → Bool) (marks a b : List Mark) → Apart one two → Wider one both → list_all two b ≡ true
    → Agrees both marks (a ++ b) → Agrees one marks a
agrees_left one two both marks a b apart wider of_b agree = grind (arith, marked_append, unmarked)

pub agrees_right : (one two both : Mark → Bool) (marks a b : List Mark) → Apart two one → Wider two both → list_all one a ≡ true
    → Agrees both marks (a ++ b) → Agrees two marks b
agrees_right one two both marks a b apart wider of_a agree = grind (arith, marked_append, unmarked)

pub all_wider : (one other : Mark → Bool) (marks : List Mark) → Wider one other → list_all one marks ≡ true → list_all other marks ≡ true
all_wider one other [] wider every = refl
all_wider one other (m ∷ marks) wider every = grind (arith, all_wider one other marks wider)

pub all_append : (p : Mark → Bool) (a b : List Mark) → list_all p a ≡ true → list_all p b ≡ true → list_all p (a ++ b) ≡ true
all_append p [] b x y = y
all_append p (m ∷ a) b x y = grind (arith, all_append p a b)

-- ---- the kinds

apart_steps : (a b : Bool) (point : Point) → (a && has_step is_serving point) ≡ true → (b && has_step is_doing point) ≡ false
apart_steps a b point e = grind arith

steps_apart : (a b : Bool) (point : Point) → (a && has_step is_doing point) ≡ true → (b && has_step is_serving point) ≡ false
steps_apart a b point e = grind arith

pub taken_done : (place : ℕ) → Apart (is_taken_at place) (is_done_at place)
taken_done place mark e = apart_steps (is_within place mark.point) (is_within place mark.point) mark.point e

pub done_taken : (place : ℕ) → Apart (is_done_at place) (is_taken_at place)
done_taken place mark e = steps_apart (is_within place mark.point) (is_within place mark.point) mark.point e

-- a step of a session, of either kind
abbrev any_step : Step → Bool
any_step step = true

abbrev pub is_step_at : ℕ → Mark → Bool
is_step_at place mark = is_within place mark.point && has_step any_step mark.point

wider_step : (p : Step → Bool) (a : Bool) (point : Point) → (a && has_step p point) ≡ true → (a && has_step any_step point) ≡ true
wider_step p a point e = grind arith

pub taken_step : (place : ℕ) → Wider (is_taken_at place) (is_step_at place)
taken_step place mark e = wider_step is_serving (is_within place mark.point) mark.point e

pub done_step : (place : ℕ) → Wider (is_done_at place) (is_step_at place)
done_step place mark e = wider_step is_doing (is_within place mark.point) mark.point e

pub step_within : (place : ℕ) → Wider (is_step_at place) (is_of_frame place)
step_within place mark e = (and_true (is_within place mark.point) (has_step any_step mark.point) e).0
