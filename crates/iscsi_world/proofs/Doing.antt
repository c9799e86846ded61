-- Calls one after the other: what each of them does, and what they do together.
use Rattle.std.proofs.Common.{◌≡◌, ℕ, List, [], ◌∷◌, ◌++◌, length, Bool, true, Option, None, refl, sym, ap, ◌∙◌, subst, append_assoc, arith}
use Rattle.std.specs.Prelude.{drop}
use Rattle.std.specs.List.{list_all}
use Rattle.std.proofs.Math.Seq.{drop-append_seam}
use Rattle.iscsi_session.specs.Comings.{AreAhead}
use Rattle.iscsi_session.proofs.Came.{ahead_of, ahead_behind, left_behind, plain_both, calm_both}
use Rattle.iscsi_world.specs.History.{Mark}
use Rattle.iscsi_world.specs.World.{Setting, World}
use Rattle.iscsi_world.specs.Machine.{Machine, ReflectsSoundness}
use Rattle.iscsi_world.specs.Stands.{stand_in, Begins}
use Rattle.iscsi_world.specs.Serving.{Serves, Agrees, ActsAs, first_of, reached_since}
use Rattle.iscsi_world.proofs.Reflected.{sound_back}
use Rattle.iscsi_world.proofs.Marks.{Apart, Wider, agrees_left, agrees_right, all_wider, all_append}
use Rattle.iscsi_world.proofs.Keeping.{Prolongs}

abbrev pub Act : Type 0
Act = Setting → List Mark → ℕ → World → World

abbrev pub Halves : Type 0
Halves = (ℕ → List ℕ) → ℕ → List ℕ

-- ---- which connection was closed first

pub begins_both : (a b : Option ℕ) (xs ys : List Mark) → Begins a xs → Begins b ys → Begins (first_of a b) (xs ++ ys)
begins_both a b xs ys none h = grind arith

-- ---- what was reached, one after the other

fewer : (ys : List Mark) (m : Mark) (marks : List Mark) → stand_in (m ∷ marks) ys ≡ true → stand_in marks ys ≡ true
fewer [] m marks h = absurd cc
fewer (y ∷ ys) m [] h = refl
fewer (y ∷ ys) m (n ∷ marks) h = grind (arith, fewer ys m (n ∷ marks), fewer ys n marks)

-- marks that stand among points stand among one more
one_more : (y : Mark) (ys marks : List Mark) → stand_in marks ys ≡ true → stand_in marks (y ∷ ys) ≡ true
one_more y ys [] h = refl
one_more y ys (m ∷ marks) h = grind (arith, fewer ys m marks)

pub in_order : (a b xs ys : List Mark) → stand_in a xs ≡ true → stand_in b ys ≡ true → stand_in (a ++ b) (xs ++ ys) ≡ true
in_order [] b [] ys h g = g
in_order (m ∷ a) b [] ys h g = absurd cc
in_order [] b (x ∷ xs) ys h g = one_more x (xs ++ ys) b (in_order [] b xs ys refl g)
in_order (m ∷ a) b (x ∷ xs) ys h g = grind (arith, in_order a b xs ys, in_order (m ∷ a) b xs ys)

pub since : (w v : World) (g : Prolongs w v) → reached_since w v ≡ g.reached.0
since w v g = ap (drop (length w.reached)) g.reached.1 ∙ drop-append_seam w.reached g.reached.0

-- in one World, and then in the next
pub reached_both : (a b : List Mark) (w v u : World) → Prolongs w v → Prolongs v u → stand_in a (reached_since w v) ≡ true → stand_in b (reached_since v u) ≡ true
    → stand_in (a ++ b) (reached_since w u) ≡ true
reached_both a b w v u first second h g = grind (arith, append_assoc, drop-append_seam, in_order)

-- ---- one call

-- nothing failed, and no command was done
pub does_nothing : (kind : ℕ → Mark → Bool) (act : Act) (halves : Halves) (given after : Machine)
    → ((s : Setting) (sent : ℕ → ℕ) (half : ℕ → List ℕ) (w : World) (place : ℕ) (marks : List Mark)
    → Agrees (kind place) marks [] → Serves s sent half w given
    → Serves s sent (halves half) (act s marks place w) after × ((act s marks place w).comings ≡ w.comings))
    → ActsAs kind act halves None given after
does_nothing kind act halves given after stands = record {
  failed = λ place. [];
  first = λ place. refl;
  of_kind = λ place. refl;
  came = [];
  plain = λ sound. tt;
  calm = λ target sound. tt;
  stands = λ s sent half w place marks agree ahead h. (let at = stands s sent half w place marks agree h in (at.0, refl, at.1));
}

-- as much failed, and came out so: of these marks, and where the code stood here, another act is done
abbrev pub does_from : {kind one : ℕ → Mark → Bool} {act other : Act} {halves bytes : Halves} {starved : Option ℕ} {given from after : Machine}
    → (d : ActsAs kind act halves starved given after) → ((place : ℕ) → list_all (one place) (d.failed place) ≡ true)
    → ((s : Setting) (sent : ℕ → ℕ) (half : ℕ → List ℕ) (w : World) (place : ℕ) (marks : List Mark) → Agrees (one place) marks (d.failed place)
    → AreAhead d.came w.comings → Serves s sent half w from → Serves s sent (bytes half) (other s marks place w) after
    × (stand_in (d.failed place) (reached_since w (other s marks place w)) ≡ true) × ((other s marks place w).comings ≡ drop (length d.came) w.comings))
    → ActsAs one other bytes starved from after
does_from d of_kind stands =
    record { failed = d.failed; first = d.first; of_kind = of_kind; came = d.came; plain = d.plain; calm = d.calm; stands = stands }

-- the same under another name
pub does_as : (kind : ℕ → Mark → Bool) (act other : Act) (halves : Halves) (starved : Option ℕ) (given after : Machine)
    → ((s : Setting) (sent : ℕ → ℕ) (half : ℕ → List ℕ) (w : World) (place : ℕ) (marks : List Mark) → Serves s sent half w given
    → other s marks place w ≡ act s marks place w)
    → ActsAs kind act halves starved given after → ActsAs kind other halves starved given after
does_as kind act other halves starved given after same d = does_from d d.of_kind
    (λ s sent half w place marks agree ahead h. rw (same s sent half w place marks h) (d.stands s sent half w place marks agree ahead h))

pub does_on : (kind : ℕ → Mark → Bool) (act : Act) (halves : Halves) (starved : Option ℕ) (a b given after : Machine) → a ≡ given → b ≡ after
    → ActsAs kind act halves starved a b → ActsAs kind act halves starved given after
does_on kind act halves starved a b given after e f d = grind arith

pub does_starved : (kind : ℕ → Mark → Bool) (act : Act) (halves : Halves) (a b : Option ℕ) (given after : Machine) → a ≡ b
    → ActsAs kind act halves a given after → ActsAs kind act halves b given after
does_starved kind act halves a b given after e d = let P : Option ℕ → Type 0 = λ o. ActsAs kind act halves o given after in subst P e d

-- ---- one call after the other

unfoldable pub does_then : (one two both : ℕ → Mark → Bool) (act_one act_two : Act) (halves_one halves_two : Halves) (a b : Option ℕ)
    (given middle after : Machine)
    → ((place : ℕ) → Apart (one place) (two place)) → ((place : ℕ) → Apart (two place) (one place)) → ((place : ℕ) → Wider (one place) (both place))
    → ((place : ℕ) → Wider (two place) (both place))
    → ReflectsSoundness middle after → ((s : Setting) (marks : List Mark) (place : ℕ) (w : World) → Prolongs w (act_one s marks place w))
    → ((s : Setting) (marks : List Mark) (place : ℕ) (w : World) → Prolongs w (act_two s marks place w))
    → ActsAs one act_one halves_one a given middle → ActsAs two act_two halves_two b middle after
    → ActsAs both (λ s marks place w. act_two s marks place (act_one s marks place w)) (λ half. halves_two (halves_one half)) (first_of a b) given after
does_then one two both act_one act_two halves_one halves_two a b given middle after one_two two_one wide_one wide_two back goes_one goes_two first
    second = record {
      failed = λ place. first.failed place ++ second.failed place;
      first = λ place. begins_both a b (first.failed place) (second.failed place) (first.first place) (second.first place);
      of_kind = λ place. all_append (both place) (first.failed place) (second.failed place)
          (all_wider (one place) (both place) (first.failed place) (wide_one place) (first.of_kind place))
          (all_wider (two place) (both place) (second.failed place) (wide_two place) (second.of_kind place));
      came = first.came ++ second.came;
      plain = λ sound. plain_both first.came second.came (first.plain (sound_back middle after back sound)) (second.plain sound);
      calm = λ target sound. calm_both target first.came second.came (first.calm target (back target sound)) (second.calm target sound);
      stands = λ s sent half w place marks agree ahead h.
          (let left = agrees_left (one place) (two place) (both place) marks (first.failed place) (second.failed place) (one_two place) (wide_one place)
          (second.of_kind place) agree in
          let right = agrees_right (one place) (two place) (both place) marks (first.failed place) (second.failed place) (two_one place)
          (wide_two place) (first.of_kind place) agree in
          let v = act_one s marks place w in
          let at_first = first.stands s sent half w place marks left (ahead_of first.came second.came w.comings ahead) h in
          let then_ : AreAhead second.came v.comings = subst (AreAhead second.came) (sym at_first.2) (ahead_behind first.came second.came w.comings ahead) in
          let at_second = second.stands s sent (halves_one half) v place marks right then_ at_first.0 in (
            at_second.0,
            reached_both (first.failed place) (second.failed place) w v (act_two s marks place v) (goes_one s marks place w) (goes_two s marks place v)
                at_first.1 at_second.1,
            at_second.2 ∙ ap (drop (length second.came)) at_first.2 ∙ left_behind first.came second.came w.comings,
          ));
    }
