-- Between two events: the beginning, and the events that open and end a connection.
use Rattle.std.proofs.Common.{◌≡◌, ◌≢◌, ℕ, ◌+◌, ◌<◌, ◌≤◌, List, [], ◌∷◌, ◌++◌, length, drop, set, Bool, true, false, not, eqb, Option, Some, None, refl, sym, ap, ◌∙◌, subst, arith}
use Rattle.std.proofs.lemmas.Bool.{ne_eqb}
use Rattle.std.proofs.lemmas.List.{set-set, length-drop, drop-drop, set-get_or}
use Rattle.iscsi_pdu.specs.Frames.{is_long}
use Rattle.iscsi_pdu.proofs.Frames.{no_frame, rest_none}
use Rattle.iscsi_login.specs.Login.{remembered}
use Rattle.scsi_unit.specs.Units.{UnitStates}
use Rattle.iscsi_login.specs.Directory.{KnownTargets}
use Rattle.iscsi_session.specs.Comings.{Coming}
use Rattle.iscsi_world.specs.History.{Open, Gone, Happening, History, plain, connection_limit}
use Rattle.iscsi_world.specs.Life.{Life, Phase, born, is_over, out_of}
use Rattle.iscsi_world.specs.World.{Setting, World, present, session_of, left, end, begun_event, happened, new_world, world}
use Rattle.iscsi_world.specs.Output.{out_now}
use Rattle.iscsi_world.specs.Machine.{LinkState, Machine, link_at, with_link, closed, is_free, is_open_at, free_link, opened_link, shut_link, sent_link, session_in_phase, new_machine}
use Rattle.iscsi_world.specs.Stands.{phase_for, link_of, half_of, machine_with, machine_of, IsQuiet, IsShort, StandsAt, Stands, with_sent}
use Rattle.iscsi_world.specs.Serving.{Serves}
use Rattle.iscsi_world.proofs.Choices.{eqb_self, cond_true, cond_false, and_true, not_true}
use Rattle.iscsi_world.proofs.Lives.{present-born, present-born_other, present-end, present-end_other, present-lives, present_is}
use Rattle.iscsi_world.proofs.Keeping.{world-push}
use Rattle.iscsi_world.proofs.Linked.{link_there, units_with, relinked, session_at, link_is}

-- ---- one more event

abbrev pub fresh : World → World
fresh w = begun_event [] w

pub present-begun : (comings : List Coming) (c : ℕ) (w : World) → present c (begun_event comings w) ≡ present c w
present-begun comings c w = present-lives c (begun_event comings w) w refl

pub present-fresh : (c : ℕ) (w : World) → present c (fresh w) ≡ present c w
present-fresh c w = present-lives c (fresh w) w refl

pub stands_as : (s : Setting) (sent : ℕ → ℕ) (machine : Machine) (history : History) (h : Happening) (v : World)
    → happened s (world s history) h ≡ v → StandsAt s sent v machine → Stands s sent machine (history ++ h ∷ [])
stands_as s sent machine history h v e at = grind (arith, world-push)

-- the machine, however it is written
pub stands_machine : (s : Setting) (sent : ℕ → ℕ) (history : History) (a b : Machine) → a ≡ b → Stands s sent a history → Stands s sent b history
stands_machine s sent history a b e h = let P : Machine → Type 0 = λ m. Stands s sent m history in subst P e h

-- ---- what is remembered

-- where each link is the same, so is the machine
pub machine_same : (s : Setting) (sent sent_then : ℕ → ℕ) (half half_then : ℕ → List ℕ) (w v : World) → v.units ≡ w.units
    → ((d : ℕ) → d < connection_limit → link_of s.directory (sent_then d) (half_then d) (present d v) ≡ link_of s.directory (sent d) (half d) (present d w))
    → machine_with s sent_then half_then v ≡ machine_with s sent half w
machine_same s sent sent_then half half_then w v u same =
    let old = machine_with s sent half w in
    let first : 0 < connection_limit = omega arith in
    relinked s sent sent_then half half_then w v 0 first (λ d below differ. same d below)
    ∙ ap (λ (l : LinkState). let m : Machine = record (with_link old 0 l) { units = v.units } in m) (same 0 first ∙ sym (link_there s sent half w 0 first))
    ∙ ap (λ (links : List LinkState). let m : Machine = record old { links = links; units = v.units } in m) (set-get_or old.links 0 free_link)
    ∙ ap (λ (us : List UnitStates). let m : Machine = record old { units = us } in m) (u ∙ sym (units_with s sent half w))

-- of each connection, the bytes that are no whole frame yet
abbrev pub halves_of : World → ℕ → List ℕ
halves_of w c = half_of (present c w)

pub serving : (s : Setting) (sent : ℕ → ℕ) (w : World) (machine : Machine) → StandsAt s sent w machine → Serves s sent (halves_of w) w machine
serving s sent w machine h = record { is = h.is; answered = h.answered; quiet = h.quiet }

pub link_stands : (s : Setting) (sent : ℕ → ℕ) (w : World) (machine : Machine) (c : ℕ) → c < connection_limit → StandsAt s sent w machine
    → link_at machine c ≡ link_of s.directory (sent c) (halves_of w c) (present c w)
link_stands s sent w machine c lt h = link_is s sent (halves_of w) w machine c lt (serving s sent w machine h)

waiting_of : (directory : KnownTargets) (sent : ℕ) (half : List ℕ) (o : Option Life) → (link_of directory sent half o).waiting ≡ drop sent (out_now o)
waiting_of directory sent half o = grind arith

-- what waits is what was answered without what was sent
pub waits_there : (s : Setting) (sent : ℕ → ℕ) (w : World) (machine : Machine) (c : ℕ) → c < connection_limit → StandsAt s sent w machine
    → (link_at machine c).waiting ≡ drop (sent c) (out_now (present c w))
waits_there s sent w machine c lt h = ap (λ (l : LinkState). l.waiting) (link_stands s sent w machine c lt h)
    ∙ waiting_of s.directory (sent c) (halves_of w c) (present c w)

-- ---- which connections are open

over_is_free : (directory : KnownTargets) (life : Life) (phase : Phase) → is_over phase ≡ false → is_free (phase_for directory life phase) ≡ false
over_is_free directory life phase e = grind arith

pub present_open : (directory : KnownTargets) (c : ℕ) (w : World) (life : Life) → present c w ≡ Some life → is_free
    (phase_for directory life life.phase) ≡ false
present_open directory c w life e = over_is_free directory life life.phase (not_true (is_over life.phase)
    (and_true (eqb life.connection c) (not (is_over life.phase)) (present_is c w life e)).1)

open_in : (directory : KnownTargets) (sent : ℕ) (half : List ℕ) (o : Option Life) → is_free (link_of directory sent half o).phase ≡ false → (life : Life)
    × (o ≡ Some life)
open_in directory sent half o e = grind arith

free_in : (directory : KnownTargets) (sent : ℕ) (half : List ℕ) (c : ℕ) (w : World) (o : Option Life) → present c w ≡ o
    → is_free (link_of directory sent half o).phase ≡ true → o ≡ None
free_in directory sent half c w o e f = grind (arith, present_open)

free_from : (b : Bool) → not b ≡ false → b ≡ true
free_from b e = grind arith

pub is_free_there : (s : Setting) (sent : ℕ → ℕ) (w : World) (machine : Machine) (c : ℕ) → c < connection_limit → StandsAt s sent w machine
    → is_open_at machine c ≡ false → present c w ≡ None
is_free_there s sent w machine c lt h e =
    free_in s.directory (sent c) (halves_of w c) c w (present c w) refl
    (ap (λ (l : LinkState). is_free l.phase) (sym (link_stands s sent w machine c lt h)) ∙ free_from _ e)

pub is_open_there : (s : Setting) (sent : ℕ → ℕ) (w : World) (machine : Machine) (c : ℕ) → c < connection_limit → StandsAt s sent w machine
    → is_open_at machine c ≡ true → (life : Life) × (present c w ≡ Some life)
is_open_there s sent w machine c lt h e =
    open_in s.directory (sent c) (halves_of w c) (present c w) (ap (λ (l : LinkState). is_free l.phase)
    (sym (link_stands s sent w machine c lt h)) ∙ not_true _ e)

-- ---- how many bytes were sent

pub sent_here : (sent : ℕ → ℕ) (c n : ℕ) → with_sent sent c n c ≡ n
sent_here sent c n = cond_true (eqb c c) n (sent c) (eqb_self c)

pub sent_there : (sent : ℕ → ℕ) (c n d : ℕ) → d ≢ c → with_sent sent c n d ≡ sent d
sent_there sent c n d differ = cond_false (eqb d c) n (sent d) (ne_eqb d c differ)

-- one connection changes, and how much of its answers was sent
pub stands_one : (s : Setting) (sent : ℕ → ℕ) (w v : World) (machine : Machine) (c n : ℕ) (units : List UnitStates) (link : LinkState)
    → c < connection_limit → StandsAt s sent w machine → v.units ≡ units
    → ((d : ℕ) → d ≢ c → present d v ≡ present d w) → link_of s.directory n (halves_of v c) (present c v) ≡ link
    → n ≤ length (out_now (present c v)) → IsQuiet (present c v) → IsShort (present c v)
    → StandsAt s (with_sent sent c n) v (record (with_link machine c link) { units = units })
stands_one s sent w v machine c n units link lt h u other l le quiet short =
    let same : (d : ℕ) → d < connection_limit → d ≢ c → link_of s.directory (with_sent sent c n d) (halves_of v d) (present d v)
    ≡ link_of s.directory (sent d) (halves_of w d) (present d w) = grind arith in
    let here : link_of s.directory (with_sent sent c n c) (halves_of v c) (present c v) ≡ link = grind arith in
    record {
      is = ap (λ (m : Machine). let x : Machine = record (with_link m c link) { units = units } in x) h.is
          ∙ ap (λ (x : LinkState). let m : Machine = record (with_link (machine_of s sent w) c x) { units = units } in m) (sym here)
          ∙ ap (λ (us : List UnitStates). let m : Machine = record (with_link (machine_of s sent w) c
          (link_of s.directory (with_sent sent c n c) (halves_of v c) (present c v))) { units = us } in m) (sym u)
          ∙ sym (relinked s sent (with_sent sent c n) (halves_of w) (halves_of v) w v c lt same);
      answered = grind arith;
      quiet = grind arith;
      short = grind arith;
    }

-- only how many bytes were sent on each connection counts, however it is written
pub stands_sent : (s : Setting) (sent other : ℕ → ℕ) (machine : Machine) (history : History) → ((c : ℕ) → c < connection_limit → sent c ≡ other c)
    → Stands s sent machine history → Stands s other machine history
stands_sent s sent other machine history same h = grind (arith, machine_same)

-- ---- the beginning

none_at_first : (s : Setting) (c : ℕ) → present c (new_world s) ≡ None
unfolding present
none_at_first s c = refl

new_is : (s : Setting) → new_machine s.directory s.units ≡ machine_of s (λ c. 0) (new_world s)
unfolding machine_with present
new_is s = grind arith

pub new_stands : (s : Setting) → Stands s (λ c. 0) (new_machine s.directory s.units) []
unfolding world
new_stands s = record {
  is = new_is s;
  answered = λ c lt. rw (none_at_first s c) (omega arith);
  quiet = λ c lt. rw (none_at_first s c) tt;
  short = λ c lt. rw (none_at_first s c) tt;
}

-- ---- Open

pub nothing_long : is_long [] ≡ false
unfolding is_long
nothing_long = refl

born_link : (directory : KnownTargets) (c : ℕ) → link_of directory 0 (half_of (Some (born c))) (Some (born c)) ≡ opened_link c
unfolding remembered out_of
born_link directory c = grind (arith, rest_none, no_frame)

pub open_stands : (s : Setting) (sent : ℕ → ℕ) (machine : Machine) (history : History) (c : ℕ) → c < connection_limit → is_open_at machine c ≡ false
    → Stands s sent machine history
    → Stands s (with_sent sent c 0) (with_link machine c (opened_link c)) (history ++ plain (Open c) ∷ [])
open_stands s sent machine history c lt free h =
    let w = world s history in
    let v : World = record (fresh w) { lives = w.lives ++ born c ∷ [] } in
    let none = present-fresh c w ∙ is_free_there s sent w machine c lt h free in
    let born_ : present c v ≡ Some (born c) = present-born c (fresh w) none in
    let units : v.units ≡ machine.units = sym (ap (λ (m : Machine). m.units) h.is ∙ units_with s sent (halves_of w) w) in
    stands_as s (with_sent sent c 0) (with_link machine c (opened_link c)) history (plain (Open c)) v refl
    (stands_one s sent w v machine c 0 machine.units (opened_link c) lt h units (λ d differ. present-born_other c d (fresh w) differ ∙ present-fresh d w)
    (rw born_ (born_link s.directory c)) (omega arith) (rw born_ tt) (rw born_ (λ e. ap is_long (rest_none [] no_frame) ∙ nothing_long)))

-- ---- Gone

units_end : (c : ℕ) (w : World) → (end c w).units ≡ left (session_of (present c w)) w.units
unfolding end
units_end c w = refl

pub gone_stands : (s : Setting) (sent : ℕ → ℕ) (machine : Machine) (history : History) (c : ℕ) → c < connection_limit → Stands s sent machine history
    → Stands s (with_sent sent c 0) (with_link (closed machine c) c free_link) (history ++ plain (Gone c) ∷ [])
unfolding closed
gone_stands s sent machine history c lt h =
    let w = world s history in
    let v = end c (fresh w) in
    let none : present c v ≡ None = present-end c (fresh w) in
    let same = ap (λ (m : Machine). m.units) h.is ∙ units_with s sent (halves_of w) w in
    let units : v.units ≡ left (session_in_phase (link_at machine c).phase) machine.units = grind (arith, units_end, present-fresh, session_at) in
    let twice : set (set machine.links c (shut_link (link_at machine c))) c free_link ≡ set machine.links c free_link = grind (arith, set-set) in
    stands_as s (with_sent sent c 0) (with_link (closed machine c) c free_link) history (plain (Gone c)) v refl
    (rw twice (stands_one s sent w v machine c 0 (left (session_in_phase (link_at machine c).phase) machine.units) free_link lt h units
    (λ d differ. present-end_other c d (fresh w) differ ∙ present-fresh d w) (rw none refl) (omega arith) (rw none tt) (rw none tt)))

-- ---- bytes were sent

sent_of : (directory : KnownTargets) (sent n : ℕ) (half : List ℕ) (o : Option Life) → n ≤ length (link_of directory sent half o).waiting
    → link_of directory (sent + n) half o ≡ sent_link (link_of directory sent half o) n
sent_of directory sent n half o le = grind (arith, drop-drop)

pub sent_stands : (s : Setting) (sent : ℕ → ℕ) (machine : Machine) (history : History) (c n : ℕ) → c < connection_limit
    → n ≤ length (link_at machine c).waiting → Stands s sent machine history
    → Stands s (with_sent sent c (sent c + n)) (with_link machine c (sent_link (link_at machine c) n)) history
sent_stands s sent machine history c n lt le h =
    let w = world s history in
    let link = link_stands s sent w machine c lt h in
    let units : w.units ≡ machine.units = sym (ap (λ (m : Machine). m.units) h.is ∙ units_with s sent (halves_of w) w) in
    let waits = waits_there s sent w machine c lt h in
    let count : sent c + n ≤ length (out_now (present c w)) = grind (arith, length-drop) in
    stands_one s sent w w machine c (sent c + n) machine.units (sent_link (link_at machine c) n) lt h units (λ d differ. refl)
    (sent_of s.directory (sent c) n (halves_of w c) (present c w) (subst (λ (l : LinkState). n ≤ length l.waiting) link le)
    ∙ ap (λ (l : LinkState). sent_link l n) (sym link))
    count (h.quiet c lt) (h.short c lt)

pub units_stand : (s : Setting) (sent : ℕ → ℕ) (w : World) (machine : Machine) → StandsAt s sent w machine → machine.units ≡ w.units
units_stand s sent w machine h = ap (λ (m : Machine). m.units) h.is ∙ units_with s sent (halves_of w) w
