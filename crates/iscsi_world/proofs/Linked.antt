-- What the code remembers of a World, where one connection changes.
use Rattle.std.proofs.Common.{◌≡◌, ◌≢◌, ℕ, ◌<◌, ◌≤◌, List, [], ◌++◌, length, map, drop, get_or, true, Option, Some, None, refl, sym, ap, ◌∙◌, subst, arith}
use Rattle.std.specs.Prelude.{flat_map, if◌then◌else◌}
use Rattle.std.specs.List.{range_with_len}
use Rattle.std.proofs.lemmas.List.{append-nil, length-map, get_or-map, length-set, length-append, get_or-set_same, get_or-set_other, drop-append-le, ext_get_or}
use Rattle.std.proofs.lemmas.List.FromFn.{get_or-map-range_with_len, length-map-range_with_len}
use Rattle.std.proofs.lemmas.Grind.{flat_map-append}
use Rattle.iscsi_pdu.specs.Answer.{spelling}
use Rattle.iscsi_pdu.specs.declared.answer.Answer.{Answer}
use Rattle.scsi_unit.specs.Units.{UnitStates}
use Rattle.iscsi_login.specs.declared.session_params.SessionParams.{SessionParams}
use Rattle.iscsi_login.specs.Directory.{KnownTargets}
use Rattle.iscsi_world.specs.History.{Point, connection_limit}
use Rattle.iscsi_world.specs.Life.{Life, Phase, Closing, reads, session_in, session_answers, answers_of, out_of, ended_in}
use Rattle.iscsi_world.specs.World.{Setting, World, present, changed, reads_life, session_of, live, left, close, reaching}
use Rattle.iscsi_world.specs.Output.{out_now}
use Rattle.iscsi_world.specs.Machine.{LinkState, Machine, link_at, with_link, free_link, is_reading, session_in_phase, sessions, closed}
use Rattle.iscsi_world.specs.Stands.{phase_for, link_of, machine_with, IsQuiet, IsQuietIn}
use Rattle.iscsi_world.specs.Serving.{Serves}
use Rattle.iscsi_world.proofs.Choices.{cond_true}
use Rattle.iscsi_world.proofs.Lives.{present-changed_other, present-lives, ended_placed, present-placed}

-- ---- the links

abbrev link_in : Setting → (ℕ → ℕ) → (ℕ → List ℕ) → World → ℕ → LinkState
link_in s sent half w c = link_of s.directory (sent c) (half c) (present c w)

pub link_there : (s : Setting) (sent : ℕ → ℕ) (half : ℕ → List ℕ) (w : World) (c : ℕ) → c < connection_limit
    → link_at (machine_with s sent half w) c ≡ link_of s.directory (sent c) (half c) (present c w)
unfolding machine_with
link_there s sent half w c lt = get_or-map-range_with_len (link_in s sent half w) 0 connection_limit c c free_link lt (omega arith)

pub links_count : (s : Setting) (sent : ℕ → ℕ) (half : ℕ → List ℕ) (w : World) → length (machine_with s sent half w).links ≡ connection_limit
unfolding machine_with
links_count s sent half w = length-map-range_with_len (link_in s sent half w) 0 connection_limit

-- as many as there are connections, and each the same
links_same : (a b : List LinkState) → length a ≡ connection_limit → length b ≡ connection_limit
    → ((c : ℕ) → c < connection_limit → get_or a c free_link ≡ get_or b c free_link) → a ≡ b
links_same a b m n same = ext_get_or free_link a b (m ∙ sym n) (λ i lt. same i (omega (arith, m)))

pub directory_with : (s : Setting) (sent : ℕ → ℕ) (half : ℕ → List ℕ) (w : World) → (machine_with s sent half w).directory ≡ s.directory
unfolding machine_with
directory_with s sent half w = refl

pub units_with : (s : Setting) (sent : ℕ → ℕ) (half : ℕ → List ℕ) (w : World) → (machine_with s sent half w).units ≡ w.units
unfolding machine_with
units_with s sent half w = refl

machine_is : (a b : Machine) → a.directory ≡ b.directory → a.units ≡ b.units → a.links ≡ b.links → a ≡ b
machine_is a b n u l = grind arith

-- of one connection something else is remembered, and of the others the same
pub relinked : (s : Setting) (sent sent_then : ℕ → ℕ) (half half_then : ℕ → List ℕ) (w v : World) (c : ℕ) → c < connection_limit
    → ((d : ℕ) → d < connection_limit → d ≢ c → link_of s.directory (sent_then d) (half_then d) (present d v) ≡ link_of s.directory (sent d) (half d)
    (present d w))
    → machine_with s sent_then half_then v ≡ record (with_link (machine_with s sent half w) c
    (link_of s.directory (sent_then c) (half_then c) (present c v))) { units = v.units }
relinked s sent sent_then half half_then w v c lt same =
    grind (arith, link_there, get_or-set_same, links_count, get_or-set_other, machine_is, directory_with, units_with, links_same, length-set)

-- ---- sessions

pub session_same : (directory : KnownTargets) (life : Life) (phase : Phase) → session_in_phase (phase_for directory life phase) ≡ session_in phase
session_same directory life phase = grind arith

pub session_at : (s : Setting) (sent : ℕ → ℕ) (half : ℕ → List ℕ) (w : World) (machine : Machine) (c : ℕ) → c < connection_limit → Serves s sent half w machine
    → session_in_phase (link_at machine c).phase ≡ session_of (present c w)
session_at s sent half w machine c lt h = grind (arith, link_there)

-- ---- which links read

reading_of : (directory : KnownTargets) (sent : ℕ) (half : List ℕ) (o : Option Life) → is_reading (link_of directory sent half o).phase ≡ reads_life o
reading_of directory sent half o = grind arith

pub link_is : (s : Setting) (sent : ℕ → ℕ) (half : ℕ → List ℕ) (w : World) (machine : Machine) (c : ℕ) → c < connection_limit → Serves s sent half w machine
    → link_at machine c ≡ link_of s.directory (sent c) (half c) (present c w)
link_is s sent half w machine c lt h = ap (λ (m : Machine). link_at m c) h.is ∙ link_there s sent half w c lt

pub reads_there : (s : Setting) (sent : ℕ → ℕ) (half : ℕ → List ℕ) (w : World) (machine : Machine) (c : ℕ) → c < connection_limit → Serves s sent half w machine
    → is_reading (link_at machine c).phase ≡ reads_life (present c w)
reads_there s sent half w machine c lt h = ap (λ (l : LinkState). is_reading l.phase) (link_is s sent half w machine c lt h)
    ∙ reading_of s.directory (sent c) (half c) (present c w)

pub count_there : (s : Setting) (sent : ℕ → ℕ) (half : ℕ → List ℕ) (w : World) (machine : Machine) → Serves s sent half w machine
    → length machine.links ≡ connection_limit
count_there s sent half w machine h = ap (λ (m : Machine). length m.links) h.is ∙ links_count s sent half w

pub some_reads : (o : Option Life) → reads_life o ≡ true → (life : Life) × (o ≡ Some life) × (reads life.phase ≡ true)
some_reads o e = grind arith

-- ---- what waits

pub out-ended : (life : Life) (phase : Phase) → session_answers phase ≡ [] → out_of (ended_in phase life) ≡ out_of life
unfolding out_of
out-ended life phase none = ap (λ (l : List Answer). flat_map spelling (answers_of life ++ l)) none ∙ ap (flat_map spelling) (append-nil (answers_of life))

-- more was answered
pub out-more : (x y : Life) (more : List Answer) → answers_of y ≡ answers_of x ++ more → out_of y ≡ out_of x ++ flat_map spelling more
unfolding out_of
out-more x y more e = ap (flat_map spelling) e ∙ flat_map-append spelling (answers_of x) more

pub says : (n : ℕ) (waiting out more : List ℕ) → n ≤ length out → waiting ≡ drop n out → waiting ++ more ≡ drop n (out ++ more)
says n waiting out more le e = ap (λ (t : List ℕ). t ++ more) e ∙ sym (drop-append-le n out more le)

pub still_sent : (n : ℕ) (x y : Life) (more : List ℕ) → out_of y ≡ out_of x ++ more → n ≤ length (out_of x) → n ≤ length (out_of y)
still_sent n x y more e le = rw e (let l = length-append (out_of x) more in omega (arith, l, le))

-- ---- one connection changes

pub serves_one : (s : Setting) (sent : ℕ → ℕ) (half half_then : ℕ → List ℕ) (w v : World) (machine : Machine) (c : ℕ) (units : List UnitStates)
    (link : LinkState) → c < connection_limit
    → Serves s sent half w machine → ((d : ℕ) → d ≢ c → present d v ≡ present d w) → ((d : ℕ) → d ≢ c → half_then d ≡ half d)
    → sent c ≤ length (out_now (present c v)) → IsQuiet (present c v) → v.units ≡ units → link_of s.directory (sent c) (half_then c) (present c v) ≡ link
    → Serves s sent half_then v (record (with_link machine c link) { units = units })
serves_one s sent half half_then w v machine c units link lt h other halves le quiet u l = grind (arith, relinked)

-- what is remembered of a life on which this waits
abbrev pub life_link : KnownTargets → List ℕ → Life → List ℕ → LinkState
life_link directory half life waiting =
    record { half = if reads life.phase then half else []; phase = phase_for directory life life.phase; waiting = waiting }

-- its life has become another one, which was answered more
pub serves_life : (s : Setting) (sent : ℕ → ℕ) (half : ℕ → List ℕ) (w v : World) (machine : Machine) (c : ℕ) (units : List UnitStates)
    (life now : Life) (more : List ℕ) → c < connection_limit → Serves s sent half w machine → present c w ≡ Some life → present c v ≡ Some now
    → ((d : ℕ) → d ≢ c → present d v ≡ present d w) → out_of now ≡ out_of life ++ more → IsQuietIn now.phase → v.units ≡ units
    → Serves s sent half v (record (with_link machine c (life_link s.directory (half c) now ((link_at machine c).waiting ++ more))) { units = units })
serves_life s sent half w v machine c units life now more lt h was is other out quiet u = grind (arith, says, link_is, serves_one, still_sent)

-- the bytes that are kept of one that reads
pub half_there : (s : Setting) (sent : ℕ → ℕ) (half : ℕ → List ℕ) (w : World) (machine : Machine) (c : ℕ) (life : Life) → c < connection_limit
    → Serves s sent half w machine → present c w ≡ Some life → reads life.phase ≡ true → (link_at machine c).half ≡ half c
half_there s sent half w machine c life lt h at r =
    ap (λ (l : LinkState). l.half) (link_is s sent half w machine c lt h ∙ ap (link_of s.directory (sent c) (half c)) at)
    ∙ cond_true (reads life.phase) (half c) [] r

-- ---- a connection closes

pub present-close : (c : ℕ) (w : World) (life : Life) → present c w ≡ Some life → present c (close c w) ≡ Some (ended_in Closing life)
unfolding close
present-close c w life e =
    present-lives c (close c w) (changed (ended_in Closing) c w) refl ∙ present-placed (ended_in Closing) ended_placed c w life e

pub present-close_other : (c d : ℕ) (w : World) → d ≢ c → present d (close c w) ≡ present d w
unfolding close
present-close_other c d w differ =
    present-lives d (close c w) (changed (ended_in Closing) c w) refl ∙ present-changed_other (ended_in Closing) c d w (λ life. refl) differ

units_close : (c : ℕ) (w : World) → (close c w).units ≡ left (session_of (present c w)) w.units
unfolding close
units_close c w = refl

pub closes : (s : Setting) (sent : ℕ → ℕ) (half : ℕ → List ℕ) (w : World) (machine : Machine) (c : ℕ) (life : Life) → c < connection_limit
    → Serves s sent half w machine → present c w ≡ Some life → Serves s sent half (close c w) (closed machine c)
unfolding closed
closes s sent half w machine c life lt h at =
    let link = link_at machine c in
    let all = left (session_in_phase link.phase) machine.units in
    let units : (close c w).units ≡ all = grind (arith, units_close, session_at, units_with) in
    let P : List ℕ → Type 0 = λ bytes. Serves s sent half (close c w)
    (record (with_link machine c (life_link s.directory (half c) (ended_in Closing life) bytes)) { units = all }) in
    subst P (append-nil link.waiting) (serves_life s sent half w (close c w) machine c all life (ended_in Closing life) [] lt h at
    (present-close c w life at) (λ d differ. present-close_other c d w differ) (out-ended life Closing refl ∙ sym (append-nil (out_of life))) tt units)

-- ---- what was reached does not count

machine_reaching : (s : Setting) (sent : ℕ → ℕ) (half : ℕ → List ℕ) (w : World) (c : ℕ) (points : List Point)
    → machine_with s sent half (reaching c points w) ≡ machine_with s sent half w
unfolding machine_with present
machine_reaching s sent half w c points = refl

pub present-reaching : (d c : ℕ) (points : List Point) (w : World) → present d (reaching c points w) ≡ present d w
unfolding present
present-reaching d c points w = refl

pub serves_reaching : (s : Setting) (sent : ℕ → ℕ) (half : ℕ → List ℕ) (w : World) (machine : Machine) (c : ℕ) (points : List Point)
    → Serves s sent half w machine → Serves s sent half (reaching c points w) machine
serves_reaching s sent half w machine c points h = grind (arith, machine_reaching, present-reaching)

-- however the machine is written
pub serves_as : (s : Setting) (sent : ℕ → ℕ) (half : ℕ → List ℕ) (w : World) (a b : Machine) → b ≡ a → Serves s sent half w a → Serves s sent half w b
serves_as s sent half w a b e h = let P : Machine → Type 0 = λ m. Serves s sent half w m in subst P (sym e) h

pub serves_world : (s : Setting) (sent : ℕ → ℕ) (half : ℕ → List ℕ) (w v : World) (machine : Machine) → v ≡ w → Serves s sent half w machine
    → Serves s sent half v machine
serves_world s sent half w v machine e h = let P : World → Type 0 = λ x. Serves s sent half x machine in subst P (sym e) h

-- ---- the sessions that are remembered are those of the World

pub live_there : (s : Setting) (sent : ℕ → ℕ) (half : ℕ → List ℕ) (w : World) (machine : Machine) → Serves s sent half w machine
    → live w ≡ sessions machine.links
unfolding live
live_there s sent half w machine h =
    let f : ℕ → Option SessionParams = λ c. session_of (present c w) in
    let g : LinkState → Option SessionParams = λ link. session_in_phase link.phase in
    let count = count_there s sent half w machine h in
    let len : length (map f (range_with_len 0 connection_limit)) ≡ length (map g machine.links) = grind (arith, length-map) in
    ext_get_or None (map f (range_with_len 0 connection_limit)) (map g machine.links) len (λ i lt.
    (let below : i < connection_limit = omega (arith, length-map-range_with_len f 0 connection_limit) in
    get_or-map-range_with_len f 0 connection_limit i i None below (omega arith)
    ∙ sym (session_at s sent half w machine i below h)
    ∙ sym (get_or-mapped g machine.links i (omega (arith, count)))))
  where
    get_or-mapped : (g : LinkState → Option SessionParams) (links : List LinkState) (i : ℕ) → i < length links
        → get_or (map g links) i None ≡ g (get_or links i free_link)
    get_or-mapped g links i lt = get_or-map g links i free_link None lt
