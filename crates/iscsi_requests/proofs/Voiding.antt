-- The requests of a slab that a Task Management Function Request reaches: those that wait are voided, and those of the queue leave it.
use Rattle.std.proofs.Common.{◌≡◌, ℕ, zero, suc, ◌<◌, ◌≤◌, List, [], ◌∷◌, ◌++◌, length, map, take, get_or, Bool, true, false, cond, eqb, Option, Some, None, refl, sym, ap, ◌∙◌, arith, inl, inr, ◌+◌, ◌-◌, append_assoc}
use Rattle.std.specs.Prelude.{All, option_map, filter, is_some}
use Rattle.std.proofs.lemmas.Bool.{cases_eq, eq-eqb, ne_eqb}
use Rattle.std.proofs.lemmas.List.Elements.{filter_map-append, All-tail}
use Rattle.std.proofs.lemmas.List.Sums.{sum_by-cons}
use Rattle.slab.specs.Slab.{Slab, get}
use Rattle.iscsi_pdu.specs.Frames.{Frame}
use Rattle.iscsi_order.specs.WindowState.{WindowKeys}
use Rattle.iscsi_requests.specs.Requests.{is_in}
use Rattle.iscsi_requests.specs.Functions.{FunctionReach}
use Rattle.iscsi_requests.specs.State.{void_if, TaskLists, stays, counts_out, reaches_frame, swept_one}
use Rattle.iscsi_requests.specs.RequestQueue.{requests_at, held_at, keys_in, times, holds, AreLines, Voids, lists_of}
use Rattle.iscsi_requests.proofs.Left.{in_at, is_in_append}
use Rattle.iscsi_requests.proofs.Places.{or_known}
use Rattle.iscsi_pdu.specs.Header.{is_immediate}

abbrev voids : FunctionReach → Option Frame → Option Frame
voids reach slot = option_map (void_if reach) slot

pub voids_then : (reach : FunctionReach) (a b : List ℕ) (old mid new : Slab Frame) → Voids reach a old mid → Voids reach b mid new
    → Voids reach (a ++ b) old new
voids_then reach a b old mid new first second = grind (arith, is_in_append)

-- ---- one key more

pub take_more : {A : Type 0} (l : List A) (i : ℕ) (d : A) → i < length l → take (suc i) l ≡ take i l ++ get_or l i d ∷ []
take_more [] i d lt = absurd (omega arith)
take_more (x ∷ l) zero d lt = refl
take_more {A} (x ∷ l) (suc i) d lt = ap (λ (rest : List A). x ∷ rest) (take_more l i d (omega arith))

pub keys_more : (l : List (Option ℕ)) (i : ℕ) → i < length l → keys_in (take (suc i) l) ≡ keys_in (take i l) ++ keys_in (get_or l i None ∷ [])
keys_more l i lt = ap keys_in (take_more l i None lt) ∙ filter_map-append (λ (k : Option ℕ). k) (take i l) (get_or l i None ∷ [])

-- ---- the lines

holds_same : (reach : FunctionReach) (keys : List ℕ) (old new : Slab Frame) (key : ℕ) → Voids reach keys old new → holds new key ≡ holds old key
holds_same reach keys old new key voided = grind arith

line_voids : (reach : FunctionReach) (all : List ℕ) (old new : Slab Frame) (keys : List ℕ) → Voids reach all old new → All (λ k. is_in k all ≡ true) keys
    → requests_at new keys ≡ map (void_if reach) (requests_at old keys)
line_voids reach all old new [] voided there = refl
line_voids reach all old new (k ∷ keys) voided there =
    by_slot (get old k) refl (line_voids reach all old new keys voided (λ i d lt. there (suc i) d (omega arith)))
  where
    here : get new k ≡ voids reach (get old k)
    here = voided.at k ∙ ap (λ (b : Bool). cond b (voids reach (get old k)) (get old k)) (there 0 k (omega arith))

    by_slot : (slot : Option Frame) → get old k ≡ slot → requests_at new keys ≡ map (void_if reach) (requests_at old keys)
        → requests_at new (k ∷ keys) ≡ map (void_if reach) (requests_at old (k ∷ keys))
    by_slot slot e rest = grind arith

line_same : (reach : FunctionReach) (all : List ℕ) (old new : Slab Frame) (keys : List ℕ) → Voids reach all old new → All (λ k. is_in k all ≡ false) keys
    → requests_at new keys ≡ requests_at old keys
line_same reach all old new [] voided apart = refl
line_same reach all old new (k ∷ keys) voided apart =
    let here : get new k ≡ get old k = voided.at k ∙ ap (λ (b : Bool). cond b (voids reach (get old k)) (get old k)) (apart 0 k (omega arith)) in
    rw (here, line_same reach all old new keys voided (λ i d lt. apart (suc i) d (omega arith))) refl

held_voids : (reach : FunctionReach) (all : List ℕ) (old new : Slab Frame) (keys : List (Option ℕ)) → Voids reach all old new
    → All (λ k. is_in k all ≡ true) (keys_in keys)
    → map (held_at new) keys ≡ map (option_map (void_if reach)) (map (held_at old) keys)
held_voids reach all old new [] voided there = refl
held_voids reach all old new (None ∷ keys) voided there = grind (arith, held_voids reach all old new keys voided there)
held_voids reach all old new (Some k ∷ keys) voided there =
    let here : get new k ≡ voids reach (get old k) = voided.at k
    ∙ ap (λ (b : Bool). cond b (voids reach (get old k)) (get old k)) (there 0 k (omega arith)) in
    rw (here, held_voids reach all old new keys voided (λ i d lt. there (suc i) d (omega arith))) refl

times_in : (k : ℕ) (keys : List ℕ) → times k keys ≡ 0 → is_in k keys ≡ false
times_in k [] none = refl
times_in k (a ∷ keys) none = elim (cases_eq a k) [
  | inl same ↦ absurd (omega (arith, sum_by-cons (λ i. cond (eqb i k) 1 0) a keys, one same))
  | inr differs ↦ rw (ne_eqb a k differs) (times_in k keys (omega (arith, sum_by-cons (λ i. cond (eqb i k) 1 0) a keys)))
]
  where
    one : a ≡ k → cond {A = ℕ} (eqb a k) 1 0 ≡ 1
    one same = rw (eq-eqb a k same) refl

pub in_times : (k : ℕ) (keys : List ℕ) → is_in k keys ≡ true → 0 < times k keys
in_times k keys e = grind (arith, times_in)

holds_one : (requests : Slab Frame) (key : ℕ) → holds requests key ≤ 1
holds_one requests key = grind arith

pub record VoidedLines (reach : FunctionReach) (old new : Slab Frame) (w : WindowKeys) (due queue : List ℕ) : Type 0 where
  pub lists : lists_of new w due queue ≡ record (lists_of old w due queue) {
    held = map (option_map (void_if reach)) (lists_of old w due queue).held;
    due = map (void_if reach) (lists_of old w due queue).due;
  }
  pub lines : AreLines new (keys_in w.keys) due queue

pub voided_lines : (reach : FunctionReach) (old new : Slab Frame) (w : WindowKeys) (due queue : List ℕ) → AreLines old (keys_in w.keys) due queue
    → Voids reach (keys_in w.keys ++ due) old new → VoidedLines reach old new w due queue
voided_lines reach old new w due queue lines voided =
    let held = keys_in w.keys in
    let in_held : All (λ k. is_in k (held ++ due) ≡ true) held = λ i d lt. is_in_append _ held due ∙ rw (in_at held i d lt) refl in
    let in_due : All (λ k. is_in k (held ++ due) ≡ true) due = λ i d lt. is_in_append _ held due
    ∙ or_known (is_in (get_or due i d) held) (is_in (get_or due i d) due) (in_at due i d lt) in
    let apart : All (λ k. is_in k (held ++ due) ≡ false) queue = λ i d lt.
    (let k = get_or queue i d in
    let some = in_times k queue (in_at queue i d lt) in
    let once = lines.once k in
    let few = holds_one old k in
    is_in_append k held due ∙ rw (times_in k held (omega arith), times_in k due (omega arith)) refl) in
    record {
      lists = rw (
        held_voids reach (held ++ due) old new w.keys voided in_held,
        line_voids reach (held ++ due) old new due voided in_due,
        line_same reach (held ++ due) old new queue voided apart,
      ) refl;
      lines = record { once = λ key. lines.once key ∙ sym (holds_same reach (held ++ due) old new key voided) };
    }

-- ---- as many requests as keys

there_by : (slot : Option Frame) (n others : ℕ) → n + others ≡ cond (is_some slot) 1 0 → 0 < n → is_some slot ≡ true
there_by slot n others e some = grind arith

all_there : (requests : Slab Frame) (keys : List ℕ) → ((key : ℕ) → (others : ℕ) × (times key keys + others ≡ holds requests key))
    → All (λ k. is_some (get requests k) ≡ true) keys
all_there requests keys once = λ i d lt.
    there_by (get requests (get_or keys i d)) _ (once (get_or keys i d)).0 (once (get_or keys i d)).1 (in_times (get_or keys i d) keys (in_at keys i d lt))

line_length_of : (requests : Slab Frame) (keys : List ℕ) → All (λ k. is_some (get requests k) ≡ true) keys → length (requests_at requests keys) ≡ length keys
line_length_of requests [] there = refl
line_length_of requests (k ∷ keys) there =
    by_slot (get requests k) refl (line_length_of requests keys (All-tail (λ k. is_some (get requests k) ≡ true) k keys there))
  where
    by_slot : (slot : Option Frame) → get requests k ≡ slot → length (requests_at requests keys) ≡ length keys
        → length (requests_at requests (k ∷ keys)) ≡ suc (length keys)
    by_slot slot e rest = grind arith

pub line_length : (requests : Slab Frame) (held due queue : List ℕ)
    → ((key : ℕ) → times key held + times key due + times key queue ≡ holds requests key) → length (requests_at requests queue) ≡ length queue
line_length requests held due queue once =
    line_length_of requests queue (all_there requests queue (λ key. (times key held + times key due, omega (arith, once key))))

-- ---- the queue

-- what is left of it goes through
pub record Swept (reach : FunctionReach) (given now : TaskLists) (left : ℕ) : Type 0 where
  pub rest : List Frame
  pub done : List Frame
  pub queue : now.queue ≡ rest ++ done
  pub count : length rest ≡ left
  pub kept : done ++ filter (stays reach) rest ≡ filter (stays reach) given.queue
  pub fewer : now.unfinished - length (filter (counts_out reach) rest) ≡ given.unfinished - length (filter (counts_out reach) given.queue)
  pub same : now ≡ record given { unfinished = now.unfinished; queue = now.queue }

-- the first stays
pub turned : (reach : FunctionReach) (frame : Frame) (others : List Frame) (tasks : TaskLists) → reaches_frame reach frame ≡ false
    → swept_one reach frame others tasks ≡ record tasks { queue = others ++ frame ∷ [] }
turned reach frame others tasks e = rw e refl

counted_out : (b : Bool) (reach : FunctionReach) (frame : Frame) (rest : List Frame) → reaches_frame reach frame ≡ true → is_immediate frame.header ≡ b
    → length (filter (counts_out reach) (frame ∷ rest)) ≡ cond b 0 1 + length (filter (counts_out reach) rest)
counted_out b reach frame rest e i = grind arith

sweeps_by : (b c : Bool) (reach : FunctionReach) (given now next : TaskLists) (left : ℕ) (frame : Frame) (rest done : List Frame)
    → reaches_frame reach frame ≡ b
    → is_immediate frame.header ≡ c → now.queue ≡ (frame ∷ rest) ++ done → length (frame ∷ rest) ≡ suc left
    → done ++ filter (stays reach) (frame ∷ rest) ≡ filter (stays reach) given.queue
    → now.unfinished - length (filter (counts_out reach) (frame ∷ rest)) ≡ given.unfinished - length (filter (counts_out reach) given.queue)
    → now ≡ record given { unfinished = now.unfinished; queue = now.queue } → next ≡ swept_one reach frame (rest ++ done) now → Swept reach given next left
sweeps_by true c reach given now next left frame rest done e i queue count kept fewer same is = grind (arith, counted_out)
sweeps_by false c reach given now next left frame rest done e i queue count kept fewer same is = grind (arith, turned, append_assoc)

pub sweep_goes_on : (reach : FunctionReach) (given now next : TaskLists) (left : ℕ) → Swept reach given now (suc left)
    → ((frame : Frame) (others : List Frame) → now.queue ≡ frame ∷ others → next ≡ swept_one reach frame others now) → Swept reach given next left
sweep_goes_on reach given now next left s step = by_rest s.rest refl
  where
    by_rest : (l : List Frame) → s.rest ≡ l → Swept reach given next left
    by_rest [] e = absurd (omega (arith, s.count, ap (λ (l : List Frame). length l) e))
    by_rest (frame ∷ rest) e =
        let queue : now.queue ≡ (frame ∷ rest) ++ s.done = s.queue ∙ ap (λ (l : List Frame). l ++ s.done) e in
        sweeps_by (reaches_frame reach frame) (is_immediate frame.header) reach given now next left frame rest s.done refl refl queue
        (ap (λ (l : List Frame). length l) (sym e) ∙ s.count)
        (ap (λ (l : List Frame). s.done ++ filter (stays reach) l) (sym e) ∙ s.kept)
        (ap (λ (l : List Frame). now.unfinished - length (filter (counts_out reach) l)) (sym e) ∙ s.fewer) s.same (step frame (rest ++ s.done) queue)
