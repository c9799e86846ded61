-- The requests at the keys of a line, as the slab and the line change.
use Rattle.std.specs.List.{prefix_len}
use Rattle.std.specs.Prelude.{is_some, if◌then◌else◌}
use Rattle.std.proofs.Common.{zero, subst, ◌≤◌, ◌-◌, ltb, not, ◌&&◌, map, set, Bool, true, false, ◌≡◌, ◌≢◌, ℕ, suc, ◌+◌, ◌<◌, List, [], ◌∷◌, ◌++◌, length, take, drop, get_or, cond, eqb, Option, Some, None, refl, sym, ap, ◌∙◌, inl, inr, arith, remove}
use Rattle.std.proofs.lemmas.Bool.{cases_eq, ltb-true}
use Rattle.std.proofs.lemmas.List.{append-nil, map-set, length-set, map-append}
use Rattle.std.proofs.lemmas.List.Elements.{filter_map-append}
use Rattle.std.proofs.lemmas.List.Sums.{sum_by-cons, sum_by-remove}
use Rattle.slab.specs.Slab.{Slab, get, Updates}
use Rattle.iscsi_pdu.specs.Frames.{Frame}
use Rattle.iscsi_order.specs.WindowState.{WindowKeys, turned, with_key}
use Rattle.iscsi_order.specs.WindowState as windows
use Rattle.iscsi_order.specs.Window as order
use Rattle.iscsi_order.specs.Serial.{distance}
use Rattle.std.proofs.Math.ListN.{get_or-map}
use Rattle.iscsi_requests.specs.State.{is_vacant, holding, takes_next, takes, takes_all, TaskLists, one_fewer, window_of}
use Rattle.iscsi_requests.proofs.Left.{both_true, prefix_marks}
use Rattle.iscsi_requests.specs.RequestQueue.{requests_at, held_at, keys_in, times, holds, AreLines, lists_of, moves, moves_all}
use Rattle.iscsi_pdu.specs.Header.{is_immediate}
use Rattle.iscsi_order.specs.Window.{window}
use Rattle.iscsi_requests.specs.Functions.{plug}
use Rattle.iscsi_requests.proofs.Heads.{one_fewer_by}

-- ---- how often a key stands in a line

times-cons : (key k : ℕ) (keys : List ℕ) → times key (k ∷ keys) ≡ cond (eqb k key) 1 0 + times key keys
times-cons key k keys = sum_by-cons (λ i. cond (eqb i key) 1 0) k keys

times-remove : (key d : ℕ) (keys : List ℕ) (place : ℕ) → place < length keys
    → times key (remove keys place) + cond (eqb (get_or keys place d) key) 1 0 ≡ times key keys
times-remove key d keys place within = sum_by-remove (λ i. cond (eqb i key) 1 0) keys place d within

times-remove_same : (key d : ℕ) (keys : List ℕ) (place : ℕ) → place < length keys → key ≡ get_or keys place d
    → times key (remove keys place) + 1 ≡ times key keys
times-remove_same key d keys place within same =
    let here : cond {A = ℕ} (eqb (get_or keys place d) key) 1 0 ≡ 1 = grind (arith, same) in
    omega (arith, times-remove key d keys place within)

times-remove_other : (key d : ℕ) (keys : List ℕ) (place : ℕ) → place < length keys → key ≢ get_or keys place d → times key (remove keys place) ≡ times key keys
times-remove_other key d keys place within differs =
    let no : cond {A = ℕ} (eqb (get_or keys place d) key) 1 0 ≡ 0 = grind (arith, differs) in
    omega (arith, times-remove key d keys place within)

times-cons_same : (key k : ℕ) (keys : List ℕ) → k ≡ key → times key (k ∷ keys) ≡ 1 + times key keys
times-cons_same key k keys same = grind (arith, times-cons key k keys, same)

times-cons_other : (key k : ℕ) (keys : List ℕ) → k ≢ key → times key (k ∷ keys) ≡ times key keys
times-cons_other key k keys differs = grind (arith, times-cons key k keys, differs)

-- ---- the requests at the keys

-- a key that does not stand in a line changes nothing of it
pub requests_at-other : (old new : Slab Frame) (key : ℕ) (slot : Option Frame) (keys : List ℕ) → Updates old new key slot → times key keys ≡ 0
    → requests_at new keys ≡ requests_at old keys
requests_at-other old new key slot [] updates none = refl
requests_at-other old new key slot (k ∷ keys) updates none =
    elim (cases_eq k key) [
      | inl same ↦ absurd (omega (arith, times-cons_same key k keys same))
      | inr differs ↦
          let same : get new k ≡ get old k = updates.others k differs in
          let rest = requests_at-other old new key slot keys updates (sym (times-cons_other key k keys differs) ∙ none) in
          rw (same, rest) refl
    ]

-- one request more at the end
pub requests_at-push : (requests : Slab Frame) (keys : List ℕ) (key : ℕ) (frame : Frame) → get requests key ≡ Some frame
    → requests_at requests (keys ++ key ∷ []) ≡ requests_at requests keys ++ frame ∷ []
requests_at-push requests keys key frame found = filter_map-append (get requests) keys (key ∷ []) ∙ rw found refl

-- the first of them
pub requests_at-remove_first : (requests : Slab Frame) (keys : List ℕ) (d : ℕ) (frame : Frame) → 0 < length keys
    → get requests (get_or keys 0 d) ≡ Some frame → requests_at requests keys ≡ frame ∷ requests_at requests (remove keys 0)
requests_at-remove_first requests [] d frame within found = absurd (omega arith)
requests_at-remove_first requests (k ∷ keys) d frame within found = rw found refl

-- a key with a request stands nowhere once it is taken out of its line
pub alone : (requests : Slab Frame) (frame : Frame) (keys : List ℕ) (place key d others : ℕ) → place < length keys → key ≡ get_or keys place d
    → get requests key ≡ Some frame → times key keys + others ≡ holds requests key → times key (remove keys place) + others ≡ 0
alone requests frame keys place key d others within is found once = grind (arith, times-remove_same key d keys place within is)

-- each request that is left stands once
pub once-remove : (old new : Slab Frame) (frame : Frame) (keys : List ℕ) (place key k others : ℕ) → Updates old new key None → place < length keys
    → key ≡ get_or keys place key → get old key ≡ Some frame → times k keys + others ≡ holds old k → times k (remove keys place) + others ≡ holds new k
once-remove old new frame keys place key k others updates within is found once =
    elim (cases_eq k key) [
      | inl same ↦
          let none = alone old frame keys place key key others within is found (ap (λ i. times i keys + others) (sym same) ∙ once ∙ ap (holds old) same) in
          let vacant : holds new key ≡ 0 = rw updates.changed refl in
          ap (λ i. times i (remove keys place) + others) same ∙ none ∙ sym vacant ∙ ap (holds new) (sym same)
      | inr differs ↦
          let kept : holds new k ≡ holds old k = rw (updates.others k differs) refl in
          let left : times k (remove keys place) ≡ times k keys = times-remove_other k key keys place within (λ same. differs (same ∙ sym is)) in
          ap (λ m. m + others) left ∙ once ∙ sym kept
    ]

-- a key that stands in a line has a request
pub found_at : (requests : Slab Frame) (keys : List ℕ) (place key others : ℕ) → place < length keys → key ≡ get_or keys place key
    → times key keys + others ≡ holds requests key → (frame : Frame) × (get requests key ≡ Some frame)
found_at requests keys place key others within is once = grind (arith, times-remove_same key key keys place within is)

-- ---- the keys of the window

-- a key that does not stand there changes nothing of it
held_at-other : (old new : Slab Frame) (key : ℕ) (slot : Option Frame) (keys : List (Option ℕ)) → Updates old new key slot → times key (keys_in keys) ≡ 0
    → map (held_at new) keys ≡ map (held_at old) keys
held_at-other old new key slot [] updates none = refl
held_at-other old new key slot (None ∷ keys) updates none = ap (λ (l : List (Option Frame)). None ∷ l) (held_at-other old new key slot keys updates none)
held_at-other old new key slot (Some k ∷ keys) updates none =
    elim (cases_eq k key) [
      | inl same ↦ absurd (omega (arith, times-cons_same key k (keys_in keys) same))
      | inr differs ↦
          let rest = held_at-other old new key slot keys updates (sym (times-cons_other key k (keys_in keys) differs) ∙ none) in
          rw (updates.others k differs, rest) refl
    ]

-- what a change at one key leaves of the lines
pub record SameLines (old new : Slab Frame) (held : List (Option ℕ)) (due queue : List ℕ) : Type 0 where
  pub same_held : map (held_at new) held ≡ map (held_at old) held
  pub same_due : requests_at new due ≡ requests_at old due
  pub same_queue : requests_at new queue ≡ requests_at old queue

pub SameLines-other : (old new : Slab Frame) (key : ℕ) (slot : Option Frame) (held : List (Option ℕ)) (due queue : List ℕ) → Updates old new key slot
    → times key (keys_in held) + times key due + times key queue ≡ 0 → SameLines old new held due queue
SameLines-other old new key slot held due queue updates none = grind (arith, held_at-other, requests_at-other)

-- each place that has a key has a request
marks_kept : (requests : Slab Frame) (keys : List (Option ℕ)) → ((key : ℕ) → 0 < times key (keys_in keys) → is_some (get requests key) ≡ true)
    → map is_some (map (held_at requests) keys) ≡ map is_some keys
marks_kept requests [] there = refl
marks_kept requests (None ∷ keys) there = ap (λ (l : List Bool). false ∷ l) (marks_kept requests keys there)
marks_kept requests (Some k ∷ keys) there =
    rw (
      there k (omega (arith, times-cons_same k k (keys_in keys) refl)),
      marks_kept requests keys
          (λ key some. there key (let more = times-cons key k (keys_in keys) in omega arith)),
    ) refl

there_by : (slot : Option Frame) (n : ℕ) → n ≡ cond (is_some slot) 1 0 → 0 < n → is_some slot ≡ true
there_by slot n e some = grind arith

pub marks_same : (requests : Slab Frame) (keys : List (Option ℕ)) (due queue : List ℕ)
    → ((key : ℕ) → times key (keys_in keys) + times key due + times key queue ≡ holds requests key)
    → map is_some (map (held_at requests) keys) ≡ map is_some keys
marks_same requests keys due queue once = grind (arith, marks_kept, there_by)

-- one more key
pub times_set : (j key i : ℕ) (keys : List (Option ℕ)) → i < length keys → get_or keys i None ≡ None
    → times j (keys_in (set keys i (Some key))) ≡ times j (keys_in keys) + cond (eqb key j) 1 0
times_set j key i [] lt vacant = absurd (omega arith)
times_set j key zero (None ∷ keys) lt vacant = omega (arith, times-cons j key (keys_in keys))
times_set j key zero (Some k ∷ keys) lt vacant = absurd cc
times_set j key (suc i) (None ∷ keys) lt vacant = times_set j key i keys (omega arith) vacant
times_set j key (suc i) (Some k ∷ keys) lt vacant =
    let rest = times_set j key i keys (omega arith) vacant in
    omega (arith, rest, times-cons j k (keys_in keys), times-cons j k (keys_in (set keys i (Some key))))

pub times_push : (j key : ℕ) (keys : List ℕ) → times j (keys ++ key ∷ []) ≡ times j keys + cond (eqb key j) 1 0
times_push j key [] = omega (arith, times-cons j key [])
times_push j key (k ∷ keys) = omega (arith, times_push j key keys, times-cons j k keys, times-cons j k (keys ++ key ∷ []))

-- ---- keys are handed over

prefix_push : (l : List (Option ℕ)) → prefix_len (λ k. is_some k) (l ++ None ∷ []) ≡ prefix_len (λ k. is_some k) l
prefix_push [] = refl
prefix_push (None ∷ l) = refl
prefix_push (Some k ∷ l) = rw (prefix_push l) refl

keys_push : (l : List (Option ℕ)) → keys_in (l ++ None ∷ []) ≡ keys_in l
keys_push l = filter_map-append (λ (k : Option ℕ). k) l (None ∷ []) ∙ append-nil (keys_in l)

-- the first, where there is one
pub record Turns (w : WindowKeys) (key : ℕ) : Type 0 where
  pub prefix : prefix_len (λ k. is_some k) w.keys ≡ suc (prefix_len (λ k. is_some k) (turned w).keys)
  pub first : keys_in (take 1 w.keys) ≡ key ∷ []
  pub keys : keys_in w.keys ≡ key ∷ keys_in (turned w).keys

turns_by : (next unfinished key : ℕ) (l : List (Option ℕ)) → get_or l 0 None ≡ Some key → Turns (record { next = next; unfinished = unfinished; keys = l }) key
turns_by next unfinished key [] e = absurd cc
turns_by next unfinished key (None ∷ l) e = absurd cc
turns_by next unfinished key (Some k ∷ l) e = grind (arith, prefix_push, keys_push)

pub turns : (w : WindowKeys) (key : ℕ) → get_or w.keys 0 None ≡ Some key → Turns w key
turns w key e = turns_by w.next w.unfinished key w.keys e

pub moves_on : (w : WindowKeys) (due : List ℕ) (key : ℕ) → get_or w.keys 0 None ≡ Some key → moves_all (turned w, due ++ key ∷ []) ≡ moves_all (w, due)
moves_on w due key e = grind (arith, turns)

-- ---- what the lists show of it

some_first : (l : List (Option ℕ)) → 0 < prefix_len (λ k. is_some k) l → (key : ℕ) × (get_or l 0 None ≡ Some key)
some_first [] lt = absurd (omega arith)
some_first (None ∷ l) lt = absurd (omega arith)
some_first (Some k ∷ l) lt = (k, refl)

show_one : (requests : Slab Frame) (next unfinished key : ℕ) (l : List (Option ℕ)) (due queue : List ℕ) → get_or l 0 None ≡ Some key
    → lists_of requests (turned (record { next = next; unfinished = unfinished; keys = l })) (due ++ keys_in (take 1 l)) queue ≡ takes_next
    (lists_of requests (record { next = next; unfinished = unfinished; keys = l }) due queue)
show_one requests next unfinished key [] due queue e = absurd cc
show_one requests next unfinished key (None ∷ l) due queue e = absurd cc
show_one requests next unfinished key (Some k ∷ l) due queue e =
    rw (map-append (held_at requests) l (None ∷ []), filter_map-append (get requests) due (k ∷ [])) refl

pub show_moves : (requests : Slab Frame) (n : ℕ) (w : WindowKeys) (due queue : List ℕ) → n ≤ prefix_len (λ k. is_some k) w.keys
    → lists_of requests (moves n (w, due)).0 (moves n (w, due)).1 queue ≡ takes n (lists_of requests w due queue)
show_moves requests zero w due queue le = refl
show_moves requests (suc n) w due queue le =
    let first = some_first w.keys (omega arith) in
    let t = turns w first.0 first.1 in
    show_moves requests n (turned w) (due ++ keys_in (take 1 w.keys)) queue (omega (arith, t.prefix))
    ∙ ap (takes n) (show_one requests w.next w.unfinished first.0 w.keys due queue first.1)

pub once_moves : (j n : ℕ) (w : WindowKeys) (due : List ℕ) → n ≤ prefix_len (λ k. is_some k) w.keys
    → times j (keys_in (moves n (w, due)).0.keys) + times j (moves n (w, due)).1 ≡ times j (keys_in w.keys) + times j due
once_moves j zero w due le = refl
once_moves j (suc n) w due le =
    let first = some_first w.keys (omega arith) in
    let t = turns w first.0 first.1 in
    let rest = once_moves j n (turned w) (due ++ keys_in (take 1 w.keys)) (omega (arith, t.prefix)) in
    let moved : times j (due ++ keys_in (take 1 w.keys)) ≡ times j due + cond (eqb first.0 j) 1 0 = ap (λ (l : List ℕ). times j (due ++ l)) t.first
    ∙ times_push j first.0 due in
    let left : times j (keys_in w.keys) ≡ cond (eqb first.0 j) 1 0 + times j (keys_in (turned w).keys) = ap (times j) t.keys
    ∙ times-cons j first.0 (keys_in (turned w).keys) in
    omega (arith, rest, moved, left)

pub prefix_same : (requests : Slab Frame) (keys : List (Option ℕ)) → map is_some (map (held_at requests) keys) ≡ map is_some keys
    → prefix_len (λ o. is_some o) (map (held_at requests) keys) ≡ prefix_len (λ k. is_some k) keys
prefix_same requests keys same = prefix_marks (map (held_at requests) keys) ∙ ap (prefix_len (λ b. b)) same ∙ sym (prefix_marks keys)

-- ---- a request is held

pub vacant_same : (requests : Slab Frame) (w : WindowKeys) (due queue : List ℕ) (n : ℕ)
    → ((key : ℕ) → times key (keys_in w.keys) + times key due + times key queue ≡ holds requests key)
    → is_vacant (lists_of requests w due queue) n ≡ windows.is_vacant w n
vacant_same requests w due queue n once =
    let i = distance w.next n in
    let same : is_some (get_or (map (held_at requests) w.keys) i None) ≡ is_some (get_or w.keys i None) =
    sym (get_or-map is_some (map (held_at requests) w.keys) i None) ∙ ap (λ (l : List Bool). get_or l i false) (marks_same requests w.keys due queue once)
    ∙ get_or-map is_some w.keys i None in
    ap (λ (b : Bool). ltb i (order.window - w.unfinished) && not b) same

none_at : (slot : Option ℕ) → is_some slot ≡ false → slot ≡ None
none_at slot e = grind arith

pub record Held (old new : Slab Frame) (n : ℕ) (frame : Frame) (w after : WindowKeys) (due queue : List ℕ) : Type 0 where
  pub count : length after.keys ≡ length w.keys
  pub lines : AreLines new (keys_in (moves_all (after, due)).0.keys) (moves_all (after, due)).1 queue
  pub lists : lists_of new (moves_all (after, due)).0 (moves_all (after, due)).1 queue ≡ takes_all (holding n frame (lists_of old w due queue))

pub holds_key : (old new : Slab Frame) (key n : ℕ) (frame : Frame) (w : WindowKeys) (due queue : List ℕ) → Updates old new key (Some frame)
    → get old key ≡ None → AreLines old (keys_in w.keys) due queue → windows.is_vacant w n ≡ true → length w.keys ≡ 32
    → Held old new n frame w (windows.with_key n key w) due queue
holds_key old new key n frame w due queue updates vacant lines free long =
    let i = distance w.next n in
    let both = both_true (ltb i (order.window - w.unfinished)) (is_some (get_or w.keys i None)) free in
    let near = ltb-true i (order.window - w.unfinished) both.0 in
    let within : i < length w.keys = omega arith in
    let after : WindowKeys = record w { keys = set w.keys i (Some key) } in
    let is : windows.with_key n key w ≡ after = rw free refl in
    let none = lines.once key ∙ ap (λ (o : Option Frame). cond (is_some o) 1 0) vacant in
    let same = SameLines-other old new key (Some frame) w.keys due queue updates none in
    let once : (j : ℕ) → times j (keys_in after.keys) + times j due + times j queue ≡ holds new j = λ j.
    (let more = times_set j key i w.keys within (none_at (get_or w.keys i None) both.1) in
    elim (cases_eq j key) [
      | inl at ↦ let one : cond {A = ℕ} (eqb key j) 1 0 ≡ 1 = grind (arith, at) in
          let full : holds new j ≡ 1 = ap (holds new) at ∙ ap (λ (o : Option Frame). cond (is_some o) 1 0) updates.changed in
          let empty = ap (λ (m : ℕ). times m (keys_in w.keys) + times m due + times m queue) at ∙ none in
          omega arith
      | inr differs ↦ let no : cond {A = ℕ} (eqb key j) 1 0 ≡ 0 = grind (arith, differs) in
          let kept : holds new j ≡ holds old j = ap (λ (o : Option Frame). cond (is_some o) 1 0) (updates.others j differs) in
          let before = lines.once j in
          omega arith
    ]) in
    let shown : lists_of new after due queue ≡ holding n frame (lists_of old w due queue) =
    rw (map-set (held_at new) w.keys i (Some key), updates.changed, same.same_held, same.same_due, same.same_queue) refl in
    let prefix = prefix_same new after.keys (marks_same new after.keys due queue once) in
    subst (λ (x : WindowKeys). Held old new n frame w x due queue) (sym is) (record {
      count = length-set w.keys i (Some key);
      lines = record {
        once = λ j. (let moved = once_moves j (prefix_len (λ k. is_some k) after.keys) after due (omega arith) in let o = once j
            in omega arith);
      };
      lists = show_moves new (prefix_len (λ k. is_some k) after.keys) after due queue (omega arith)
          ∙ ap (λ (m : ℕ). takes m (lists_of new after due queue)) (sym prefix) ∙ ap takes_all shown;
    })

-- a number that is vacant of what the lists show
pub holds_vacant : (old new : Slab Frame) (key n : ℕ) (frame : Frame) (w : WindowKeys) (due queue : List ℕ) (tasks : TaskLists)
    → lists_of old w due queue ≡ tasks → is_vacant tasks n ≡ true → Updates old new key (Some frame) → get old key ≡ None
    → AreLines old (keys_in w.keys) due queue → length w.keys ≡ 32 → Held old new n frame w (windows.with_key n key w) due queue
holds_vacant old new key n frame w due queue tasks shown free updates vacant lines long =
    holds_key old new key n frame w due queue updates vacant lines
    (sym (vacant_same old w due queue n lines.once) ∙ ap (λ (t : TaskLists). is_vacant t n) shown ∙ free) long

-- a line that shows some has some
pub some_keys : (requests : Slab Frame) (keys : List ℕ) → 0 < length (requests_at requests keys) → 0 < length keys
some_keys requests [] some = absurd (omega arith)
some_keys requests (k ∷ keys) some = omega arith

-- ---- the first of a line is finished

pub record FirstOut (old new : Slab Frame) (held : List (Option ℕ)) (line others : List ℕ) (frame : Frame) : Type 0 where
  pub first : requests_at old line ≡ frame ∷ drop 1 (requests_at old line)
  pub left : requests_at new (remove line 0) ≡ drop 1 (requests_at old line)
  pub same_held : map (held_at new) held ≡ map (held_at old) held
  pub same_others : requests_at new others ≡ requests_at old others

pub first_out : (old new : Slab Frame) (key : ℕ) (frame : Frame) (held : List (Option ℕ)) (line others : List ℕ) → 0 < length line
    → key ≡ get_or line 0 key → get old key ≡ Some frame → Updates old new key None
    → times key (keys_in held) + times key line + times key others ≡ holds old key → FirstOut old new held line others frame
first_out old new key frame held line others within is found updates once =
    let none = alone old frame line 0 key key (times key (keys_in held) + times key others) within is found (omega arith) in
    let same = SameLines-other old new key None held (remove line 0) others updates (omega arith) in
    let first = requests_at-remove_first old line key frame within (ap (get old) (sym is) ∙ found) in
    record {
      first = first ∙ ap (λ (l : List Frame). frame ∷ drop 1 l) (sym first);
      left = same.same_due ∙ sym (ap (drop 1) first);
      same_held = same.same_held;
      same_others = same.same_queue;
    }

-- ---- the first that is due is taken out of the slab, and a plug stands at its key for a number of the window

-- the window, with one fewer unfinished
abbrev pub counted_out : Frame → WindowKeys → WindowKeys
counted_out frame w = if is_immediate frame.header then w else record w { unfinished = w.unfinished - 1 }

counted_by : (b : Bool) (frame : Frame) (w : WindowKeys) → is_immediate frame.header ≡ b
    → counted_out frame w ≡ record w { unfinished = cond b w.unfinished (w.unfinished - 1) }
counted_by b frame w e = grind arith

vacant_after : (frame : Frame) (w : WindowKeys) (n : ℕ) → windows.is_vacant w n ≡ true → windows.is_vacant (counted_out frame w) n ≡ true
vacant_after frame w n e = grind arith

pub record Replaced (old mid new : Slab Frame) (n key : ℕ) (frame : Frame) (w : WindowKeys) (due queue : List ℕ) : Type 0 where
  pub first : requests_at old due ≡ frame ∷ drop 1 (requests_at old due)
  pub middle : lists_of mid (counted_out frame w) (remove due 0) queue
      ≡ one_fewer frame (record (lists_of old w due queue) { due = drop 1 (requests_at old due) })
  pub once : (k : ℕ) → times k (keys_in w.keys) + times k (remove due 0) + times k queue ≡ holds mid k
  pub count : length (with_key n key (counted_out frame w)).keys ≡ length w.keys
  pub lines : AreLines new (keys_in (moves_all (with_key n key (counted_out frame w), remove due 0)).0.keys)
      (moves_all (with_key n key (counted_out frame w), remove due 0)).1 queue
  pub lists : lists_of new (moves_all (with_key n key (counted_out frame w), remove due 0)).0
      (moves_all (with_key n key (counted_out frame w), remove due 0)).1 queue
      ≡ takes_all (holding n plug (lists_of mid (counted_out frame w) (remove due 0) queue))

pub replaced : (old mid new : Slab Frame) (n gone key : ℕ) (frame plugged : Frame) (w : WindowKeys) (due items queue : List ℕ) (tasks : TaskLists)
    → lists_of old w due queue ≡ tasks → is_vacant tasks n ≡ true → 0 < length tasks.due → items ≡ due → gone ≡ get_or items 0 gone
    → get old gone ≡ Some frame → Updates old mid gone None → AreLines old (keys_in w.keys) due queue → get mid key ≡ None → plugged ≡ plug
    → Updates mid new key (Some plugged) → length w.keys ≡ 32 → Replaced old mid new n key frame w due queue
replaced old mid new n gone key frame plugged w due items queue tasks shown free some_due same first found takes lines vacant is_plug gives_it long =
    let some : 0 < length due = some_keys old due (subst (λ (t : TaskLists). 0 < length t.due) (sym shown) some_due) in
    let at : gone ≡ get_or due 0 gone = first ∙ ap (λ (l : List ℕ). get_or l 0 gone) same in
    let gives = subst (λ (f : Frame). Updates mid new key (Some f)) is_plug gives_it in
    let free_there : windows.is_vacant w n ≡ true = sym (vacant_same old w due queue n lines.once) ∙ ap (λ (t : TaskLists). is_vacant t n) shown ∙ free in
    let after = counted_out frame w in
    let out = first_out old mid gone frame w.keys due queue some at found takes (lines.once gone) in
    let shape : after ≡ record w { unfinished = cond (is_immediate frame.header) w.unfinished (w.unfinished - 1) } = counted_by _ frame w refl in
    let keys_same : after.keys ≡ w.keys = ap (λ (x : WindowKeys). x.keys) shape in
    let once : (k : ℕ) → times k (keys_in w.keys) + times k (remove due 0) + times k queue ≡ holds mid k = λ k.
    (let o = lines.once k in
    let r = once-remove old mid frame due 0 gone k (times k (keys_in w.keys) + times k queue) takes some at found (omega arith) in
    omega arith) in
    let mid_lines : AreLines mid (keys_in after.keys) (remove due 0) queue =
    subst (λ (l : List (Option ℕ)). AreLines mid (keys_in l) (remove due 0) queue) (sym keys_same) (record { once = once }) in
    let held = holds_key mid new key n plug after (remove due 0) queue gives vacant mid_lines (vacant_after frame w n free_there)
    (ap (λ (l : List (Option ℕ)). length l) keys_same ∙ long) in
    record {
      first = out.first;
      middle = ap (λ (x : WindowKeys). lists_of mid x (remove due 0) queue) shape
          ∙ rw (out.left, out.same_held, out.same_others)
          (sym (one_fewer_by _ frame (record (lists_of old w due queue) { due = drop 1 (requests_at old due) }) refl));
      once = once;
      count = held.count ∙ ap (λ (l : List (Option ℕ)). length l) keys_same;
      lines = held.lines;
      lists = held.lists;
    }

-- which numbers it holds, as its lists show it
pub marked_known : {past : order.Past} (frame : Frame) (mid : Slab Frame) (w : WindowKeys) (due queue : List ℕ)
    → ((k : ℕ) → times k (keys_in w.keys) + times k due + times k queue ≡ holds mid k)
    → windows.Stands past (window_of (lists_of mid (counted_out frame w) due queue)) → windows.Stands past (windows.marked (counted_out frame w))
marked_known {past} frame mid w due queue once s =
    let after = counted_out frame w in
    let keys_same : after.keys ≡ w.keys = ap (λ (x : WindowKeys). x.keys) (counted_by _ frame w refl) in
    subst (λ (l : List Bool). windows.Stands past (record { next = after.next; unfinished = after.unfinished; held = l }))
    (marks_same mid after.keys due queue (subst (λ (l : List (Option ℕ)). (k : ℕ) → times k (keys_in l) + times k due + times k queue ≡ holds mid k)
    (sym keys_same) once)) s
