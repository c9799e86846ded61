-- How the requests of a session are stored in a slab, and their keys in three lines.
use Rattle.std.specs.Prelude.{◌≡◌, ℕ, zero, suc, ◌+◌, List, filter_map, map, take, ◌++◌, ◌==◌, Option, is_some, option_and_then, option_map, if◌then◌else◌, count_by}
use Rattle.std.specs.List.{prefix_len}
use Rattle.slab.specs.Slab.{Slab, get}
use Rattle.iscsi_order.specs.WindowState.{WindowKeys, turned}
use Rattle.iscsi_pdu.specs.Frames.{Frame}
use Rattle.iscsi_requests.specs.Requests.{is_in}
use Rattle.iscsi_requests.specs.Functions.{FunctionReach}
use Rattle.iscsi_requests.specs.State.{TaskLists, void_if}

-- the requests at these keys
abbrev pub requests_at : Slab Frame → List ℕ → List Frame
requests_at requests keys = filter_map (get requests) keys

-- the request at a key, if there is one
abbrev pub held_at : Slab Frame → Option ℕ → Option Frame
held_at requests key = option_and_then (get requests) key

-- the keys of the window
abbrev pub keys_in : List (Option ℕ) → List ℕ
keys_in keys = filter_map (λ k. k) keys

-- how often this key is among them
abbrev pub times : ℕ → List ℕ → ℕ
times key keys = count_by (λ k. k == key) keys

-- how many requests this key has
abbrev pub holds : Slab Frame → ℕ → ℕ
holds requests key = if is_some (get requests key) then 1 else 0

-- each key that has a request is in one of the lines, once, and no other key is in them
pub record AreLines (requests : Slab Frame) (held due queue : List ℕ) : Type 0 where
  pub once : (key : ℕ) → times key held + times key due + times key queue ≡ holds requests key

abbrev pub lists_of : Slab Frame → WindowKeys → List ℕ → List ℕ → TaskLists
lists_of requests window due queue = record {
  next = window.next;
  unfinished = window.unfinished;
  held = map (held_at requests) window.keys;
  due = requests_at requests due;
  queue = requests_at requests queue;
}

-- this many numbers are handed over, and their keys come after those that are due
abbrev pub moves : ℕ → WindowKeys × List ℕ → WindowKeys × List ℕ
moves zero p = p
moves (suc n) p = moves n (turned p.0, p.1 ++ keys_in (take 1 p.0.keys))

abbrev pub moves_all : WindowKeys × List ℕ → WindowKeys × List ℕ
moves_all p = moves (prefix_len (λ k. is_some k) p.0.keys) p

-- the requests at these keys are voided if the function reaches them
pub record Voids (reach : FunctionReach) (keys : List ℕ) (old new : Slab Frame) : Type 0 where
  pub at : (key : ℕ) → get new key ≡ (if is_in key keys then option_map (void_if reach) (get old key) else get old key)
