-- A window whose held numbers have keys, and which of its places have one.
use Rattle.std.proofs.Common.{◌≡◌, ℕ, zero, suc, ◌+◌, ◌-◌, ◌^◌, ◌%◌, ◌<◌, List, [], ◌∷◌, ◌++◌, length, map, take, drop, get_or, set, Bool, true, false, not, ◌&&◌, ◌||◌, true≢false, Option, Some, None, refl, sym, ap, ◌∙◌, arith}
use Rattle.std.specs.Prelude.{is_some, nat_lt}
use Rattle.std.specs.List.{prefix_len}
use Rattle.std.proofs.lemmas.Bool.{lt-ltb, ltb-true}
use Rattle.std.proofs.Math.ListN.{get_or-map}
use Rattle.iscsi_order.specs.Serial.{distance}
use Rattle.iscsi_order.specs.Window.{window}
use Rattle.iscsi_order.specs.WindowState.{is_vacant, with_key, turned}

-- how far a number is ahead of the next one, as the code counts it
abbrev pub ahead : ℕ → ℕ → ℕ
ahead next n = (n + (2 ^ 32 - next)) % 2 ^ 32

pub marked_at : (keys : List (Option ℕ)) (i : ℕ) → get_or (map is_some keys) i false ≡ is_some (get_or keys i None)
marked_at keys i = get_or-map is_some keys i None

pub ahead_is : (next n : ℕ) → n < 2 ^ 32 → next < 2 ^ 32 → ahead next n ≡ distance next n
ahead_is next n fits small = omega arith

-- outside the window, or it has come
pub not_vacant : (next unfinished n : ℕ) (keys : List (Option ℕ)) → n < 2 ^ 32 → next < 2 ^ 32
    → (ahead next n < window - unfinished → is_some (get_or keys (ahead next n) None) ≡ true)
    → is_vacant (record { next = next; unfinished = unfinished; keys = keys }) n ≡ false
not_vacant next unfinished n keys fits small come = by_case _ refl
  where
    by_case : (b : Bool) → nat_lt (distance next n) (window - unfinished) ≡ b
        → (nat_lt (distance next n) (window - unfinished) && not (is_some (get_or keys (distance next n) None))) ≡ false
    by_case false e = rw e refl
    by_case true e =
        let at = ahead_is next n fits small in
        let near : ahead next n < window - unfinished = (let lt = ltb-true (distance next n) (window - unfinished) e in omega arith) in
        rw (e, sym (ap (λ (i : ℕ). is_some (get_or keys i None)) at) ∙ come near) refl

pub vacant : (next unfinished n : ℕ) (keys : List (Option ℕ)) → n < 2 ^ 32 → next < 2 ^ 32 → ahead next n < window - unfinished
    → is_some (get_or keys (ahead next n) None) ≡ false
    → is_vacant (record { next = next; unfinished = unfinished; keys = keys }) n ≡ true
vacant next unfinished n keys fits small near missing =
    let at = ahead_is next n fits small in
    let inside : nat_lt (distance next n) (window - unfinished) ≡ true = lt-ltb (distance next n) (window - unfinished) (omega arith) in
    rw (inside, sym (ap (λ (i : ℕ). is_some (get_or keys i None)) at) ∙ missing) refl

pub keyed : (next unfinished n key : ℕ) (keys : List (Option ℕ)) → n < 2 ^ 32 → next < 2 ^ 32
    → is_vacant (record { next = next; unfinished = unfinished; keys = keys }) n ≡ true
    → record { next = next; unfinished = unfinished; keys = set keys (ahead next n) (Some key) } ≡ with_key n key
    (record { next = next; unfinished = unfinished; keys = keys })
keyed next unfinished n key keys fits small is = rw (is, ahead_is next n fits small) refl

-- what stands after the first place stays as it is if that gets a key
pub still_none : (is_ahead : Bool) (place key : ℕ) (keys nones : List (Option ℕ)) → (is_ahead ≡ false → drop 1 keys ≡ nones)
    → (is_ahead || nat_lt 0 place) ≡ false → drop 1 (set keys place (Some key)) ≡ nones
still_none true place key keys nones was e = absurd (true≢false e)
still_none false zero key [] nones was e = was refl
still_none false zero key (k ∷ keys) nones was e = was refl
still_none false (suc place) key keys nones was e = absurd (true≢false (sym (lt-ltb 0 (suc place) (omega arith)) ∙ e))

-- the first is dropped
pub turns : (next unfinished key : ℕ) (keys : List (Option ℕ)) → 0 < length keys → get_or keys 0 None ≡ Some key
    → record { next = (next + 1) % 2 ^ 32; unfinished = unfinished + 1; keys = drop 1 (set keys 0 None) ++ take 1 (set keys 0 None) } ≡ turned
    (record { next = next; unfinished = unfinished; keys = keys })
turns next unfinished key [] some is = absurd (omega arith)
turns next unfinished key (k ∷ keys) some is = rw is refl

pub turned_marks : (keys : List (Option ℕ)) → 0 < length keys
    → map is_some (drop 1 (set keys 0 None) ++ take 1 (set keys 0 None)) ≡ drop 1 (set (map is_some keys) 0 false) ++ take 1 (set (map is_some keys) 0 false)
turned_marks [] some = absurd (omega arith)
turned_marks (k ∷ keys) some = map_push keys
  where
    map_push : (l : List (Option ℕ)) → map is_some (l ++ None ∷ []) ≡ map is_some l ++ false ∷ []
    map_push [] = refl
    map_push (k ∷ l) = ap (λ (rest : List Bool). is_some k ∷ rest) (map_push l)

-- how many have a key, up to the first that has none
pub prefix_marked : (keys : List (Option ℕ)) → prefix_len is_some keys ≡ prefix_len (λ is_held. is_held) (map is_some keys)
prefix_marked [] = refl
prefix_marked (None ∷ keys) = refl
prefix_marked (Some key ∷ keys) = rw (prefix_marked keys) refl
