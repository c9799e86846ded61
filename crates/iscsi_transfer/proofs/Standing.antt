-- What a task remembers is what is read from its past, one step further on.
use Rattle.std.proofs.Common.{◌≡◌, ℕ, zero, suc, ◌+◌, ◌-◌, ◌≤◌, List, [], ◌∷◌, ◌++◌, length, drop, Bool, true, false, not, ◌&&◌, ◌||◌, cond, refl, sym, ap, ◌∙◌, arith, add-one, length-append, length-drop, drop-drop}
use Rattle.std.specs.Prelude.{reverse, if◌then◌else◌}
use Rattle.std.specs.List.{list_any, take_while}
use Rattle.std.proofs.Math.Bool.{and-true}
use Rattle.std.proofs.Math.Seq.{drop-nil}
use Rattle.std.proofs.lemmas.List.{append-nil, reverse-append, flat_map_more}
use Rattle.std.proofs.lemmas.List.Sums.{take_while-cons}
use Rattle.std.proofs.lemmas.List.Folds.{list_any-append}
use Rattle.iscsi_pdu.specs.Frames.{Frame}
use Rattle.iscsi_login.specs.declared.values.Values.{Values}
use Rattle.iscsi_transfer.specs.Payload.{Past, begun, accepted, asked, is_last, announces, up_to_last, data_of, expected}
use Rattle.iscsi_transfer.specs.WriteData.{WriteDataState, bursts_in, filled, filled_of, remembered, grown, with_data, with_asked}
use Rattle.iscsi_transfer.specs.WriteDataLaws.{OpenAreCounted, FewAtFirst, FewWhereFed}
use Rattle.iscsi_transfer.proofs.Bursts.{filled_more}

-- ---- the command alone

no_outs : (b : Bool) → (if b then up_to_last [] else []) ≡ []
no_outs true = refl
no_outs false = refl

-- what is remembered of a command that has just come
abbrev pub at_first : Values → Frame → WriteDataState
at_first values command = record {
  payload = command.body;
  expected = expected command;
  first_burst = values.first_burst_length;
  burst = values.max_burst_length;
  unsolicited = length command.body;
  is_open = announces command;
  sequence_length = 0;
  outstanding = values.max_outstanding_r2t;
  sent = 0;
  open_tags = [];
}

pub remembered-begun : (values : Values) (command : Frame) → remembered (begun values command) ≡ at_first values command
unfolding remembered
remembered-begun values command =
    rw (
      no_outs (announces command),
      append-nil command.body,
      and-true (announces command),
      drop-nil {A = ℕ} (bursts_in (announces command) (length command.body) (length command.body) values.max_burst_length),
    ) refl

-- the values of a task that is made of the command
pub started : (values : Values) (command : Frame) (bytes : List ℕ) (n takes : ℕ) (announced : Bool)
    → bytes ≡ command.body → n ≡ length bytes → takes ≡ expected command → announced ≡ announces command
    → record (at_first values command) { payload = bytes; unsolicited = n; expected = takes; is_open = announced } ≡ remembered (begun values command)
started values command bytes n takes announced same long is open_is = rw (long, same, is, open_is) (sym (remembered-begun values command))

-- ---- a Data-Out more

data_of-more : (bytes : List ℕ) (outs : List Frame) (out : Frame) → bytes ++ data_of (outs ++ out ∷ []) ≡ (bytes ++ data_of outs) ++ out.body
data_of-more bytes outs out = sym (flat_map_more (λ (o : Frame). o.body) bytes outs out)

last_alone : (b : Bool) (out : Frame) → out ∷ (if b then [] else []) ≡ out ∷ []
last_alone true out = refl
last_alone false out = refl

up_to_last_step : (b any : Bool) (first out : Frame) (rest : List Frame)
    → up_to_last (rest ++ out ∷ []) ≡ (if any then up_to_last rest else rest ++ out ∷ [])
    → first ∷ (if b then [] else up_to_last (rest ++ out ∷ []))
    ≡ (if b || any then first ∷ (if b then [] else up_to_last rest) else first ∷ rest ++ out ∷ [])
up_to_last_step true any first out rest h = refl
up_to_last_step false true first out rest h = ap (λ (xs : List Frame). first ∷ xs) h
up_to_last_step false false first out rest h = ap (λ (xs : List Frame). first ∷ xs) h

up_to_last-more : (outs : List Frame) (out : Frame)
    → up_to_last (outs ++ out ∷ []) ≡ (if list_any is_last outs then up_to_last outs else outs ++ out ∷ [])
up_to_last-more [] out = last_alone (is_last out) out
up_to_last-more (first ∷ rest) out = up_to_last_step (is_last first) (list_any is_last rest) first out rest (up_to_last-more rest out)

-- how many bytes came unasked: a Data-Out that is not the last of the unsolicited ones is one of them
unasked : (announced any : Bool) (bytes : List ℕ) (outs : List Frame) (out : Frame)
    → up_to_last (outs ++ out ∷ []) ≡ (if any then up_to_last outs else outs ++ out ∷ [])
    → length (bytes ++ data_of (if announced then up_to_last (outs ++ out ∷ []) else []))
    ≡ (if announced && not any then length ((bytes ++ data_of outs) ++ out.body)
    else length (bytes ++ data_of (if announced then up_to_last outs else [])))
unasked true true bytes outs out h = ap (λ (xs : List Frame). length (bytes ++ data_of xs)) h
unasked true false bytes outs out h =
    ap (λ (xs : List Frame). length (bytes ++ data_of xs)) h ∙ ap (λ (xs : List ℕ). length xs) (data_of-more bytes outs out)
unasked false any bytes outs out h = refl

open_still : (announced any here : Bool) → (announced && not (any || (here || false))) ≡ ((announced && not any) && not here)
open_still false any here = refl
open_still true true here = refl
open_still true false true = refl
open_still true false false = refl

counted : (here : Bool) (out : Frame) (before : List Frame) → length (cond (not here) (out ∷ before) []) ≡ (if here then 0 else length before + 1)
counted true out before = refl
counted false out before = sym (add-one (length before))

abbrev goes_on : Frame → Bool
goes_on out = not (is_last out)

behind_last : (outs : List Frame) (out : Frame) → length (take_while goes_on (reverse (outs ++ out ∷ [])))
    ≡ (if is_last out then 0 else length (take_while goes_on (reverse outs)) + 1)
behind_last outs out =
    ap (λ (xs : List Frame). length (take_while goes_on xs)) (reverse-append outs (out ∷ []))
    ∙ ap (λ (xs : List Frame). length xs) (take_while-cons goes_on out (reverse outs))
    ∙ counted (is_last out) out (take_while goes_on (reverse outs))

-- all but the tags of the open R2Ts
grown_is : (past : Past) (out : Frame)
    → record (remembered (accepted out past)) { open_tags = (remembered past).open_tags } ≡ grown (remembered past) out
unfolding remembered
grown_is past out =
    rw (
      data_of-more past.command.body past.outs out,
      unasked (announces past.command) (list_any is_last past.outs) past.command.body past.outs out (up_to_last-more past.outs out),
      list_any-append is_last past.outs (out ∷ []),
      open_still (announces past.command) (list_any is_last past.outs) (is_last out),
      behind_last past.outs out,
    ) refl

still_open : (less more : ℕ) (tags : List ℕ) → less ≤ more → drop more tags ≡ drop (more - less) (drop less tags)
still_open less more tags le =
    ap (λ (n : ℕ). drop n tags) {x = more} {y = less + (more - less)} (omega (arith, le)) ∙ sym (drop-drop (more - less) less tags)

pub remembered-accepted : (past : Past) (out : Frame) → remembered (accepted out past) ≡ with_data (remembered past) out
unfolding remembered with_data
remembered-accepted past out =
    ap (λ (t : WriteDataState). record t { open_tags = drop (filled t) past.tags }) (grown_is past out)
    ∙ ap (λ (tags : List ℕ). record (grown (remembered past) out) { open_tags = tags })
    (still_open (filled_of past) (filled (grown (remembered past) out)) past.tags (filled_more (remembered past) out))

-- ---- R2Ts are sent

drop_more : (n : ℕ) (before after : List ℕ) → drop n (before ++ after) ≡ drop n before ++ drop (n - length before) after
drop_more zero before after = ap (λ (k : ℕ). before ++ drop k after) {x = 0} {y = 0 - length before} (omega arith)
drop_more (suc n) [] after = ap (λ (k : ℕ). drop k after) {x = suc n} {y = suc n - length {A = ℕ} []} (omega arith)
drop_more (suc n) (tag ∷ before) after =
    drop_more n before after ∙ ap (λ (k : ℕ). drop n before ++ drop k after) {x = n - length before} {y = suc n - length (tag ∷ before)} (omega arith)

pub remembered-asked : (past : Past) (tags : List ℕ) → remembered (asked tags past) ≡ with_asked tags (remembered past)
unfolding remembered with_asked
remembered-asked past tags = rw (length-append past.tags tags, drop_more (filled_of past) past.tags tags) refl

-- ---- how many are open

pub few_at_first : FewAtFirst
few_at_first values command = rw (remembered-begun values command) (omega arith)

pub few_where_fed : FewWhereFed
unfolding with_data
few_where_fed task out few = omega (arith, few, filled_more task out)

pub open_are_counted : OpenAreCounted
unfolding remembered
open_are_counted past = length-drop (filled_of past) past.tags
