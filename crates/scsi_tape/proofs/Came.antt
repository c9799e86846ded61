-- How a command to a tape came out, by what the call to its medium did.
use Rattle.std.proofs.Common.{◌≡◌, ℕ, ◌≤◌, List, [], ◌∷◌, length, map, Bool, true, false, ◌||◌, ◌&&◌, not, nat_le, IsTrue, if◌then◌else◌}
use Rattle.std.proofs.Common.{refl, sym, ap, ◌∙◌, arith, eq-eqb}
use Rattle.std.proofs.lemmas.Bool.{false≢true, and_parts, and_from, leb-true, le-leb}
use Rattle.std.proofs.lemmas.List.{append-nil}
use Rattle.media_store.specs.Failures.{risen}
use Rattle.media_tape.specs.Items.{Item, size}
use Rattle.media_tape.specs.Tape.{TapeState, IsSizedAs, lost, erased}
use Rattle.scsi_sense.specs.Done.{Outcome, check_condition}
use Rattle.scsi_cdb.specs.Record.{most_record}
use Rattle.scsi_cdb.specs.declared.tape.TapeCommand.{TapeCommand}
use Rattle.scsi_tape.specs.TapeSense.{unrecovered_read, write_error}
use Rattle.scsi_tape.specs.State.{TapeUnitState}
use Rattle.scsi_tape.specs.Commands.{tape_outcome, tape_left}
use Rattle.scsi_tape.specs.CameOut.{AsDefined, Dishonest, ReadFailed, WriteFailed, Standing, standing_of}
use Rattle.scsi_tape.specs.CameOut.{tape_touch, are_same, misled, IsTapeDone, is_steady, can_fail, tape_after}

abbrev pub with_tape : TapeUnitState → TapeState → TapeUnitState
with_tape unit tape = record unit { tape = tape }

-- the store of a tape on which no call fails
steady_store : (tape : TapeState) → IsTrue (is_steady tape) → IsTrue tape.steady
steady_store tape steady = (and_parts tape.steady (nat_le tape.capacity tape.reach) steady).0

room_store : (tape : TapeState) → IsTrue (is_steady tape) → tape.capacity ≤ tape.reach
room_store tape steady = leb-true tape.capacity tape.reach (and_parts tape.steady (nat_le tape.capacity tape.reach) steady).1

-- a call that cannot be on a steady tape, or leaves it no longer honest
may_fail : (honest steady : Bool) → (IsTrue honest → IsTrue steady → ⊥) → not (honest && steady) ≡ true
may_fail false steady fails = refl
may_fail true false fails = refl
may_fail true true fails = absurd (fails refl refl)

-- it wrote, and was not honest
written_wrong : (reads writes honest : Bool) → writes ≡ true → honest ≡ false → (reads || (writes && not honest)) ≡ true
written_wrong true writes honest some wrong = refl
written_wrong false writes honest some wrong = rw (some, wrong) refl

same_sizes : (ones others : List ℕ) → ones ≡ others → are_same ones others ≡ true
same_sizes ones others is = rw is (same_as_it others)
  where
    same_as_it : (ones : List ℕ) → are_same ones ones ≡ true
    same_as_it [] = refl
    same_as_it (one ∷ ones) = and_from _ _ (eq-eqb one one refl) (same_as_it ones)

no_items : (items : List Item) → map size items ≡ [] → items ≡ []
no_items [] none = refl
no_items (item ∷ items) none = absurd (omega (arith, ap length none))

no_more : (new old : Bool) → (IsTrue new → IsTrue old) → (not new || old) ≡ true
no_more false old back = refl
no_more true old back = back refl

module _ (command : TapeCommand) (bytes : List ℕ) (unit : TapeUnitState) where
  -- it did as its definition says
  pub as_defined : (new : TapeState) (done : Outcome) → new ≡ tape_left command bytes unit.tape → done ≡ tape_outcome command bytes unit.tape
      → IsTapeDone command bytes unit (with_tape unit new) done
  as_defined new done left told = record { came = AsDefined; possible = refl; unit = ap (with_tape unit) left; told = told }

  -- it came out as if its store were honest, but for the bytes of its data and of the items
  misled_done : (left : Standing) (new : TapeState) (done : Outcome) → can_fail unit.tape ≡ true
      → ((tape_touch command unit.tape).reads || ((tape_touch command unit.tape).writes && not unit.tape.honest)) ≡ true
      → new ≡ misled (tape_touch command unit.tape).writes left (tape_left command bytes unit.tape)
      → done ≡ record (tape_outcome command bytes unit.tape) { given = done.given }
      → length done.given ≡ length (tape_outcome command bytes unit.tape).given
      → length done.given ≤ most_record
      → map size left.before ≡ map size (tape_left command bytes unit.tape).before
      → map size left.after ≡ map size (tape_left command bytes unit.tape).after
      → IsTapeDone command bytes unit (with_tape unit new) done
  misled_done left new done fails touched stands told long few before after = record {
    came = Dishonest done.given left;
    possible = and_from _ _ fails (and_from _ _ touched (and_from _ _ (eq-eqb _ _ long) (and_from _ _ (le-leb _ _ few)
        (and_from _ _ (same_sizes _ _ before) (same_sizes _ _ after)))));
    unit = ap (with_tape unit) stands;
    told = told;
  }

  -- a command that may read, and does not write: its store answered, and is honest or not
  module _ (new : TapeState) (done : Outcome)
      (no_write : (tape_touch command unit.tape).writes ≡ false)
      (kept : (tape_touch command unit.tape).reads ≡ false → new.honest ≡ unit.tape.honest)
      (back : IsTrue new.honest → IsTrue unit.tape.honest)
      (as_left : (tape_left command bytes unit.tape).honest ≡ unit.tape.honest)
      (stands : new ≡ record (tape_left command bytes unit.tape) { honest = new.honest })
      (unread : (tape_touch command unit.tape).reads ≡ false → done ≡ tape_outcome command bytes unit.tape)
      (told : IsTrue new.honest → done ≡ tape_outcome command bytes unit.tape)
      (seen : done ≡ record (tape_outcome command bytes unit.tape) { given = done.given })
      (long : length done.given ≡ length (tape_outcome command bytes unit.tape).given)
      (sure : IsTrue unit.tape.steady → IsTrue unit.tape.honest → new.honest ≡ unit.tape.honest)
      (few : length done.given ≤ most_record) where
    same_left : new.honest ≡ unit.tape.honest → new ≡ tape_left command bytes unit.tape
    same_left same = stands ∙ ap (λ (h : Bool). record (tape_left command bytes unit.tape) { honest = h }) (same ∙ sym as_left)

    read_at : (reads honest : Bool) → (tape_touch command unit.tape).reads ≡ reads → new.honest ≡ honest
        → IsTapeDone command bytes unit (with_tape unit new) done
    read_at false honest none is = as_defined new done (same_left (kept none)) (unread none)
    read_at true true reads is = as_defined new done (same_left (is ∙ sym (back is))) (told is)
    read_at true false reads is =
        let fails : can_fail unit.tape ≡ true = may_fail unit.tape.honest (is_steady unit.tape)
        (λ honest steady. false≢true (sym is ∙ sure (steady_store unit.tape steady) honest ∙ honest)) in
        let stands_so = stands ∙ ap (λ (h : Bool). record (tape_left command bytes unit.tape) { honest = h }) is in
        misled_done (standing_of new) new done fails (rw reads refl) (rw no_write stands_so) seen long few
        (ap (λ (t : TapeState). map size t.before) stands) (ap (λ (t : TapeState). map size t.after) stands)

    pub read_answered : IsTapeDone command bytes unit (with_tape unit new) done
    read_answered = read_at (tape_touch command unit.tape).reads new.honest refl refl

  -- a command that may write: its store answered, and is honest if it was
  module _ (new : TapeState) (done : Outcome)
      (kept : new.honest ≡ unit.tape.honest)
      (stands : IsTrue unit.tape.honest → new ≡ tape_left command bytes unit.tape)
      (refused : (tape_touch command unit.tape).writes ≡ false → new ≡ tape_left command bytes unit.tape)
      (sized : IsSizedAs (tape_left command bytes unit.tape) new)
      (rest : new
      ≡ record (tape_left command bytes unit.tape) { before = new.before; after = new.after; tail = new.tail; honest = unit.tape.honest })
      (told : done ≡ tape_outcome command bytes unit.tape)
      (given : done.given ≡ []) where
    written_at : (writes honest : Bool) → (tape_touch command unit.tape).writes ≡ writes → unit.tape.honest ≡ honest
        → IsTapeDone command bytes unit (with_tape unit new) done
    written_at false honest none is = as_defined new done (refused none) told
    written_at true true writes is = as_defined new done (stands is) told
    written_at true false writes is =
        let none = sym (ap (λ (o : Outcome). o.given) told) ∙ given in
        misled_done (standing_of new) new done (rw is refl) (written_wrong _ _ _ writes is)
        (rw writes (rest ∙ ap (λ (h : Bool). record (tape_left command bytes unit.tape) { before = new.before; after = new.after; tail = new.tail; honest = h })
        is))
        (told ∙ ap (λ (xs : List ℕ). record (tape_outcome command bytes unit.tape) { given = xs }) (sym (ap (λ (o : Outcome). o.given) told)))
        (ap (λ (o : Outcome). length o.given) told) (omega (arith, ap length given))
        sized.before sized.after

    pub write_answered : IsTapeDone command bytes unit (with_tape unit new) done
    write_answered = written_at (tape_touch command unit.tape).writes unit.tape.honest refl refl

  -- the store failed
  pub read_fails : (new : TapeState) → (tape_touch command unit.tape).reads ≡ true
      → new ≡ record unit.tape { failures = risen unit.tape.failures; honest = new.honest }
      → (IsTrue new.honest → IsTrue unit.tape.honest)
      → (IsTrue unit.tape.steady → IsTrue unit.tape.honest → ⊥)
      → IsTapeDone command bytes unit (with_tape unit new) (check_condition unrecovered_read)
  read_fails new reads same back sure = record {
    came = ReadFailed new.honest;
    possible = and_from _ _ (may_fail unit.tape.honest (is_steady unit.tape) (λ honest steady. sure (steady_store unit.tape steady) honest))
        (and_from _ _ reads (no_more new.honest unit.tape.honest back));
    unit = ap (with_tape unit) same;
    told = refl;
  }

  -- the store failed
  pub write_fails : (left : Standing) (new : TapeState)
      → ((tape_touch command unit.tape).writes || (tape_touch command unit.tape).syncs) ≡ true
      → map size left.before ≡ map size unit.tape.before
      → record (with_tape unit new) { is_working = false } ≡ tape_after (WriteFailed left) command bytes unit
      → (IsTrue unit.tape.steady → IsTrue unit.tape.honest → unit.tape.capacity ≤ unit.tape.reach → ⊥)
      → IsTapeDone command bytes unit (record (with_tape unit new) { is_working = false }) (check_condition write_error)
  write_fails left new writes sized same sure = record {
    came = WriteFailed left;
    possible = and_from _ _ (may_fail unit.tape.honest (is_steady unit.tape)
        (λ honest steady. sure (steady_store unit.tape steady) honest (room_store unit.tape steady)))
        (and_from _ _ writes (same_sizes _ _ sized));
    unit = same;
    told = refl;
  }

-- what a write or a cut leaves that failed
module _ (unit : TapeUnitState) (new : TapeState) (left : IsTrue unit.tape.honest → new ≡ lost new.tail false unit.tape)
    (kept : IsSizedAs (erased unit.tape) new)
    (rest : new ≡ record unit.tape { before = new.before; after = new.after; tail = new.tail; synced = false; failures = risen unit.tape.failures }) where
  torn_at : (honest : Bool) → (IsTrue honest → IsTrue unit.tape.honest)
      → new ≡ record unit.tape {
        before = if honest then unit.tape.before else new.before;
        after = [];
        tail = new.tail;
        synced = false;
        failures = risen unit.tape.failures;
      }
  torn_at true is = left (is refl)
  torn_at false is = rest ∙ ap (λ (xs : List Item). record unit.tape {
    before = new.before;
    after = xs;
    tail = new.tail;
    synced = false;
    failures = risen unit.tape.failures;
  }) (no_items new.after kept.after)

  pub torn_sizes : map size new.before ≡ map size unit.tape.before
  torn_sizes = kept.before ∙ ap (map size) (append-nil unit.tape.before)

  pub torn_items : record (with_tape unit new) { is_working = false }
      ≡ record unit {
        tape = record unit.tape {
          before = if unit.tape.honest then unit.tape.before else new.before;
          after = [];
          tail = new.tail;
          synced = false;
          failures = risen unit.tape.failures;
        };
        is_working = false;
      }
  torn_items = ap (λ (tape : TapeState). record unit { tape = tape; is_working = false }) (torn_at unit.tape.honest (λ honest. honest))

pub unsynced_rest : (unit : TapeUnitState) (new : TapeState)
    → new ≡ record unit.tape { before = new.before; after = new.after; tail = new.tail; synced = new.synced; failures = risen unit.tape.failures }
    → new.synced ≡ false
    → new ≡ record unit.tape { before = new.before; after = new.after; tail = new.tail; synced = false; failures = risen unit.tape.failures }
unsynced_rest unit new rest unsynced = rest
    ∙ ap (λ (s : Bool). record unit.tape { before = new.before; after = new.after; tail = new.tail; synced = s; failures = risen unit.tape.failures }) unsynced
