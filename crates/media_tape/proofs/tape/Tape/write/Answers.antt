use Rattle.std.proofs.Common.{◌≡◌, ◌+◌, [], ◌∷◌, length, map, List, ℕ, ap, sym, ◌∙◌, arith, rules}
use Rattle.std.proofs.lemmas.List.{take_all}
use Rattle.media_tape.specs.Items.{Item, Record, size, items_of}
use Rattle.media_tape.specs.Tape.{size_told, wrote_if_told, tape_written}
use Rattle.media_tape.proofs.Spelled.{AreBlocks, are_blocks}
use Rattle.media_tape.proofs.Commands.{write_told-is, tape_written-is}
use Rattle.media_tape.proofs.tape.Tape.write.Given as given
use Rattle.media_tape.proofs.tape.Tape.write.Goals as goal

pub put-requires : goal.put-requires
put-requires g c =
    let bytes = c.args.bytes.now in
    let are : AreBlocks 1 (length bytes) bytes = are_blocks 1 (length bytes) bytes (search rules) c.requires (omega arith) in
    record {
      sized = ap (λ (xs : List ℕ). map size (items_of xs)) c.in_ok-spelled.ensures ∙ ap (map size) are.items ∙ are.sizes;
      total = ap length c.in_ok-spelled.ensures ∙ are.long;
      some = omega arith;
      least = omega arith;
      most = omega arith;
    }

-- one block
are : (g : given.Over) (c : goal.Joined-this-2 g) → AreBlocks 1 (length c.args.bytes.now) c.args.bytes.now
are g c = are_blocks 1 (length c.args.bytes.now) c.args.bytes.now (search rules) c.requires (omega arith)

long : (g : given.Over) (c : goal.Joined-this-2 g) → length c.in_ok-spelled.spelled.items ≡ length c.args.bytes.now + 8
long g c = ap length c.in_ok-spelled.ensures ∙ (are g c).long ∙ omega arith

pub returns-clause-told : goal.returns-clause-told
returns-clause-told g c =
    let is = write_told-is c.args.bytes.now c.args.self.now (search rules) ∙ ap (λ (n : ℕ). size_told n c.args.self.now) (sym (long g c)) in
    rw is c.in_ok-done.ensures.told

as_written : (g : given.Over) (c : goal.Joined-this-2 g) → tape_written c.args.bytes.now c.args.self.now
    ≡ wrote_if_told (size_told (length c.in_ok-spelled.spelled.items) c.args.self.now) (items_of c.in_ok-spelled.spelled.items) c.args.self.now
as_written g c =
    let bytes = c.args.bytes.now in
    let tape = c.args.self.now in
    let items : items_of c.in_ok-spelled.spelled.items ≡ Record bytes ∷ [] = ap items_of c.in_ok-spelled.ensures ∙ (are g c).items
    ∙ ap (λ (xs : List ℕ). Record xs ∷ []) (take_all (length bytes) bytes (omega arith)) in
    tape_written-is bytes tape (search rules) ∙ ap (λ (n : ℕ). wrote_if_told (size_told n tape) (Record bytes ∷ []) tape) (sym (long g c))
    ∙ ap (λ (xs : List Item). wrote_if_told (size_told (length c.in_ok-spelled.spelled.items) tape) xs tape) (sym items)

pub returns-clause-tape : goal.returns-clause-tape
returns-clause-tape g c = rw (as_written g c) c.in_ok-done.ensures.tape

pub returns-clause-sized : goal.returns-clause-sized
returns-clause-sized g c = rw (as_written g c) c.in_ok-done.ensures.sized

pub returns-clause-fits : goal.returns-clause-fits
returns-clause-fits g c = rw (long g c) at c.in_ok-done.ensures.fits
