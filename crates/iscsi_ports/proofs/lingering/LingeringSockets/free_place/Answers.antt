use Rattle.std.proofs.Common.{ℕ, Option, ◌≡◌, ◌<◌, length, None, is_none, not, ap, sym, ◌∙◌, arith, true, false}
use Rattle.std.specs.Prelude.{unwrap_or}
use Rattle.std.proofs.lemmas.List.{get_or_read}
use Rattle.iscsi_ports.specs.Lingering.{place_of}
use Rattle.iscsi_ports.proofs.Numbers.{free_here, free_next}
use Rattle.iscsi_ports.proofs.lingering.LingeringSockets.free_place.Goals as goal

pub returns-then-is_none-clause-value : goal.returns-then-is_none-clause-value
returns-then-is_none-clause-value c =
    let places = c.args.self.now.places.items in
    let lt : c.loop-place.place < length places = omega (arith, c.loop-place-test.true, c.args.self.now.places_are_65) in
    let is : c.index.result.now ≡ place_of c.loop-place.place places = get_or_read places c.loop-place.place _ lt c.index.ensures None in
    let free : is_none (place_of c.loop-place.place places) ≡ true =
    ap is_none (sym is) ∙ ap not c.is_none.ensures ∙ ap (λ b. not (not b)) c.if-is_none.true in
    free_here (λ d. is_none (place_of d places)) c.loop-place.place c.loop-place-test.true free c.loop-place.invariant

pub loop-place-preserved : goal.loop-place-preserved
loop-place-preserved c =
    let places = c.args.self.now.places.items in
    let lt : c.loop-place.place < length places = omega (arith, c.loop-place-test.true, c.args.self.now.places_are_65) in
    let is : c.index.result.now ≡ place_of c.loop-place.place places = get_or_read places c.loop-place.place _ lt c.index.ensures None in
    let taken : is_none (place_of c.loop-place.place places) ≡ false =
    ap is_none (sym is) ∙ ap not c.is_none.ensures ∙ ap (λ b. not (not b)) c.if-is_none.false in
    free_next (λ d. is_none (place_of d places)) c.loop-place.place c.loop-place-test.true taken c.loop-place.invariant

pub returns-clause-value : goal.returns-clause-value
returns-clause-value c =
    let places = c.args.self.now.places.items in
    let all : c.loop-place.place ≡ 64 = omega (arith, c.loop-place-test.false, c.loop-place.auto.place-end) in
    sym (ap (λ (o : Option ℕ). unwrap_or o 64) (rw all at c.loop-place.invariant))
