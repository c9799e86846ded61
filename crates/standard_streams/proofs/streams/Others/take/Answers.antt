use Rattle.std.proofs.Common.{◌≡◌, ◌∷◌, ◌+◌, ◌≤◌, ◌<◌, List, length, refl, sym, ap, ◌∙◌, inl, inr, arith}
use Rattle.std.proofs.lemmas.Bool.Decides.{nat_tests}
use Rattle.call_record.specs.Noted.{Noted}
use Rattle.standard_streams.specs.Streams.{OthersState, stream_count, given, refused}
use Rattle.standard_streams.proofs.streams.Others.take.Goals as goal

pub loop-options-init : goal.loop-options-init
loop-options-init g c = rw c.none-others.ensures (record { few = omega arith; standard = tt; held = refl })

pub returns-in-Err-clause-lacking : goal.returns-in-Err-clause-lacking
returns-in-Err-clause-lacking g c = record {
  taken = c.loop-options.others.told;
  standard = c.loop-options.invariant.standard;
  told = c.in-Err.ensures.unopened ∙ ap (λ (s : OthersState). refused ∷ s.told) c.others.view_is;
}

pub returns-then-number-ge-STREAMS-clause-taken : goal.returns-then-number-ge-STREAMS-clause-taken
returns-then-number-ge-STREAMS-clause-taken g c = record {
  taken = c.loop-options.others.told;
  standard = c.loop-options.invariant.standard;
  held = ap (λ (s : OthersState). s.held) c.others.view_is ∙ c.loop-options.invariant.held;
  rest = inr (c.in-Ok.opened.1, grind (arith, nat_tests), c.in-Ok.ensures.opened ∙ ap (λ (s : OthersState). given c.in-Ok.opened.1 ∷ s.told) c.others.view_is);
}

pub loop-options-smaller : goal.loop-options-smaller
loop-options-smaller g c =
    let held = ap (λ (s : OthersState). s.held) c.others.view_is in
    let few : length c.others.inside.held.items ≤ stream_count = omega (arith, held, c.loop-options.invariant.few) in
    grind (arith, nat_tests)

pub loop-options-preserved : goal.loop-options-preserved
loop-options-preserved g c =
    let told = c.in-Ok.ensures.opened ∙ ap (λ (s : OthersState). given c.in-Ok.opened.1 ∷ s.told) c.others.view_is in
    let held = ap (λ (s : OthersState). s.held) c.others.view_is in
    let pushed : length c.push.new.self.items ≡ length c.others.inside.held.items + 1 = omega (arith, c.push.ensures.len) in
    let few : length c.others.inside.held.items ≤ stream_count = omega (arith, held, c.loop-options.invariant.few) in
    let more : length c.push.new.self.items ≤ stream_count = grind (arith, nat_tests) in
    let number : c.in-Ok.opened.1 < stream_count = grind (arith, nat_tests) in
    record {
      few = more;
      standard = rw told (c.in-Ok.opened.1, number, refl, c.loop-options.invariant.standard);
      held = omega (arith, pushed, held, c.loop-options.invariant.held, ap (λ (notes : List Noted). length notes) told);
    }

pub returns-clause-taken : goal.returns-clause-taken
returns-clause-taken g c =
    let held = ap (λ (s : OthersState). s.held) c.others.view_is in
    let full : length c.others.inside.held.items ≡ stream_count = grind (arith, nat_tests) in
    record {
      taken = c.loop-options.others.told;
      standard = c.loop-options.invariant.standard;
      held = c.loop-options.invariant.held;
      rest = inl (sym held ∙ full, refl);
    }
