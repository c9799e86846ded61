use Rattle.std.proofs.Common.{rules, true, ◌≡◌, ℕ, ◌+◌, ◌-◌, ◌^◌, ◌≤◌, ◌<◌, length, List, ◌++◌, take, arith, ap, refl, sym, ◌∙◌}
use Rattle.std.proofs.lemmas.List.{places, same_lists}
use borrow.Rule.Slice.PartMut.{put_mid}
use Rattle.media_store.proofs.Ended.{HasGoneOn-none, HasGoneOn-more, HasEnded-ok, HasEnded-failed, HasEnded-given-up, asks-rest, moved-some, moved-none, many, far}
use Rattle.media_store.proofs.PartsRead.{HasComeTo-none, HasComeTo-more, HasComeTo-again, HasComeTo-end, HasRead-whole, HasRead-part}
use Rattle.media_store.proofs.whole.read_whole.Goals as goal
use Rattle.media_store.proofs.whole.read_whole.Goals.{in-Ok, in-Err}

-- a part of a buffer is filled in front
take-filled : (done n : ℕ) (buffer rest : List ℕ) → done ≤ length buffer → n ≤ length rest → length rest ≡ length buffer - done
    → take (done + n) (put_mid done (length buffer - done) buffer rest) ≡ take done buffer ++ take n rest
take-filled done n buffer rest within few long = same_lists _ _ (search (rules, places)) (λ k d h. grind (arith, places))

take-kept : (done : ℕ) (buffer rest : List ℕ) → done ≤ length buffer → length rest ≡ length buffer - done
    → take done (put_mid done (length buffer - done) buffer rest) ≡ take done buffer
take-kept done buffer rest within long = same_lists _ _ (search (rules, places)) (λ k d h. grind (arith, places))

pub loop-init : goal.loop-init
loop-init g c = record {
  within = search rules;
  come = λ origin. HasComeTo-none origin _ _ _;
  goes = HasGoneOn-none _ _ _;
}

pub loop-preserved : goal.loop-preserved
loop-preserved g c =
    let done = c.loop.done in
    let buffer = c.loop.buf in
    let rest = c.read_some.new.buf in
    let within : done ≤ length buffer = c.loop.invariant.within in
    let is : c.in-Some.from ≡ c.args.at + done = search rules in
    let left : length rest ≡ length buffer - done = search (rules, places) in
    let after = put_mid done (length buffer - done) buffer rest in
    let long : length after ≡ length buffer = search (rules, places) in
    elim c.match-read_some.branch [
      | in-Ok w ↦
          let few : w.in-Ok.count ≤ length rest = w.in-Ok.ensures.count in
          let part : length (take w.in-Ok.count rest) ≡ w.in-Ok.count = search (rules, places) in
          let filled : take c.match-read_some.done after ≡ take done buffer ++ take w.in-Ok.count rest =
          rw w.done-is (take-filled done w.in-Ok.count buffer rest within few left) in
          let some : 0 < w.in-Ok.count = search rules in record {
            within = omega arith;
            come = λ origin. rw (w.in-Ok.ensures.noted, is) (HasComeTo-more origin c.args.at buffer after
                (take w.in-Ok.count rest) done c.match-read_some.done _ _ _ within (omega arith) filled (c.loop.invariant.come origin));
            goes = rw w.in-Ok.ensures.noted (HasGoneOn-more _ c.args.at (length buffer) _ c.loop.counter _ done _ _ _
                (moved-some _ _ _ part some) (asks-rest _ _ _ _ is left) long (omega arith) (omega (arith, part)) c.loop.invariant.goes);
          }
      | in-Err w ↦
          let kept : take done after ≡ take done buffer = take-kept done buffer rest within left in record {
            within = omega arith;
            come = λ origin. rw (w.done-is, w.in-Err.ensures.noted)
                (HasComeTo-again origin c.args.at buffer after done _ _ _ _ _ kept (c.loop.invariant.come origin));
            goes = rw w.in-Err.ensures.noted (HasGoneOn-more _ c.args.at (length buffer) _ c.loop.counter _ done _ _ _
                (search rules) (asks-rest _ _ _ _ is left) long (omega arith) (omega arith) c.loop.invariant.goes);
          }
    ]

pub returns-then-done-buf : goal.returns-then-done-buf
returns-then-done-buf g c origin =
    HasRead-whole origin c.args.at c.loop.buf c.loop.done true _ _ (omega (arith, c.loop.invariant.within))
    (HasEnded-ok _ _ _ _ _ _ c.loop.invariant.goes) (c.loop.invariant.come origin)

pub returns-in_default : goal.returns-in_default
returns-in_default g c origin =
    let past : 2 ^ 64 ≤ c.args.at + c.loop.done = search rules in
    rw c.give_up.ensures (HasRead-part origin c.args.at c.loop.buf c.loop.done _ _ c.loop.invariant.within
    (HasEnded-given-up c.args.at (length c.loop.buf) c.loop.counter _ _ _
    (far c.args.at (length c.loop.buf) _ (omega (arith, past, c.loop.invariant.within))) c.loop.invariant.goes)
    (HasComeTo-end origin c.args.at c.loop.buf c.loop.done _ _ (c.loop.invariant.come origin)))

pub returns : goal.returns
returns g c origin =
    rw c.give_up-2.ensures (HasRead-part origin c.args.at c.loop.buf c.loop.done _ _ c.loop.invariant.within
    (HasEnded-given-up c.args.at (length c.loop.buf) c.loop.counter _ _ _ (many _ c.loop.counter (omega arith)) c.loop.invariant.goes)
    (HasComeTo-end origin c.args.at c.loop.buf c.loop.done _ _ (c.loop.invariant.come origin)))

pub returns-in-Ok-eq0 : goal.returns-in-Ok-eq0
returns-in-Ok-eq0 g c origin =
    let done = c.loop.done in
    let buffer = c.loop.buf in
    let rest = c.read_some.new.buf in
    let within : done ≤ length buffer = c.loop.invariant.within in
    let is : c.in-Some.from ≡ c.args.at + done = search rules in
    let left : length rest ≡ length buffer - done = search (rules, places) in
    let after = put_mid done (length buffer - done) buffer rest in
    let long : length after ≡ length buffer = search (rules, places) in
    let some : 0 < length rest = omega arith in
    let kept : done ≤ length after = search (rules, places) in
    let none : done + 0 ≡ done = omega arith in
    let filled : take done after ≡ take done buffer ++ take 0 rest =
    ap (λ n. take n after) (sym none) ∙ take-filled done 0 buffer rest within (omega arith) left in
    rw (c.read_some.ensures.noted, c.in-Ok-eq0.is, c.in-Ok-eq0.field-0-test, is) (HasRead-part origin c.args.at after done _ _ kept
    (HasEnded-failed _ c.args.at (length buffer) _ c.loop.counter done _ _ (moved-none (take 0 rest) 0 _ refl refl some) refl (asks-rest _ _ _ _ refl left) long
    c.loop.invariant.goes)
    (HasComeTo-more origin c.args.at buffer after (take 0 rest) done done _ _ _ within (omega arith) filled (c.loop.invariant.come origin)))

pub returns-in-Err-2 : goal.returns-in-Err-2
returns-in-Err-2 g c origin =
    let done = c.loop.done in
    let buffer = c.loop.buf in
    let rest = c.read_some.new.buf in
    let within : done ≤ length buffer = c.loop.invariant.within in
    let left : length rest ≡ length buffer - done = search (rules, places) in
    let after = put_mid done (length buffer - done) buffer rest in
    let is : c.in-Some.from ≡ c.args.at + done = search rules in
    let long : length after ≡ length buffer = search (rules, places) in
    let kept : done ≤ length after = search (rules, places) in
    rw c.in-Err-2.ensures.noted (HasRead-part origin c.args.at after done _ _ kept
    (HasEnded-failed _ c.args.at (length buffer) _ c.loop.counter done _ _ (search rules) refl (asks-rest _ _ _ _ is left) long c.loop.invariant.goes)
    (HasComeTo-again origin c.args.at buffer after done _ _ _ _ _ (take-kept done buffer rest within left) (c.loop.invariant.come origin)))
