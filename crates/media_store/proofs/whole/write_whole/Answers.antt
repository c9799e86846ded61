use Rattle.std.proofs.Common.{rules, ◌≡◌, ℕ, ◌+◌, ◌-◌, ◌≤◌, ◌<◌, ◌^◌, length, List, ◌++◌, take, drop, arith, refl, true, ap, ◌∙◌}
use Rattle.std.proofs.Math.Seq.{take-add}
use Rattle.std.proofs.lemmas.List.{places, length-drop, drop-drop}
use Rattle.media_store.proofs.Ended.{HasGoneOn-more, HasEnded-ok, HasEnded-failed, HasEnded-given-up, many, far, asks-rest, moved-some, moved-all, moved-none}
use Rattle.media_store.proofs.PartsWritten.{HasPutTo-more, HasPutTo-again, HasPutTo-end, HasWritten-whole, HasWritten-part}
use Rattle.media_store.proofs.whole.write_whole.Goals as goal
use Rattle.media_store.proofs.whole.write_whole.Goals.{in-Ok+else-done-total+else-count-eq0, in-Err}

take-rest : (done n : ℕ) (bytes rest : List ℕ) → rest ≡ drop done bytes → take (done + n) bytes ≡ take done bytes ++ take n rest
take-rest done n bytes rest is = rw is (take-add done n bytes)

pub loop-preserved : goal.loop-preserved
loop-preserved g c =
    let done = c.loop.done in
    let bytes = c.args.bytes in
    let rest = c.loop.rest in
    let within : done ≤ length bytes = c.loop.invariant.within in
    let is : c.in-Some.to ≡ c.args.at + done = search rules in
    let left : length rest ≡ length bytes - done = ap length c.loop.invariant.rest ∙ length-drop done bytes in
    elim c.match-write_some.branch [
      | in-Ok+else-done-total+else-count-eq0 w ↦
          let few : w.in-Ok.count ≤ length rest = w.in-Ok.ensures.count in
          let part : length (take w.in-Ok.count rest) ≡ w.in-Ok.count = search (rules, places) in
          let taken : take c.match-write_some.done bytes ≡ take done bytes ++ take w.in-Ok.count rest =
          rw w.done-is (take-rest done w.in-Ok.count bytes rest c.loop.invariant.rest) in
          let some : 0 < w.in-Ok.count = search rules in record {
            within = omega arith;
            rest = rw w.done-is (w.rest-is ∙ w.after-rest.ensures ∙ ap (drop w.in-Ok.count) c.loop.invariant.rest ∙ drop-drop w.in-Ok.count done bytes);
            put = λ origin. rw (w.in-Ok.ensures.noted, is) (HasPutTo-more origin c.args.at bytes
                (take w.in-Ok.count rest) done c.match-write_some.done _ _ _ within (omega arith) (omega arith) taken (c.loop.invariant.put origin));
            goes = rw w.in-Ok.ensures.noted (HasGoneOn-more _ c.args.at (length bytes) _ c.loop.counter _ done _ _ _
                (moved-some _ _ _ part some) (asks-rest _ _ _ _ is left) refl (omega arith) (omega (arith, part)) c.loop.invariant.goes);
            called = omega arith;
            synced = λ _. rw w.in-Ok.ensures.noted refl;
          }
      | in-Err w ↦ record {
        within = omega arith;
        rest = rw (w.done-is, w.rest-is) c.loop.invariant.rest;
        put = λ origin. rw (w.done-is, w.in-Err.ensures.noted, is)
            (HasPutTo-again origin c.args.at bytes done (length rest) _ _ _ within left (c.loop.invariant.put origin));
        goes = rw w.in-Err.ensures.noted (HasGoneOn-more _ c.args.at (length bytes) _ c.loop.counter _ done _ _ _
            (search rules) (asks-rest _ _ _ _ is left) refl (omega arith) (omega arith) c.loop.invariant.goes);
        called = omega arith;
        synced = λ _. rw w.in-Err.ensures.noted refl;
      }
    ]

pub returns-then-done-total : goal.returns-then-done-total
returns-then-done-total g c origin =
    let done = c.loop.done in
    let bytes = c.args.bytes in
    let rest = c.loop.rest in
    let within : done ≤ length bytes = c.loop.invariant.within in
    let is : c.in-Some.to ≡ c.args.at + done = search rules in
    let left : length rest ≡ length bytes - done = ap length c.loop.invariant.rest ∙ length-drop done bytes in
    let few : c.in-Ok.count ≤ length rest = c.in-Ok.ensures.count in
    let part : length (take c.in-Ok.count rest) ≡ c.in-Ok.count = search (rules, places) in
    let all : c.in-Ok.count ≡ length rest = omega (arith, c.if-done-total.true, c.len-total.ensures) in
    let whole = rw c.len-total.ensures at c.if-done-total.true in
    rw (c.in-Ok.ensures.noted, is) (HasWritten-whole origin c.args.at bytes (done + c.in-Ok.count) true _ _ whole refl
    (HasEnded-ok c.args.at (length bytes) (c.loop.counter + 1) (c.in-Ok.count + done) _ _
    (HasGoneOn-more _ c.args.at (length bytes) _ c.loop.counter _ done _ _ _
    (moved-all _ _ _ part all) (asks-rest _ _ _ _ refl left) refl refl (omega (arith, part)) c.loop.invariant.goes))
    (HasPutTo-more origin c.args.at bytes (take c.in-Ok.count rest) done (done + c.in-Ok.count) _ _ _ within (omega arith)
    (omega arith) (take-rest done c.in-Ok.count bytes rest c.loop.invariant.rest) (c.loop.invariant.put origin)))

pub returns-then-count-eq0 : goal.returns-then-count-eq0
returns-then-count-eq0 g c origin =
    let done = c.loop.done in
    let bytes = c.args.bytes in
    let rest = c.loop.rest in
    let within : done ≤ length bytes = c.loop.invariant.within in
    let is : c.in-Some.to ≡ c.args.at + done = search rules in
    let left : length rest ≡ length bytes - done = ap length c.loop.invariant.rest ∙ length-drop done bytes in
    let few : c.in-Ok.count ≤ length rest = c.in-Ok.ensures.count in
    let part : length (take c.in-Ok.count rest) ≡ c.in-Ok.count = search (rules, places) in
    let none : c.in-Ok.count ≡ 0 = search rules in
    let some : 0 < length rest = omega arith in
    rw (c.in-Ok.ensures.noted, is) (HasWritten-part origin c.args.at bytes (done + c.in-Ok.count) _ _ refl
    (HasEnded-failed _ c.args.at (length bytes) _ c.loop.counter done _ _ (moved-none _ _ _ part none some) refl (asks-rest _ _ _ _ refl left) refl
    c.loop.invariant.goes)
    (HasPutTo-more origin c.args.at bytes (take c.in-Ok.count rest) done (done + c.in-Ok.count) _ _ _ within (omega arith)
    (omega arith) (take-rest done c.in-Ok.count bytes rest c.loop.invariant.rest) (c.loop.invariant.put origin)))

pub returns-in_default : goal.returns-in_default
returns-in_default g c origin =
    let past : 2 ^ 64 ≤ c.args.at + c.loop.done = search rules in
    let some : 0 < c.loop.done = omega (arith, c.ranges.at) in
    let called : 0 < c.loop.counter = omega (arith, c.loop.invariant.called) in
    rw c.give_up.ensures (HasWritten-part origin c.args.at c.args.bytes c.loop.done _ _ (c.loop.invariant.synced called)
    (HasEnded-given-up c.args.at (length c.args.bytes) c.loop.counter _ _ _
    (far c.args.at (length c.args.bytes) _ (omega (arith, past, c.loop.invariant.within)))
    c.loop.invariant.goes)
    (HasPutTo-end origin c.args.at c.args.bytes c.loop.done _ _ (c.loop.invariant.put origin)))

pub returns : goal.returns
returns g c origin =
    rw c.give_up-2.ensures (HasWritten-part origin c.args.at c.args.bytes c.loop.done _ _ (c.loop.invariant.synced (omega arith))
    (HasEnded-given-up c.args.at (length c.args.bytes) c.loop.counter _ _ _ (many _ c.loop.counter (omega arith)) c.loop.invariant.goes)
    (HasPutTo-end origin c.args.at c.args.bytes c.loop.done _ _ (c.loop.invariant.put origin)))

pub returns-in-Err-2 : goal.returns-in-Err-2
returns-in-Err-2 g c origin =
    let done = c.loop.done in
    let bytes = c.args.bytes in
    let rest = c.loop.rest in
    let is : c.in-Some.to ≡ c.args.at + done = search rules in
    let left : length rest ≡ length bytes - done = ap length c.loop.invariant.rest ∙ length-drop done bytes in
    rw (c.in-Err-2.ensures.noted, is) (HasWritten-part origin c.args.at bytes done _ _ refl
    (HasEnded-failed _ c.args.at (length bytes) _ c.loop.counter done _ _ (search rules) refl (asks-rest _ _ _ _ refl left) refl c.loop.invariant.goes)
    (HasPutTo-again origin c.args.at bytes done (length rest) _ _ _ c.loop.invariant.within left (c.loop.invariant.put origin)))
