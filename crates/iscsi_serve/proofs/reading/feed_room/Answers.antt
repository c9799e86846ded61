use Rattle.std.proofs.Common.{[], refl, inl, inr}
use Rattle.iscsi_serve.proofs.reading.feed_room.Goals as goal

pub returns-in-Ok : goal.returns-in-Ok
returns-in-Ok g c = λ before lacks.
    (let takes = c.in-Ok.ensures before lacks in
    record {
      stands = λ sound s sent h stands. ([], [], (inl refl, refl), takes.stands s sent h (λ was. stands) sound);
      bounded = takes.bounded;
      feeds = takes.feeds;
      fed = λ s sent h stands. (_, takes.came s sent h stands);
      each = takes.each;
      sure = takes.sure;
    })

pub returns-in-Err : goal.returns-in-Err
returns-in-Err g c = λ before lacks.
    (let takes = c.in-Err.ensures before lacks in
    record {
      stands = λ sound s sent h stands.
          (let starved = takes.starved s sent h (λ was. stands) sound in
          (starved.0, [], (inr (c.in-Err.field-0.connection, starved.1), refl), starved.2));
      bounded = takes.bounded;
      feeds = takes.feeds;
      fed = λ s sent h stands. (_, takes.came s sent h stands);
      each = takes.each;
      sure = takes.sure;
    })
