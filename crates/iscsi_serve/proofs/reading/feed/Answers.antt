use Rattle.std.proofs.Common.{[], refl, inl, inr}
use Rattle.iscsi_serve.proofs.reading.feed.Goals as goal

pub returns-in-Ok : goal.returns-in-Ok
returns-in-Ok g c = record {
  stands = λ sound s sent h stands. ([], [], (inl refl, refl), c.in-Ok.ensures.stands s sent h (λ was. stands) sound);
  bounded = c.in-Ok.ensures.bounded;
  feeds = c.in-Ok.ensures.feeds;
  fed = λ s sent h stands. (_, c.in-Ok.ensures.came s sent h stands);
  each = c.in-Ok.ensures.each;
  sure = c.in-Ok.ensures.sure;
}

pub returns-in-Err : goal.returns-in-Err
returns-in-Err g c = record {
  stands = λ sound s sent h stands.
      (let starved = c.in-Err.ensures.starved s sent h (λ was. stands) sound in
      (starved.0, [], (inr (c.in-Err.field-0.connection, starved.1), refl), starved.2));
  bounded = c.in-Err.ensures.bounded;
  feeds = c.in-Err.ensures.feeds;
  fed = λ s sent h stands. (_, c.in-Err.ensures.came s sent h stands);
  each = c.in-Err.ensures.each;
  sure = c.in-Err.ensures.sure;
}
