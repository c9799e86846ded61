use Rattle.std.proofs.Common.{◌≡◌, ◌<◌, length, refl, rules, inl, inr}
use Rattle.iscsi_ports.specs.Log.{Wrote, Fault, End}
use Rattle.iscsi_serve.specs.Served.{MayHappen, MayComeOut}
use Rattle.iscsi_serve.proofs.Closing.{open_sent, others_same, others_sent, others_ended}
use Rattle.iscsi_serve.proofs.Fronts.{none_offered}
use Rattle.iscsi_serve.proofs.Goings.{empty_write, write_some, write_ended}
use Rattle.iscsi_serve.proofs.Keeping.{keeps_same, keeps_told, write_stays}
use Rattle.iscsi_serve.proofs.Stalled.{nothing_written, others_kept}
use Rattle.iscsi_serve.proofs.serving.write_open.Goals as goal

pub returns-then-is_empty-clause-does : goal.returns-then-is_empty-clause-does
returns-then-is_empty-clause-does g c =
    let none : length c.out-offered.result.now ≡ 0 = search rules in
    record {
      keeps = keeps_same _ _ _;
      goes = λ tells.
          empty_write _ c.args.target.now c.args.ended.now c.args.c (none_offered c.out-offered.result.now _ c.out-offered.ensures.some none);
    }

pub returns-in-Bytes-eq0-clause-does : goal.returns-in-Bytes-eq0-clause-does
returns-in-Bytes-eq0-clause-does g c =
    let some : 0 < length c.out-offered.result.now = search rules in
    nothing_written _ _ _ _ c.args.target.now c.note_stalled.new.self c.args.ended.now c.args.c c.out-offered.result.now c.requires.in_range
    c.requires.open c.out-offered.ensures.front c.out-offered.ensures.ends some c.write.ensures.back
    (λ tells. rw c.in-Bytes-eq0.field-0-test at (c.in-Bytes-eq0.ensures.log tells)) c.note_stalled.ensures

pub returns-in-Bytes-clause-does : goal.returns-in-Bytes-clause-does
returns-in-Bytes-clause-does g c =
    let some : 0 < length c.out-offered.result.now = search rules in
    record {
      keeps = record {
        back = c.write.ensures.back;
        each = c.sent.ensures.each;
        sure = c.sent.ensures.sure;
        served = λ tells sound.
            write_stays MayHappen _ _ _ _ _ _ _ c.requires.in_range c.requires.open c.out-offered.ensures.front c.in-Bytes.ensures.count
            (c.in-Bytes.ensures.log tells) c.sent.ensures.always;
        came = λ tells.
            write_stays (MayComeOut c.sent.new.self) _ _ _ _ _ _ _ c.requires.in_range c.requires.open c.out-offered.ensures.front c.in-Bytes.ensures.count
            (c.in-Bytes.ensures.log tells) c.sent.ensures.always;
        bounded = c.sent.ensures.bounded;
      };
      goes = λ tells.
          write_some _ _ _ _ _ _ _ _ c.requires.open c.out-offered.ensures.front c.out-offered.ensures.ends some c.in-Bytes.ensures.count
          (c.in-Bytes.ensures.log tells) c.sent.ensures.now;
    }

pub returns-in-End-clause-does : goal.returns-in-End-clause-does
returns-in-End-clause-does g c =
    let some : 0 < length c.out-offered.result.now = search rules in
    let long : length c.args.ended.now ≡ 64 = search rules in
    elim c.in-End.is [
      | inl is ↦ record {
        keeps =
            keeps_told _ _ _ _ _ (Wrote c.args.c (length c.out-offered.result.now) End) refl (λ rows. refl) c.write.ensures.back
            (λ tells. rw is at (c.write.ensures.log tells));
        goes = λ tells.
            write_ended _ _ _ _ _ End _ c.requires.in_range long c.requires.open c.out-offered.ensures.front c.out-offered.ensures.ends some refl
            (rw is at (c.write.ensures.log tells));
      }
      | inr is ↦ record {
        keeps =
            keeps_told _ _ _ _ _ (Wrote c.args.c (length c.out-offered.result.now) Fault) refl (λ rows. refl) c.write.ensures.back
            (λ tells. rw is at (c.write.ensures.log tells));
        goes = λ tells.
            write_ended _ _ _ _ _ Fault _ c.requires.in_range long c.requires.open c.out-offered.ensures.front c.out-offered.ensures.ends some refl
            (rw is at (c.write.ensures.log tells));
      }
    ]

pub returns-then-is_empty-clause-others : goal.returns-then-is_empty-clause-others
returns-then-is_empty-clause-others g c = others_same c.args.target.now c.args.ended.now c.args.c

pub returns-in-Bytes-eq0-clause-others : goal.returns-in-Bytes-eq0-clause-others
returns-in-Bytes-eq0-clause-others g c =
    others_kept c.args.target.now c.note_stalled.new.self c.args.ended.now c.args.c c.note_stalled.ensures

pub returns-in-Bytes-clause-open : goal.returns-in-Bytes-clause-open
returns-in-Bytes-clause-open g c = open_sent c.args.target.now _ c.args.c _ c.requires.open c.sent.ensures.now

pub returns-in-Bytes-clause-others : goal.returns-in-Bytes-clause-others
returns-in-Bytes-clause-others g c = others_sent c.args.target.now _ c.args.ended.now c.args.c _ c.sent.ensures.now

pub returns-in-End-clause-others : goal.returns-in-End-clause-others
returns-in-End-clause-others g c = others_ended c.args.target.now c.args.ended.now c.args.c
