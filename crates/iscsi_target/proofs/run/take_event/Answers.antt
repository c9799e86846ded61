use Rattle.std.proofs.Common.{◌≡◌, ℕ, List, [], ◌∷◌, ◌++◌, length, map, take, drop, sym, ap, ◌∙◌, subst}
use Rattle.std.proofs.lemmas.List.{map-append}
use Rattle.iscsi_world.specs.History.{Open, Bytes, Gone}
use Rattle.iscsi_target.specs.Events.{event_view}
use Rattle.iscsi_world.specs.Runs.{MayCome, open_row, ended}
use Rattle.iscsi_target.specs.Rows.{seen}
use Rattle.iscsi_target.specs.declared.run.Row.{Row}
use Rattle.iscsi_world.proofs.Reflected.{sound_back}
use Rattle.iscsi_target.proofs.Rows.{all_written}
use Rattle.iscsi_world.proofs.Running.{open_runs, bytes_runs, gone_runs}
use Rattle.iscsi_world.proofs.Through.{open_through, bytes_through, gone_through}
use Rattle.iscsi_world.proofs.Tracking.{opened_tracks, fed_tracks, gone_tracks}
use Rattle.iscsi_target.proofs.run.take_event.Goals as goal

pub returns-in_ok-push-in-Open : goal.returns-in_ok-push-in-Open
returns-in_ok-push-in-Open g c =
    let is : event_view c.args.event.now ≡ Open c.in-Open.c = ap event_view c.in-Open.is in
    let machine = c.args.target.now in
    let rows = map seen c.args.rows.now.items in
    let may = subst (MayCome machine) is c.requires in
    let opens = c.in_ok-open-in-Open.ensures in
    let pushed : map seen c.push.new.self.items ≡ rows ++ open_row c.in-Open.c ∷ [] =
    ap (map seen) c.in_ok-push-in-Open.ensures.items ∙ map-append seen c.args.rows.now.items _
    ∙ ap (λ (bytes : List ℕ). rows ++ record (open_row c.in-Open.c) { bytes = bytes } ∷ []) c.new.ensures.items in
    record {
      runs = λ s before h r sound.
          (let was = r (sound_back machine c.open.new.self opens.each sound) in
          rw (pushed, is) (open_runs s machine c.open.new.self rows before h c.in-Open.c was may (opens.always s (λ k. 0) h was.stands)));
      through = λ s before es r. rw (pushed, is) (open_through s machine c.open.new.self rows before es c.in-Open.c r may opens.each (opens.always s));
      sure = opens.sure;
      «open» = λ before open_. rw is (opened_tracks machine c.open.new.self c.in-Open.c before may.0 c.open.ensures.count opens.now open_);
    }

pub returns-in_ok-feed-in-Bytes : goal.returns-in_ok-feed-in-Bytes
returns-in_ok-feed-in-Bytes g c =
    let is : event_view c.args.event.now ≡ Bytes c.in-Bytes.c c.as_slice.result.now = ap event_view c.in-Bytes.is
    ∙ ap (Bytes c.in-Bytes.c) (sym c.as_slice.ensures.value) in
    let machine = c.args.target.now in
    let rows = map seen c.args.rows.now.items in
    let piece = c.as_slice.result.now in
    let fed = c.in_ok-feed-in-Bytes.ensures in
    record {
      runs = λ s before h r sound.
          (let was = r (sound_back machine c.feed.new.self fed.each sound) in
          rw is (bytes_runs s machine c.feed.new.self rows before h [] c.in-Bytes.c piece was (fed.stands s (λ k. 0) h (λ before_. was.stands) sound)));
      through = λ s before es r. rw is (bytes_through s machine c.feed.new.self rows before es c.in-Bytes.c piece r fed.each
          (λ sent h at. fed.came s sent h at));
      sure = fed.sure;
      «open» = λ before open_. rw is (fed_tracks machine c.feed.new.self before fed.feeds.opens open_);
    }

pub returns-in_ok-end-in-Gone : goal.returns-in_ok-end-in-Gone
returns-in_ok-end-in-Gone g c =
    let is : event_view c.args.event.now ≡ Gone c.in-Gone.c = ap event_view c.in-Gone.is in
    let machine = c.args.target.now in
    let may = subst (MayCome machine) is c.requires in
    let items = c.args.rows.now.items in
    let same : c.as_mut_slice.result.now ≡ items = c.as_mut_slice.ensures.value in
    let len : length c.end.new.rows ≡ length items = c.end.auto.rows ∙ ap (λ (l : List Row). length l) same in
    let made : map seen (take c.args.rows.now.len (c.end.new.rows ++ drop (length c.end.new.rows) items)) ≡ map (ended machine c.in-Gone.c) (map seen items) =
    ap (map seen) (all_written c.end.new.rows items c.args.rows.now.len len c.args.rows.now.ok.0) ∙ c.in_ok-end-in-Gone.ensures
    ∙ ap (λ (l : List Row). map (ended machine c.in-Gone.c) (map seen l)) same in
    let gone = c.gone.ensures in
    record {
      runs = λ s before h r sound.
          (let was = r (sound_back machine c.gone.new.self gone.each sound) in
          rw (made, is) (gone_runs s machine c.gone.new.self (map seen items) before h c.in-Gone.c was (gone.always s (λ k. 0) h was.stands)));
      through = λ s before es r. rw (made, is) (gone_through s machine c.gone.new.self (map seen items) before es c.in-Gone.c r gone.each (gone.always s));
      sure = gone.sure;
      «open» = λ before open_. rw is (gone_tracks machine c.gone.new.self c.in-Gone.c before may.0 gone.count gone.now open_);
    }
