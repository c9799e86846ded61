use Rattle.std.proofs.Common.{◌≡◌, ℕ, ◌+◌, ◌-◌, List, ◌++◌, length, take, drop, ap, ◌∙◌, arith}
use Rattle.iscsi_pdu.specs.Header.{data_length}
use Rattle.iscsi_framer.proofs.Taking.{Begun, no_whole_frame}
use Rattle.iscsi_pdu.proofs.Fields.{fields}
use Rattle.iscsi_framer.proofs.Gathering.{Gathered, gives}
use Rattle.iscsi_framer.proofs.framer.Framer.gather.Goals as goal

pub overflow_sub-missing : goal.overflow_sub-missing
overflow_sub-missing c =
    let f = fields c.args.self.now c.args.header c.requires.header in
    omega (arith, f.framed)

pub returns-then-more-missing-clause-none : goal.returns-then-more-missing-clause-none
returns-then-more-missing-clause-none c =
    let b : Begun c.args.self.now c.args.header =
    record { there = c.requires.there; header_is = c.requires.header; short = c.requires.short; within = c.requires.within } in
    no_whole_frame c.args.self.now c.args.header c.args.more.now b (omega arith)

pub returns-clause-given : goal.returns-clause-given
returns-clause-given c =
    let f = c.self.inside.header.items in
    let k = c.self.inside.behind in
    let used = 48 + c.additional_length-additional.result + c.padded.result - c.len.result in
    let b : Begun (f ++ k) c.args.header =
    rw c.self.view_is (record { there = c.requires.there; header_is = c.requires.header; short = c.requires.short; within = c.requires.within }) in
    let is : length (f ++ k) ≡ length c.args.self.now = ap (λ (x : List ℕ). length x) c.self.view_is in
    let body : c.truncate.new.self.items ≡ take c.data_length-data.result (drop c.additional_length-additional.result (k ++ take used c.args.more.now)) =
    c.truncate.ensures.items ∙ ap (take c.data_length-data.result) (c.cut_front.ensures ∙ ap (drop c.additional_length-additional.result)
    (c.in_ok-body.ensures.bytes ∙ ap (λ (x : List ℕ). x ++ take used c.args.more.now) c.prepare.ensures)) in
    let g : Gathered f k c.args.more.now c.args.header c.truncate.new.self.items used = record {
      split = c.self.invariant;
      begun = b;
      used_is = omega (arith, is);
      enough = omega arith;
      body_is = body ∙ ap (λ (n : ℕ). take n (drop c.additional_length-additional.result (k ++ take used c.args.more.now))) c.data_length-data.ensures
          ∙ ap (λ (n : ℕ). take (data_length c.args.header) (drop n (k ++ take used c.args.more.now))) c.additional_length-additional.ensures;
    } in
    rw (← c.self.view_is) (gives f k c.args.more.now c.args.header c.truncate.new.self.items used g)
