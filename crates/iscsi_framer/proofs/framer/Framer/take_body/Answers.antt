use Rattle.std.proofs.Common.{◌≡◌, ℕ, ◌+◌, List, ◌++◌, length, take, drop, sym, ap, ◌∙◌, arith, append-nil, length-append}
use Rattle.std.proofs.lemmas.List.{drop_at, drop_all}
use Rattle.iscsi_pdu.specs.Segment.{padded}
use Rattle.iscsi_framer.proofs.Split.{front_full, behind_dropped}
use Rattle.iscsi_framer.proofs.framer.Framer.take_body.Goals as goal

pub overflow_add-end : goal.overflow_add-end
overflow_add-end c =
    let h = c.self.inside.header.items in
    let b = c.self.inside.behind in
    let is : h ++ b ≡ c.args.self.now = c.self.view_is in
    let all : length (h ++ b) ≡ length c.args.self.now = ap (λ (x : List ℕ). length x) is in
    let sum = length-append h b in
    let short = c.self.invariant.short in
    omega (arith, all, sum, short, c.requires.whole, c.len-behind.ensures.value, c.len-behind.ensures.bound, c.padded.ensures)

pub returns-then-behind-end-clause-body : goal.returns-then-behind-end-clause-body
returns-then-behind-end-clause-body c =
    let h = c.self.inside.header.items in
    let b = c.self.inside.behind in
    let is : h ++ b ≡ c.args.self.now = c.self.view_is in
    let all : length (h ++ b) ≡ length c.args.self.now = ap (λ (x : List ℕ). length x) is in
    let full = front_full 48 h b c.self.invariant (omega (arith, all, c.requires.whole)) in
    let at : b ≡ drop (48 + c.args.additional) c.args.self.now =
    sym (drop_at h b 48 full) ∙ ap (λ (x : List ℕ). drop 48 x) is
    ∙ ap (λ (n : ℕ). drop n c.args.self.now) (let e : 48 ≡ 48 + c.args.additional = omega (arith, c.if-additional-eq0.true) in e) in
    c.truncate.ensures.items ∙ ap (λ (x : List ℕ). take c.args.count x) (c.in_ok-all.ensures.bytes ∙ append-nil b ∙ at)

pub returns-then-behind-end-clause-rest : goal.returns-then-behind-end-clause-rest
returns-then-behind-end-clause-rest c =
    let h = c.self.inside.header.items in
    let b = c.self.inside.behind in
    let is : h ++ b ≡ c.args.self.now = c.self.view_is in
    let all : length (h ++ b) ≡ length c.args.self.now = ap (λ (x : List ℕ). length x) is in
    let sum = length-append h b in
    let short = c.self.invariant.short in
    let none = drop_all (48 + c.args.additional + padded c.args.count) c.args.self.now
    (omega (arith, all, sum, short, c.len-behind.ensures.value, c.if-behind-end.true, c.padded.ensures)) in
    ap (λ (x : List ℕ). x ++ c.complete.new.self) c.clear.ensures ∙ c.in_ok-all.ensures.none ∙ sym none

pub copied-requires : goal.copied-requires
copied-requires c =
    let h = c.self.inside.header.items in
    let b = c.self.inside.behind in
    let is : h ++ b ≡ c.args.self.now = c.self.view_is in
    let all : length (h ++ b) ≡ length c.args.self.now = ap (λ (x : List ℕ). length x) is in
    let sum = length-append h b in
    let short = c.self.invariant.short in
    omega (arith, all, sum, short, c.requires.whole)

pub returns-clause-body : goal.returns-clause-body
returns-clause-body c =
    let h = c.self.inside.header.items in
    let b = c.self.inside.behind in
    let is : h ++ b ≡ c.args.self.now = c.self.view_is in
    let all : length (h ++ b) ≡ length c.args.self.now = ap (λ (x : List ℕ). length x) is in
    c.in_ok-body.ensures.value ∙ ap (λ (x : List ℕ). take c.args.count x)
    (sym (behind_dropped 48 c.args.additional h b c.self.invariant (omega (arith, all, c.requires.whole)))
    ∙ ap (λ (x : List ℕ). drop (48 + c.args.additional) x) is)
