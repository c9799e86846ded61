use Rattle.std.proofs.Common.{◌≡◌, ℕ, ◌+◌, ◌-◌, List, ◌++◌, length, take, drop, replicate, refl, sym, ap, ◌∙◌, arith, length-append}
use Rattle.std.proofs.lemmas.List.{take-append-drop, take-replicate}
use Rattle.iscsi_framer.proofs.Split.{behind_dropped}
use Rattle.iscsi_pdu.proofs.Zeros.{front_with_zeros}
use Rattle.iscsi_framer.proofs.framer.Framer.pass.Goals as goal

pub skip-requires : goal.skip-requires
skip-requires c =
    let h = c.self.inside.header.items in
    let b = c.self.inside.behind in
    let is : h ++ b ≡ c.args.self.now = c.self.view_is in
    let all : length (h ++ b) ≡ length c.args.self.now = ap (λ (x : List ℕ). length x) is in
    let sum = length-append h b in
    let short = c.self.invariant.short in
    omega (arith, all, sum, short, c.requires)

pub returns : goal.returns
returns c =
    let h = c.self.inside.header.items in
    let b = c.self.inside.behind in
    let is : h ++ b ≡ c.args.self.now = c.self.view_is in
    let all : length (h ++ b) ≡ length c.args.self.now = ap (λ (x : List ℕ). length x) is in
    let k = c.min-front.result in
    let left = c.skip.new.self in
    let kept = c.kept-kept.result.now in
    let some = c.min-some.result in
    let zeros = k - some in
    let first : c.put.new.header.items ≡ take some kept = c.put.ensures ∙ rw c.clear.ensures refl in
    let second : c.put-2.new.header.items ≡ take some kept ++ replicate zeros 0 =
    c.put-2.ensures ∙ ap (λ (x : List ℕ). x ++ take zeros (replicate 48 0)) first
    ∙ ap (λ (x : List ℕ). take some kept ++ x) (take-replicate zeros 48 0 (omega arith)) in
    let front : c.put-2.new.header.items ≡ take k left =
    second ∙ sym (front_with_zeros kept (length left - length kept) k some (omega (arith, c.kept-kept.ensures.within)) (omega arith))
    ∙ ap (λ (x : List ℕ). take k x) (sym c.kept-kept.ensures.zeros) in
    ap (λ (x : List ℕ). x ++ c.skip-2.new.self) front ∙ ap (λ (x : List ℕ). take k left ++ x) c.skip-2.ensures
    ∙ take-append-drop k left ∙ c.skip.ensures
    ∙ sym (behind_dropped 48 c.args.n h b c.self.invariant (omega (arith, all, c.requires))) ∙ ap (λ (x : List ℕ). drop (48 + c.args.n) x) is
