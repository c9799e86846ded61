use Rattle.std.proofs.Common.{refl, sym, ap, subst, ◌∙◌}
use Rattle.iscsi_requests.specs.Requests.{moved}
use Rattle.iscsi_session.proofs.Parts.{parts}
use Rattle.iscsi_session.proofs.Answered.{IsOther, kind_of, seen, other_came, finished_here, answered_here, acts_plain, some_due, goes_on_act, ping_same, logout_act, logout_same, other_is, one_spelled, none_spelled, none_ordered, stands_silent}
use Rattle.iscsi_session.proofs.session.Session.answer.Goals as goal

pub returns-in_default-clause-acts : goal.returns-in_default-clause-acts
returns-in_default-clause-acts c luns past k rest s is e no_text no_function orders =
    absurd (some_due past _ k rest (seen c.self.view_is s) is c.in_default.ensures.none)

pub returns-in-NopOut-clause-acts : goal.returns-in-NopOut-clause-acts
returns-in-NopOut-clause-acts c luns past k rest s is e no_text no_function orders =
    let h = answered_here past _ k rest (seen c.self.view_is s) is c.in-Some.frame _ e no_text no_function c.in-Some.ensures.some c.in-Some.ensures.same
    (ap kind_of (sym c.frame.view_is) ∙ sym c.opcode.ensures ∙ c.in-NopOut.is) (λ x. absurd cc) in
    acts_plain luns k past _ _ _ _ _ orders no_function (ping_same luns k past c.in-Some.frame h.0 h.1) (goes_on_act k past h.1 refl)
    (c.return_ping.ensures.stands (moved k past) h.2) (c.return_ping.ensures.out (moved k past) h.2)

pub returns-in-Logout-clause-acts : goal.returns-in-Logout-clause-acts
returns-in-Logout-clause-acts c luns past k rest s is e no_text no_function orders =
    let known = seen c.self.view_is s in
    let h = answered_here past _ k rest known is c.in-Some.frame _ e no_text no_function c.in-Some.ensures.some c.in-Some.ensures.same
    (ap kind_of (sym c.frame.view_is) ∙ sym c.opcode.ensures ∙ c.in-Logout.is) (λ x. absurd cc) in
    acts_plain luns k past _ _ _ _ _ orders no_function (logout_same luns k past c.in-Some.frame h.0 h.1)
    (logout_act k past c.in-Some.frame _ _ h.0 (parts past _ known).params_is h.1 c.log_out.ensures.act)
    (c.log_out.ensures.stands (moved k past) h.2) (c.log_out.ensures.out (moved k past) h.2 ∙ one_spelled c.args.out.now.items _ _ refl)

-- no other kind
pub returns-clause-acts : goal.returns-clause-acts
returns-clause-acts c luns past k rest s is e no_text no_function orders =
    let known = seen c.self.view_is s in
    let f = finished_here past _ k rest known is c.in-Some.frame _ e no_text no_function c.in-Some.ensures.some c.in-Some.ensures.same in
    let kind = other_came past _ k rest known is (subst IsOther (c.opcode.ensures ∙ ap kind_of (c.frame.view_is ∙ f.0)) c.in-ScsiCommand.is) in
    let none = other_is luns k past kind no_text no_function in
    record {
      act = none.1;
      stands = stands_silent luns k past _ no_function none.0 f.1;
      out = none_spelled c.args.out.now.items _ none.0;
      orders = none_ordered past k orders no_function;
    }
