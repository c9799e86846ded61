-- One target's part of a history, computed from the definitions alone.
use Rattle.std.specs.Prelude.{◌≡◌, ℕ, List, [], ◌∷◌, ◌++◌, take, drop, map, not, ◌==◌, Some, refl}
use Rattle.scsi_unit.specs.Unit.{free_unit}
use Rattle.iscsi_world.specs.History.{Event, Open, Bytes, Gone, plain}
use Rattle.iscsi_world.specs.World.{Setting}
use Rattle.iscsi_world.specs.Output.{outputs}
use Rattle.iscsi_world.specs.Isolation.{kept, only, named_in, plain_world}
use Rattle.iscsi_world.specs.ExamplesBytes.{computed, zero_disk, login_as, login_request, login_response, logged_in, first_test, second_test, attention, ready_answer}

-- the targets `t1` and `t2`, each with a disk
abbrev two_targets : Setting
two_targets = record {
  directory = record { names = (0x74 ∷ 0x31 ∷ []) ∷ (0x74 ∷ 0x32 ∷ []) ∷ []; portal = [] };
  units = (free_unit 0 [] zero_disk ∷ []) ∷ (free_unit 0 [] zero_disk ∷ []) ∷ [];
}

-- the login of the initiator `a`, with `t2` in place of `t1`: the digit is byte 76
abbrev elsewhere : List ℕ
elsewhere = take 76 login_request ++ 0x32 ∷ drop 77 login_request

-- Life 0 is with `t1`. Connection 1 is with `t2` in life 1, and in life 2 with `t1`.
abbrev two_customers : List Event
two_customers =
    Open 0 ∷ Open 1 ∷ Bytes 1 elsewhere ∷ Bytes 0 (login_request ++ first_test) ∷ Bytes 1 first_test ∷ Gone 1 ∷
    Open 1 ∷ Bytes 0 second_test ∷ Bytes 1 (login_as 0x62 0x01 0x00 ++ first_test) ∷ []

-- the events of lives 0 and 2
abbrev one_customer : List Event
one_customer =
    Open 0 ∷ Bytes 0 (login_request ++ first_test) ∷
    Open 1 ∷ Bytes 0 second_test ∷ Bytes 1 (login_as 0x62 0x01 0x00 ++ first_test) ∷ []

each_names_its_own : map (named_in two_targets.directory) (plain_world two_targets two_customers).lives ≡ Some 0 ∷ Some 1 ∷ Some 0 ∷ []
unfolding computed named_in
each_names_its_own = refl

the_other_is_left_out : only (λ k. not (k == 1)) two_customers ≡ one_customer
unfolding only
the_other_is_left_out = refl

abbrev answered_alone : List (List ℕ)
answered_alone = (logged_in ++ attention ++ ready_answer) ∷ (login_response 0x01 0x02 ++ attention) ∷ []

alone : outputs two_targets (map plain one_customer) ≡ answered_alone
unfolding computed
alone = refl

-- life 1 has an answer too, and changes none of the other answers
beside_the_other : kept (λ k. not (k == 1)) (outputs two_targets (map plain two_customers)) ≡ answered_alone
unfolding computed
beside_the_other = refl

the_other : kept (λ k. k == 1) (outputs two_targets (map plain two_customers)) ≡ (login_response 0x01 0x02 ++ attention) ∷ []
unfolding computed
the_other = refl
