-- Windows computed from the definitions alone.
use Rattle.std.specs.Prelude.{◌≡◌, ℕ, true, false, Some, None, refl}
use Rattle.std.specs.List.{range_with_len}
use Rattle.iscsi_order.specs.declared.window.Arrival.TheVariants.{New, Ignored}
use Rattle.iscsi_order.specs.Serial.{is_before}
use Rattle.iscsi_order.specs.Stat.{stat_sn}
use Rattle.iscsi_order.specs.Window.{Past, begun, taken, numbers_of, arrival_of, next_of, arrived, handed_over, finished_one}

-- a request that is taken when it arrives and finished at once
abbrev done : Past → ℕ → Past
done past number = finished_one (handed_over (arrived past number))

-- ---- held numbers, from first 5

-- TEST UNIT READY 5
abbrev after_5 : Past
after_5 = done (begun 5) 5

first_is_done : numbers_of after_5 ≡ record { exp_cmd_sn = 6; max_cmd_sn = 37 }
unfolding taken
first_is_done = refl

-- READ 7 waits for 6
abbrev with_7 : Past
with_7 = arrived after_5 7

ahead_is_new : arrival_of after_5 7 ≡ New
unfolding taken
ahead_is_new = refl

ahead_is_held : next_of with_7 ≡ None
unfolding taken
ahead_is_held = refl

ahead_moves_nothing : numbers_of with_7 ≡ record { exp_cmd_sn = 6; max_cmd_sn = 37 }
unfolding taken
ahead_moves_nothing = refl

-- 6 comes: both are taken, in order; 6 is finished, and then 7
abbrev with_6 : Past
with_6 = arrived with_7 6

both_are_taken : numbers_of (finished_one (handed_over with_6)) ≡ record { exp_cmd_sn = 8; max_cmd_sn = 38 }
unfolding taken
both_are_taken = refl

missing_is_first : next_of with_6 ≡ Some 6
unfolding taken
missing_is_first = refl

held_is_second : next_of (handed_over with_6) ≡ Some 7
unfolding taken
held_is_second = refl

abbrev after_7 : Past
after_7 = finished_one (handed_over (finished_one (handed_over with_6)))

both_are_done : numbers_of after_7 ≡ record { exp_cmd_sn = 8; max_cmd_sn = 39 }
unfolding taken
both_are_done = refl

-- 6 again, and 7 again while it is held
repeated_after : arrival_of after_7 6 ≡ Ignored
unfolding taken
repeated_after = refl

repeated_held : arrival_of with_7 7 ≡ Ignored
unfolding taken
repeated_held = refl

-- ---- the ends of the window

-- after 5 the window ends with 37
last_is_new : arrival_of after_5 37 ≡ New
unfolding taken
last_is_new = refl

beyond_is_ignored : arrival_of after_5 38 ≡ Ignored
unfolding taken
beyond_is_ignored = refl

-- 5 is handed over and unfinished: MaxCmdSN stays
unfinished_counts : numbers_of (handed_over (arrived (begun 5) 5)) ≡ record { exp_cmd_sn = 6; max_cmd_sn = 36 }
unfolding taken
unfinished_counts = refl

-- 32 requests of which none is finished: nothing is inside the window
abbrev full : Past
full = record { first = 5; came = range_with_len 0 32; handed = 32; finished = 0 }

full_numbers : numbers_of full ≡ record { exp_cmd_sn = 37; max_cmd_sn = 36 }
unfolding taken
full_numbers = refl

full_ignores : arrival_of full 37 ≡ Ignored
unfolding taken
full_ignores = refl

-- ---- modulo 2^32, from first FFFFFFFEh

login_numbers : numbers_of (begun 0xfffffffe) ≡ record { exp_cmd_sn = 0xfffffffe; max_cmd_sn = 0x1d }
unfolding taken
login_numbers = refl

first_numbers : numbers_of (done (begun 0xfffffffe) 0xfffffffe) ≡ record { exp_cmd_sn = 0xffffffff; max_cmd_sn = 0x1e }
unfolding taken
first_numbers = refl

abbrev past_the_end : Past
past_the_end = done (done (begun 0xfffffffe) 0xfffffffe) 0xffffffff

second_numbers : numbers_of past_the_end ≡ record { exp_cmd_sn = 0; max_cmd_sn = 0x1f }
unfolding taken
second_numbers = refl

third_numbers : numbers_of (done past_the_end 0) ≡ record { exp_cmd_sn = 1; max_cmd_sn = 0x20 }
unfolding taken
third_numbers = refl

-- 0 is ahead of FFFFFFFFh, and is held until that comes
behind_the_end : next_of (arrived (arrived (begun 0xffffffff) 0) 0xffffffff) ≡ Some 0xffffffff
unfolding taken
behind_the_end = refl

-- ---- serial numbers

zero_is_behind_the_greatest : is_before 0xffffffff 0 ≡ true
zero_is_behind_the_greatest = refl

half_way_is_neither : is_before 0 0x80000000 ≡ false
half_way_is_neither = refl

-- ---- StatSN

begins_again : stat_sn 0x100000000 ≡ 0
begins_again = refl
