-- The departures of Departures.antt, by computing.
use mathlib.Core.Path.{◌≡◌, refl}
use mathlib.Core.Bool.{true}
use Rattle.model.specs.Everything.{everything}
use Rattle.book.specs.Departures as test

war_outlasts_the_read : test.war_outlasts_the_read ≡ true
unfolding everything test.departures
war_outlasts_the_read = refl

war_outlasts_in_a_run : test.war_outlasts_in_a_run ≡ true
unfolding everything test.departures
war_outlasts_in_a_run = refl

handed_out_at_write : test.handed_out_at_write ≡ true
unfolding everything test.departures
handed_out_at_write = refl

one_result_oldest_first : test.one_result_oldest_first ≡ true
unfolding everything test.departures
one_result_oldest_first = refl

memory_in_order : test.memory_in_order ≡ true
unfolding everything test.departures
memory_in_order = refl

system_drains : test.system_drains ≡ true
unfolding everything test.departures
system_drains = refl

held_behind_system : test.held_behind_system ≡ true
unfolding everything test.departures
held_behind_system = refl

held_behind_branch : test.held_behind_branch ≡ true
unfolding everything test.departures
held_behind_branch = refl

read_as_written : test.read_as_written ≡ true
unfolding everything test.departures
read_as_written = refl

issued_as_released : test.issued_as_released ≡ true
unfolding everything test.departures
issued_as_released = refl

issued_as_freed : test.issued_as_freed ≡ true
unfolding everything test.departures
issued_as_freed = refl

lowest_unit_taken : test.lowest_unit_taken ≡ true
unfolding everything test.departures
lowest_unit_taken = refl

unlisted_goes_to_kind_0 : test.unlisted_goes_to_kind_0 ≡ true
unfolding everything test.departures
unlisted_goes_to_kind_0 = refl

many_registers : test.many_registers ≡ true
unfolding everything test.departures
many_registers = refl

both_read : test.both_read ≡ true
unfolding everything test.departures
both_read = refl

one_issue : test.one_issue ≡ true
unfolding everything test.departures
one_issue = refl
