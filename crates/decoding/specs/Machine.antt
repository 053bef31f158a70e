-- A machine: the first 555 bytes of a list.
use Rattle.std.specs.Prelude.{ℕ, ◌+◌, Bool, ◌&&◌, List, leb, length}
use Rattle.std.specs.List.{list_all}
use Rattle.capability.specs.declared.PipelineStageRole.TheVariants.{Other}
use Rattle.model.specs.Config.{Timing, timing, UnitSpec, unit_spec, generic_unit, PipelineShape, pipeline_shape}
use Rattle.config.specs.View.{flagged, padded}
use Rattle.decoding.specs.Bytes.{byte_at, number_at, flag_at, class_at, role_at, text_at, optional_at, places, parts_at, below}

unfoldable pub timing_at : List ℕ → Timing
timing_at l =
    timing (number_at l 0) (number_at l 8) (number_at l 16) (number_at l 24) (number_at l 32) (number_at l 40) (number_at l 48)

-- A kind of unit, 28 bytes.
unfoldable pub kind_at : List ℕ → ℕ → UnitSpec
kind_at l at =
    unit_spec (text_at 8 l at) (flagged (parts_at flag_at 1 10 l (at + 9))) (class_at l (at + 19)) (number_at l (at + 20))

unfoldable pub shape_at : List ℕ → PipelineShape
shape_at l =
    pipeline_shape (padded Other (byte_at l 89) (parts_at role_at 1 16 l 90)) (optional_at number_at l 56) (timing_at l)
    (padded generic_unit (byte_at l 106) (parts_at kind_at 28 16 l 107)) (number_at l 73)

-- The address to start at, and the bytes of cell memory lent to making.
unfoldable pub entry_at : List ℕ → ℕ
entry_at l = number_at l 65

unfoldable pub making_lent : List ℕ → ℕ
making_lent l = number_at l 81

-- The flags and the latency class of a kind.
unfoldable pub kind_formed : List ℕ → ℕ → Bool
kind_formed l at = below 2 10 l (at + 9) && below 10 1 l (at + 19)

-- All 16 roles and all 16 kinds, also those that do not count.
unfoldable pub machine_formed : List ℕ → Bool
machine_formed l =
    leb 555 (length l) && (below 2 1 l 56 && (below 8 16 l 90 && list_all (kind_formed l) (places 28 16 107)))

-- All of these unfold where a line says `unfolding machines`.
unfoldable pub machines : Unit {0}
unfolding timing_at kind_at shape_at entry_at making_lent kind_formed machine_formed
machines = tt
