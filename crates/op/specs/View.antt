-- What an operation means to the model.
use Rattle.std.specs.Prelude.{ℕ, ◌-◌, List, [], ◌++◌, map, take, replicate, option_map}
use Rattle.laws.specs.Texts.{Text}
use Rattle.model.specs.Op.{Given, given, decoded, info_of}
use Rattle.op.specs.Chars.{shown, view_text}
use Rattle.op.specs.declared.PipelineOp.{PipelineOp}

-- A list of `n` names in an array of `most`. Those past the array's end are empty.
unfoldable pub listed : ℕ → ℕ → List Text → List Text
listed most n names = take n names ++ replicate (n - most) []

unfoldable pub view_op : PipelineOp → Given
view_op o =
    given (decoded o.address o.length o.class o.branch o.atomic)
    (info_of (view_text o.disassembly) (option_map view_text o.fault) (option_map view_text o.destination)
    (listed 8 o.sources_len (map view_text o.sources)) (listed 4 o.writes_len (map view_text o.writes)) o.payload)

-- All of these unfold where a line says `unfolding views`.
unfoldable pub views : Unit {0}
unfolding shown listed view_text view_op
views = tt
