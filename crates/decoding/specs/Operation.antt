-- An operation, 382 bytes.
use Rattle.std.specs.Prelude.{ℕ, ◌+◌, Bool, ◌&&◌, List}
use Rattle.laws.specs.Texts.{Text}
use Rattle.model.specs.Op.{Given, given, decoded, info_of}
use Rattle.op.specs.View.{listed}
use Rattle.decoding.specs.Bytes.{byte_at, number_at, flag_at, class_at, text_at, optional_at, parts_at, below}

unfoldable pub names_at : ℕ → List ℕ → ℕ → List Text
names_at n l at = parts_at (text_at 16) 17 n l at

unfoldable pub op_at : List ℕ → ℕ → Given
op_at l at =
    given (decoded (number_at l at) (number_at l (at + 8)) (class_at l (at + 16)) (flag_at l (at + 17)) (flag_at l (at + 18)))
    (info_of (text_at 64 l (at + 27)) (optional_at (text_at 64) l (at + 92)) (optional_at (text_at 16) l (at + 158))
    (listed 8 (byte_at l (at + 176)) (names_at 8 l (at + 177))) (listed 4 (byte_at l (at + 313)) (names_at 4 l (at + 314)))
    (number_at l (at + 19)))

-- Its class and its four flags are of their form.
unfoldable pub op_formed : List ℕ → ℕ → Bool
op_formed l at = below 10 1 l (at + 16) && (below 2 2 l (at + 17) && (below 2 1 l (at + 92) && below 2 1 l (at + 158)))

-- All of these unfold where a line says `unfolding operations`.
unfoldable pub operations : Unit {0}
unfolding names_at op_at op_formed
operations = tt
