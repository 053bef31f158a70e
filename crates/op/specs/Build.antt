-- What a caller builds an operation with (op.rs): with_length, branching, atomic, writing, also_writes, reading.
use Rattle.std.specs.Prelude.{◌≡◌, ℕ, true, cond, ltb, List, [], ◌∷◌, ◌++◌, length, take, Option, Some}
use Rattle.laws.specs.Texts.{Text}
use Rattle.model.specs.Op.{decoded, info_of, Given, given}

unfoldable pub sized : ℕ → Given → Given
sized n g = given (decoded g.decoded.address n g.decoded.class g.decoded.branch g.decoded.atomic) g.info

unfoldable pub branched : Given → Given
branched g = given (decoded g.decoded.address g.decoded.size g.decoded.class true g.decoded.atomic) g.info

unfoldable pub indivisible : Given → Given
indivisible g = given (decoded g.decoded.address g.decoded.size g.decoded.class g.decoded.branch true) g.info

-- One more name after a list of which `most` stand in an array. Past the array's end it is empty, and past 255 there is none.
unfoldable pub pushed : ℕ → Text → List Text → List Text
pushed most name l = cond (ltb (length l) most) (l ++ name ∷ []) (cond (ltb (length l) 255) (l ++ [] ∷ []) l)

-- Two lists of names that a fetch takes or refuses alike: the same up to `most`, and both longer than that or neither.
pub record Alike (most : ℕ) (l m : List Text) : Type 0 where
  pub first : take most l ≡ take most m
  pub more : ltb most (length l) ≡ ltb most (length m)

abbrev pub with_operands : Option Text → List Text → List Text → Given → Given
with_operands d s w g = given g.decoded (info_of g.info.disassembly g.info.fault d s w g.info.payload)

unfoldable pub with_write : Text → Given → Given
with_write name g = with_operands g.info.destination g.info.sources (pushed 4 name g.info.writes) g

unfoldable pub with_destination : Text → Given → Given
with_destination name g = with_operands (Some name) g.info.sources g.info.writes g

unfoldable pub with_source : Text → Given → Given
with_source name g = with_operands g.info.destination (pushed 8 name g.info.sources) g.info.writes g

-- All of these unfold where a line says `unfolding build`.
unfoldable pub build : Unit {0}
unfolding sized branched indivisible pushed with_write with_destination with_source
build = tt
