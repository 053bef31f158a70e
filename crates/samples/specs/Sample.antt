-- The lists of the sample. Made by the harness: see docs/SAMPLES.md.
use Rattle.std.specs.Prelude.{List, [], ◌∷◌}
use Rattle.samples.specs.Lists.{Case}
use List1.{case_1}
use List2.{case_2}
use List3.{case_3}
use List4.{case_4}
use List5.{case_5}
use List6.{case_6}
use List7.{case_7}
use List8.{case_8}
use List9.{case_9}
use List10.{case_10}
use List11.{case_11}
use List12.{case_12}
use List13.{case_13}
use List14.{case_14}
use List15.{case_15}
use List16.{case_16}
use List17.{case_17}
use List18.{case_18}
use List19.{case_19}
use List20.{case_20}
use List21.{case_21}
use List22.{case_22}
use List23.{case_23}
use List24.{case_24}
use List25.{case_25}
use List26.{case_26}
use List27.{case_27}
use List28.{case_28}
use List29.{case_29}
use List30.{case_30}
use List31.{case_31}
use List32.{case_32}
use List33.{case_33}
pub mod List1
pub mod List2
pub mod List3
pub mod List4
pub mod List5
pub mod List6
pub mod List7
pub mod List8
pub mod List9
pub mod List10
pub mod List11
pub mod List12
pub mod List13
pub mod List14
pub mod List15
pub mod List16
pub mod List17
pub mod List18
pub mod List19
pub mod List20
pub mod List21
pub mod List22
pub mod List23
pub mod List24
pub mod List25
pub mod List26
pub mod List27
pub mod List28
pub mod List29
pub mod List30
pub mod List31
pub mod List32
pub mod List33

abbrev pub sample : List Case
sample =
    case_1 ∷ case_2 ∷ case_3 ∷ case_4 ∷ case_5 ∷ case_6 ∷ case_7 ∷ case_8 ∷ case_9 ∷ case_10 ∷ case_11 ∷ case_12 ∷ case_13
    ∷ case_14 ∷ case_15 ∷ case_16 ∷ case_17 ∷ case_18 ∷ case_19 ∷ case_20 ∷ case_21 ∷ case_22 ∷ case_23 ∷ case_24 ∷ case_25
    ∷ case_26 ∷ case_27 ∷ case_28 ∷ case_29 ∷ case_30 ∷ case_31 ∷ case_32 ∷ case_33 ∷ []
