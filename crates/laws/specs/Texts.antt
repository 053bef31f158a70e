-- A text is a list of bytes. A quoted text stands for its bytes in UTF-8; digits are those that Rust's format! writes.
use Rattle.std.specs.Prelude.{ℕ, zero, suc, ◌+◌, ◌/◌, ◌%◌, ◌*◌, ◌-◌, Bool, true, false, cond, ◌&&◌, List, [], ◌∷◌, ◌++◌, eqb, ltb}
use Prim.Native.String.{String, [] as end, ◌∷◌ as ◌then◌}
use Prim.Native.Char.{code}

abbrev pub Text : Type 0
Text = List ℕ

-- The bytes of a character below 2^16 in UTF-8.
unfoldable pub utf8 : ℕ → Text
utf8 c =
    cond (ltb c 128) (c ∷ [])
    (cond (ltb c 2048) ((192 + c / 64) ∷ (128 + c % 64) ∷ [])
    ((224 + c / 4096) ∷ (128 + c / 64 % 64) ∷ (128 + c % 64) ∷ []))

unfoldable pub bytes : String → Text
unfolding utf8
bytes end = []
bytes (c then s) = utf8 (code c) ++ bytes s

-- Two texts, byte by byte.
unfoldable pub same : Text → Text → Bool
same [] [] = true
same [] (y ∷ ys) = false
same (x ∷ xs) [] = false
same (x ∷ xs) (y ∷ ys) = eqb x y && same xs ys

-- The bytes before the first byte b; all of them where there is none.
unfoldable pub before : ℕ → Text → Text
before b [] = []
before b (x ∷ xs) = cond (eqb x b) [] (x ∷ before b xs)

-- The bytes after the first byte b; none where there is none.
unfoldable pub beyond : ℕ → Text → Text
beyond b [] = []
beyond b (x ∷ xs) = cond (eqb x b) xs (beyond b xs)

-- The pieces between bytes b, empty ones too: one more than there are such bytes.
unfoldable pub onto_first : ℕ → List Text → List Text
onto_first x [] = (x ∷ []) ∷ []
onto_first x (p ∷ ps) = (x ∷ p) ∷ ps

unfoldable pub pieces : ℕ → Text → List Text
pieces b [] = [] ∷ []
pieces b (x ∷ xs) = cond (eqb x b) ([] ∷ pieces b xs) (onto_first x (pieces b xs))

-- A digit: 0 to 9, then capitals.
unfoldable pub digit : ℕ → ℕ
digit d = cond (ltb d 10) (48 + d) (55 + d)

-- n in a base of 2 to 16, without leading zeros, before the digits that stand. The fuel is the most digits but one.
unfoldable pub digits_before : ℕ → ℕ → ℕ → Text → Text
digits_before base zero n tail = digit (n % base) ∷ tail
digits_before base (suc fuel) n tail =
    elim (ltb n base) [ true ↦ digit (n % base) ∷ tail | false ↦ digits_before base fuel (n / base) (digit (n % base) ∷ tail) ]

-- {n} of a 64-bit number
unfoldable pub decimal : ℕ → Text
decimal n = digits_before 10 19 n []

-- {n:X} of a 64-bit number
unfoldable pub hexadecimal : ℕ → Text
hexadecimal n = digits_before 16 15 n []

-- What a digit stands for.
unfoldable pub digit_value : ℕ → ℕ
digit_value c = cond (ltb c 58) (c - 48) (c - 55)

-- The number that digits in a base denote, read on from n.
unfoldable pub value_from : ℕ → ℕ → Text → ℕ
value_from base n [] = n
value_from base n (c ∷ t) = value_from base (n * base + digit_value c) t

unfoldable pub value : ℕ → Text → ℕ
value base t = value_from base 0 t

-- All of these unfold where a line says `unfolding texts`.
unfoldable pub texts : Unit {0}
unfolding utf8 bytes same before beyond onto_first pieces digit digits_before decimal hexadecimal
texts = tt
