-- A text in an array of bytes.
use Rattle.std.specs.Prelude.{ℕ, ◌≤◌, cond, List, ltb, take, replicate, Option, IfSome}
use Rattle.laws.specs.Texts.{Text}
use Rattle.op.specs.declared.chars.Chars.{Chars}

-- A text of `len` bytes in an array of `most`. Past the array's end it is a text that is too long, whatever the array holds.
unfoldable pub shown : ℕ → ℕ → List ℕ → Text
shown most len bytes = cond (ltb most len) (replicate len 0) (take len bytes)

unfoldable pub view_text : {N : ℕ} → Chars N → Text
view_text {N} t = shown N t.len t.bytes

-- A text that is there fits its array.
abbrev pub Fits : {N : ℕ} → Option (Chars N) → Type 0
Fits {N} m = IfSome m (λ (t : Chars N). t.len ≤ N)
