-- The digest of a run of bytes: one number for them.
use Rattle.std.specs.Prelude.{ℕ, ◌+◌, ◌*◌, ◌%◌, List}
use Rattle.std.specs.List.{fold}

abbrev pub digest : List ℕ → ℕ
digest bs = fold (λ h b. (h * 16777619 + b) % 4294967291) 0 bs
