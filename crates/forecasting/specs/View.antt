-- What `forecast` answers, to the model.
use Rattle.std.specs.Prelude.{ℕ, Result, Some, None, Ok, Err}
use Rattle.model.specs.Forecast.{Forecast, not_written, written}
use Rattle.traces.specs.Texts.{Written}
use Rattle.capability.specs.declared.Refusal.{Refusal}
use Rattle.capability.specs.Refusals.{refusal_number}

unfoldable pub view_outcome : Result ℕ Refusal → Forecast
view_outcome (Ok n) = written n
view_outcome (Err r) = not_written (refusal_number r)

-- Of a text that was written to a lent buffer, or not.
unfoldable pub answered : Written → Forecast
answered (Ok (Some n)) = written n
answered (Ok None) = written 0
answered (Err r) = not_written (refusal_number r)

-- How many bytes were printed.
unfoldable pub bytes_printed : Forecast → ℕ
bytes_printed (not_written r) = 0
bytes_printed (written n) = n
