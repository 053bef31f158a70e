-- The pool: what a fetch writes to it, and what a place holds.
use Rattle.op.specs.declared.chars.Chars.{Chars}
use Rattle.op.specs.Chars.{Fits}
use Rattle.std.specs.Prelude.{ℕ, ◌≤◌, ◌≡◌, false, cond, List, ltb, length, get_or, replicate, None}
use Rattle.laws.specs.Lists.{All}
use Rattle.laws.specs.Texts.{Text as Bytes}
use Rattle.op.specs.declared.PipelineOp.{PipelineOp}
use Rattle.flight.specs.declared.pool.Decoded.{Decoded}
use Rattle.flight.specs.declared.pool.Texts.{Texts}
use Rattle.flight.specs.declared.pool.DecodedPool.{DecodedPool}
use Rattle.flight.specs.declared.pool.TextPool.{TextPool}
use Rattle.flight.specs.View.{Carried, Legend, view_carried}

-- ── What a fetch writes ─────────────────────────────────────────────────────

abbrev pub decoded_of : PipelineOp → ℕ → Decoded
decoded_of o next =
    record { address = o.address; length = o.length; predicted_next = next; payload = o.payload; atomic = o.atomic }

abbrev pub texts_of : PipelineOp → Texts
texts_of o = record { disassembly = o.disassembly; fault = o.fault; destination = o.destination }

-- ── A place that no operation has had ───────────────────────────────────────

abbrev pub no_decoded : Decoded
no_decoded = record { address = 0; length = 0; predicted_next = 0; payload = 0; atomic = false }

abbrev pub no_bytes : Chars 64
no_bytes = record { bytes = replicate 64 0; len = 0 }

abbrev pub no_texts : Texts
no_texts = record { disassembly = no_bytes; fault = None; destination = None }

-- ── A place ─────────────────────────────────────────────────────────────────

abbrev pub all_decoded : DecodedPool → List Decoded
all_decoded p = p.items

abbrev pub all_texts : TextPool → List Texts
all_texts p = p.items

unfoldable pub held_at : DecodedPool → TextPool → ℕ → Carried
held_at ds ts place = view_carried (get_or ds.items place no_decoded) (get_or ts.items place no_texts)

-- The legend of a pool and of the names held.
abbrev pub legend : DecodedPool → TextPool → List Bytes → Legend
legend ds ts ns = record { carried = held_at ds ts; names = ns }

-- What it holds at a place; at place 80, that of no operation, nothing.
unfoldable pub decoded_at : DecodedPool → ℕ → Decoded
decoded_at ds place = cond (ltb place 80) (get_or ds.items place no_decoded) no_decoded

-- A text that is kept is one that a fetch takes: it fits its array.
pub record TextsOk (t : Texts) : Type 0 where
  pub text : t.disassembly.len ≤ 64
  pub fault : Fits t.fault
  pub destination : Fits t.destination

pub record DecodedPoolOk (p : DecodedPool) : Type 0 where
  pub size : length p.items ≡ 80

pub record TextPoolOk (p : TextPool) : Type 0 where
  pub size : length p.items ≡ 80
  pub each : All TextsOk p.items
