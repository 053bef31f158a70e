-- Where nothing is queued, the names beyond those known may go: units and waits read known ones only.
use Prim.Native.Nat.{ℕ, ◌≤◌, ◌<◌}
use mathlib.Core.Path.{◌≡◌, refl, sym, subst, ap, ap₂, ◌∙◌}
use mathlib.Core.List.{List, [], ◌∷◌, map}
use native.Mathlib.Omega.{arith}
use lib.ListN.{length, take}
use lib.Seq.{take-take, take_all}
use Rattle.laws.specs.Optional.{value_or}
use Rattle.laws.specs.Lists.{All}
use Rattle.laws.specs.Texts.{Text, bytes}
use Rattle.laws.proofs.Slices.{nth-take}
use Rattle.model.specs.Op.{Op}
use Rattle.model.specs.Registers.{name_of}
use Rattle.model.specs.State.{log_of}
use Rattle.op.specs.Chars.{view_text}
use Rattle.std.specs.Prelude.{option_map}
use Rattle.registers.specs.Look.{Queued as Along}
use Rattle.registers.proofs.Look.{queue-laws}
use Rattle.flight.specs.declared.Queued.{Queued}
use Rattle.flight.specs.View.{carried_at, named, view_queued, view_queue, entries}
use Rattle.registers.specs.View.{read, written, view_operands}
use Rattle.flight.proofs.Entries.{view-entries}
use Rattle.stalls.specs.declared.Trace.{Trace}
use Rattle.stalls.specs.View.{word_at, number_word, listed, view_stats, view_log}
use Rattle.units.specs.declared.Unit.{Unit as Slot}
use Rattle.bank.specs.View.{slots, UnitKnows}
use Rattle.board.specs.declared.Board.{Board}
use Rattle.board.specs.View.{Frame, known_names, log_frame, view_board, BoardOk}
use Rattle.board.specs.Promises.{Looks}
use Rattle.board.proofs.Parts.{state-by}
use Rattle.engine.proofs.Legends.{UnitAgrees, units-agree, WaitAgrees, waits-agree}
use Rattle.engine.proofs.Naming.{below_all}

abbrev pub with_names : List Text → Frame → Frame
with_names ns x =
    record { legend = record { carried = x.legend.carried; names = ns }; machine = x.machine; rows = x.rows; next = x.next }

-- The first n names say the same of registers below n.
pub names-first : (ls : List Text) (n : ℕ) (rs : List ℕ) → All (λ (r : ℕ). r < n) rs → map (name_of (take n ls)) rs ≡ map (name_of ls) rs
unfolding name_of
names-first ls n [] a = refl
names-first ls n (r ∷ rs) a = ap₂ ◌∷◌ (ap (value_or (bytes "?")) (nth-take ls a.0)) (names-first ls n rs a.1)

module _ (x : Frame) {b : Board} (ok : BoardOk b) (none : entries b.queue ≡ []) (n : ℕ) (h : b.claims.len ≤ n) where
  abbrev less : Frame
  less = with_names (take n x.legend.names) x

  same_names : (rs : List ℕ) → All (λ (r : ℕ). r < b.claims.len) rs → named less.legend rs ≡ named x.legend rs
  same_names rs a = names-first x.legend.names n rs (below_all h rs a)

  units-same : (l : List Slot) → All (UnitKnows b.claims.len) l → All (UnitAgrees x.legend less.legend) l
  unfolding carried_at
  units-same [] a = tt
  units-same (u ∷ l) a = (
    record {
      carried = refl;
      read = same_names (read u.operands) a.0.sources;
      written = same_names (written u.operands) a.0.destinations;
    },
    units-same l a.1,
  )

  queue-same : view_queue less.legend b.queue ≡ view_queue x.legend b.queue
  queue-same =
      view-entries less.legend b.queue ∙ ap (map (view_queued less.legend)) none
      ∙ sym (view-entries x.legend b.queue ∙ ap (map (view_queued x.legend)) none)

  known_same : known_names less b ≡ known_names x b
  unfolding known_names
  known_same = take-take b.claims.len n x.legend.names h

  waits-same : (l : List Trace) → All (WaitAgrees (log_frame x b) (log_frame less b)) l
  unfolding word_at carried_at
  waits-same [] = tt
  waits-same (t ∷ l) = (
    record {
      mine = refl;
      other = refl;
      number = ap (λ ns. number_word t.form x.machine.specs ns t.number) known_same;
    },
    waits-same l,
  )

  pub dropped-names : view_board (with_names (take n x.legend.names) x) b ≡ view_board x b
  unfolding view_board view_log
  dropped-names =
      state-by (units-agree x.legend less.legend b.units (units-same (slots b.units) ok.knows)) queue-same known_same refl refl refl
      refl
      (ap (λ ws. log_of (view_stats b.log.stats) ws x.rows (option_map view_text b.status))
      (waits-agree (log_frame x b) (log_frame less b) b.log.traces (waits-same (listed b.log.traces))))

-- Nothing is queued, and the names held are those known.
pub empty-looks : (x : Frame) (b : Board) → entries b.queue ≡ [] → length x.legend.names ≡ b.claims.len → Looks x b
unfolding known_names
empty-looks x b q e =
    record {
      most = omega (arith, e);
      queued =
          subst
          (λ (ns : List Text). Along ns x.legend.names (map (λ (o : Op). o.info) (view_queue x.legend b.queue))
          (map (λ (k : Queued). view_operands k.operands) (entries b.queue)))
          (sym (take_all b.claims.len x.legend.names (omega (arith, e))))
          (subst
          (λ (os : List Op). Along x.legend.names x.legend.names (map (λ (o : Op). o.info) os)
          (map (λ (k : Queued). view_operands k.operands) (entries b.queue)))
          (sym (view-entries x.legend b.queue ∙ ap (map (view_queued x.legend)) q))
          (subst (λ (ks : List Queued). Along x.legend.names x.legend.names [] (map (λ (k : Queued). view_operands k.operands) ks)) (sym q)
          (queue-laws.empty x.legend.names)));
    }
