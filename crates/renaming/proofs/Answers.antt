-- A view shows the same of an engine and of its bare form, and so does a text request: whether the text is there.
use Prim.Native.Nat.{ℕ, zero, suc}
use mathlib.Core.Path.{◌≡◌, refl, sym, ◌∙◌, ap}
use mathlib.Core.Bool.{Bool, true, false, cond}
use Rattle.std.specs.Prelude.{Option, None, Some, slice_get, option_map}
use mathlib.Core.List.{List, [], ◌∷◌, ◌++◌, map}
use lib.Dec.{ltb}
use lib.ListN.{take}
use Rattle.laws.specs.Lists.{head, keep, lists}
use Rattle.std.specs.List.{list_any}
use Rattle.laws.specs.Optional.{when_some}
use Rattle.laws.specs.Texts.{Text}
use Rattle.laws.proofs.Maps.{any-map, count_map, keep-map, length-of, map-append, map-swap, nth-map}
use Rattle.capability.specs.declared.Phase.{Phase}
use Rattle.capability.specs.declared.Phase.TheVariants as phase
use Rattle.capability.specs.declared.PipelineStageRole.{PipelineStageRole}
use Rattle.model.specs.Config.{UnitSpec, latency}
use Rattle.model.specs.Op.{Info, Op}
use Rattle.model.specs.Registers.{name_of}
use Rattle.model.specs.Timeline.{Row, cell_at, timeline}
use Rattle.model.specs.Units.{FunctionalUnit, is_busy, in_phase, unit_op, units}
use Rattle.model.specs.State.{State}
use Rattle.model.specs.Scoreboard.{in_flight, older_op, oldest_op, scoreboard, resume_pc as resume, in_flight_before as older_in_flight}
use Rattle.model.specs.Views.{SlotView, StageView, cell_byte, claims, in_kind, oldest, oldest_in, row_view, shown_class, slot_view, stage_op, stage_roles, stage_view, station_op, station_view, trace_view, unit_view, unit_view_of, views, working}
use Rattle.model.specs.Requests.{Place, in_queue, in_station, in_stage, in_unit, on_offer, op_at, Field, disassembly, destination, fault as fault_note, source, write, field, Request, status_message, slot_text, trace_detail, row_disassembly, stage_name, unit_name, station_label, rename_register, cell_label, operand_register, operand_text, text_at, requests}
use Rattle.model.specs.Calls.{View, status, stats, enabled, fetch_pc, resume_pc, stage_count, edges, entry_stages, stage_order, unit_count, trace_count, timeline_len, station_count, rename_count, queue_count, buffer_count, buffer_capacity, in_flight_before, stage, unit, trace, timeline_row, station, rename, queued, buffer_entry, shown_flag, shown_number, shown_stage, shown_unit, shown_trace, shown_row, shown_station, shown_slot, show, calls}
use Rattle.renaming.specs.Recording.{bare, bare_info, bare_op, bare_row, bare_trace, bare_unit, blank, optional_field, optional_text}
use Rattle.renaming.proofs.Queries.{bare-oldest, hide}
use Rattle.renaming.proofs.Respect.{Like, bare-offered}

-- What is read of a bare element and of the element alike.
reads-bare : {A B : Type 0} (e : A → A) (f : A → B) → ((x : A) → f (e x) ≡ f x) → (o : Option A) → option_map f (option_map e o) ≡ option_map f o
reads-bare e f r None = refl
reads-bare e f r (Some x) = ap Some (r x)

-- The same at a place of a list.
reads_at : {A B : Type 0} (e : A → A) (f : A → B) → ((x : A) → f (e x) ≡ f x) → (xs : List A) (i : ℕ) → option_map f (slice_get (map e xs) i) ≡ option_map f (slice_get xs i)
reads_at e f r xs i = ap (option_map f) (nth-map e xs i) ∙ reads-bare e f r (slice_get xs i)

-- ── Operations in flight ────────────────────────────────────────────────────

bare-flight : (s : State) → in_flight (bare hide s) ≡ map (bare_op hide) (in_flight s)
unfolding scoreboard units
bare-flight s =
    ap (λ (l : List FunctionalUnit). map unit_op l ++ map (bare_op hide) s.queue) (keep-map (bare_unit hide) is_busy is_busy (λ u. refl) s.units)
    ∙ ap (λ (l : List Op). l ++ map (bare_op hide) s.queue) (map-swap (bare_unit hide) unit_op unit_op (bare_op hide) (λ u. refl) (keep is_busy s.units))
    ∙ sym (map-append (bare_op hide) (map unit_op (keep is_busy s.units)) s.queue)

bare-oldest_op : (os : List Op) → oldest_op (map (bare_op hide) os) ≡ option_map (bare_op hide) (oldest_op os)
unfolding scoreboard
bare-oldest_op [] = refl
bare-oldest_op (o ∷ os) = ap (older_op (bare_op hide o)) (bare-oldest_op os) ∙ go (oldest_op os)
  where
    pick : (p : Op) (b : Bool) → cond b (Some (bare_op hide p)) (Some (bare_op hide o)) ≡ option_map (bare_op hide) (cond b (Some p) (Some o))
    pick p true = refl
    pick p false = refl

    go : (x : Option Op) → older_op (bare_op hide o) (option_map (bare_op hide) x) ≡ option_map (bare_op hide) (older_op o x)
    go None = refl
    go (Some p) = pick p (ltb p.core.seq o.core.seq)

bare-resume : (s : State) → resume (bare hide s) ≡ resume s
unfolding scoreboard
bare-resume s =
    ap (λ (l : List Op). when_some (oldest_op l) s.front.fetch_pc (λ (o : Op). o.core.decoded.address)) (bare-flight s)
    ∙ ap (λ (x : Option Op). when_some x s.front.fetch_pc (λ (o : Op). o.core.decoded.address)) (bare-oldest_op (in_flight s))
    ∙ go (oldest_op (in_flight s))
  where
    go
        : (x : Option Op)
        → when_some (option_map (bare_op hide) x) s.front.fetch_pc (λ (o : Op). o.core.decoded.address)
        ≡ when_some x s.front.fetch_pc (λ (o : Op). o.core.decoded.address)
    go None = refl
    go (Some o) = refl

bare-before : (n : ℕ) (s : State) → older_in_flight n (bare hide s) ≡ older_in_flight n s
unfolding scoreboard
bare-before n s =
    ap (list_any (λ (o : Op). ltb o.core.seq n)) (bare-flight s) ∙ any-map (bare_op hide) _ (λ (o : Op). ltb o.core.seq n) (λ o. refl) (in_flight s)

-- ── Stages, kinds, stations ─────────────────────────────────────────────────

-- The operation of an optional unit.
unit-ops : (o : Option FunctionalUnit) → option_map unit_op (option_map (bare_unit hide) o) ≡ option_map (bare_op hide) (option_map unit_op o)
unfolding units
unit-ops None = refl
unit-ops (Some u) = refl

bare-in : (p : Phase) (s : State) → oldest_in p (bare hide s) ≡ option_map (bare_op hide) (oldest_in p s)
unfolding views units
bare-in p s = ap (option_map unit_op) (bare-oldest (in_phase p) (λ u. refl) s.units) ∙ unit-ops (oldest (in_phase p) s.units)

bare-head : (q : List Op) → head (map (bare_op hide) q) ≡ option_map (bare_op hide) (head q)
unfolding lists
bare-head [] = refl
bare-head (o ∷ q) = refl

bare-stage_op : (s : State) (n : ℕ) → stage_op (bare hide s) n ≡ option_map (bare_op hide) (stage_op s n)
unfolding views lists
bare-stage_op s zero = bare-head s.queue
bare-stage_op s (suc zero) = bare-in phase.Wait s
bare-stage_op s (suc (suc zero)) = bare-in phase.Read s
bare-stage_op s (suc (suc (suc zero))) = bare-in phase.Execute s
bare-stage_op s (suc (suc (suc (suc zero)))) = bare-in phase.Write s
bare-stage_op s (suc (suc (suc (suc (suc n))))) = refl

bare-slot : (o : Option Op) → option_map slot_view (option_map (bare_op hide) o) ≡ option_map slot_view o
unfolding views
bare-slot o = reads-bare (bare_op hide) slot_view (λ p. refl) o

-- The view of a stage, by its role.
abbrev stage-of : Option SlotView → PipelineStageRole → StageView
stage-of o r = record { role = r; slot = o }

bare-stage : (s : State) (i : ℕ) → stage_view (bare hide s) i ≡ stage_view s i
unfolding views
bare-stage s i =
    ap (λ (o : Option SlotView). option_map (stage-of o) (slice_get stage_roles i))
    (ap (option_map slot_view) (bare-stage_op s i) ∙ bare-slot (stage_op s i))

bare-working : (s : State) (i : ℕ) → working (bare hide s) i ≡ option_map (bare_unit hide) (working s i)
unfolding views
bare-working s i = bare-oldest (in_kind i) (λ u. refl) s.units

bare-kind : (s : State) (i : ℕ) → unit_view (bare hide s) i ≡ unit_view s i
unfolding views
bare-kind s i = go (slice_get s.machine.specs i)
  where
    class_of : (k : UnitSpec) (x : Option FunctionalUnit) → shown_class (option_map (bare_unit hide) x) k ≡ shown_class x k
    class_of k None = refl
    class_of k (Some u) = refl

    classes : (k : UnitSpec) → shown_class (working (bare hide s) i) k ≡ shown_class (working s i) k
    classes k = ap (λ (x : Option FunctionalUnit). shown_class x k) (bare-working s i) ∙ class_of k (working s i)

    firsts : option_map slot_view (option_map unit_op (working (bare hide s) i)) ≡ option_map slot_view (option_map unit_op (working s i))
    firsts =
        ap (λ (x : Option FunctionalUnit). option_map slot_view (option_map unit_op x)) (bare-working s i) ∙ ap (option_map slot_view) (unit-ops (working s i))
        ∙ bare-slot (option_map unit_op (working s i))

    go : (x : Option UnitSpec) → option_map (unit_view_of (bare hide s) i) x ≡ option_map (unit_view_of s i) x
    go None = refl
    go (Some k) = λ j.
        Some
        (record {
          capacity = k.capacity;
          active = count_map (bare_unit hide) (in_kind i) (in_kind i) (λ u. refl) s.units j;
          first = firsts j;
          latency_class = classes k j;
          latency = latency s.machine.times (classes k j);
        })

bare-station_op : (u : FunctionalUnit) → station_op (bare_unit hide u) ≡ option_map (bare_op hide) (station_op u)
unfolding views
bare-station_op u = go u.busy
  where
    go : (b : Bool) → cond b (Some (bare_op hide u.op)) None ≡ option_map (bare_op hide) (cond b (Some u.op) None)
    go true = refl
    go false = refl

bare-station : (i : ℕ) (u : FunctionalUnit) → station_view i (bare_unit hide u) ≡ station_view i u
unfolding views
bare-station i u = λ j.
    record {
      unit = u.spec;
      tag = cond u.busy (Some i) None;
      slot = (ap (option_map slot_view) (bare-station_op u) ∙ bare-slot (station_op u)) j;
      phase = (station_view i u).phase;
      operand_0 = (station_view i u).operand_0;
      operand_1 = (station_view i u).operand_1;
    }

-- ── Views ───────────────────────────────────────────────────────────────────

bare-shown : (s : State) (v : View) → show (bare hide s) v ≡ show s v
unfolding calls views
bare-shown s status = refl
bare-shown s stats = refl
bare-shown s enabled = refl
bare-shown s fetch_pc = refl
bare-shown s resume_pc = ap shown_number (bare-resume s)
bare-shown s stage_count = refl
bare-shown s edges = refl
bare-shown s entry_stages = refl
bare-shown s stage_order = refl
bare-shown s unit_count = refl
bare-shown s trace_count = ap shown_number (length-of bare_trace s.log.traces)
bare-shown s timeline_len = ap shown_number (length-of bare_row s.log.rows)
bare-shown s station_count = ap shown_number (length-of (bare_unit hide) s.units)
bare-shown s rename_count = refl
bare-shown s queue_count = ap shown_number (length-of (bare_op hide) s.queue)
bare-shown s buffer_count = refl
bare-shown s buffer_capacity = refl
bare-shown s (in_flight_before n) = ap shown_flag (bare-before n s)
bare-shown s (stage i) = ap shown_stage (bare-stage s i)
bare-shown s (unit i) = ap shown_unit (bare-kind s i)
bare-shown s (trace i) = ap shown_trace (reads_at bare_trace trace_view (λ t. refl) s.log.traces i)
bare-shown s (timeline_row i) = ap shown_row (reads_at bare_row row_view (λ r. refl) s.log.rows i)
bare-shown s (station i) = ap shown_station (reads_at (bare_unit hide) (station_view i) (bare-station i) s.units i)
bare-shown s (rename i) = refl
bare-shown s (queued i) = ap shown_slot (reads_at (bare_op hide) slot_view (λ o. refl) s.queue i)
bare-shown s (buffer_entry i) = refl

bare-byte : (s : State) (m : List ℕ) (r c : ℕ) → cell_byte (bare hide s) m r c ≡ cell_byte s m r c
unfolding views timeline
bare-byte s m r c =
    ap (λ (x : Option Row). when_some x None (λ (w : Row). cell_at s.machine.history w m c)) (nth-map bare_row s.log.rows r)
    ∙ go (slice_get s.log.rows r)
  where
    go
        : (x : Option Row)
        → when_some (option_map bare_row x) None (λ (w : Row). cell_at s.machine.history w m c)
        ≡ when_some x None (λ (w : Row). cell_at s.machine.history w m c)
    go None = refl
    go (Some w) = refl

-- ── Texts: whether one is there ─────────────────────────────────────────────

bare-place : (s : State) (p : Place) → op_at (bare hide s) p ≡ option_map (bare_op hide) (op_at s p)
unfolding requests
bare-place s (in_queue i) = nth-map (bare_op hide) s.queue i
bare-place s (in_station i) =
    ap (λ (x : Option FunctionalUnit). when_some x None station_op) (nth-map (bare_unit hide) s.units i) ∙ go (slice_get s.units i)
  where
    go
        : (x : Option FunctionalUnit)
        → when_some (option_map (bare_unit hide) x) None station_op ≡ option_map (bare_op hide) (when_some x None station_op)
    go None = refl
    go (Some u) = bare-station_op u
bare-place s (in_stage i) = bare-stage_op s i
bare-place s (in_unit i) = ap (option_map unit_op) (bare-working s i) ∙ unit-ops (working s i)
bare-place s on_offer = bare-offered s

-- Whether a text is there, where that much stays.
abbrev there : Bool → Option Text → Option Text
there b x = cond b None (option_map blank x)

blank-at : (f : Text → Text) (xs : List Text) (j : ℕ) → option_map blank (slice_get (map f xs) j) ≡ option_map blank (slice_get xs j)
blank-at f xs j = reads_at f blank (λ a. refl) xs j

bare-field : (f : Text → Text) (i : Info) (x : Field) → there (optional_field x) (field (bare_info f i) x) ≡ there (optional_field x) (field i x)
unfolding requests
bare-field f i disassembly = refl
bare-field f i destination = refl
bare-field f i fault_note = refl
bare-field f i (source j) = blank-at f i.sources j
bare-field f i (write j) = blank-at f i.writes j

-- Two texts of one element are there alike.
there-at
    : {A : Type 0} (e : A → A) (f g : A → Text) (xs : List A) (i : ℕ) → option_map blank (option_map f (slice_get (map e xs) i)) ≡ option_map blank (option_map g (slice_get xs i))
there-at e f g xs i = ap (λ x. option_map blank (option_map f x)) (nth-map e xs i) ∙ go (slice_get xs i)
  where
    go : (x : Option _) → option_map blank (option_map f (option_map e x)) ≡ option_map blank (option_map g x)
    go None = refl
    go (Some x) = refl

bare-there : (s : State) (t : Request) → there (optional_text t) (text_at (bare hide s) t) ≡ there (optional_text t) (text_at s t)
unfolding requests views
bare-there s status_message = refl
bare-there s (slot_text p f) =
    ap (λ (x : Option Op). there (optional_field f) (when_some x None (λ (o : Op). field o.info f))) (bare-place s p) ∙ go (op_at s p)
  where
    go
        : (x : Option Op)
        → there (optional_field f) (when_some (option_map (bare_op hide) x) None (λ (o : Op). field o.info f))
        ≡ there (optional_field f) (when_some x None (λ (o : Op). field o.info f))
    go None = refl
    go (Some o) = bare-field (hide o.core.seq) o.info f
bare-there s (trace_detail i) = there-at bare_trace _ _ s.log.traces i
bare-there s (row_disassembly i) = there-at bare_row _ _ s.log.rows i
bare-there s (stage_name i) = refl
bare-there s (unit_name i) = refl
bare-there s (station_label i) = there-at (bare_unit hide) _ _ s.units i
bare-there s (rename_register i) = go (slice_get (claims s) i)
  where
    go
        : (x : Option (ℕ × ℕ))
        → option_map blank (option_map (λ (p : ℕ × ℕ). name_of (map blank s.names) p.0) x) ≡ option_map blank (option_map (λ (p : ℕ × ℕ). name_of s.names p.0) x)
    go None = refl
    go (Some p) = refl
bare-there s (cell_label n) = refl
bare-there s (operand_register i j) =
    ap (λ (x : Option FunctionalUnit). option_map blank (when_some x None (λ (u : FunctionalUnit). operand_text (bare hide s) u j))) (nth-map (bare_unit hide) s.units i)
    ∙ go (slice_get s.units i)
  where
    names : (x : Option ℕ) → option_map blank (option_map (name_of (map blank s.names)) x) ≡ option_map blank (option_map (name_of s.names) x)
    names None = refl
    names (Some r) = refl

    go
        : (x : Option FunctionalUnit)
        → option_map blank (when_some (option_map (bare_unit hide) x) None (λ (u : FunctionalUnit). operand_text (bare hide s) u j))
        ≡ option_map blank (when_some x None (λ (u : FunctionalUnit). operand_text s u j))
    go None = refl
    go (Some u) = names (slice_get (take 2 u.sources) j)

-- ── On engines of one bare form ─────────────────────────────────────────────

-- What sees of an engine only its bare form.
pub sees : {C : Type 0} (f : State → C) → ((s : State) → f (bare hide s) ≡ f s) → (s t : State) → Like s t → f s ≡ f t
sees f r s t h = sym (r s) ∙ ap f h ∙ r t

pub same-shown : (v : View) (s t : State) → Like s t → show s v ≡ show t v
same-shown v = sees (λ s. show s v) (λ s. bare-shown s v)

pub same_byte : (m : List ℕ) (r c : ℕ) (s t : State) → Like s t → cell_byte s m r c ≡ cell_byte t m r c
same_byte m r c = sees (λ s. cell_byte s m r c) (λ s. bare-byte s m r c)

pub same-there : (x : Request) (s t : State) → Like s t → there (optional_text x) (text_at s x) ≡ there (optional_text x) (text_at t x)
same-there x = sees (λ s. there (optional_text x) (text_at s x)) (λ s. bare-there s x)
