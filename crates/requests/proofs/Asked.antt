-- The operation of the place and the text of the field that the arm of a match was told.
use Rattle.flight.specs.declared.Queued.{Queued}
use Rattle.std.specs.Prelude.{Option, option_map}
use Rattle.units.specs.declared.Unit.{Unit}
use Prim.Native.Nat.{ℕ}
use mathlib.Core.Path.{◌≡◌, sym, subst, ap, ◌∙◌}
use mathlib.Core.List.{List}
use Rattle.laws.specs.Means.{MeansFor}
use Rattle.model.specs.Config.{Machine}
use Rattle.model.specs.Op.{Info}
use Rattle.model.specs.Units.{unit_op}
use Rattle.model.specs.Views.{oldest, in_kind, working}
use Rattle.model.specs.Requests.{op_at, field}
use Rattle.flight.specs.declared.Queue.{Queue}
use Rattle.flight.specs.View.{view_queue}
use Rattle.bank.specs.declared.Units.{Units}
use Rattle.bank.specs.View.{view_units}
use Rattle.occupants.specs.View.{with_offered, view_maybe_op, view_maybe_unit, MaybeOpOk, MaybeUnitOk}
use Rattle.traces.specs.Texts.{Written, Wrote}
use Rattle.words.proofs.Shown.{wrote-is}
use Rattle.requests.specs.declared.Place.{Place}
use Rattle.requests.specs.declared.Place.TheVariants.{Kind}
use Rattle.requests.specs.declared.Field.{Field}
use Rattle.requests.specs.View.{view_place, view_field}

module _ (writing : Option ℕ) (m : Machine) (us : Units) (q : Queue) (r : Option Queued) where
  -- r is the operation at a place.
  abbrev Shows : Place → Type 0
  Shows p = MeansFor view_maybe_op MaybeOpOk r (λ g. op_at (with_offered writing m (view_units g us) (view_queue g q)) (view_place p))

  pub told-place : {p told : Place} → p ≡ told → Shows told → Shows p
  told-place e = subst Shows (sym e)

  pub shows-kind : (i : ℕ) {u : Option Unit} → MeansFor view_maybe_unit MaybeUnitOk u (λ g. oldest (in_kind i) (view_units g us))
      → MeansFor view_maybe_op MaybeOpOk r (λ g. option_map unit_op (view_maybe_unit g u))
      → Shows (Kind i)
  unfolding op_at view_place working
  shows-kind i e h = record { is = λ g. h.is g ∙ ap (option_map unit_op) (e.is g); ok = h.ok }

pub told-field : (i : Info) {f told : Field} {lent out : List ℕ} {w : Written} → f ≡ told → Wrote (field i (view_field told)) lent out w
    → Wrote (field i (view_field f)) lent out w
told-field i e = wrote-is (sym (ap (λ x. field i (view_field x)) e))
