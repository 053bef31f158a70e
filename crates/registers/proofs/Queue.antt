-- The table along a queue: what each of its methods leaves of the names known, the names held, and the numbers kept with queued operations.
use Prim.Native.Nat.{ℕ, max}
use mathlib.Core.Path.{◌≡◌, sym, subst, ap, ap₂, ◌∙◌}
use Rattle.std.specs.Prelude.{Option, Some}
use mathlib.Core.List.{List, [], ◌∷◌, ◌++◌}
use lib.ListN.{take, replicate, length-replicate}
use Rattle.laws.specs.Means.{Means}
use Rattle.laws.specs.Texts.{Text}
use Rattle.model.specs.Op.{Info}
use Rattle.model.specs.Registers.{resolve, pad}
use Rattle.registers.specs.declared.RegisterTable.{RegisterTable}
use Rattle.registers.specs.declared.Operands.{Operands}
use Rattle.registers.specs.View.{view_known, view_held, table_of, view_table, TableOk, view_operands}
use Rattle.registers.specs.Promises.{ResolvedTo}
use Rattle.registers.specs.Look.{through, Numbers, numbers_of, Queued}
use Rattle.registers.proofs.NameTable.{known-length}
use Rattle.registers.proofs.Owing.{pad-length}
use Rattle.registers.proofs.Look.{queue-laws}

-- The queue q with the numbers ks, over the table.
abbrev pub Along : RegisterTable → List Info → List Numbers → Type 0
Along t q ks = Queued (view_known t) (view_held t) q ks

module _ {t : RegisterTable} {q : List Info} {ks : List Numbers} (e : Along t q ks) where
  -- A fetch: the queue has one operation more.
  module _ {i : Info} {u : RegisterTable} {r : Option Operands} (f : ResolvedTo t i u r) where
    pub fetch-queued : (x : Operands) → r ≡ Some x → Along u (q ++ i ∷ []) (ks ++ view_operands x ∷ [])
    fetch-queued x h =
        subst (λ ns. Queued ns (view_held u) (q ++ i ∷ []) (ks ++ view_operands x ∷ [])) (sym f.known)
        (subst (λ o. Queued (view_known t) o.names (q ++ i ∷ []) (ks ++ numbers_of o ∷ [])) (sym (f.is x h))
        (queue-laws.fetched (view_known t) (view_held t) q ks i e))

-- A flush, a halt or a fault: the queue is empty.
pub dropped : (t : RegisterTable) {u : RegisterTable} → Means view_table TableOk u (table_of (view_known t) (view_known t)) → Along u [] []
dropped t {u} m = subst (λ v. Queued v.known v.held [] []) (sym m.is) (queue-laws.empty (view_known t))

-- A look at the front: it gives the numbers of the fetch, and the names that the model knows then.
module _ {t : RegisterTable} (ok : TableOk t) {i : Info} {q : List Info} {k : Numbers} {ks : List Numbers} (e : Along t (i ∷ q) (k ∷ ks)) where
  pub look_numbers : numbers_of (resolve (view_known t) i) ≡ k
  look_numbers = ap numbers_of (queue-laws.look (view_known t) (view_held t) i q k ks e)

  module _ {u : RegisterTable}
      (m : Means view_table TableOk u (table_of (take (max t.known (through (k.read ++ k.written))) (view_held t)) (view_held t))) where
    pub look_known : view_known u ≡ (resolve (view_known t) i).names
    look_known =
        ap (λ v. v.known) m.is ∙ ap (λ n. take (max n (through (k.read ++ k.written))) (view_held t)) (sym (known-length ok))
        ∙ sym (ap (λ o. o.names) (queue-laws.look (view_known t) (view_held t) i q k ks e))

    -- u holds what t held, and knows the names of the look.
    after : (p : List Info) (js : List Numbers) → Queued (resolve (view_known t) i).names (view_held t) p js → Along u p js
    after p js = subst (λ v. Queued v.known v.held p js) (sym (ap₂ table_of look_known (ap (λ v. v.held) m.is)))

    -- The front stays, or is issued.
    pub look-stays : Along u (i ∷ q) (k ∷ ks)
    look-stays = after (i ∷ q) (k ∷ ks) (queue-laws.stays (view_known t) (view_held t) i q k ks e)

    pub look-issued : Along u q ks
    look-issued = after q ks (queue-laws.issued (view_known t) (view_held t) i q k ks e)

-- As many claims as names known.
pub pad-known : {t : RegisterTable} → TableOk t → (ps : List (Option ℕ)) → pad ps (replicate t.known []) ≡ pad ps (view_known t)
pad-known {t} ok ps = pad-length ps _ (view_known t) (length-replicate {A = Text} t.known [] ∙ sym (known-length ok))
