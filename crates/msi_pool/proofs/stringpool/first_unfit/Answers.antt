use Rattle.std.proofs.Common.{◌≡◌, ◌<◌, ◌+◌, ◌++◌, ◌∙◌, [], ◌∷◌, List, ℕ, length, map, arith, subst, sym, ap, true, false}
use Rattle.std.proofs.lemmas.List.{length-map, map-append}
use Rattle.std.specs.Prelude.{string_bytes}
use Rattle.std.specs.declared.alloc.Global.{Global}
use Rattle.msi_pool.specs.Pool.{place_of}
use Rattle.msi_pool.specs.PoolKept.{is_unfit}
use Rattle.msi_pool.proofs.PoolFits.{Gives, gives_all, gives_full, gives_more, gives_same}
use Rattle.msi_pool.proofs.stringpool.first_unfit.Goals as goal
use Rattle.msi_pool.proofs.stringpool.first_unfit.Goals.{then-is_unfit+in_ok-from_str+in_ok-push, else-is_unfit}

pub loop-entry-preserved : goal.loop-entry-preserved
loop-entry-preserved c =
    elim c.if-is_unfit.branch [
      | then-is_unfit+in_ok-from_str+in_ok-push w ↦
          let unfit = rw c.deref.ensures at (sym c.is_unfit.ensures ∙ w.if-is_unfit.true) in
          let more : map string_bytes c.if-is_unfit.texts.items ≡ map string_bytes c.loop-entry.texts.items ++ (string_bytes c.entry-item.result.0 ∷ []) =
          ap (λ v. map string_bytes v.items) w.texts-is ∙ ap (map string_bytes) w.in_ok-push.ensures.items ∙ map-append string_bytes c.loop-entry.texts.items (w.in_ok-from_str.field-0 ∷ [])
          ∙ ap (λ t. map string_bytes c.loop-entry.texts.items ++ (t ∷ [])) (w.in_ok-from_str.ensures.ok ∙ w.deref-then-is_unfit.ensures) in
          subst (Gives c.args.codepage c.args.most c.args.strings.now (c.loop-entry.entry-index + 1)) (sym more)
          (gives_more c.args.codepage c.args.most c.args.strings.now c.loop-entry.entry-index c.entry-item.result (map string_bytes c.loop-entry.texts.items) (omega arith) c.entry-item.is
          (omega (arith, c.loop-entry.invariant.0, length-map c.loop-entry.texts.items (string_bytes {Z = Global}))) unfit c.loop-entry.invariant)
      | else-is_unfit w ↦
          let fit = rw c.deref.ensures at (sym c.is_unfit.ensures ∙ w.if-is_unfit.false) in
          subst (λ v. Gives c.args.codepage c.args.most c.args.strings.now (c.loop-entry.entry-index + 1) (map string_bytes v.items)) (sym w.texts-is)
          (gives_same c.args.codepage c.args.most c.args.strings.now c.loop-entry.entry-index c.entry-item.result (map string_bytes c.loop-entry.texts.items) (omega arith) c.entry-item.is fit c.loop-entry.invariant)
    ]
