use Rattle.std.proofs.Common.{◌∙◌, ap, sym, subst, inl, inr}
use Rattle.cfb.specs.Views.{file_case_table}
use Rattle.cfb_entries.specs.Listed.{listed_in}
use Rattle.cfb_medium.specs.Calls.{IsFaultOrInvalidInputIf}
use Rattle.msi_spec.specs.Opening.{kind_of}
use Rattle.msi_store.proofs.ShownTrees.{shown_sizes}
use Rattle.msi_stored.specs.Shown.{bytes_in}
use Rattle.msi_store.proofs.Faults.{finds_of}
use Rattle.msi_store.proofs.PartsRead.{root_class}
use Rattle.msi_store.proofs.ErrorKinds.{root_kind, same_kind}
use Rattle.msi_store.proofs.Refusals.{kind_refuses}
use Rattle.msi_store.proofs.parts.kind_in.Goals as goal

pub returns-in-Ok-clause-shown : goal.returns-in-Ok-clause-shown
returns-in-Ok-clause-shown g c tree shown =
    let told = (c.in-Ok.ensures.answer shown.live tree (shown_sizes c.args.file.now tree shown)).0 in
    finds_of (file_case_table c.args.file.now) (bytes_in c.args.file.now) c.kind_of.result (kind_of tree.root.clsid)
    (c.kind_of.ensures ∙ ap kind_of (c.clsid.ensures ∙ root_class tree (listed_in c.in-Ok.root) told.0 told.1 told.2))

pub returns-in-Err-clause-shown : goal.returns-in-Err-clause-shown
returns-in-Err-clause-shown g c tree shown = elim (c.in-Err.ensures.answer shown.live tree (shown_sizes c.args.file.now tree shown)).1 [
  | inl memory ↦ inl (inl (subst (IsFaultOrInvalidInputIf ⊥) (sym memory) tt))
  | inr answer ↦ absurd (cc)
]

pub returns-in-Ok-clause-errors : goal.returns-in-Ok-clause-errors
returns-in-Ok-clause-errors g c = same_kind c.kind_of.result (kind_of c.clsid.result) (kind_refuses c.clsid.result) c.kind_of.ensures

pub returns-in-Err-clause-errors : goal.returns-in-Err-clause-errors
returns-in-Err-clause-errors g c = root_kind c.args.file.now c.in-Err.error c.in-Err.ensures.cause
