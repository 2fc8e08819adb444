use Rattle.std.proofs.Common.{◌≡◌, sym, subst, string_bytes, true, ◌∙◌, List, ℕ, arith}
use Rattle.std.specs.List.{AllPass}
use Rattle.msi_export.specs.FileNames.{file_name, is_safe}
use Rattle.msi_export.proofs.FileNames.{safe_names}
use Rattle.msi_export.proofs.names.file_name_of.Goals as goal

pub start_of-requires-clause-safe : goal.start_of-requires-clause-safe
start_of-requires-clause-safe c =
    let told = c.in_ok-safe.ensures in
    let named : string_bytes c.in_ok-safe.safe ≡ file_name true c.args.name.now = cc in
    subst (λ (w : List ℕ). AllPass is_safe w) (sym (c.deref.ensures ∙ named)) (safe_names true c.args.name.now (λ i. let fits = c.type_inv.name i in omega arith))
