use Rattle.std.proofs.Common.{◌≡◌, ℕ, List, refl}
use Rattle.cfb_sectors.specs.declared.validation.Validation.{Validation}
use Rattle.cfb_sectors.specs.declared.validation.Validation.TheVariants.{Permissive, Strict}
use Rattle.cfb_tree.specs.Names.{CaseTable}
use Rattle.cfb_tree.specs.Tree.{Tree}
use Rattle.cfb_tree.specs.Entries.{HasSize}
use Rattle.cfb_directory.specs.Taken.{HasAny}
use Rattle.cfb_spec.specs.Means.{HasBytes, IsStrict, Layout, BytesMeanTreeBy}
use Rattle.cfb_opening.specs.Opened.{CanOpen}
use Rattle.cfb_opening.proofs.Readings.{bytes_have_size, means_less}
use Rattle.cfb_opening.proofs.laws.opened_files_can_be_opened.Goals as goal

can_open : (validation : Validation) (letters : CaseTable) (bytes : List ℕ) (l : Layout) (tree : Tree) → BytesMeanTreeBy l HasAny letters bytes tree
    → (validation ≡ Strict → IsStrict bytes l) → CanOpen validation letters bytes
can_open Permissive letters bytes l tree means strict = (l, tree, means)
can_open Strict letters bytes l tree means strict = (l, tree, means, strict refl)

pub returns-clause-opened : goal.returns-clause-opened
returns-clause-opened c = λ validation letters bytes l tree means strict.
    can_open validation letters bytes l tree (means_less HasSize HasAny (λ e content has. tt) l letters bytes tree means) strict

pub returns-clause-meant : goal.returns-clause-meant
returns-clause-meant c = λ letters bytes l tree means.
    means_less (HasBytes bytes l) HasSize (λ e content has. bytes_have_size bytes l e content has) l letters bytes tree means
