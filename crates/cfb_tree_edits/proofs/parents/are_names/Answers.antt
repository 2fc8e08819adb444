use Rattle.std.specs.Prelude.{ℕ, List, [], refl}
use Rattle.std.specs.Borrow.{Bor}
use Rattle.cfb_tree_edits.proofs.AllMade.{names_here, names_more}
use Rattle.cfb_tree_edits.proofs.parents.are_names.Goals as goal

abbrev no_name : Bor (List ℕ)
no_name = record { ref_ptr = (0, 0); now = [] }

pub returns-in-Err : goal.returns-in-Err
returns-in-Err c = (
  λ never. absurd (cc),
  λ all. let wrong = c.in-Err.ensures.valid.1 (names_here c.args.names.now c.names.name-index no_name c.names-test.true all) in absurd (cc),
)

pub names-preserved : goal.names-preserved
names-preserved c = names_more c.args.names.now c.names.name-index no_name c.names-test.true c.names.invariant (c.in_default.ensures.valid.0 refl)
