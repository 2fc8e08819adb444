use Rattle.std.proofs.Common.{sym, subst, IsTrue, inl, inr}
use Rattle.cfb_tree.specs.CaseTableViews.{case_table_of}
use Rattle.cfb.proofs.Created.{created_so, if_err_2, if_ok_3, opens_new}
use Rattle.cfb.proofs.creating.create_as.Goals as goal

pub returns-in-Ok-clause-created : goal.returns-in-Ok-clause-created
returns-in-Ok-clause-created g c =
    let wrote = c.in-Ok.ensures in
    if_ok_3 c.open_as.result c.open_as.ensures.opens c.open_as.ensures.letters c.open_as.ensures.opened
    (λ it opens named opened. created_so c.args.version (case_table_of c.args.letters) c.args.medium c.write_new_file.new.medium it wrote.written wrote.honest wrote.continues opens named opened)

pub returns-in-Ok-clause-errors : goal.returns-in-Ok-clause-errors
returns-in-Ok-clause-errors g c =
    let G = g.F.ReadMedium in
    let wrote = c.in-Ok.ensures in
    if_err_2 c.open_as.result c.open_as.ensures.errors c.open_as.ensures.refused_only_if
    (λ e fault refused. elim fault [
      | inl is ↦ inl is
      | inr is ↦
          inr (
            is,
            λ honest. refused is (subst IsTrue (sym wrote.honest) honest)
                (opens_new c.args.version (case_table_of c.args.letters) (G.bytes c.args.medium) (G.bytes c.write_new_file.new.medium) (wrote.written honest)),
          )
    ])
