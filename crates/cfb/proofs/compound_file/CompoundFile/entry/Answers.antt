use Rattle.std.proofs.Common.{sym, subst}
use Rattle.cfb_entries.specs.Rules.{EntriesHoldSizes}
use Rattle.cfb_tree.specs.CaseTableViews.{case_table_of}
use Rattle.cfb.proofs.Wants.{listed_cause}
use Rattle.cfb.proofs.compound_file.CompoundFile.entry.Goals as goal

pub returns-clause-answer : goal.returns-clause-answer
returns-clause-answer g c = λ live tree h. c.entry_at.ensures.answer tree (subst (λ directory. EntriesHoldSizes (case_table_of c.args.self.now.letters) directory tree) (sym c.entries.ensures) h)

pub returns-clause-cause : goal.returns-clause-cause
returns-clause-cause g c = listed_cause c.args.self.now c.entry_at.result c.entry_at.ensures.errors
