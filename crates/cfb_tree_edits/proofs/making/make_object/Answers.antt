use Rattle.std.proofs.Common.{inl, inr, ap, sym, ◌∙◌, ⊎_elim}
use Rattle.std.specs.Prelude.{Some}
use Rattle.cfb_entries.specs.Rules.{answer_at}
use Rattle.cfb_entries.proofs.Found.{names_are}
use Rattle.cfb_siblings.specs.Places.{path_of}
use Rattle.cfb_tree.specs.CaseTableViews.{case_table_of}
use Rattle.cfb_tree_edits.specs.Making.{making}
use Rattle.cfb_tree_edits.proofs.making.make_object.Goals as goal

pub returns-in-Err-make_named-clause-tree_rule : goal.returns-in-Err-make_named-clause-tree_rule
returns-in-Err-make_named-clause-tree_rule g c = record {
  done = tt;
  refused = λ tree m.
      let at_path = names_are c.args.path.now c.in-Ok.names.items c.in-Ok.ensures.names ∙ ap (λ ns. Some (path_of ns)) (sym c.deref.ensures.value) in
      ⊎_elim (λ fault. inl fault) (λ rule. inr (ap (answer_at (case_table_of c.args.letters.now) tree (making c.args.object)) at_path ∙ rule.0, rule.1)) (c.in-Err-make_named.ensures.refused_only_if tree m);
  rests = c.in-Err-make_named.ensures.after_error;
}

pub returns-clause-tree_rule : goal.returns-clause-tree_rule
returns-clause-tree_rule g c = record {
  done = λ tree m.
      let made = c.in_default.ensures.made tree m in
      record {
        names = path_of c.deref.result.now;
        at_path = names_are c.args.path.now c.in-Ok.names.items c.in-Ok.ensures.names ∙ ap (λ ns. Some (path_of ns)) (sym c.deref.ensures.value);
        accepted = made.accepted;
        means = made.comes.means;
        strays = made.comes.strays;
      };
  refused = tt;
  rests = tt;
}
